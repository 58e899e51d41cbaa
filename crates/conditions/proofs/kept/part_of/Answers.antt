-- `part_of` meets its contract: which of its variable's words in a column is a target's. Assumes nothing.
use Rattle.conditions.proofs.Notes.{part_made}
use Rattle.conditions.proofs.kept.part_of.Goals as goal

pub returns : goal.returns
returns c = part_made c.args.t
