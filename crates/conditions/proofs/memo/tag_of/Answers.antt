-- `tag_of` meets its contract: the tag of a target: no other target has it, and it is not 0. Assumes nothing.
use Rattle.conditions.proofs.Memos.{tag_made}
use Rattle.conditions.proofs.memo.tag_of.Goals as goal

pub returns : goal.returns
returns c = tag_made c.args.t
