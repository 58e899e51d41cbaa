-- `keep_noted` meets its contract: keeps the row of the condition of target t and effect e, if the notes have a word for it. Assumes nothing.
use Rattle.conditions.proofs.Notes.{keep_kept}
use Rattle.conditions.proofs.kept.keep_noted.Goals as goal

pub returns-in-Some : goal.returns-in-Some
returns-in-Some c = keep_kept c.requires.0.effect c.in-Some.ensures c.args.row
