-- `recall_noted` meets its contract: the row of the condition of target t and effect e, if the notes keep it. Assumes nothing.
use Rattle.conditions.proofs.Notes.{told_row, recall_kept}
use Rattle.conditions.proofs.kept.recall_noted.Goals as goal

pub returns : goal.returns
returns c = told_row _ c.checked_sub.result c.checked_sub.ensures (λ x w. recall_kept c.requires.0.effect c.in_ok-k.ensures w)
