-- `recalled` meets its contract: the row of the condition of target t and effect e, if it is known. Assumes nothing.
use mathlib.Core.Path.{◌∙◌}
use Rattle.conditions.proofs.Notes.{told_row}
use Rattle.conditions.proofs.Memos.{recall_row}
use Rattle.conditions.proofs.memo.recalled.Goals as goal

pub returns-then-scratch-m : goal.returns-then-scratch-m
returns-then-scratch-m c =
    told_row _ c.checked_sub.result c.checked_sub.ensures
    (λ x w.
    recall_row c.args.frame.now c.args.notes.now c.args.scratch.now c.args.t c.args.e x c.requires.looks.effect
    (c.if-scratch-m.true ∙ c.tag_of.ensures) w)
