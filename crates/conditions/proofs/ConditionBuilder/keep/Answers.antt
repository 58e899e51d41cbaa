-- `keep` meets its contract: keeps the row of the condition of target t and effect e. Assumes nothing.
use Rattle.conditions.proofs.Memos.{keep_row}
use Rattle.conditions.proofs.ConditionBuilder.keep.Goals as goal

pub returns-clause-kept : goal.returns-clause-kept
returns-clause-kept c =
    let b = c.args.self.now in
    rw c.tag_of.ensures
    (keep_row b.images.builder.frame b.images.scratch.now c.args.t c.args.e c.args.row c.requires.0.looks.effect c.requires.0.memo
    c.keep_noted.ensures)
