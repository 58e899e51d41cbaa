-- `last_join` meets its contract: the join of rows l and r for row e, if it is the last one. Assumes nothing.
use native.Mathlib.Omega.{arith}
use Rattle.conditions.proofs.Notes.{told_row}
use Rattle.conditions.proofs.Joins.{rejoins_kept, join_room}
use Rattle.conditions.proofs.ConditionBuilder.last_join.Goals as goal

pub bounds-self-k : goal.bounds-self-k
bounds-self-k c = omega (arith, join_room c.requires)

pub bounds-self-k-else-self-k : goal.bounds-self-k-else-self-k
bounds-self-k-else-self-k c = omega (arith, join_room c.requires)

pub bounds-self-k-2 : goal.bounds-self-k-2
bounds-self-k-2 c = omega (arith, join_room c.requires)

pub returns : goal.returns
returns c =
    let b = c.args.self.now in
    told_row _ c.checked_sub.result c.checked_sub.ensures
    (λ x w.
    rejoins_kept b.images.builder.frame b.notes.now c.args.t c.args.e c.args.l c.args.r x c.requires.effect c.if-t.false
    c.if-self-k.false c.if-self-k-2.false w)
