-- `first_number` meets its contract: the first number in order, or 0. Assumes nothing.
use mathlib.Core.Path.{refl, sym}
use Rattle.task.specs.Lending.{lent_tables}
use Rattle.task.specs.Refused.{number_of}
use Rattle.task.proofs.Refusals.{number_some}
use Rattle.task.proofs.Told.{returned}
use Rattle.compiler.specs.Inner.Sizes.{room_by}
use Rattle.compiler.proofs.Refusing.{by_the_check, some_twins, short-scratch, no_room_for, no_number}
use mathlib.Core.Logic.{inl, inr}
use Rattle.compiler.proofs.numbers.first_number.Goals as goal
use Rattle.compiler.proofs.numbers.first_number.Goals.{then-lengths-head-2-via-then-lengths-head-2, then-lengths-head-2-via-else-lengths-head-2+then-lengths-head-3, then-lengths-head-2-via-else-lengths-head-2+else-lengths-head-3+then-lengths-lt3}

pub returns-in_err-check : goal.returns-in_err-check
returns-in_err-check c =
    let e = c.in_err-check.field-0.0 in
    rw (returned c.from_residual.result e _ c.from_residual.ensures.1 refl)
    (by_the_check (lent_tables c.args.source.now) (room_by c.args.lengths) (number_of e) c.in_err-check.ensures (number_some e))

pub returns-then-head-ne0 : goal.returns-then-head-ne0
returns-then-head-ne0 c =
    some_twins (lent_tables c.args.source.now) (room_by c.args.lengths) (sym c.in_ok-check.ensures) c.if-head-ne0.true

pub returns-then-lengths-head : goal.returns-then-lengths-head
returns-then-lengths-head c =
    short-scratch (lent_tables c.args.source.now) (room_by c.args.lengths) (sym c.in_ok-check.ensures) c.if-head-ne0.false
    c.if-lengths-head.true

pub returns-then-lengths-head-2 : goal.returns-then-lengths-head-2
returns-then-lengths-head-2 c =
    no_room_for (lent_tables c.args.source.now) (room_by c.args.lengths) (sym c.in_ok-check.ensures) c.if-head-ne0.false
    c.if-lengths-head.false
    (elim c.then-lengths-head-2.branch [
      | then-lengths-head-2-via-then-lengths-head-2 w ↦ inl w.if-lengths-head-2.true
      | then-lengths-head-2-via-else-lengths-head-2+then-lengths-head-3 w ↦ inr (inl w.if-lengths-head-3.true)
      | then-lengths-head-2-via-else-lengths-head-2+else-lengths-head-3+then-lengths-lt3 w ↦ inr (inr w.if-lengths-lt3.true)
    ])

pub returns : goal.returns
returns c =
    no_number (lent_tables c.args.source.now) (room_by c.args.lengths) (sym c.in_ok-check.ensures) c.if-head-ne0.false
    c.if-lengths-head.false c.if-lengths-head-2.false c.if-lengths-head-3.false c.if-lengths-lt3.false
