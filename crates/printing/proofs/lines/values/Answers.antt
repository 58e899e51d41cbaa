-- `values` meets its contract: the initial values behind a blank; nothing if there are none. Assumes nothing.
use native.Mathlib.Omega.{arith}
use mathlib.Core.Path.{sym}
use lib.ListN.{length}
use borrow.Author.Tests.{eqb-true, eqb-false}
use Rattle.printing.proofs.Puts.{nothing_put, then_put, put_as}
use Rattle.printing.proofs.Texts.{digits_more, values_none, values_some}
use Rattle.printing.proofs.lines.values.Goals as goal

pub returns-then-is_empty : goal.returns-then-is_empty
returns-then-is_empty c =
    put_as (nothing_put c.args.out.now c.args.at) (sym (values_none c.args.initial.now (eqb-true (length c.args.initial.now) 0 (sym c.if-is_empty.ensures)))) (omega arith)

pub loop-value-preserved : goal.loop-value-preserved
loop-value-preserved c =
    put_as (then_put c.loop-value.invariant c.put-next-in-loop-value.ensures)
    (digits_more c.args.initial.now c.loop-value.value-index (omega arith)) (omega arith)

pub returns : goal.returns
returns c =
    put_as c.loop-value.invariant
    (values_some c.args.initial.now c.loop-value.value-index (eqb-false (length c.args.initial.now) 0 (sym c.if-is_empty.ensures)) (omega arith)) (omega arith)
