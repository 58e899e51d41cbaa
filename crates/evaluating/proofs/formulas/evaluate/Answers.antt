-- `evaluate` leaves the values of the rows passed, from the laws of Valuing. Assumes nothing.
use native.Mathlib.Omega.{arith}
use Rattle.evaluating.proofs.Valuing.{row_ready, one_more}
use Rattle.evaluating.proofs.formulas.evaluate.Goals as goal

pub value_of-value-requires : goal.value_of-value-requires
value_of-value-requires c = row_ready c.requires (omega arith) c.loop-i.invariant

pub loop-i-preserved : goal.loop-i-preserved
loop-i-preserved c =
    one_more c.requires (omega arith) c.loop-i.invariant c.value_of-value.ensures
