-- `evaluate` leaves the values of the rows passed, from the laws of Valuing. Assumes nothing.
use Rattle.evaluating.proofs.Valuing.{Evaluating}
use Rattle.evaluating.proofs.formulas.evaluate.Given as goal

abbrev pub invariant-loop-i : goal.invariant-loop-i
invariant-loop-i l = Evaluating l.formulas l.to l.state l.initial.scratch l.i l.scratch
