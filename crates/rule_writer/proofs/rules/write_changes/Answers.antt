-- `write_changes` meets its contract: all rules of one variable, the place of its twin being known. Assumes nothing.
use native.Mathlib.Omega.{arith}
use Rattle.rule_writer.proofs.Writing.{overfull_more, writes_both, onward}
use Rattle.rule_writer.proofs.rules.write_changes.Goals as goal

pub overflow_cast-k-2 : goal.overflow_cast-k-2
overflow_cast-k-2 c = omega (arith, c.type_inv.places c.args.c.variable)

pub returns-in_err-a : goal.returns-in_err-a
returns-in_err-a c = onward _ _ c.from_residual.result _ c.from_residual.ensures.1 (overfull_more _ c.in_err-a.ensures)

pub returns : goal.returns
returns c = writes_both _ _ _ _ _ _ c.opposed-2.result c.in_ok-a.ensures c.opposed-2.ensures
