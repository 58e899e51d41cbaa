-- `asked` is the operator of the task, by the laws of Taking. Assumes nothing.
use mathlib.Core.Path.{◌∙◌}
use Rattle.operator_step.proofs.Taking.{operator_none, operator_there}
use Rattle.operator_step.proofs.operator.asked.Goals as goal

pub returns-then-tables-number : goal.returns-then-tables-number
returns-then-tables-number c = operator_none _ _ c.if-tables-number.true

pub returns : goal.returns
returns c = c.operator_at.ensures ∙ operator_there _ _ c.if-tables-number.false
