-- `step_from` meets its contract: an operator that is applicable is stepped. Assumes nothing.
use native.Mathlib.Omega.{arith}
use mathlib.Core.Path.{ap, ◌∙◌}
use Rattle.task.specs.Table.{Operator}
use Rattle.task.specs.Run.{charge_of}
use Rattle.cheapest_plan.proofs.Expanding.{zeros_none, not-stepped, sums-fit, relaxable, stepped-on}
use Rattle.cheapest_plan.proofs.expand.step_from.Goals as goal

pub returns-then-origin-operator-eq0 : goal.returns-then-origin-operator-eq0
returns-then-origin-operator-eq0 c =
    let asked = ap (λ (o : Operator). o.precondition) c.operator_at-operator.ensures in
    record { zeros = zeros_none; told = λ h at. not-stepped h at c.requires.0 asked c.if-origin-operator-eq0.true }

pub overflow_add-arrival : goal.overflow_add-arrival
overflow_add-arrival c =
    let pre = c.requires.1 in
    let row = c.operator_at-operator.ensures in
    let asked = ap (λ (o : Operator). o.precondition) row in
    let changes = ap (λ (o : Operator). o.effect) row in
    let charged = c.charge.ensures ∙ ap charge_of row in
    omega (arith, sums-fit pre.stage pre.stepping c.requires.0 asked c.if-origin-operator-eq0.false changes charged)

pub overflow_add-arrival-2 : goal.overflow_add-arrival-2
overflow_add-arrival-2 c =
    let pre = c.requires.1 in
    let row = c.operator_at-operator.ensures in
    let asked = ap (λ (o : Operator). o.precondition) row in
    let changes = ap (λ (o : Operator). o.effect) row in
    let charged = c.charge.ensures ∙ ap charge_of row in
    omega (arith, sums-fit pre.stage pre.stepping c.requires.0 asked c.if-origin-operator-eq0.false changes charged)

pub relax-requires : goal.relax-requires
relax-requires c =
    let pre = c.requires.1 in
    let row = c.operator_at-operator.ensures in
    let asked = ap (λ (o : Operator). o.precondition) row in
    let changes = ap (λ (o : Operator). o.effect) row in
    let charged = c.charge.ensures ∙ ap charge_of row in
    (pre.roomy, relaxable pre.stage pre.stepping c.requires.0 asked c.if-origin-operator-eq0.false changes (omega (arith, charged)) c.next_code.ensures)

pub returns : goal.returns
returns c =
    let relaxed = c.relax.ensures in
    let row = c.operator_at-operator.ensures in
    let asked = ap (λ (o : Operator). o.precondition) row in
    let changes = ap (λ (o : Operator). o.effect) row in
    let charged = c.charge.ensures ∙ ap charge_of row in
    record {
      zeros = relaxed.zeros;
      told = λ h at. stepped-on h at c.requires.0 asked c.if-origin-operator-eq0.false changes (omega (arith, charged)) c.next_code.ensures relaxed;
    }
