-- `take_operator` meets its contract: the next operator: its precondition, then what it does to each variable that it touches, which is recorded for
-- the rules. Assumes nothing.
use mathlib.Core.Path.{refl, ap}
use Rattle.task.specs.Table.{Operator}
use Prim.Native.Nat.{◌+◌}
use Rattle.building.proofs.Begun.{took-over, took-many, took, progress_failed}
use Rattle.building.proofs.taking.take_operator.Goals as goal

pub returns-in_err-built-clause-took : goal.returns-in_err-built-clause-took
returns-in_err-built-clause-took c =
    let b = c.args.b.now in
    let its_formula = ap (λ (o : Operator). o.precondition) c.operator_at-operator.ensures in
    let its_effect = ap (λ (o : Operator). o.effect) c.operator_at-operator.ensures in
    rw (progress_failed c.build_operator.new.b.images.builder (c.args.at.operators + 1) c.from_residual.result c.from_residual.ensures.0)
    (took-over b.images.builder.frame b.images.formulas.now b.effects.now c.args.operators.now c.requires refl its_formula its_effect _ c.in_err-built.ensures.walked refl)

pub returns-then-built-gt2048-clause-took : goal.returns-then-built-gt2048-clause-took
returns-then-built-gt2048-clause-took c =
    let b = c.args.b.now in
    let its_formula = ap (λ (o : Operator). o.precondition) c.operator_at-operator.ensures in
    let its_effect = ap (λ (o : Operator). o.effect) c.operator_at-operator.ensures in
    took-many b.images.builder.frame b.images.formulas.now b.effects.now c.args.operators.now c.requires refl its_formula its_effect _ c.in_ok-built.ensures.walked refl c.if-built-gt2048.true

pub returns-clause-took : goal.returns-clause-took
returns-clause-took c =
    let b = c.args.b.now in
    let its_formula = ap (λ (o : Operator). o.precondition) c.operator_at-operator.ensures in
    let its_effect = ap (λ (o : Operator). o.effect) c.operator_at-operator.ensures in
    took b.images.builder.frame b.images.formulas.now b.effects.now c.args.operators.now c.requires refl its_formula its_effect _ c.in_ok-built.ensures.walked refl c.if-built-gt2048.false
    c.in_ok-built.ensures.same.images.scratch_length c.build_operator.auto.records c.store.ensures
