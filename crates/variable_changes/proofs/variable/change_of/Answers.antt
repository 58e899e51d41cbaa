-- `change_of` meets its contract: what effect e does to variable v: all of A, then all of D, then N. Assumes nothing.
use mathlib.Core.Path.{refl}
use mathlib.Core.Bool.{true, false}
use Rattle.formula_builder.proofs.Steps.{full_failed}
use Rattle.conditions.specs.Inner.Conditions.{condition_at}
use Rattle.conditions.proofs.Steps.{later}
use Rattle.conditions.specs.declared.Target.{Target}
use Rattle.variable_changes.specs.Inner.Stands.{tree_by}
use Rattle.variable_changes.proofs.Standing.{makes_any, set_full, clear-full, change_made, freed_here}
use Rattle.variable_changes.proofs.variable.change_of.Goals as goal

pub returns-in_err-a-clause-makes : goal.returns-in_err-a-clause-makes
unfolding condition_at
returns-in_err-a-clause-makes c =
    let b = c.args.b.now in
    rw (full_failed c.from_residual.result c.from_residual.ensures.0)
    (set_full b.images.builder.frame.variables c.args.v (tree_by b c.args.e) c.in_err-a.ensures.conditions refl)

pub returns-in_err-d-clause-makes : goal.returns-in_err-d-clause-makes
unfolding condition_at
returns-in_err-d-clause-makes c =
    let b = c.args.b.now in
    let unset : Target = record { variable = c.args.v; clear = true; negated = false } in
    let a = c.in_ok-a.ensures in
    let d = later a.same unset c.args.e c.in_err-d.ensures in
    rw (full_failed c.from_residual-in_err-d.result c.from_residual-in_err-d.ensures.0)
    (clear-full b.images.builder.frame.variables c.args.v (tree_by b c.args.e) a.conditions refl d.conditions refl)

pub returns-in_err-k-clause-makes : goal.returns-in_err-k-clause-makes
unfolding condition_at
returns-in_err-k-clause-makes c =
    let b = c.args.b.now in
    let unset : Target = record { variable = c.args.v; clear = true; negated = false } in
    let a = c.in_ok-a.ensures in
    let d = later a.same unset c.args.e c.in_ok-d.ensures in
    let k = freed_here c.args.e c.args.v c.in_ok-a.a c.in_ok-d.d d.same c.in_err-k.ensures in
    rw (full_failed c.from_residual-in_err-k.result c.from_residual-in_err-k.ensures.0)
    (makes_any
    (change_made b.images.builder.frame.variables c.args.v (tree_by b c.args.e) a.conditions refl d.conditions refl k.conditions))

pub returns-clause-makes : goal.returns-clause-makes
unfolding condition_at
returns-clause-makes c =
    let b = c.args.b.now in
    let unset : Target = record { variable = c.args.v; clear = true; negated = false } in
    let a = c.in_ok-a.ensures in
    let d = later a.same unset c.args.e c.in_ok-d.ensures in
    let k = freed_here c.args.e c.args.v c.in_ok-a.a c.in_ok-d.d d.same c.in_ok-k.ensures in
    change_made b.images.builder.frame.variables c.args.v (tree_by b c.args.e) a.conditions refl d.conditions refl k.conditions
