-- `build_operator` meets its contract: builds the operator with precondition p and effect e, and records its changes behind those that are. Assumes
-- nothing.
use mathlib.Core.Path.{refl}
use Rattle.conditions.specs.Inner.Conditions.{SameConditions}
use Rattle.variable_changes.proofs.Standing.{stands_here}
use Rattle.operators.proofs.Walks.{precondition_full, stands_behind, operator_walked, operator_full, walked_here, tally_of_failed}
use Rattle.operators.proofs.operator.build_operator.Goals as goal

pub returns-in_err-row-clause-walked : goal.returns-in_err-row-clause-walked
returns-in_err-row-clause-walked c =
    let b = c.args.b.now in
    rw (tally_of_failed (record b { images = c.image.new.self }) c.from_residual.result c.from_residual.ensures.0)
    (precondition_full b.images.builder.frame b.images.formulas.now b.effects.now c.args.p c.args.e c.in_err-row.ensures.images refl)

pub build_changes-requires : goal.build_changes-requires
build_changes-requires c =
    let x = c.in_ok-row.ensures in
    let same : SameConditions c.args.b.now (record c.args.b.now { images = c.image.new.self }) =
    record { images = x.same; effects = refl; notes = refl; notes_length = refl } in
    (stands_here same (stands_behind c.requires.0 x.images refl x.same.scratch_length), c.requires.1)

pub returns-in_err-k-clause-walked : goal.returns-in_err-k-clause-walked
returns-in_err-k-clause-walked c =
    let b = c.args.b.now in
    let x = c.in_ok-row.ensures in
    let same : SameConditions b (record b { images = c.image.new.self }) =
    record { images = x.same; effects = refl; notes = refl; notes_length = refl } in
    let y = walked_here same c.build_changes.new.b c.args.e c.in_err-k.ensures.walked in
    rw (tally_of_failed c.build_changes.new.b c.from_residual-in_err-k.result c.from_residual-in_err-k.ensures.0)
    (operator_full
    (operator_walked b.images.builder.frame b.images.formulas.now b.effects.now c.args.p c.args.e x.images refl y)
    refl refl refl)

pub returns-clause-walked : goal.returns-clause-walked
returns-clause-walked c =
    let b = c.args.b.now in
    let x = c.in_ok-row.ensures in
    let same : SameConditions b (record b { images = c.image.new.self }) =
    record { images = x.same; effects = refl; notes = refl; notes_length = refl } in
    let y = walked_here same c.build_changes.new.b c.args.e c.in_ok-k.ensures.walked in
    operator_walked b.images.builder.frame b.images.formulas.now b.effects.now c.args.p c.args.e x.images refl y
