-- `take` gives what `took` gives, each way out by a law of Taking. Assumes nothing.
use native.Mathlib.Omega.{arith}
use mathlib.Core.Path.{◌≡◌, refl}
use Rattle.task.specs.Lending.{operator_of}
use Rattle.task.specs.Run.{charge_of}
use Rattle.task.proofs.Refusals.{number_some}
use Rattle.operator_step.proofs.Taking.{valuable, asked-below, stays, conditions-ready, carried-out, refused}
use Rattle.operator_step.proofs.Scratching.{scratch_stopped, scratch_done}
use Rattle.operator_step.proofs.operator.take.Goals as goal

pub asked-operator-requires : goal.asked-operator-requires
asked-operator-requires c = c.requires.tables.operators_there

pub holds-applicable-requires : goal.holds-applicable-requires
holds-applicable-requires c =
    valuable c.requires (asked-below c.requires c.args.number c.asked-operator.ensures)

pub returns-in_err-stop_of : goal.returns-in_err-stop_of
returns-in_err-stop_of c =
    let n = c.args.number in
    let e = c.in_err-stop_of.field-0.0 in
    let held = c.holds-applicable.ensures in
    rw (refused c.from_residual.result e c.from_residual.ensures.1)
    (record {
      takes = stays c.requires n c.asked-operator.ensures held.value c.in_err-stop_of.ensures (number_some e);
      scratched = scratch_stopped n c.asked-operator.ensures held.valued (number_some e);
    })

pub carry_out-requires : goal.carry_out-requires
carry_out-requires c =
    let held = c.holds-applicable in
    conditions-ready c.requires c.args.number c.asked-operator.ensures held.ensures.value c.in_ok-stop_of.ensures refl
    held.new.scratch held.auto.scratch held.ensures.valued.known

pub returns : goal.returns
returns c =
    let n = c.args.number in
    let held = c.holds-applicable in
    let same = held.auto.scratch in
    let charged : c.charge.result ≡ charge_of (operator_of c.asked-operator.result) = cc in
    record {
      takes = rw charged
          (carried-out c.requires n c.asked-operator.ensures held.ensures.value c.in_ok-stop_of.ensures refl held.new.scratch same held.ensures.valued.known _ _ c.carry_out.ensures
          (omega arith));
      scratched =
          scratch_done n c.asked-operator.ensures held.ensures.valued refl (omega (arith, asked-below c.requires n c.asked-operator.ensures)) same c.carry_out.ensures.deciding;
    }
