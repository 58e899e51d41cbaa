-- `build` meets its contract: sets and first operators are found, then begin, the operators batch by batch, and the goal. Assumes nothing.
use native.Mathlib.Omega.{arith}
use mathlib.Core.Path.{refl}
use Rattle.compile_parts.proofs.Asked.{finds, finds_first, known}
use Rattle.compile_parts.proofs.Parted.{begins_over, building_begins, batch_takes, building_next, building_over, all_built}
use Rattle.compile_parts.proofs.whole.build.Goals as goal

pub find_sets-requires : goal.find_sets-requires
find_sets-requires c = finds c.requires

pub find_first-requires : goal.find_first-requires
find_first-requires c = finds_first c.requires

pub returns-in_err-at-clause-from_start : goal.returns-in_err-at-clause-from_start
returns-in_err-at-clause-from_start c =
    begins_over c.args.b.now c.requires c.begin.new.b c.from_residual.result c.from_residual.ensures.0 c.in_err-at.ensures.begun

pub loop-at-init : goal.loop-at-init
loop-at-init c =
    building_begins c.args.b.now c.requires
    (record {
      images = record { builder = c.in_ok-at.ensures.same; formulas = refl; scratch = refl; scratch_length = refl };
      effects = refl;
      notes = refl;
      notes_length = c.find_sets.auto.notes;
    })
    c.find_sets.ensures c.in_ok-at.ensures.begun c.in_ok-at.ensures.originals refl

pub take_batch-requires : goal.take_batch-requires
take_batch-requires c =
    batch_takes c.args.b.now c.requires c.loop-at.invariant (known c.requires c.find_first.ensures c.find_first.auto.first) c.loop-at-test.true

pub loop-at-preserved : goal.loop-at-preserved
loop-at-preserved c =
    building_next c.args.b.now c.requires c.loop-at.invariant c.in_ok-at-2.ensures c.take_batch.auto.records

pub returns-in_err-at-2-clause-from_start : goal.returns-in_err-at-2-clause-from_start
returns-in_err-at-2-clause-from_start c =
    building_over c.args.b.now c.requires c.loop-at.invariant c.from_residual-in_err-at-2.result c.from_residual-in_err-at-2.ensures.0 c.in_err-at-2.ensures

pub returns-clause-from_start : goal.returns-clause-from_start
returns-clause-from_start c =
    let i = c.loop-at.invariant in
    all_built c.args.b.now c.requires i (omega (arith, i.some, c.loop-at-test.false)) c.image.ensures
