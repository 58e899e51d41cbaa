-- `fill` meets its contract: for a small source the small frame first, else the large one. Assumes nothing.
use mathlib.Core.Path.{◌≡◌, sym, ◌∙◌}
use Rattle.task.specs.Lending.{lent_tables}
use Rattle.compiler.specs.Tables.{tables}
use Rattle.compiler.proofs.Owned.{small_enough, large_enough}
use Rattle.compiler.proofs.Tried.{same_tables, kept, answered}
use Rattle.compiler.proofs.frames.fill.Goals as goal
use Rattle.compiler.proofs.frames.fill.Goals.{then-is_small+else-is_ok, else-is_small}

pub fill_in-small-requires : goal.fill_in-small-requires
fill_in-small-requires c =
    rw c.fewer_rows.ensures
    (small_enough (lent_tables c.args.source.now) c.is_small.ensures c.if-is_small.true c.requires.begins)

pub fill_in-requires : goal.fill_in-requires
fill_in-requires c =
    let unchanged : tables c.if-is_small.values c.if-is_small.originals c.if-is_small.table c.if-is_small.out c.if-is_small.written c.if-is_small.scratch ≡ tables c.args.values.now c.args.originals.now c.args.table.now c.args.out.now c.args.written.now c.args.scratch.now =
    elim c.if-is_small.branch [
      | then-is_small+else-is_ok w ↦
          same_tables w.values-is w.originals-is w.table-is w.out-is w.written-is w.scratch-is
          ∙ kept _ w.fill_in-small.result (sym w.is_ok.ensures.value ∙ w.if-is_ok.false) w.fill_in-small.ensures
      | else-is_small w ↦ same_tables w.values-is w.originals-is w.table-is w.out-is w.written-is w.scratch-is
    ] in
    rw unchanged (large_enough c.requires.begins)

pub returns : goal.returns
returns c =
    let unchanged : tables c.if-is_small.values c.if-is_small.originals c.if-is_small.table c.if-is_small.out c.if-is_small.written c.if-is_small.scratch ≡ tables c.args.values.now c.args.originals.now c.args.table.now c.args.out.now c.args.written.now c.args.scratch.now =
    elim c.if-is_small.branch [
      | then-is_small+else-is_ok w ↦
          same_tables w.values-is w.originals-is w.table-is w.out-is w.written-is w.scratch-is
          ∙ kept _ w.fill_in-small.result (sym w.is_ok.ensures.value ∙ w.if-is_ok.false) w.fill_in-small.ensures
      | else-is_small w ↦ same_tables w.values-is w.originals-is w.table-is w.out-is w.written-is w.scratch-is
    ] in
    answered _ c.fill_in.result unchanged c.requires c.fill_in.ensures
