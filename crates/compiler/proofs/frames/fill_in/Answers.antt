-- `fill_in` meets its contract: the finished task, or no room and all as it came. Assumes nothing.
use mathlib.Core.Path.{refl, sym, ◌∙◌}
use mathlib.Core.Bool.{true≢false}
use Rattle.compiler.proofs.Filled.{build_asks, finish_asks, tried_done, tried_over, tried_none}
use Rattle.compiler.proofs.Cleared.{as_long}
use Rattle.compiler.proofs.frames.fill_in.Goals as goal
use Rattle.compiler.proofs.frames.fill_in.Goals.{in-Ok, in-Err}

pub build-requires : goal.build-requires
build-requires g c = build_asks c.requires.begins g.row.NOTES g.row.BUILT c.requires.notes_fit c.requires.rows_fit

pub finish_all-filled-requires : goal.finish_all-filled-requires
finish_all-filled-requires g c = finish_asks c.requires.begins c.in-Ok.ensures.from_start refl c.build.auto.records

pub returns-then-is_err : goal.returns-then-is_err
returns-then-is_err g c =
    let all = c.match-build.auto in
    let long = as_long all.values all.originals all.table all.out all.written all.scratch in
    elim c.match-build.branch [
      | in-Ok w ↦
          rw w.filled-is
          (tried_over c.requires.begins w.in-Ok.ensures.from_start refl _ w.finish_all-filled.result
          (rw w.filled-is at (sym c.is_err.ensures.value ∙ c.if-is_err.true)) long c.clear_all.ensures w.finish_all-filled.ensures.finished)
      | in-Err w ↦ rw w.filled-is (tried_none c.requires.begins w.in-Err.ensures.from_start refl long c.clear_all.ensures)
    ]

pub returns-else-is_err : goal.returns-else-is_err
returns-else-is_err g c =
    elim c.match-build.branch [
      | in-Ok w ↦
          let last = w.finish_all-filled in
          rw (w.values-is, w.originals-is, w.table-is, w.out-is, w.written-is, w.filled-is)
          (tried_done c.requires.begins w.in-Ok.ensures.from_start refl _ _ _ last.result
          (rw w.filled-is at (sym c.is_err.ensures.value ∙ c.if-is_err.false)) last.auto.out last.auto.written last.ensures.finished last.ensures.twins)
      | in-Err w ↦ absurd (true≢false (rw w.filled-is at (sym c.is_err.ensures.value ∙ c.if-is_err.false)))
    ]
