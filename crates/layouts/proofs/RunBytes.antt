-- Bytes of a run's result: byte 12 is whether the goal holds, byte 13 whether the run is a plan. Assumes nothing.
use mathlib.Core.Path.{◌≡◌, refl}
use lib.ListN.{get_or}
use Rattle.task.specs.Run.{Run, is_plan}
use Rattle.layouts.specs.Layout.{low_bytes, flag, run_bytes}

pub plan_byte : (r : Run) → get_or (run_bytes r) 13 0 ≡ flag (is_plan r)
unfolding run_bytes low_bytes
plan_byte r = refl
