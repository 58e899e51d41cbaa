-- `run_read` meets its contract: what refuses a run, then the run. Assumes nothing.
use mathlib.Core.Path.{refl, sym, ◌∙◌}
use Rattle.run_entry.proofs.RunWays.{small_room, full_room, run_kept, run_refused}
use Rattle.run_entry.proofs.call.run_read.Goals as goal

pub returns-in_err-refused_run : goal.returns-in_err-refused_run
returns-in_err-refused_run c =
    run_refused _ _ _ _ c.in_err-refused_run.field-0.0 _ c.requires c.in_err-refused_run.ensures c.from_residual.ensures.1 refl

pub run_in-requires : goal.run_in-requires
run_in-requires c =
    small_room (record { kept = c.requires; free = sym c.in_ok-refused_run.ensures }) (sym c.is_small.ensures ∙ c.if-is_small.true)

pub returns-then-is_small : goal.returns-then-is_small
returns-then-is_small c = run_kept _ _ _ _ c.requires c.in_ok-refused_run.ensures c.run_in.ensures

pub run_in-requires-2 : goal.run_in-requires-2
run_in-requires-2 c = full_room (record { kept = c.requires; free = sym c.in_ok-refused_run.ensures })

pub returns : goal.returns
returns c = run_kept _ _ _ _ c.requires c.in_ok-refused_run.ensures c.run_in-2.ensures
