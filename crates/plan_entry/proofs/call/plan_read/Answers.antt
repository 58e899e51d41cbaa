-- `plan_read` meets its contract: on the tables that a file was read into: 21, 20, then the search. Assumes nothing.
use mathlib.Core.Path.{refl, sym, ◌∙◌}
use lib.ListN.{length}
use Rattle.task.specs.Lending.{lent_tables}
use Rattle.task.proofs.Refusals.{number_some}
use Rattle.task.proofs.Told.{returned}
use Rattle.plan_entry.proofs.PlanWays.{nothing, full_room, small_room, plan_kept, plan_not_begun}
use Rattle.plan_entry.proofs.call.plan_read.Goals as goal

pub returns-in_err-refused_plan : goal.returns-in_err-refused_plan
returns-in_err-refused_plan c =
    let a = c.args in
    let e = c.in_err-refused_plan.field-0.0 in
    plan_not_begun (lent_tables a.tables.now) (length a.out.now) (length a.res.now) c.requires.kept c.in_err-refused_plan.ensures (number_some e)
    (nothing c.requires.clear (returned c.from_residual.result e _ c.from_residual.ensures.1 refl))

pub plan_in-requires-clause-room : goal.plan_in-requires-clause-room
plan_in-requires-clause-room c =
    small_room (record { kept = c.requires.kept; free = sym c.in_ok-refused_plan.ensures }) (sym c.is_small.ensures ∙ c.if-is_small.true)

pub plan_in-requires-else-is_small-clause-room : goal.plan_in-requires-else-is_small-clause-room
plan_in-requires-else-is_small-clause-room c =
    full_room (record { kept = c.requires.kept; free = sym c.in_ok-refused_plan.ensures })

pub returns-then-is_small : goal.returns-then-is_small
returns-then-is_small c =
    let a = c.args in
    plan_kept (lent_tables a.tables.now) (length a.out.now) (length a.res.now) c.requires.kept c.in_ok-refused_plan.ensures refl c.plan_in.ensures

pub returns-else-is_small : goal.returns-else-is_small
returns-else-is_small c =
    let a = c.args in
    plan_kept (lent_tables a.tables.now) (length a.out.now) (length a.res.now) c.requires.kept c.in_ok-refused_plan.ensures refl
    c.plan_in-else-is_small.ensures
