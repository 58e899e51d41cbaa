-- `plan_in` meets its contract: the search where nothing refuses it before it begins, with room for the longest plan and for scratch. Assumes nothing.
use mathlib.Core.Path.{refl}
use Rattle.task.proofs.Refusals.{number_some}
use Rattle.task.proofs.Told.{returned}
use Rattle.plan_entry.proofs.PlanWays.{nothing, free_of, room_own, found, found_plan, not_found}
use Rattle.plan_entry.proofs.call.plan_in.Goals as goal

pub returns-in_err-plan : goal.returns-in_err-plan
returns-in_err-plan g c =
    let e = c.in_err-plan.field-0.0 in
    not_found _ _ _ _ _ (room_own c.requires.room) c.in_err-plan.ensures _ (number_some e)
    (nothing c.requires.clear (returned c.from_residual.result e _ c.from_residual.ensures.1 refl))

pub give_plan-requires-clause-room : goal.give_plan-requires-clause-room
give_plan-requires-clause-room g c =
    let f = found _ _ _ _ _ (room_own c.requires.room) c.in_ok-plan.ensures refl in
    (f.few, f.inside, (free_of _ _ c.requires.room.plan.free).room)

pub returns : goal.returns
returns g c =
    let i = room_own c.requires.room in
    let f = found _ _ _ _ _ i c.in_ok-plan.ensures refl in
    found_plan _ _ _ _ _ i c.in_ok-plan.ensures _ f c.give_plan.ensures
