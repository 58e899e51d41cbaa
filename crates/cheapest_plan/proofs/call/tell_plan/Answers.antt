-- `tell_plan` meets its contract: the plan is too long, or it is written. Assumes nothing.
use native.Mathlib.Omega.{arith}
use Rattle.cheapest_plan.proofs.Calls.{tell_long, writable, tell-written}
use Rattle.cheapest_plan.proofs.call.tell_plan.Goals as goal

pub returns-then-plan-steps : goal.returns-then-plan-steps
returns-then-plan-steps c = record { told = λ v. tell_long v c.if-plan-steps.true }

pub write_plan-requires : goal.write_plan-requires
write_plan-requires c =
    (c.requires.0, writable c.requires.1, omega arith)

pub returns : goal.returns
returns c =
    record { told = λ v. rw c.from-cost.ensures (tell-written v (omega arith) c.write_plan.auto.plan c.write_plan.ensures) }
