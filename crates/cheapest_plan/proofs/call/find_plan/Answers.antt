-- `find_plan` meets its contract: a refusal, no plan, or the plan that ends in the best end. Assumes nothing.
use mathlib.Core.Path.{◌≡◌, sym}
use Rattle.std.specs.Prelude.{ℕ, Some, None, Result, Err}
use Rattle.task.specs.Lending.{lent_tables}
use Rattle.task.specs.declared.refusal.Refusal.{Refusal}
use Rattle.task.specs.declared.refusal.Refusal.TheVariants as r
use Rattle.task.proofs.Refusals.{number_some}
use Rattle.state_queue.proofs.Playing.{roomy_on}
use Rattle.cheapest_plan.specs.Inner.Plans.{PlanEnd}
use Rattle.cheapest_plan.proofs.Refusing.{variables_few, search_ready}
use Rattle.cheapest_plan.proofs.Calls.{search_roomy, tell_ready, told_found, answered_err, plan_refuses, plan_none, plan_gives, ready_none, ready_told}
use Rattle.cheapest_plan.proofs.call.find_plan.Goals as goal

pub returns-in_err-refused_early : goal.returns-in_err-refused_early
returns-in_err-refused_early c =
    let e = c.in_err-refused_early.field-0.0 in
    plan_refuses _ _ _ _ c.requires c.in_err-refused_early.ensures (number_some e) (answered_err c.from_residual.result e c.from_residual.ensures.1)

pub states_of-n-requires : goal.states_of-n-requires
states_of-n-requires c =
    variables_few (lent_tables c.args.tables.now) c.sixteen_bits.ensures c.args.scratch.now c.args.words.now (sym c.in_ok-refused_early.ensures)

pub find_end-requires : goal.find_end-requires
find_end-requires c =
    let a = c.args in
    (search_ready (lent_tables a.tables.now) c.sixteen_bits.ensures a.scratch.now a.words.now (sym c.in_ok-refused_early.ensures), c.states_of-n.ensures.0)

pub returns-in_err-end : goal.returns-in_err-end
returns-in_err-end c =
    let a = c.args in
    let l = lent_tables a.tables.now in
    let passed = sym c.in_ok-refused_early.ensures in
    let v = search_ready l c.sixteen_bits.ensures a.scratch.now a.words.now passed in
    let none : PlanEnd v.t c.states_of-n.result c.find_end.new.words None = rw c.in_err-end.ensures.ok_part at (c.find_end.ensures.told v) in
    let e = c.in_err-end.field-0.0 in
    let same : ◌≡◌ {A = Result ℕ Refusal} (Err e) (Err r.NoPlan) = rw c.in_err-end.ensures.ok_part at c.in_err-end.ensures.value in
    let is : e ≡ r.NoPlan = cc in
    plan_none l a.plan.now a.scratch.now a.words.now c.requires passed (ready_none l c.sixteen_bits.ensures a.scratch.now a.words.now passed none)
    (rw is at (answered_err c.from_residual-in_err-end.result e c.from_residual-in_err-end.ensures.1))

pub tell_plan-requires : goal.tell_plan-requires
tell_plan-requires c =
    let a = c.args in
    let v = search_ready (lent_tables a.tables.now) c.sixteen_bits.ensures a.scratch.now a.words.now (sym c.in_ok-refused_early.ensures) in
    let found : PlanEnd v.t c.states_of-n.result c.find_end.new.words (Some c.in_ok-end.end) = rw c.in_ok-end.ensures.ok_part at (c.find_end.ensures.told v) in
    (roomy_on (search_roomy v c.states_of-n.ensures.0) c.find_end.auto.words, tell_ready found c.requires)

pub returns : goal.returns
returns c =
    let a = c.args in
    let l = lent_tables a.tables.now in
    let passed = sym c.in_ok-refused_early.ensures in
    let v = search_ready l c.sixteen_bits.ensures a.scratch.now a.words.now passed in
    let found : PlanEnd v.t c.states_of-n.result c.find_end.new.words (Some c.in_ok-end.end) = rw c.in_ok-end.ensures.ok_part at (c.find_end.ensures.told v) in
    plan_gives l a.plan.now a.scratch.now a.words.now passed
    (ready_told l c.sixteen_bits.ensures a.scratch.now a.words.now passed
    (told_found found c.requires (c.tell_plan.ensures.told (tell_ready found c.requires))))
