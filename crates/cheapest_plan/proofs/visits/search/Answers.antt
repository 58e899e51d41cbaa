-- `search` meets its contract: the first state of the queue is visited, until none is left or it is a goal state. Assumes nothing.
use native.Mathlib.Omega.{arith}
use mathlib.Core.Path.{refl, ◌∙◌}
use Rattle.state_queue.proofs.Playing.{roomy_on}
use Rattle.cheapest_plan.proofs.Rounds.{state_below, goal_ready_on, round_less, begun_known, visitable, round-known, round-goal, search_none}
use Rattle.cheapest_plan.proofs.visits.search.Goals as goal

pub loop-s-init : goal.loop-s-init
loop-s-init c = (refl, refl, refl, λ v. begun_known v c.begin.ensures, refl)

pub next-requires : goal.next-requires
next-requires c =
    let pre = c.requires in
    let inv = c.loop-s.invariant in
    (roomy_on pre.roomy.0 (inv.1 ∙ c.begin.auto.words), (inv.3 pre.searchable).queue)

pub visit-requires : goal.visit-requires
visit-requires c =
    let pre = c.requires in
    let inv = c.loop-s.invariant in
    let first = c.in-Some.ensures in
    record {
      goal_ready = goal_ready_on pre.goal_ready inv.0 inv.2;
      roomy = (roomy_on pre.roomy.0 (inv.1 ∙ c.begin.auto.words), omega (arith, pre.roomy.1, inv.4));
      visitable = visitable pre.searchable (inv.3 pre.searchable) first.0 first.1;
    }

pub returns-then-visit : goal.returns-then-visit
returns-then-visit c =
    let pre = c.requires in
    let inv = c.loop-s.invariant in
    let first = c.in-Some.ensures in
    record {
      told = λ v.
          round-goal v (inv.3 v) first.0 first.1 c.if-visit.true (state_below (inv.3 v) first.0 pre.roomy.0.some)
          (c.visit.ensures.told (visitable v (inv.3 v) first.0 first.1));
    }

pub loop-s-smaller : goal.loop-s-smaller
loop-s-smaller c =
    let pre = c.requires in
    let inv = c.loop-s.invariant in
    let first = c.in-Some.ensures in
    round_less c.visit.ensures c.if-visit.false (state_below (inv.3 pre.searchable) first.0 pre.roomy.0.some) first.1

pub loop-s-preserved : goal.loop-s-preserved
loop-s-preserved c =
    let inv = c.loop-s.invariant in
    let first = c.in-Some.ensures in (
      c.visit.auto.state ∙ inv.0,
      c.visit.auto.words ∙ inv.1,
      c.visit.auto.scratch ∙ inv.2,
      λ v. round-known v (inv.3 v) first.0 first.1 c.if-visit.false (c.visit.ensures.told (visitable v (inv.3 v) first.0 first.1)),
      c.visit.auto.masks ∙ inv.4,
    )

pub returns : goal.returns
returns c =
    let inv = c.loop-s.invariant in
    record { told = λ v. search_none v (inv.3 v) (roomy_on c.requires.roomy.0 (inv.1 ∙ c.begin.auto.words)) c.in_default.ensures }
