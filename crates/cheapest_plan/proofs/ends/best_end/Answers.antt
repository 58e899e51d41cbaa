-- `best_end` meets its contract: state by state. Assumes nothing.
use native.Mathlib.Omega.{arith}
use mathlib.Core.Path.{◌∙◌}
use mathlib.Core.Logic.{inl, inr}
use Rattle.cheapest_plan.proofs.Ending.{candidate, best_round, best_found}
use Rattle.cheapest_plan.proofs.ends.best_end.Goals as goal
use Rattle.cheapest_plan.proofs.ends.best_end.Goals.{then-replaces, else-replaces}

pub replaces-requires-clause-end_ready : goal.replaces-requires-clause-end_ready
replaces-requires-clause-end_ready c =
    let v = c.requires.roomy.1 in candidate v (c.loop-t.invariant.2 v)

pub loop-t-preserved : goal.loop-t-preserved
loop-t-preserved c =
    let inv = c.loop-t.invariant in (
      c.replaces.auto.state ∙ inv.0,
      c.replaces.auto.scratch ∙ inv.1,
      λ v.
          elim c.if-replaces.branch [
            | then-replaces w ↦
                best_round v (inv.2 v) (c.replaces.ensures.told (candidate v (inv.2 v))) c.loop-t-test.true (inl (w.if-replaces.true, w.end-is))
            | else-replaces w ↦
                best_round v (inv.2 v) (c.replaces.ensures.told (candidate v (inv.2 v))) c.loop-t-test.true (inr (w.if-replaces.false, w.end-is))
          ],
    )

pub returns : goal.returns
returns c =
    let inv = c.loop-t.invariant in
    record { there = (inv.2 c.requires.roomy.1).there; told = λ v. best_found v (inv.2 v) (omega arith) }
