-- `replaces` meets its contract: the cost, the steps, the numbers and the goal decide. Assumes nothing.
use mathlib.Core.Path.{sym, ◌∙◌}
use mathlib.Core.Bool.{false≢true}
use borrow.Author.Tests.{eqb-true, eqb-false}
use Rattle.cheapest_plan.proofs.Ending.{other_cost, other_steps, ends_comparable, comes-behind, goal-decides}
use Rattle.cheapest_plan.proofs.ends.replaces.Goals as goal
use Rattle.cheapest_plan.proofs.ends.replaces.Goals.{then-words-t, else-words-t, then-words-n, else-words-n}

pub precedes-requires : goal.precedes-requires
precedes-requires c =
    let pre = c.requires in
    elim c.if-words-t.branch [
      | then-words-t w ↦ (pre.roomy.0, ends_comparable pre.end_ready pre.roomy.1 w.if-words-t.true (eqb-true _ _ (sym w.value-is ∙ c.if-words-n.true)))
      | else-words-t w ↦ absurd (w.if-words-t.false (eqb-true _ _ (sym w.value-is ∙ c.if-words-n.true)))
    ]

pub returns-then-precedes : goal.returns-then-precedes
returns-then-precedes c =
    let below = c.requires.roomy.1 in
    record {
      told = λ v.
          elim c.if-words-n.branch [
            | then-words-n w ↦
                elim c.if-words-t.branch [
                  | then-words-t u ↦
                      let steps = eqb-true _ _ (sym u.value-is ∙ w.if-words-n.true) in
                      goal-decides v below u.if-words-t.true steps (w.precedes.ensures.told (ends_comparable v below u.if-words-t.true steps))
                      (sym w.value-is ∙ c.if-precedes.true) c.is_goal.ensures
                  | else-words-t u ↦ absurd (u.if-words-t.false (eqb-true _ _ (sym u.value-is ∙ w.if-words-n.true)))
                ]
            | else-words-n w ↦ absurd (false≢true (sym w.if-words-n.false ∙ (sym w.value-is ∙ c.if-precedes.true)))
          ];
    }

pub returns-else-precedes : goal.returns-else-precedes
returns-else-precedes c =
    let below = c.requires.roomy.1 in
    rw c.if-precedes.false
    (record {
      told = λ v.
          elim c.if-words-n.branch [
            | then-words-n w ↦
                elim c.if-words-t.branch [
                  | then-words-t u ↦
                      let steps = eqb-true _ _ (sym u.value-is ∙ w.if-words-n.true) in
                      comes-behind v below u.if-words-t.true steps (w.precedes.ensures.told (ends_comparable v below u.if-words-t.true steps))
                      (sym w.value-is ∙ c.if-precedes.false)
                  | else-words-t u ↦ absurd (u.if-words-t.false (eqb-true _ _ (sym u.value-is ∙ w.if-words-n.true)))
                ]
            | else-words-n w ↦
                elim c.if-words-t.branch [
                  | then-words-t u ↦ other_steps v below (eqb-false _ _ (sym u.value-is ∙ w.if-words-n.false))
                  | else-words-t u ↦ other_cost v below u.if-words-t.false
                ]
          ];
    })
