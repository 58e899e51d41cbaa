-- What the exported call on the cheapest plan leaves, from what `planned` yields.
use Rattle.std.specs.Prelude.{ℕ, ◌≡◌, List, [], ◌∷◌}
use Rattle.cheapest_plan.specs.Planned.{CheapestOutcome, Planned}
use Rattle.test_calls.specs.Buffers.{told_words}

-- steps, cost
unfoldable pub plan_words : CheapestOutcome → List ℕ
plan_words a = a.steps ∷ a.cost ∷ []

pub record PlanTells (w : Planned) (before : List ℕ) (r : ℕ) (plan scratch words result : List ℕ) : Type 0 where
  pub number : r ≡ w.answer.refusal
  pub plan_left : plan ≡ w.plan
  pub scratch_left : scratch ≡ w.scratch
  pub words_left : words ≡ w.words
  pub told : result ≡ told_words (plan_words w.answer) before
