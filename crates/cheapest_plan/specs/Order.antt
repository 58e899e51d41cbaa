-- 02's order of plans (K1): less cost first; at the same cost fewer steps; at the same cost and steps the first by operator numbers.
use Rattle.std.specs.Prelude.{ℕ, ◌<◌, ◌≡◌, true, List, ◌∷◌, length}
use Rattle.task.specs.Table.{Task}
use Rattle.task.specs.Run.{plain_run, is_plan}

-- Two lists of one length, "compared from the front": the first number in which they differ decides. 0 2 comes before 1 0.
pub data FirstByNumbers : List ℕ → List ℕ → Type 0 where
  differ : {a b : ℕ} {p q : List ℕ} → a < b → length p ≡ length q → FirstByNumbers (a ∷ p) (b ∷ q)
  agree : {a b : ℕ} {p q : List ℕ} → a ≡ b → FirstByNumbers p q → FirstByNumbers (a ∷ p) (b ∷ q)

-- list p at cost c comes before list q at cost d
pub data Before (c : ℕ) (p : List ℕ) (d : ℕ) (q : List ℕ) : Type 0 where
  cheaper : c < d → Before c p d q
  shorter : c ≡ d → length p < length q → Before c p d q
  earlier : c ≡ d → FirstByNumbers p q → Before c p d q

-- these numbers are a plan from the initial state
abbrev pub Plan : Task → List ℕ → Type 0
Plan t numbers = is_plan (plain_run t t.initial numbers) ≡ true

abbrev pub cost_of : Task → List ℕ → ℕ
cost_of t numbers = (plain_run t t.initial numbers).cost

-- The least plan: among the plans of any length none comes before it.
pub record Least (t : Task) (numbers : List ℕ) : Type 0 where
  pub plan : Plan t numbers
  pub none_before : (other : List ℕ) → Plan t other → Before (cost_of t other) other (cost_of t numbers) numbers → ⊥
