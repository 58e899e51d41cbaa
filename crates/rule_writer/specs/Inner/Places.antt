-- The places of the twins, by variable.
use Rattle.std.specs.Prelude.{ℕ, ◌≤◌, ◌<◌, ◌≡◌, List, length, get_or, eqb}
use Rattle.normal_form.specs.Builder.{place}
use Rattle.rule_writer.specs.declared.Chain.{Chain}

-- There is a word for each of v variables, and each of w twins has one of them for its original.
pub record PlacesReady (originals places : List ℕ) (v w : ℕ) : Type 0 where
  pub twins : w ≤ length originals
  pub space : v ≤ length places
  pub limit : w ≤ 512
  pub below : (k : ℕ) → k < w → get_or originals k 0 < v

-- Each of v variables has the place of its twin among these w; w if it has none.
pub record Placed (v w : ℕ) (twins places : List ℕ) : Type 0 where
  pub many : length twins ≡ w
  pub at : (u : ℕ) → u < v → get_or places u 0 ≡ place eqb u twins

-- A cleared table holds the empty effect alone; and the next operator begins with nothing of its own.
abbrev pub begun : ℕ → Chain
begun rows = record { rows = rows; stands = 0 }
