-- How many rows, twins and effect rows the limits and the lent tables leave room for.
use Rattle.std.specs.Prelude.{ℕ, ◌+◌, ◌*◌, ◌≤◌}
use Rattle.normal_form.specs.Compiled.{Room}

-- no smaller than what the limits and the lent tables allow over n source variables
pub record Allows (n : ℕ) (room : Room) (rows twins effects : ℕ) : Type 0 where
  pub rows_allowed : (k : ℕ) → k ≤ 4096 → 3 * k ≤ room.formulas → k ≤ rows
  pub twins_allowed : (k : ℕ) → n + k ≤ 512 → n + k ≤ room.initial → k ≤ room.twins → k ≤ twins
  pub effects_allowed : (k : ℕ) → k ≤ 4096 → 3 * k ≤ room.effects → k ≤ effects
