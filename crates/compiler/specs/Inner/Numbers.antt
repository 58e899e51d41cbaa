-- The numbers that are known before anything is built.
use Rattle.std.specs.Prelude.{ℕ, ◌+◌, ◌*◌, ◌≤◌, ◌≡◌}
use Rattle.task.specs.Table.{Lent, operator_width}
use Rattle.task.specs.Check.{refusal}
use Rattle.normal_form.specs.Compiled.{Room, nothing_given, compiling}

-- The source passes, has no twins, and scratch is long enough; there is room for what every finished task has of its source: initial values,
-- operators, the empty effect.
pub record Passed (l : Lent) (room : Room) : Type 0 where
  pub passes : refusal l ≡ 0
  pub untwinned : l.head.twins ≡ 0
  pub memo : 2 * l.head.formulas + 2 * l.head.effects ≤ room.scratch
  pub initial : l.head.variables ≤ room.initial
  pub operators : operator_width * l.head.operators ≤ room.operators
  pub effects : 3 ≤ room.effects

-- A number refuses; with 0 all of that holds.
pub record Numbered (l : Lent) (room : Room) (n : ℕ) : Type 0 where
  pub refuses : (n ≡ 0 → ⊥) → compiling l room ≡ nothing_given n room
  pub passed : n ≡ 0 → Passed l room
