-- The kinds of the code: each has the number that stands in a row, and no other number has one.
use Rattle.std.specs.Prelude.{ℕ, ◌≡◌, ◌≤◌, Result, Ok, Err}
use Rattle.task.specs.declared.kinds.FormulaKind.{FormulaKind}
use Rattle.task.specs.declared.kinds.FormulaKind.TheVariants as f
use Rattle.task.specs.declared.kinds.EffectKind.{EffectKind}
use Rattle.task.specs.declared.kinds.EffectKind.TheVariants as e
use Rattle.task.specs.declared.kinds.UnknownKind.{UnknownKind}

abbrev pub formula_number : FormulaKind → ℕ
formula_number f.False = 0
formula_number f.True = 1
formula_number f.Variable = 2
formula_number f.Not = 3
formula_number f.And = 4
formula_number f.Or = 5
formula_number f.Implies = 6
formula_number f.Equivalent = 7

abbrev pub FormulaKindOf : ℕ → Result FormulaKind UnknownKind → Type 0
FormulaKindOf n (Ok kind) = n ≡ formula_number kind
FormulaKindOf n (Err unknown) = 8 ≤ n

abbrev pub effect_number : EffectKind → ℕ
effect_number e.Empty = 0
effect_number e.Set = 1
effect_number e.Clear = 2
effect_number e.Both = 3
effect_number e.Under = 4

abbrev pub EffectKindOf : ℕ → Result EffectKind UnknownKind → Type 0
EffectKindOf n (Ok kind) = n ≡ effect_number kind
EffectKindOf n (Err unknown) = 5 ≤ n
