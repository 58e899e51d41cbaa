-- Rows that keep their rule, one by one and a whole table of them.
use Rattle.std.specs.Prelude.{ℕ, ◌<◌, List, length, get_or}
use Rattle.task.specs.Table.{Row, formula_kind, effect_kind}
use Rattle.task.specs.Rules.{no_row, FormulaRule, EffectRule}

-- Row i keeps the rule of formulas over v variables; each row of a table does.
abbrev pub FormulaKept : (v i : ℕ) → Row → Type 0
FormulaKept v i r = FormulaRule v i (formula_kind r.kind) r.a r.b

pub record FormulasDown (v : ℕ) (rows : List Row) : Type 0 where
  pub row : (i : ℕ) → i < length rows → FormulaKept v i (get_or rows i no_row)

-- Row i keeps the rule of effects over v variables and f formulas; each row of a table does.
abbrev pub EffectKept : (v f i : ℕ) → Row → Type 0
EffectKept v f i r = EffectRule v f i (effect_kind r.kind) r.a r.b

pub record EffectsDown (v f : ℕ) (rows : List Row) : Type 0 where
  pub row : (i : ℕ) → i < length rows → EffectKept v f i (get_or rows i no_row)
