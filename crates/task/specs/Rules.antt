-- The rules that the tables of a task keep, a field or a constructor for each sentence of 01, "The tables".
use Rattle.std.specs.Prelude.{ℕ, ◌+◌, ◌-◌, ◌*◌, ◌≤◌, ◌<◌, ◌≡◌, List, length, get_or}
use Rattle.task.specs.declared.Head.{Head}
use Rattle.task.specs.Check.{Lengths, lengths_of}
use Rattle.task.specs.Table.{Row, Operator, operator_width, operator, Lent, Task, FormulaKind, false_kind, true_kind, variable_kind, not_kind, and_kind, or_kind, implies_kind, equivalent_kind, unknown_formula, formula_kind, EffectKind, empty_kind, set_kind, clear_kind, both_kind, under_kind, unknown_effect, effect_kind}

-- A row that no table has: what stands past a table's end.
abbrev pub no_row : Row
no_row = record { kind = 0; a = 0; b = 0 }

abbrev pub no_operator : Operator
no_operator = operator 0 0 0 0

-- Row i of the formulas over v variables: its kind, a and b. An unused word is 0; a formula that is named has a lower number.
abbrev pub FormulaRule : (v i : ℕ) → FormulaKind → (a b : ℕ) → Type 0
FormulaRule v i false_kind a b = (a ≡ 0) × (b ≡ 0)
FormulaRule v i true_kind a b = (a ≡ 0) × (b ≡ 0)
FormulaRule v i variable_kind a b = (a < v) × (b ≡ 0)
FormulaRule v i not_kind a b = (a < i) × (b ≡ 0)
FormulaRule v i and_kind a b = (a < i) × (b < i)
FormulaRule v i or_kind a b = (a < i) × (b < i)
FormulaRule v i implies_kind a b = (a < i) × (b < i)
FormulaRule v i equivalent_kind a b = (a < i) × (b < i)
FormulaRule v i unknown_formula a b = ⊥

-- Row i of the effects over v variables and f formulas.
abbrev pub EffectRule : (v f i : ℕ) → EffectKind → (a b : ℕ) → Type 0
EffectRule v f i empty_kind a b = (a ≡ 0) × (b ≡ 0)
EffectRule v f i set_kind a b = (a < v) × (b ≡ 0)
EffectRule v f i clear_kind a b = (a < v) × (b ≡ 0)
EffectRule v f i both_kind a b = (a < i) × (b < i)
EffectRule v f i under_kind a b = (a < f) × (b < i)
EffectRule v f i unknown_effect a b = ⊥

pub record OperatorRule (f e : ℕ) (o : Operator) : Type 0 where
  pub formula : o.precondition < f
  pub changes : o.effect < e
  pub percent : o.percent ≤ 200

-- Limits: V 512, W at most V − W, F 1 to 4,096, E 4,096, O 256.
pub record WithinLimits (v w f e o : ℕ) : Type 0 where
  pub variables : v ≤ 512
  pub twins : w + w ≤ v
  pub one_formula : 1 ≤ f
  pub formulas : f ≤ 4096
  pub effects : e ≤ 4096
  pub operators : o ≤ 256

-- of a head, and of a task
abbrev pub Counts : Head → Type 0
Counts h = WithinLimits h.variables h.twins h.formulas h.effects h.operators

abbrev pub Limits : Task → Type 0
Limits t =
    WithinLimits (length t.initial) (length t.originals) (length t.formulas) (length t.effects)
    (length t.operators)

-- Twin row k names a variable below V − W (bound) that no row before it names.
pub record TwinRule (bound : ℕ) (twins : List ℕ) (k : ℕ) : Type 0 where
  pub below : get_or twins k 0 < bound
  pub once : (j : ℕ) → j < k → get_or twins j 0 ≡ get_or twins k 0 → ⊥

-- The rules that a number tells, 6 to 12 and 24: what the check looks at.
pub record Checked (t : Task) : Type 0 where
  pub limits : Limits t
  pub goal_is_formula : t.goal < length t.formulas
  pub initial_bits : (v : ℕ) → v < length t.initial → get_or t.initial v 0 ≤ 1
  pub twin :
      (k : ℕ) → k < length t.originals → TwinRule (length t.initial - length t.originals) t.originals k
  pub formula :
      (i : ℕ)
      → i < length t.formulas
      → let r = get_or t.formulas i no_row in
      FormulaRule (length t.initial) i (formula_kind r.kind) r.a r.b
  pub effect :
      (i : ℕ)
      → i < length t.effects
      → let r = get_or t.effects i no_row in
      EffectRule (length t.initial) (length t.formulas) i (effect_kind r.kind) r.a r.b
  pub operator :
      (i : ℕ)
      → i < length t.operators
      → OperatorRule (length t.formulas) (length t.effects) (get_or t.operators i no_operator)

-- Table words are unsigned 16-bit. No number tells this rule, since a lent table cannot hold another word.
abbrev pub word_limit : ℕ
word_limit = 65536

pub record RowWords (r : Row) : Type 0 where
  pub kind : r.kind < word_limit
  pub first : r.a < word_limit
  pub second : r.b < word_limit

pub record OperatorWords (o : Operator) : Type 0 where
  pub precondition : o.precondition < word_limit
  pub effect : o.effect < word_limit
  pub cost : o.cost < word_limit
  pub percent : o.percent < word_limit

pub record TaskWords (t : Task) : Type 0 where
  pub original : (k : ℕ) → k < length t.originals → get_or t.originals k 0 < word_limit
  pub formula : (i : ℕ) → i < length t.formulas → RowWords (get_or t.formulas i no_row)
  pub effect : (i : ℕ) → i < length t.effects → RowWords (get_or t.effects i no_row)
  pub operator : (i : ℕ) → i < length t.operators → OperatorWords (get_or t.operators i no_operator)

-- THE rules of a task. A cost of 65,536 breaks two of them, and no other rule.
pub record Rules (t : Task) : Type 0 where
  pub words : TaskWords t
  pub cost : (i : ℕ) → i < length t.operators → (get_or t.operators i no_operator).cost ≤ 65535
  pub checked : Checked t

-- The words of lent tables are unsigned 16-bit: what their type says in the code.
pub record LentWords (l : Lent) : Type 0 where
  pub twins : (i : ℕ) → i < length l.twins → get_or l.twins i 0 < word_limit
  pub formulas : (i : ℕ) → i < length l.formulas → get_or l.formulas i 0 < word_limit
  pub effects : (i : ℕ) → i < length l.effects → get_or l.effects i 0 < word_limit
  pub operators : (i : ℕ) → i < length l.operators → get_or l.operators i 0 < word_limit

-- Tables of these lengths have room for so many variables, twins, formulas, effects and operators.
pub record RoomFor (n : Lengths) (v w f e o : ℕ) : Type 0 where
  pub initial : v ≤ n.initial
  pub twins : w ≤ n.twins
  pub formulas : 3 * f ≤ n.formulas
  pub effects : 3 * e ≤ n.effects
  pub operators : operator_width * o ≤ n.operators

-- Each lent table is as long as its count asks.
abbrev pub LongEnough : Lent → Type 0
LongEnough l =
    RoomFor (lengths_of l) l.head.variables l.head.twins l.head.formulas l.head.effects l.head.operators

-- Each table is as long as a task needs.
abbrev pub HasRoom : Lengths → Task → Type 0
HasRoom n t =
    RoomFor n (length t.initial) (length t.originals) (length t.formulas) (length t.effects)
    (length t.operators)
