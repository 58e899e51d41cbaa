-- The values of all formulas in a state, bottom-up, a byte each.
use Rattle.std.specs.Prelude.{ℕ, zero, suc, ◌<◌, ◌≡◌, Bool, true, false, cond, not, ◌&&◌, ◌||◌, List, [], ◌∷◌, ◌++◌, get_or, eqb}
use Rattle.std.specs.Bool.{beq}
use Rattle.task.specs.Table.{Row, FormulaKind, false_kind, true_kind, variable_kind, not_kind, and_kind, or_kind, implies_kind, equivalent_kind, unknown_formula, formula_kind}
use Rattle.task.specs.Rules.{no_row}
use Rattle.task.specs.Semantics.{holds}
use Rattle.task.specs.Tree.{formula_of}

-- a truth value as a byte
unfoldable pub bit : Bool → ℕ
bit b = cond b 1 0

-- the truth value that byte a of the values stands for
abbrev pub told : List ℕ → ℕ → Bool
told values a = eqb (get_or values a 0) 1

-- the value of a row in state s, from the values of lower rows
unfoldable pub kind_value : (s values : List ℕ) → FormulaKind → (a b : ℕ) → Bool
kind_value s values false_kind a b = false
kind_value s values true_kind a b = true
kind_value s values variable_kind a b = told s a
kind_value s values not_kind a b = not (told values a)
kind_value s values and_kind a b = told values a && told values b
kind_value s values or_kind a b = told values a || told values b
kind_value s values implies_kind a b = not (told values a) || told values b
kind_value s values equivalent_kind a b = beq (told values a) (told values b)
kind_value s values unknown_formula a b = false

unfoldable pub row_value : (s values : List ℕ) → Row → Bool
row_value s values r = kind_value s values (formula_kind r.kind) r.a r.b

-- the values of the rows below n, as a loop leaves them
unfoldable pub values : List ℕ → List Row → ℕ → List ℕ
values s rows zero = []
values s rows (suc n) = values s rows n ++ (bit (row_value s (values s rows n) (get_or rows n no_row)) ∷ [])

-- The bytes below i are the values of the rows below i.
pub record Values (s : List ℕ) (rows : List Row) (i : ℕ) (bytes : List ℕ) : Type 0 where
  pub at : (j : ℕ) → j < i → get_or bytes j 0 ≡ bit (holds s (formula_of rows j))
