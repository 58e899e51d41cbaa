-- The values of the formulas in a state, a byte each, bottom-up. Only the contracts of inner functions cite this file.
use Rattle.std.specs.Prelude.{ℕ, ◌+◌, ◌*◌, ◌≤◌, ◌<◌, ◌≡◌, Bool, true, false, not, ◌&&◌, ◌||◌, List, length, get_or, drop}
use Rattle.std.specs.Bool.{beq}
use Rattle.task.specs.Bounded.{upto}
use Rattle.task.specs.Table.{Row, row_at, FormulaKind, false_kind, true_kind, variable_kind, not_kind, and_kind, or_kind, implies_kind, equivalent_kind, unknown_formula}
use Rattle.task.specs.Inner.Rows.{FormulaKept}
use Rattle.task.specs.Inner.Values.{bit, Values}

-- the rows of a table of words
abbrev pub rows_of : ℕ → List ℕ → List Row
rows_of n words = upto n (row_at words)

-- what the kinds but "variable" make of the truth values of the formulas that they name; one that names fewer does not look at the others
unfoldable pub joins : FormulaKind → (p q : Bool) → Bool
joins false_kind p q = false
joins true_kind p q = true
joins variable_kind p q = false
joins not_kind p q = not p
joins and_kind p q = p && q
joins or_kind p q = p || q
joins implies_kind p q = not p || q
joins equivalent_kind p q = beq p q
joins unknown_formula p q = false

-- the same as a number: bit 2x + y for the bits x and y
unfoldable pub truth_table : FormulaKind → ℕ
truth_table k =
    bit (joins k false false) + 2 * bit (joins k false true) + 4 * bit (joins k true false) + 8 * bit (joins k true true)

-- what the value of row i asks: the row is there and keeps its rule, the state has bits, and so have the rows below
pub record RowReady (words : List ℕ) (i : ℕ) (s values : List ℕ) : Type 0 where
  pub there : 3 * i + 3 ≤ length words
  pub rule : FormulaKept (length s) i (row_at words i)
  pub state_bits : (v : ℕ) → v < length s → get_or s v 0 ≤ 1
  pub room : i ≤ length values
  pub value_bits : (j : ℕ) → j < i → get_or values j 0 ≤ 1

-- what the values of the rows from .. n - 1 ask: those of the rows below stand there already
pub record Valuable (words : List ℕ) (from n : ℕ) (s scratch : List ℕ) : Type 0 where
  pub there : 3 * n ≤ length words
  pub rule : (i : ℕ) → i < n → FormulaKept (length s) i (row_at words i)
  pub state_bits : (v : ℕ) → v < length s → get_or s v 0 ≤ 1
  pub room : n ≤ length scratch
  pub order : from ≤ n
  pub below : Values s (rows_of n words) from scratch

-- what they leave, every byte of it: the values of the rows below n, and behind them what stood there
pub record Valued (words : List ℕ) (n : ℕ) (s before after : List ℕ) : Type 0 where
  pub known : Values s (rows_of n words) n after
  pub behind : drop n after ≡ drop n before
