-- The order of building (01, "Building the compiled task"), said of what stands in the tables: which of two rows comes first, where both are new, and
-- which of two rows their join names first. A state is the rows and the twins that stand; whatever is added stands behind them (`Grows`).
use Rattle.std.specs.Prelude.{ℕ, zero, suc, ◌+◌, ◌≤◌, ◌<◌, ◌≡◌, ◌⊎◌, List, length, get_or}
use Rattle.task.specs.Table.{Row, Task}
use Rattle.task.specs.Rules.{no_row}
use Rattle.task.specs.Tree.{formula_of}
use Rattle.task.specs.Run.{operator_of, effect_of_operator}
use Rattle.normal_form.specs.Builder.{St, Build, start, Polarity, plain, negated}
use Rattle.normal_form.specs.Growth.{Grows}
use Rattle.normal_form.specs.Image.{image}
use Rattle.normal_form.specs.Operators.{Changes, changes_of, Built, built_operator}

-- Built from s, a step's row is new: its number is not below the number of rows that stand.
abbrev pub New : St → Build ℕ → Type 0
New s m = length s.rows ≤ (m s).value

-- Building that goes from s to `end` begins with `first` and goes on with `second`. With b before not a, "v0 implies v1" from the start breaks it: v1
-- is row 2, and v0's twin row 3.
pub record InOrder (s : St) (first second : Build ℕ) (end : St) : Type 0 where
  -- what first alone adds to s, the end has at the same places; and behind it what second adds then
  pub begins : Grows (first s).st end
  pub goes_on : Grows (second (first s).st).st end
  -- so of the two rows, where both are new, first's has the lower number: in the end and in every later state
  pub lower : New s first → New (first s).st second → (u : St) → Grows end u → (first u).value < (second u).value

-- How rows `left` and `right` are joined to row `whole`. "False and f", "f and false" give false; "true and f", "f and true" give f; nothing else
-- folds: it is a row that names left first.
pub record Joins (kind zeros ones : ℕ) (rows : List Row) (left right whole : ℕ) : Type 0 where
  pub zero_left : left ≡ zeros → whole ≡ zeros
  pub zero_right : right ≡ zeros → whole ≡ zeros
  pub one_left : left ≡ ones → whole ≡ right
  pub one_right : right ≡ ones → whole ≡ left
  pub own_row : 2 ≤ left → 2 ≤ right → get_or rows whole no_row ≡ record { kind = kind; a = left; b = right }

-- "and" is kind 4, with row 0 for false and row 1 for true; negated, "or" is kind 5, dually
abbrev pub JoinsBy : Polarity → List Row → (left right whole : ℕ) → Type 0
JoinsBy plain = Joins 4 0 1
JoinsBy negated = Joins 5 1 0

-- A join adds its row at most, and no twin; where a side is a constant it adds nothing.
pub record JoinAdds (left right : ℕ) (before after : St) : Type 0 where
  pub one_row : length after.rows ≤ length before.rows + 1
  pub no_twin : after.twins ≡ before.twins
  pub folded : (left < 2) ⊎ (right < 2) → after ≡ before

-- A joined pair is built left, right, then the join; both sides also where the join folds. With the right side left out there, "false and not v0" breaks
-- it: v0's twin is missing.
pub record PairInOrder (p : Polarity) (s : St) (left right whole : Build ℕ) : Type 0 where
  pub order : InOrder s left right (whole s).st
  pub adds : JoinAdds (left s).value (right (left s).st).value (right (left s).st).st (whole s).st
  pub joins : (u : St) → Grows (whole s).st u → JoinsBy p u.rows (left u).value (right u).value (whole u).value

-- the row that ends an effect condition: false; dually, true
abbrev pub nothing_under : Polarity → ℕ
nothing_under plain = 0
nothing_under negated = 1

-- An effect condition under a formula: that of the inner effect is built first. If it is false (dually true), so is the answer and nothing else is
-- built; else the formula's image is next, and the two are joined, the formula left. With the formula first, "(set v0 under v1) under v2" from the
-- start breaks it: v2 is row 2, and v1 row 3.
pub record UnderInOrder (p : Polarity) (s : St) (formula inner whole : Build ℕ) : Type 0 where
  pub begins : Grows (inner s).st (whole s).st
  pub ends : (inner s).value ≡ nothing_under p → whole s ≡ inner s
  pub order : ((inner s).value ≡ nothing_under p → ⊥) → InOrder s inner formula (whole s).st
  pub adds :
      ((inner s).value ≡ nothing_under p → ⊥)
      → JoinAdds (formula (inner s).st).value (inner s).value (formula (inner s).st).st (whole s).st
  pub joins :
      ((inner s).value ≡ nothing_under p → ⊥)
      → (u : St)
      → Grows (whole s).st u
      → JoinsBy p u.rows (formula u).value (inner u).value (whole u).value

-- A variable's changes: A, then D. If neither is row 0, then N, and D becomes "D and N", D left; else D stays and nothing else is built. With N
-- before D, "set v1 under v0, and clear v1 under v2" from the start breaks it: A is row 2, v0's twin row 3, and v2 row 4.
pub record ChangesInOrder (s : St) (A D N : Build ℕ) (whole : Build Changes) : Type 0 where
  pub order : InOrder s A D (whole s).st
  pub sets_under : (u : St) → Grows (whole s).st u → (whole u).value.adds ≡ (A u).value
  pub ends : ((A s).value ≡ 0) ⊎ ((D (A s).st).value ≡ 0) → (whole s).st ≡ (D (A s).st).st
  pub stays :
      ((A s).value ≡ 0) ⊎ ((D (A s).st).value ≡ 0)
      → (u : St)
      → Grows (whole s).st u
      → (whole u).value.deletes ≡ (D u).value
  pub conflict : ((A s).value ≡ 0 → ⊥) → ((D (A s).st).value ≡ 0 → ⊥) → InOrder (A s).st D N (whole s).st
  pub adds :
      ((A s).value ≡ 0 → ⊥)
      → ((D (A s).st).value ≡ 0 → ⊥)
      → let d = D (A s).st in
      JoinAdds d.value (N d.st).value (N d.st).st (whole s).st
  pub joins :
      ((A s).value ≡ 0 → ⊥)
      → ((D (A s).st).value ≡ 0 → ⊥)
      → (u : St)
      → Grows (whole s).st u
      → JoinsBy plain u.rows (D u).value (N u).value (whole u).value.deletes

-- the state behind step 0, step 1 .. step (k - 1), each from where the one before it ends
unfoldable pub behind : {A : Type 0} → (ℕ → Build A) → ℕ → St → St
behind step zero s = s
behind step (suc k) s = (step k (behind step k s)).st

-- An operator from s to `end`: its precondition, then each of n source variables upwards, each from where the one before it ends; nothing else.
pub record OperatorInOrder (n : ℕ) (s : St) (precondition : Build ℕ) (changes : ℕ → Build Changes) (end : St) : Type 0 where
  pub begins : Grows (precondition s).st end
  pub upwards : (v : ℕ) → v ≤ n → Grows (behind changes v (precondition s).st) end
  pub ends : end ≡ behind changes n (precondition s).st

-- the state in which variable v of operator o is built
unfoldable pub state_before : Task → (o v : ℕ) → St
state_before t o v =
    let n = length t.initial in
    let s = behind (built_operator t) o start in
    behind (changes_of n (effect_of_operator t o)) v
    (image n plain (formula_of t.formulas (operator_of t o).precondition) s).st

-- A task's building from s to `end`: its operators in order, then the goal; nothing else. With the goal first, a goal "not v1" and an operator that
-- requires "not v0" break it: v1's twin is met before v0's.
pub record TaskInOrder (operators : ℕ) (s : St) (operator : ℕ → Build Built) (goal : Build ℕ) (end : St) : Type 0 where
  pub in_order : (o : ℕ) → o ≤ operators → Grows (behind operator o s) end
  pub ends : end ≡ (goal (behind operator operators s)).st
