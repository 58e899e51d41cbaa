-- The values of all formulas in a state, bottom-up, a byte each: what a loop over the rows leaves agrees with `holds`.
use Prim.Native.Nat.{ℕ, zero, suc, ◌+◌, ◌≤◌, ◌<◌}
use native.Mathlib.Nat.{not-suc-le-zero}
use native.Mathlib.Numerals.{add-one}
use native.Mathlib.Omega.{arith}
use native.Mathlib.Decide.{dec_lt}
use mathlib.Core.Path.{◌≡◌, refl, sym, ap, ap₂, ◌∙◌}
use mathlib.Core.Bool.{Bool, true, false, not, ◌&&◌, ◌||◌, beq}
use mathlib.Core.List.{List, [], ◌∷◌, ◌++◌}
use lib.ListN.{length, get_or, set, length-append, get_or-append}
use lib.Seq.{get_or_at, get_or-set_same, get_or-set_other}
use lib.Dec.{eqb}
use Rattle.task.specs.Table.{Row, FormulaKind, false_kind, true_kind, variable_kind, not_kind, and_kind, or_kind, implies_kind, equivalent_kind, unknown_formula, formula_kind}
use Rattle.task.specs.Rules.{no_row, FormulaRule}
use Rattle.task.specs.Semantics.{Formula, holds}
use Rattle.task.specs.Tree.{formula_node, formula_of}
use Rattle.task.proofs.Trees.{formula_unfolds}
use Rattle.task.specs.Inner.Rows.{FormulasDown}
use Rattle.task.specs.Inner.Values.{bit, told, kind_value, row_value, values, Values}

pub told_bit : (b : Bool) → eqb (bit b) 1 ≡ b
unfolding bit
told_bit true = refl
told_bit false = refl

pub bit_small : (b : Bool) → bit b ≤ 1
unfolding bit
bit_small true = omega arith
bit_small false = omega arith

pub value_told :
    {s : List ℕ} {rows : List Row} {i : ℕ} {bytes : List ℕ}
    → Values s rows i bytes
    → (j : ℕ)
    → j < i
    → told bytes j ≡ holds s (formula_of rows j)
value_told {s} {rows} v j h = ap (λ (x : ℕ). eqb x 1) (v.at j h) ∙ told_bit (holds s (formula_of rows j))

kind_value_holds :
    (v i : ℕ) (s bytes : List ℕ) (k : FormulaKind) (a b : ℕ) (p q : Formula)
    → FormulaRule v i k a b
    → (a < i → told bytes a ≡ holds s p)
    → (b < i → told bytes b ≡ holds s q)
    → kind_value s bytes k a b ≡ holds s (formula_node k a p q)
unfolding kind_value holds formula_node
kind_value_holds v i s bytes false_kind a b p q r left right = refl
kind_value_holds v i s bytes true_kind a b p q r left right = refl
kind_value_holds v i s bytes variable_kind a b p q r left right = refl
kind_value_holds v i s bytes not_kind a b p q r left right = ap not (left r.0)
kind_value_holds v i s bytes and_kind a b p q r left right = ap₂ ◌&&◌ (left r.0) (right r.1)
kind_value_holds v i s bytes or_kind a b p q r left right = ap₂ ◌||◌ (left r.0) (right r.1)
kind_value_holds v i s bytes implies_kind a b p q r left right =
    ap₂ (λ x y. not x || y) (left r.0) (right r.1)
kind_value_holds v i s bytes equivalent_kind a b p q r left right = ap₂ beq (left r.0) (right r.1)
kind_value_holds v i s bytes unknown_formula a b p q r left right = absurd r

module _ (v : ℕ) (rows : List Row) (down : FormulasDown v rows) (s : List ℕ) where
  pub value_step :
      (i : ℕ) (bytes : List ℕ)
      → i < length rows
      → Values s rows i bytes
      → row_value s bytes (get_or rows i no_row) ≡ holds s (formula_of rows i)
  unfolding row_value
  value_step i bytes h so_far =
      let r = get_or rows i no_row in
      kind_value_holds v i s bytes (formula_kind r.kind) r.a r.b (formula_of rows r.a) (formula_of rows r.b)
      (down.row i h) (λ l. value_told so_far r.a l) (λ l. value_told so_far r.b l)
      ∙ ap (holds s) (sym (formula_unfolds v rows down i h))

-- A loop's invariant: none at first, and one more.
pub values_none : (s : List ℕ) (rows : List Row) (bytes : List ℕ) → Values s rows 0 bytes
values_none s rows bytes = record { at = λ j h. absurd (not-suc-le-zero h) }

pub values_one_more :
    (s : List ℕ) (rows : List Row) (i : ℕ) (before after : List ℕ)
    → Values s rows i before
    → ((j : ℕ) → j < i → get_or after j 0 ≡ get_or before j 0)
    → get_or after i 0 ≡ bit (holds s (formula_of rows i))
    → Values s rows (i + 1) after
values_one_more s rows i before after so_far same now = record { at = at }
  where
    at : (j : ℕ) → j < i + 1 → get_or after j 0 ≡ bit (holds s (formula_of rows j))
    at j h = go (dec_lt j i)
      where
        go : Dec (j < i) → get_or after j 0 ≡ bit (holds s (formula_of rows j))
        go (yes l) = same j l ∙ so_far.at j l
        go (no m) = let e : j ≡ i = omega arith in rw e now

pub length_values : (s : List ℕ) (rows : List Row) (n : ℕ) → length (values s rows n) ≡ n
unfolding values
length_values s rows zero = refl
length_values s rows (suc n) =
    let now = bit (row_value s (values s rows n) (get_or rows n no_row)) in
    length-append (values s rows n) (now ∷ []) ∙ omega (arith, length_values s rows n)

module _ (v : ℕ) (rows : List Row) (down : FormulasDown v rows) (s : List ℕ) where
  -- a loop that stores row i's value at byte i
  pub values_stored :
      (i : ℕ) (bytes : List ℕ)
      → i < length rows
      → i < length bytes
      → Values s rows i bytes
      → Values s rows (i + 1) (set bytes i (bit (row_value s bytes (get_or rows i no_row))))
  values_stored i bytes h room so_far =
      let now = bit (row_value s bytes (get_or rows i no_row)) in
      values_one_more s rows i bytes (set bytes i now) so_far
      (λ j l. get_or-set_other bytes i j now 0 (λ e. omega arith))
      (get_or-set_same bytes i now 0 room ∙ ap bit (value_step v rows down s i bytes h so_far))

  pub values_agree : (n : ℕ) → n ≤ length rows → Values s rows n (values s rows n)
  unfolding values
  values_agree zero h = values_none s rows []
  values_agree (suc n) h =
      let before = values s rows n in
      let so_far = values_agree n (omega arith) in
      let now = bit (row_value s before (get_or rows n no_row)) in
      rw (← add-one n)
      (values_one_more s rows n before (before ++ (now ∷ [])) so_far
      (λ j l. get_or-append before (now ∷ []) 0 j (rw (length_values s rows n) l))
      (get_or_at before now [] 0 n (length_values s rows n) ∙ ap bit (value_step v rows down s n before (omega arith) so_far)))
