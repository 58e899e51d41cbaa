-- The words of a table are read back as its rows, whatever stands behind them; so a task that is lent is the task that its tables hold.
use Prim.Native.Nat.{ℕ, zero, suc, ◌+◌, ◌*◌, ◌<◌}
use native.Mathlib.Nat.{not-suc-le-zero, mul-zero, mul-suc}
use native.Mathlib.Omega.{arith}
use mathlib.Core.Path.{◌≡◌, refl, sym, ap, ◌∙◌}
use mathlib.Core.List.{List, [], ◌∷◌, ◌++◌, append_assoc, append-nil}
use lib.ListN.{length, get_or, length-append, get_or-append}
use lib.Seq.{ext_get_or, get_or-append-add, take-append_seam}
use Rattle.task.specs.Bounded.{upto}
use Rattle.task.specs.Table.{Row, Operator, operator_width, operator, Lent, Task, row_at, operator_at, task_of}
use Rattle.task.specs.Check.{refusal}
use Rattle.task.specs.Rules.{no_row, no_operator, Checked, LongEnough}
use Rattle.task.specs.Words.{joined, row_words, operator_row_words, words_of, operator_words, head_of, lent_of}
use Rattle.task.proofs.Bounded.{length_upto, getD_upto}
use Rattle.task.proofs.Kept.{rules_kept}

pub joined_append :
    {A : Type 0} (f : A → List ℕ) (xs ys : List A) → joined f (xs ++ ys) ≡ joined f xs ++ joined f ys
unfolding joined
joined_append f [] ys = refl
joined_append f (x ∷ xs) ys = rw (joined_append f xs ys) (sym (append_assoc (f x) (joined f xs) (joined f ys)))

-- Rows of w words.
module _ {A : Type 0} (f : A → List ℕ) (w : ℕ) (wide : (x : A) → length (f x) ≡ w) where
  length_joined : (xs : List A) → length (joined f xs) ≡ w * length xs
  unfolding joined
  length_joined [] = omega (arith, mul-zero w)
  length_joined (x ∷ xs) = length-append (f x) (joined f xs) ∙ omega (arith, wide x, length_joined xs, mul-suc w (length xs))

  joined_at :
      (xs : List A) (tail : List ℕ) (d : A) (i k n : ℕ)
      → i < length xs
      → k < w
      → n ≡ w * i + k
      → get_or (joined f xs ++ tail) n 0 ≡ get_or (f (get_or xs i d)) k 0
  unfolding joined
  joined_at [] tail d i k n h b e = absurd (not-suc-le-zero h)
  joined_at (x ∷ xs) tail d zero k n h b e =
      let here : n ≡ k = omega (arith, mul-zero w) in
      rw (append_assoc (f x) (joined f xs) tail, here)
      (get_or-append (f x) (joined f xs ++ tail) 0 k (omega (arith, wide x)))
  joined_at (x ∷ xs) tail d (suc i) k n h b e =
      let behind : n ≡ length (f x) + (w * i + k) = omega (arith, wide x, mul-suc w i) in
      rw (append_assoc (f x) (joined f xs) tail, behind)
      (get_or-append-add (f x) (joined f xs ++ tail) (w * i + k) 0
      ∙ joined_at xs tail d i k (w * i + k) (omega arith) b refl)

pub length_words : (rows : List Row) → length (words_of rows) ≡ 3 * length rows
unfolding words_of row_words
length_words rows = length_joined row_words 3 (λ r. refl) rows

pub length_operator_words : (operators : List Operator) → length (operator_words operators) ≡ operator_width * length operators
unfolding operator_words operator_row_words
length_operator_words operators = length_joined operator_row_words operator_width (λ o. refl) operators

-- an operator is what its words say
pub operator_by_words : {p e c r : ℕ} (o : Operator) → operator_row_words o ≡ p ∷ e ∷ c ∷ r ∷ [] → o ≡ operator p e c r
unfolding operator_row_words
operator_by_words {p} {e} {c} {r} o q =
    let a : o.precondition ≡ p = cc in
    let b : o.effect ≡ e = cc in
    let d : o.cost ≡ c = cc in
    let f : o.percent ≡ r = cc in
    λ j. operator (a j) (b j) (d j) (f j)

pub words_append : (rows more : List Row) → words_of (rows ++ more) ≡ words_of rows ++ words_of more
unfolding words_of
words_append rows more = joined_append row_words rows more

pub operator_words_append :
    (operators more : List Operator)
    → operator_words (operators ++ more) ≡ operator_words operators ++ operator_words more
unfolding operator_words
operator_words_append operators more = joined_append operator_row_words operators more

pub row_read :
    (rows : List Row) (tail : List ℕ) (i : ℕ)
    → i < length rows
    → row_at (words_of rows ++ tail) i ≡ get_or rows i no_row
unfolding row_at words_of row_words
row_read rows tail i h =
    λ j.
    record {
      kind = joined_at row_words 3 (λ r. refl) rows tail no_row i 0 (3 * i) h (omega arith) (omega arith) j;
      a = joined_at row_words 3 (λ r. refl) rows tail no_row i 1 (3 * i + 1) h (omega arith) refl j;
      b = joined_at row_words 3 (λ r. refl) rows tail no_row i 2 (3 * i + 2) h (omega arith) refl j;
    }

pub operator_read :
    (operators : List Operator) (tail : List ℕ) (i : ℕ)
    → i < length operators
    → operator_at (operator_words operators ++ tail) i ≡ get_or operators i no_operator
unfolding operator_at operator_words operator_row_words
operator_read operators tail i h =
    λ j.
    record {
      precondition = word 0 at (omega arith) (omega arith) j;
      effect = word 1 (at + 1) (omega arith) refl j;
      cost = word 2 (at + 2) (omega arith) refl j;
      percent = word 3 (at + 3) (omega arith) refl j;
    }
  where
    at : ℕ
    at = operator_width * i

    word :
        (k n : ℕ)
        → k < operator_width
        → n ≡ at + k
        → get_or (operator_words operators ++ tail) n 0 ≡ get_or (operator_row_words (get_or operators i no_operator)) k 0
    word k n b e = unfold operator_words operator_row_words in joined_at operator_row_words operator_width (λ o. refl) operators tail no_operator i k n h b e

-- a list is made again from its elements
upto_getD : {A : Type 0} (xs : List A) (f : ℕ → A) (d : A) → ((i : ℕ) → i < length xs → f i ≡ get_or xs i d) → upto (length xs) f ≡ xs
upto_getD xs f d same =
    ext_get_or d (upto (length xs) f) xs (length_upto (length xs) f) (λ i h.
    let b : i < length xs = rw (length_upto (length xs) f) at h in
    getD_upto (length xs) f i d b ∙ same i b)

pub rows_read : (rows : List Row) (tail : List ℕ) → upto (length rows) (row_at (words_of rows ++ tail)) ≡ rows
rows_read rows tail = upto_getD rows (row_at (words_of rows ++ tail)) no_row (row_read rows tail)

pub operators_read :
    (operators : List Operator) (tail : List ℕ)
    → upto (length operators) (operator_at (operator_words operators ++ tail)) ≡ operators
operators_read operators tail =
    upto_getD operators (operator_at (operator_words operators ++ tail)) no_operator (operator_read operators tail)

-- A task in tables that may be longer than it needs.
module _ (t : Task) (i w f e o : List ℕ) where
  unfoldable pub lent_in : Lent
  lent_in =
      record {
        head = head_of t;
        initial = t.initial ++ i;
        twins = t.originals ++ w;
        formulas = words_of t.formulas ++ f;
        effects = words_of t.effects ++ e;
        operators = operator_words t.operators ++ o;
      }

  pub task_in : task_of lent_in ≡ t
  unfolding task_of lent_in head_of
  task_in =
      λ j.
      record {
        initial = take-append_seam t.initial i j;
        originals = take-append_seam t.originals w j;
        formulas = rows_read t.formulas f j;
        effects = rows_read t.effects e j;
        operators = operators_read t.operators o j;
        goal = t.goal;
      }

  pub long_in : LongEnough lent_in
  unfolding lent_in head_of
  long_in =
      record {
        initial = omega (arith, length-append t.initial i);
        twins = omega (arith, length-append t.originals w);
        formulas = omega (arith, length-append (words_of t.formulas) f, length_words t.formulas);
        effects = omega (arith, length-append (words_of t.effects) e, length_words t.effects);
        operators = omega (arith, length-append (operator_words t.operators) o, length_operator_words t.operators);
      }

  pub kept_in : Checked t → refusal lent_in ≡ 0
  kept_in r = rules_kept lent_in long_in (rw task_in r)

pub lent_exactly : (t : Task) → lent_in t [] [] [] [] [] ≡ lent_of t
unfolding lent_in lent_of
lent_exactly t =
    λ j.
    record {
      head = head_of t;
      initial = append-nil t.initial j;
      twins = append-nil t.originals j;
      formulas = append-nil (words_of t.formulas) j;
      effects = append-nil (words_of t.effects) j;
      operators = append-nil (operator_words t.operators) j;
    }

pub task_of_lent : (t : Task) → task_of (lent_of t) ≡ t
task_of_lent t = ap task_of (sym (lent_exactly t)) ∙ task_in t [] [] [] [] []

pub lent_kept : (t : Task) → Checked t → refusal (lent_of t) ≡ 0
lent_kept t r = ap refusal (sym (lent_exactly t)) ∙ kept_in t [] [] [] [] [] r
