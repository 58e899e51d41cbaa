-- The front of a table of words is the words of its first rows. Assumes nothing.
use Prim.Native.Nat.{ℕ, zero, suc, ◌+◌, ◌*◌, ◌≤◌}
use native.Mathlib.Nat.{mul-zero, mul-suc}
use native.Mathlib.Numerals.{add-one}
use native.Mathlib.Omega.{arith}
use mathlib.Core.Path.{◌≡◌, refl, sym, ap, ◌∙◌}
use mathlib.Core.List.{List, [], ◌∷◌, ◌++◌, append-nil}
use lib.ListN.{length, get_or, take, drop}
use lib.Seq.{take-add, drop-cons}
use Rattle.task.specs.Bounded.{upto}
use Rattle.task.specs.Table.{operator_width, row_at, operator_at}
use Rattle.task.specs.Words.{joined, row_words, operator_row_words, words_of, operator_words}
use Rattle.task.proofs.Words.{joined_append}

-- the words of a row that is inside
three_words : (t : List ℕ) (k : ℕ) → k + 3 ≤ length t → get_or t k 0 ∷ get_or t (k + 1) 0 ∷ get_or t (k + 2) 0 ∷ [] ≡ take 3 (drop k t)
three_words t k h =
    let two : k + 2 ≡ suc (suc k) = omega arith in
    rw (
      add-one k,
      two,
      drop-cons t k 0 (omega arith),
      drop-cons t (suc k) 0 (omega arith),
      drop-cons t (suc (suc k)) 0 (omega arith),
    )

four_words :
    (t : List ℕ) (k : ℕ)
    → k + 4 ≤ length t
    → get_or t k 0 ∷ get_or t (k + 1) 0 ∷ get_or t (k + 2) 0 ∷ get_or t (k + 3) 0 ∷ [] ≡ take 4 (drop k t)
four_words t k h =
    let two : k + 2 ≡ suc (suc k) = omega arith in
    let three : k + 3 ≡ suc (suc (suc k)) = omega arith in
    rw (
      add-one k,
      two,
      three,
      drop-cons t k 0 (omega arith),
      drop-cons t (suc k) 0 (omega arith),
      drop-cons t (suc (suc k)) 0 (omega arith),
      drop-cons t (suc (suc (suc k))) 0 (omega arith),
    )

-- rows of any sort, w words each
module _
    {A : Type 0} (f : A → List ℕ) (at : ℕ → A) (t : List ℕ) (w : ℕ)
    (words : (i : ℕ) → w * i + w ≤ length t → f (at i) ≡ take w (drop (w * i) t))
  where
    joined_front : (n : ℕ) → w * n ≤ length t → take (w * n) t ≡ joined f (upto n at)
    unfolding upto joined
    joined_front zero h = rw (mul-zero w) refl
    joined_front (suc n) h =
        let e : w * suc n ≡ w * n + w = omega (arith, mul-suc w n) in
        ap (λ (k : ℕ). take k t) e
        ∙ take-add (w * n) w t
        ∙ rw (joined_front n (omega arith), ← words n (omega arith))
        (sym
        (joined_append f (upto n at) (at n ∷ []) ∙ ap (λ (l : List ℕ). joined f (upto n at) ++ l) (append-nil (f (at n)))))

pub rows_front : (t : List ℕ) (n : ℕ) → 3 * n ≤ length t → take (3 * n) t ≡ words_of (upto n (row_at t))
unfolding words_of row_words row_at
rows_front t n h = joined_front row_words (row_at t) t 3 (λ i b. three_words t (3 * i) b) n h

pub operators_front : (t : List ℕ) (n : ℕ) → operator_width * n ≤ length t → take (operator_width * n) t ≡ operator_words (upto n (operator_at t))
unfolding operator_words operator_row_words operator_at
operators_front t n h = joined_front operator_row_words (operator_at t) t operator_width (λ i b. four_words t (operator_width * i) b) n h
