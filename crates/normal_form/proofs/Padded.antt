-- Tables with 0 in all past what they hold, of which rows and zeros are known. Assumes nothing.
use Prim.Native.Nat.{ℕ, zero, suc, ◌+◌, ◌-◌, ◌*◌, ◌≤◌}
use native.Mathlib.Omega.{arith}
use mathlib.Core.Path.{◌≡◌, sym, ap, ◌∙◌}
use mathlib.Core.List.{List, [], ◌++◌}
use lib.ListN.{length, get_or, take, drop, replicate, length-drop, length-replicate, get_or-replicate, take-append-drop}
use lib.Seq.{length-take-le, get_or-drop, ext_get_or}
use Rattle.task.specs.Bounded.{upto}
use Rattle.task.specs.Table.{row_at}
use Rattle.task.specs.Words.{joined, row_words, words_of, padded}
use Rattle.task.proofs.Fronts.{rows_front}
use Rattle.normal_form.specs.Assembly.{unassembled}

-- nothing held
pub padded_none : (n : ℕ) → padded n [] ≡ replicate n 0
unfolding padded
padded_none n =
    let e : n - 0 ≡ n = omega arith in
    rw e

-- words at the front of a table that was cleared
drop_zeros : (k n : ℕ) → ◌≡◌ {A = List ℕ} (drop k (replicate n 0)) (replicate (n - k) 0)
drop_zeros zero n =
    let e : n - 0 ≡ n = omega arith in
    rw e
drop_zeros (suc k) zero =
    let e : 0 - suc k ≡ 0 = omega arith in
    rw e
drop_zeros (suc k) (suc n) =
    let e : suc n - suc k ≡ n - k = omega arith in
    rw e (drop_zeros k n)

pub padded_over :
    (n : ℕ) (words : List ℕ) (k : ℕ) → length words ≡ k → words ++ drop k (replicate n 0) ≡ padded n words
unfolding padded
padded_over n words k e = rw e (ap (λ (l : List ℕ). words ++ l) (drop_zeros k n))

-- a cleared table holds the empty effect, row 0
pub padded_empty : (n : ℕ) → 3 ≤ n → replicate n 0 ≡ padded n (words_of unassembled.effects)
unfolding padded unassembled words_of joined row_words
padded_empty n h =
    let e : n ≡ suc (suc (suc (n - 3))) = omega arith in
    ap (λ (k : ℕ). replicate {A = ℕ} k 0) e

-- A table that is 0 from k on is what stands before k, padded.
module _ (t : List ℕ) (k : ℕ) (within : k ≤ length t) (past : (j : ℕ) → k ≤ j → get_or t j 0 ≡ 0) where
  zero_tail : drop k t ≡ replicate (length t - k) 0
  zero_tail =
      ext_get_or 0 (drop k t) (replicate (length t - k) 0)
      (length-drop k t ∙ sym (length-replicate {A = ℕ} (length t - k) 0))
      (λ i h.
      get_or-drop k t i 0
      ∙ past (k + i) (omega arith)
      ∙ sym (get_or-replicate {A = ℕ} (length t - k) i 0 0 (omega (arith, length-drop k t))))

  -- of the originals of twins
  pub padded_front : t ≡ padded (length t) (take k t)
  unfolding padded
  padded_front =
      rw (length-take-le k t within) (sym (take-append-drop k t) ∙ ap (λ (l : List ℕ). take k t ++ l) zero_tail)

-- a table of n rows that is 0 past them
pub padded_rows :
    (t : List ℕ) (n : ℕ)
    → 3 * n ≤ length t
    → ((j : ℕ) → 3 * n ≤ j → get_or t j 0 ≡ 0)
    → t ≡ padded (length t) (words_of (upto n (row_at t)))
padded_rows t n h past =
    padded_front t (3 * n) h past ∙ ap (padded (length t)) (rows_front t n h)
