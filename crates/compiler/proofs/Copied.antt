-- Rows copied to the front of a table that is all 0. Assumes nothing.
use Prim.Native.Nat.{ℕ, ◌+◌, ◌-◌, ◌*◌, ◌≤◌, ◌<◌}
use native.Mathlib.Omega.{arith}
use mathlib.Core.Path.{◌≡◌, sym, ap, ap₂, ◌∙◌}
use mathlib.Core.List.{List, ◌++◌}
use lib.ListN.{length, get_or, take, drop, replicate, get_or-append}
use lib.Seq.{length-take-le, length_front, get_or-append-add, get_or-take, get_or-drop}
use Rattle.task.specs.Bounded.{upto}
use Rattle.task.specs.Table.{Row, row_at}
use Rattle.task.specs.Words.{words_of, padded}
use Rattle.normal_form.proofs.Padded.{padded_rows}
use Rattle.formula_builder.proofs.Stored.{upto_same}
use Rattle.compiler.proofs.Cleared.{zeros}

module _ (built table : List ℕ) (n : ℕ) (there : 3 * n ≤ length built) (space : 3 * n ≤ length table) (blank : table ≡ replicate (length table) 0) where
  abbrev copied : List ℕ
  copied = take (3 * n) built ++ drop (3 * n) table

  front : length (take (3 * n) built) ≡ 3 * n
  front = length-take-le (3 * n) built there

  long : length (take (3 * n) built ++ drop (3 * n) table) ≡ length table
  long = length_front table (take (3 * n) built) (3 * n) (front ∙ sym (length-take-le (3 * n) table space))

  before : (j : ℕ) → j < 3 * n → get_or (take (3 * n) built ++ drop (3 * n) table) j 0 ≡ get_or built j 0
  before j h =
      get_or-append (take (3 * n) built) (drop (3 * n) table) 0 j (omega (arith, front)) ∙ get_or-take (3 * n) built j 0 h

  past : (j : ℕ) → 3 * n ≤ j → get_or (take (3 * n) built ++ drop (3 * n) table) j 0 ≡ 0
  past j h =
      let at : j ≡ length (take (3 * n) built) + (j - 3 * n) = omega (arith, front) in
      ap (λ (k : ℕ). get_or (take (3 * n) built ++ drop (3 * n) table) k 0) at
      ∙ get_or-append-add (take (3 * n) built) (drop (3 * n) table) (j - 3 * n) 0
      ∙ get_or-drop (3 * n) table (j - 3 * n) 0
      ∙ zeros table blank (3 * n + (j - 3 * n))

  same : (i : ℕ) → i < n → row_at (take (3 * n) built ++ drop (3 * n) table) i ≡ row_at built i
  unfolding row_at
  same i h =
      λ k.
      record {
        kind = before (3 * i) (omega arith) k;
        a = before (3 * i + 1) (omega arith) k;
        b = before (3 * i + 2) (omega arith) k;
      }

  pub copied_rows :
      take (3 * n) built ++ drop (3 * n) table ≡ padded (length table) (words_of (upto n (row_at built)))
  copied_rows =
      padded_rows copied n (omega (arith, long)) past
      ∙ ap₂ (λ (m : ℕ) (k : List Row). padded m (words_of k)) long (upto_same n (row_at copied) (row_at built) same)
