-- A loop that clears a table: the first i elements are 0, the others as they were. Assumes nothing.
use Prim.Native.Nat.{ℕ, ◌+◌, ◌≤◌, ◌<◌}
use native.Mathlib.Omega.{arith}
use mathlib.Core.Path.{◌≡◌, refl, ap, ◌∙◌}
use mathlib.Core.List.{List, ◌++◌, append-nil}
use lib.ListN.{length, drop, set, replicate, length-set}
use lib.Seq.{drop-length}
use borrow.Author.Fill.{fill_none, fill_more}

pub record Cleared (table now : List ℕ) (i : ℕ) : Type 0 where
  pub bound : i ≤ length table
  pub same : length now ≡ length table
  pub zeros : now ≡ replicate i 0 ++ drop i table

module _ (table : List ℕ) where
  pub cleared_none : Cleared table table 0
  cleared_none = record { bound = omega arith; same = refl; zeros = fill_none table 0 }

  pub cleared_more : (now : List ℕ) (i : ℕ) → Cleared table now i → i < length now → Cleared table (set now i 0) (i + 1)
  cleared_more now i c h =
      record {
        bound = omega (arith, c.same);
        same = length-set now i 0 ∙ c.same;
        zeros = ap (λ (l : List ℕ). set l i 0) c.zeros ∙ fill_more i 0 table (omega (arith, c.same));
      }

  pub cleared_all : (now : List ℕ) (i : ℕ) → Cleared table now i → length now ≤ i → now ≡ replicate (length table) 0
  cleared_all now i c h =
      let e : i ≡ length table = omega (arith, c.same, c.bound) in
      c.zeros ∙ rw (e, drop-length table) (append-nil (replicate (length table) 0))
