-- A row on request, of any width: its words, or the empty part where it is not wholly inside the table. Assumes nothing.
use Prim.Native.Nat.{ℕ, ◌+◌, ◌*◌, ◌≤◌, ◌<◌}
use native.Mathlib.Omega.{arith}
use mathlib.Core.Path.{◌≡◌, ◌∙◌}
use mathlib.Core.List.{List, []}
use lib.ListN.{length, get_or, drop, length-drop}
use lib.Seq.{length-take-le, get_or-take, get_or-drop}
use borrow.Author.Tests.{le-leb, lt-leb}
use Rattle.task.specs.Table.{part}

module _ (w : ℕ) (words : List ℕ) (i : ℕ) where
  module _ (inside : w * i + w ≤ length words) where
    pub row_length : length (part w words i) ≡ w
    unfolding part
    row_length =
        rw (le-leb (w * i + w) (length words) inside)
        (length-take-le w (drop (w * i) words) (omega (arith, length-drop (w * i) words)))

    pub row_word : (k : ℕ) → k < w → get_or (part w words i) k 0 ≡ get_or words (w * i + k) 0
    unfolding part
    row_word k below =
        rw (le-leb (w * i + w) (length words) inside)
        (get_or-take w (drop (w * i) words) k 0 below ∙ get_or-drop (w * i) words k 0)

  pub no_part : length words < w * i + w → part w words i ≡ []
  unfolding part
  no_part past = rw (lt-leb (w * i + w) (length words) past)
