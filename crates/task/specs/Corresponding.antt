-- Corresponding states (01, "Stepping and running"): each source variable has the same value in both, and each twin the opposite of its original's.
use Rattle.std.specs.Prelude.{ℕ, ◌+◌, ◌-◌, ◌≤◌, ◌<◌, ◌≡◌, List, length, get_or}

-- originals are the compiled task's twin rows; the twin of row k is the compiled variable behind the source's, length source + k
pub record Corresponding (originals source compiled : List ℕ) : Type 0 where
  pub bits : (v : ℕ) → v < length source → get_or source v 0 ≤ 1
  pub width : length compiled ≡ length source + length originals
  pub same : (v : ℕ) → v < length source → get_or compiled v 0 ≡ get_or source v 0
  pub opposite :
      (k : ℕ) → k < length originals → get_or compiled (length source + k) 0 ≡ 1 - get_or source (get_or originals k 0) 0
