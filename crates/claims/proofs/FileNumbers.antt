-- The numbers that reading gives are 1 to 12 and 24: none is 0, and none is of those that a call gives behind reading. Assumes nothing.
use Prim.Native.Nat.{ℕ, ◌≤◌, ◌<◌}
use native.Mathlib.Omega.{arith}
use Rattle.file_format.proofs.Numbers.{Told, low, high}

pub told_some : {n : ℕ} → Told n → 1 ≤ n
told_some (low a b) = a
told_some (high e) = omega arith

pub told_apart : {n : ℕ} → Told n → 12 < n → n < 24 → ⊥
told_apart (low a b) p q = omega arith
told_apart (high e) p q = omega arith
