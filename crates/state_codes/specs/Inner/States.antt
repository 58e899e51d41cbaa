-- States of V bits and their codes.
use Rattle.std.specs.Prelude.{ℕ, zero, suc, ◌+◌, ◌*◌, ◌/◌, ◌%◌, ◌≤◌, ◌<◌, ◌≡◌, List, [], ◌∷◌, length, get_or}

pub record Bits (v : ℕ) (s : List ℕ) : Type 0 where
  pub size : length s ≡ v
  pub bits : (k : ℕ) → k < length s → get_or s k 0 ≤ 1

-- byte v counts 2^v
unfoldable pub code : List ℕ → ℕ
code [] = 0
code (b ∷ s) = b + 2 * code s

-- the state of v bits that has code n
unfoldable pub state_of : (v n : ℕ) → List ℕ
state_of zero n = []
state_of (suc v) n = n % 2 ∷ state_of v (n / 2)
