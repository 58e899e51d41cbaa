-- Bits of numbers: of unions, differences, powers and parts; and of the state of a code. Assumes nothing.
use Prim.Native.Nat.{ℕ, zero, suc, ◌+◌, ◌-◌, ◌*◌, ◌/◌, ◌%◌, ◌^◌, ◌≤◌, ◌<◌, max, min}
use native.Mathlib.Nat.{two-pow-succ, not-suc-le-zero, one-mul}
use native.Mathlib.Omega.{arith}
use native.Mathlib.Decide.{dec_lt}
use mathlib.Core.Path.{◌≡◌, sym, ap, ◌∙◌}
use lib.Bits.{bit_and, bit_or, bit_xor, differ, and_shr, and_step, or_shr, or_step, xor_shr, xor_step}
use lib.Pow.{shl-shr, shr-shr, shr_lt, pow-lt, pow-add, field, mod-mod-pow}
use lib.ListN.{get_or}
use Rattle.state_codes.specs.Inner.States.{state_of}

lowest : (x r y : ℕ) → x ≡ r * 2 + y → y ≤ 1 → x % 2 ≡ y
lowest x r y e h = omega arith

-- of a union the greater bit, of a common part the lesser
pub or_bit : (x y k : ℕ) → bit_or x y / 2 ^ k % 2 ≡ max (x / 2 ^ k % 2) (y / 2 ^ k % 2)
or_bit x y k =
    lowest (bit_or x y / 2 ^ k) (bit_or (x / 2 ^ k / 2) (y / 2 ^ k / 2)) (max (x / 2 ^ k % 2) (y / 2 ^ k % 2))
    (or_shr x y k ∙ or_step (x / 2 ^ k) (y / 2 ^ k))
    (omega arith)

pub and_bit : (x y k : ℕ) → bit_and x y / 2 ^ k % 2 ≡ min (x / 2 ^ k % 2) (y / 2 ^ k % 2)
and_bit x y k =
    lowest (bit_and x y / 2 ^ k) (bit_and (x / 2 ^ k / 2) (y / 2 ^ k / 2)) (min (x / 2 ^ k % 2) (y / 2 ^ k % 2))
    (and_shr x y k ∙ and_step (x / 2 ^ k) (y / 2 ^ k))
    (omega arith)

differ_small : (a b : ℕ) → a ≤ 1 → b ≤ 1 → differ a b ≤ 1
differ_small zero b h l = l
differ_small (suc zero) zero h l = omega arith
differ_small (suc zero) (suc zero) h l = omega arith
differ_small (suc (suc a)) b h l = absurd (omega arith)
differ_small (suc zero) (suc (suc b)) h l = absurd (omega arith)

pub xor_bit : (x y k : ℕ) → bit_xor x y / 2 ^ k % 2 ≡ differ (x / 2 ^ k % 2) (y / 2 ^ k % 2)
xor_bit x y k =
    lowest (bit_xor x y / 2 ^ k) (bit_xor (x / 2 ^ k / 2) (y / 2 ^ k / 2)) (differ (x / 2 ^ k % 2) (y / 2 ^ k % 2))
    (xor_shr x y k ∙ xor_step (x / 2 ^ k) (y / 2 ^ k))
    (differ_small (x / 2 ^ k % 2) (y / 2 ^ k % 2) (omega arith) (omega arith))

-- a power of 2 has one bit
pub power_bit : (a : ℕ) → 2 ^ a / 2 ^ a % 2 ≡ 1
power_bit a =
    let e : 2 ^ a / 2 ^ a ≡ 1 = ap (λ (x : ℕ). x / 2 ^ a) (sym (one-mul (2 ^ a))) ∙ shl-shr 1 a in
    omega arith

pub power_bits : (a k : ℕ) → (k ≡ a → ⊥) → 2 ^ a / 2 ^ k % 2 ≡ 0
power_bits a k ne = go (dec_lt k a)
  where
    go : Dec (k < a) → 2 ^ a / 2 ^ k % 2 ≡ 0
    go (yes h) =
        let d : a ≡ suc (a - k - 1) + k = omega arith in
        let e : 2 ^ a ≡ 2 ^ suc (a - k - 1) * 2 ^ k = ap (λ (x : ℕ). 2 ^ x) d ∙ pow-add 2 (suc (a - k - 1)) k in
        let q : 2 ^ a / 2 ^ k ≡ 2 ^ suc (a - k - 1) = ap (λ (x : ℕ). x / 2 ^ k) e ∙ shl-shr (2 ^ suc (a - k - 1)) k in
        omega (arith, q, two-pow-succ (a - k - 1))
    go (no h) =
        let q : 2 ^ a / 2 ^ k < 1 = shr_lt 0 k (pow-lt (omega arith)) in
        omega arith

-- the bits of a word's halves
pub high_bit : (m k : ℕ) → m / 65536 / 2 ^ k % 2 ≡ m / 2 ^ (16 + k) % 2
high_bit m k = ap (λ (x : ℕ). x % 2) (shr-shr m 16 k)

pub low_bit : (m k : ℕ) → k < 16 → m % 65536 / 2 ^ k % 2 ≡ m / 2 ^ k % 2
low_bit m k h =
    let d : 16 ≡ 16 - k + k = omega arith in
    let e : 16 - k ≡ 15 - k + 1 = omega arith in
    ap (λ (x : ℕ). m % 2 ^ x / 2 ^ k % 2) d
    ∙ ap (λ (x : ℕ). x % 2) (field m (16 - k) k)
    ∙ ap (λ (x : ℕ). m / 2 ^ k % 2 ^ x % 2) e
    ∙ mod-mod-pow (m / 2 ^ k) (15 - k) 1

one_add : (k : ℕ) → 1 + k ≡ suc k
one_add k = omega arith

-- the bits of a state
pub state_at : (v n k : ℕ) → k < v → get_or (state_of v n) k 0 ≡ n / 2 ^ k % 2
unfolding state_of
state_at zero n k h = absurd (not-suc-le-zero h)
state_at (suc v) n zero h = omega arith
state_at (suc v) n (suc k) h = state_at v (n / 2) k (omega arith) ∙ ap (λ (x : ℕ). x % 2) (shr-shr n 1 k) ∙ ap (λ (x : ℕ). n / 2 ^ x % 2) (one_add k)
