-- The initial state, packed and unpacked: each undoes the other. Assumes nothing.
use Prim.Native.Nat.{ℕ, zero, suc, ◌+◌, ◌-◌, ◌*◌, ◌/◌, ◌%◌, ◌^◌, ◌<◌, ◌≤◌}
use native.Mathlib.Nat.{pow-suc, mul_comm, div-div-eq-div-mul, zero-div, div-eq_of_lt, mod-eq_of_lt}
use native.Mathlib.Numerals.{add-one}
use native.Mathlib.Decide.{dec_lt}
use native.Mathlib.Omega.{arith}
use mathlib.Core.Path.{◌≡◌, refl, sym, ap, ◌∙◌}
use mathlib.Core.Bool.{Bool, true, false, ◌||◌}
use mathlib.Core.List.{List, [], ◌∷◌, ◌++◌}
use lib.ListN.{length, get_or, get_or-eq_default}
use lib.Seq.{ext_get_or}
use lib.Pow.{pow_pos, mod-pow-add, shr-shr}
use lib.Dec.{eqb}
use borrow.Author.Tests.{eqb-true, eqb-false, eq-eqb, ne_eqb}
use Rattle.task.specs.Bounded.{upto}
use Rattle.task.proofs.Bounded.{length_upto, getD_upto}
use Rattle.file_format.specs.Bytes.{number, bytes_for, packed}
use Rattle.file_format.specs.Reading.{bit_of, spare_clear}
use Rattle.file_format.proofs.Parse.{Bytes}
use Rattle.file_format.proofs.Fields.{double_pow}

pub byte_at : (bytes : List ℕ) (j : ℕ) → Bytes bytes → get_or bytes j 0 < 256
byte_at [] j b = omega arith
byte_at (x ∷ bytes) zero b = b.0
byte_at (x ∷ bytes) (suc j) b = byte_at bytes j b.1

-- each element is a bit
abbrev pub Bits : List ℕ → Type 0
Bits bits = (k : ℕ) → get_or bits k 0 ≤ 1

halved : (b n k : ℕ) → b ≤ 1 → (b + 2 * n) / 2 ^ suc k ≡ n / 2 ^ k
halved b n k h =
    let half : (b + 2 * n) / 2 ≡ n = omega arith in
    rw (pow-suc 2 k, mul_comm (2 ^ k) 2) (sym (div-div-eq-div-mul (b + 2 * n) 2 (2 ^ k)) ∙ ap (λ (x : ℕ). x / 2 ^ k) half)

-- bit k of a number made of bits
number_bit : (bits : List ℕ) (k : ℕ) → Bits bits → number bits / 2 ^ k % 2 ≡ get_or bits k 0
unfolding number
number_bit [] k h = ap (λ (x : ℕ). x % 2) (zero-div (2 ^ k))
number_bit (b ∷ bits) zero h = omega (arith, h 0)
number_bit (b ∷ bits) (suc k) h =
    ap (λ (x : ℕ). x % 2) (halved b (number bits) k (h 0)) ∙ number_bit bits k (λ i. h (suc i))

-- from bit n on all is 0
number_lt : (n : ℕ) (bits : List ℕ) → Bits bits → ((k : ℕ) → n ≤ k → get_or bits k 0 ≡ 0) → number bits < 2 ^ n
unfolding number
number_lt n [] h z = pow_pos n
number_lt zero (b ∷ bits) h z =
    let i : number bits < 1 = number_lt zero bits (λ k. h (suc k)) (λ k l. z (suc k) (omega arith)) in
    omega (arith, z 0 (omega arith))
number_lt (suc n) (b ∷ bits) h z =
    let i : number bits < 2 ^ n = number_lt n bits (λ k. h (suc k)) (λ k l. z (suc k) (omega arith)) in
    let d : 2 ^ suc n ≡ 2 * 2 ^ n = pow-suc 2 n ∙ mul_comm (2 ^ n) 2 in
    omega (arith, h 0)

number_more : (bits : List ℕ) (b : ℕ) → number (bits ++ (b ∷ [])) ≡ number bits + 2 ^ length bits * b
unfolding number
number_more [] b = omega arith
number_more (c ∷ bits) b =
    let i = number_more bits b in
    let d : 2 ^ suc (length bits) * b ≡ 2 * (2 ^ length bits * b) = double_pow (length bits) b in
    omega arith

-- the number of the lowest n bits of x
number_of_bits : (n x : ℕ) → number (upto n (λ k. x / 2 ^ k % 2)) ≡ x % 2 ^ n
unfolding number upto
number_of_bits zero x = omega arith
number_of_bits (suc n) x =
    number_more (upto n (λ k. x / 2 ^ k % 2)) (x / 2 ^ n % 2)
    ∙ rw (length_upto n (λ k. x / 2 ^ k % 2), number_of_bits n x, ← (add-one n))
    (last ∙ ap (λ (m : ℕ). x % 2 ^ m) (omega arith))
  where
    last : x % 2 ^ n + 2 ^ n * (x / 2 ^ n % 2) ≡ x % 2 ^ (1 + n)
    last =
        let e : x % 2 ^ (1 + n) ≡ x / 2 ^ n % 2 * 2 ^ n + x % 2 ^ n = mod-pow-add x 1 n in
        omega (arith, mul_comm (2 ^ n) (x / 2 ^ n % 2))

-- numbers of equal bits
pub upto_same : (n : ℕ) (f g : ℕ → ℕ) → ((k : ℕ) → k < n → f k ≡ g k) → upto n f ≡ upto n g
unfolding upto
upto_same zero f g h = refl
upto_same (suc n) f g h = rw (upto_same n f g (λ k l. h k (omega arith)), h n (omega arith))

bits_upto : (n : ℕ) (f : ℕ → ℕ) → ((k : ℕ) → f k ≤ 1) → Bits (upto n f)
bits_upto n f h k = go (dec_lt k n)
  where
    go : Dec (k < n) → get_or (upto n f) k 0 ≤ 1
    go (yes l) = rw (getD_upto n f k 0 l) (h k)
    go (no m) =
        let e : length (upto n f) ≤ k = omega (arith, length_upto n f) in
        rw (get_or-eq_default (upto n f) 0 e) (omega arith)

-- bits of a state, also past its end
pub bits_of_state : (state : List ℕ) → ((v : ℕ) → v < length state → get_or state v 0 ≤ 1) → Bits state
bits_of_state state h v = go (dec_lt v (length state))
  where
    go : Dec (v < length state) → get_or state v 0 ≤ 1
    go (yes l) = h v l
    go (no m) =
        let e : length state ≤ v = omega arith in
        rw (get_or-eq_default state 0 e) (omega arith)

-- the byte that holds the eight variables from 8 × j on
byte_number : List ℕ → ℕ → ℕ
byte_number state j = number (upto 8 (λ k. get_or state (8 * j + k) 0))

pub packed_length : (state : List ℕ) → length (packed state) ≡ bytes_for (length state)
unfolding packed
packed_length state = length_upto (bytes_for (length state)) (λ j. number (upto 8 (λ k. get_or state (8 * j + k) 0)))

packed_at : (state : List ℕ) (j : ℕ) → j < bytes_for (length state) → get_or (packed state) j 0 ≡ byte_number state j
unfolding packed byte_number
packed_at state j h = getD_upto (bytes_for (length state)) (λ j. number (upto 8 (λ k. get_or state (8 * j + k) 0))) j 0 h

packed_bit : (state : List ℕ) → Bits state → (v : ℕ) → v < length state → bit_of (packed state) v ≡ get_or state v 0
unfolding bit_of bytes_for byte_number
packed_bit state b v h =
    let bits = upto 8 (λ k. get_or state (8 * (v / 8) + k) 0) in
    let e : 8 * (v / 8) + v % 8 ≡ v = omega arith in
    ap (λ (x : ℕ). x / 2 ^ (v % 8) % 2) (packed_at state (v / 8) (omega arith))
    ∙ number_bit bits (v % 8) (bits_upto 8 (λ k. get_or state (8 * (v / 8) + k) 0) (λ k. b (8 * (v / 8) + k)))
    ∙ getD_upto 8 (λ k. get_or state (8 * (v / 8) + k) 0) (v % 8) 0 (omega arith)
    ∙ ap (λ (x : ℕ). get_or state x 0) e

-- a packed state has bytes
pub packed_byte : (state : List ℕ) → Bits state → (j : ℕ) → j < length (packed state) → get_or (packed state) j 0 < 256
unfolding byte_number
packed_byte state b j h =
    let f : ℕ → ℕ = λ k. get_or state (8 * j + k) 0 in
    let past : (k : ℕ) → 8 ≤ k → get_or (upto 8 f) k 0 ≡ 0 = λ k m. get_or-eq_default (upto 8 f) 0 (omega (arith, length_upto 8 f)) in
    rw (packed_at state j (rw (packed_length state) at h))
    (number_lt 8 (upto 8 f) (bits_upto 8 f (λ k. b (8 * j + k))) past)

-- unpacking undoes packing
pub unpacked_packed : (state : List ℕ) → Bits state → upto (length state) (bit_of (packed state)) ≡ state
unpacked_packed state b =
    ext_get_or 0 (upto (length state) (bit_of (packed state))) state (length_upto (length state) (bit_of (packed state)))
    (λ v h.
    let l : v < length state = rw (length_upto (length state) (bit_of (packed state))) at h in
    getD_upto (length state) (bit_of (packed state)) v 0 l ∙ packed_bit state b v l)

or_right : (a b : Bool) → b ≡ true → (a || b) ≡ true
or_right true b e = refl
or_right false b e = e

or_left : (a b : Bool) → a ≡ true → (a || b) ≡ true
or_left a b e = rw e

or_second : (a b : Bool) → (a || b) ≡ true → a ≡ false → b ≡ true
or_second a b e f = rw f at e

-- the byte behind the last whole one: from the first spare bit on all is 0
last_lt : (state : List ℕ) → Bits state → byte_number state (length state / 8) < 2 ^ (length state % 8)
unfolding byte_number
last_lt state b =
    number_lt (length state % 8) (upto 8 f) (bits_upto 8 f (λ k. b (8 * (length state / 8) + k))) (λ k h. zero_at k h (dec_lt k 8))
  where
    f : ℕ → ℕ
    f k = get_or state (8 * (length state / 8) + k) 0

    zero_at : (k : ℕ) → length state % 8 ≤ k → Dec (k < 8) → get_or (upto 8 f) k 0 ≡ 0
    zero_at k h (yes l) =
        let past : length state ≤ 8 * (length state / 8) + k = omega arith in
        getD_upto 8 f k 0 l ∙ get_or-eq_default state 0 past
    zero_at k h (no m) =
        let past : length (upto 8 f) ≤ k = omega (arith, length_upto 8 f) in
        get_or-eq_default (upto 8 f) 0 past

pub packed_clear : (state : List ℕ) → Bits state → spare_clear (packed state) (length state) ≡ true
unfolding spare_clear bytes_for
packed_clear state b = go (eqb (length state % 8) 0) refl
  where
    byte : ℕ
    byte = get_or (packed state) (length state / 8) 0

    go : (t : Bool) → eqb (length state % 8) 0 ≡ t → (eqb (length state % 8) 0 || eqb (byte / 2 ^ (length state % 8)) 0) ≡ true
    go true e = or_left (eqb (length state % 8) 0) (eqb (byte / 2 ^ (length state % 8)) 0) e
    go false e =
        let some : length state % 8 ≡ 0 → ⊥ = eqb-false (length state % 8) 0 e in
        let inside : length state / 8 < (length state + 7) / 8 = omega arith in
        let small : byte < 2 ^ (length state % 8) = rw (packed_at state (length state / 8) inside) (last_lt state b) in
        or_right (eqb (length state % 8) 0) (eqb (byte / 2 ^ (length state % 8)) 0)
        (eq-eqb (byte / 2 ^ (length state % 8)) 0 (div-eq_of_lt small))

-- packing undoes unpacking, of bytes whose spare bits are 0
module _ (bytes : List ℕ) (v : ℕ) (b : Bytes bytes) (size : length bytes ≡ bytes_for v) (clear : spare_clear bytes v ≡ true) where
  state_of : List ℕ
  state_of = upto v (bit_of bytes)

  -- no bit stands behind the last variable
  spare : (j k : ℕ) → j < bytes_for v → k < 8 → v ≤ 8 * j + k → get_or bytes j 0 / 2 ^ k % 2 ≡ 0
  unfolding spare_clear bytes_for
  spare j k hj hk past =
      let at : j ≡ v / 8 = omega arith in
      let some : v % 8 ≡ 0 → ⊥ = λ e. omega arith in
      let beyond : v % 8 ≤ k = omega arith in
      let none : get_or bytes (v / 8) 0 / 2 ^ (v % 8) ≡ 0 =
      eqb-true (get_or bytes (v / 8) 0 / 2 ^ (v % 8)) 0
      (or_second (eqb (v % 8) 0) (eqb (get_or bytes (v / 8) 0 / 2 ^ (v % 8)) 0) clear (ne_eqb (v % 8) 0 some))
      in
      let sum : v % 8 + (k - v % 8) ≡ k = omega arith in
      let shift : get_or bytes (v / 8) 0 / 2 ^ k ≡ 0 =
      ap (λ (n : ℕ). get_or bytes (v / 8) 0 / 2 ^ n) (sym sum)
      ∙ sym (shr-shr (get_or bytes (v / 8) 0) (v % 8) (k - v % 8))
      ∙ ap (λ (x : ℕ). x / 2 ^ (k - v % 8)) none
      ∙ zero-div (2 ^ (k - v % 8))
      in
      ap (λ (i : ℕ). get_or bytes i 0 / 2 ^ k % 2) at ∙ ap (λ (x : ℕ). x % 2) shift

  bit_at : (j k : ℕ) → j < bytes_for v → k < 8 → Dec (8 * j + k < v) → get_or state_of (8 * j + k) 0 ≡ get_or bytes j 0 / 2 ^ k % 2
  unfolding state_of bit_of
  bit_at j k hj hk (yes l) =
      let q : (8 * j + k) / 8 ≡ j = omega arith in
      let r : (8 * j + k) % 8 ≡ k = omega arith in
      getD_upto v (bit_of bytes) (8 * j + k) 0 l ∙ rw (q, r)
  bit_at j k hj hk (no m) =
      let past : v ≤ 8 * j + k = omega arith in
      let out : length (upto v (bit_of bytes)) ≤ 8 * j + k = rw (length_upto v (bit_of bytes)) past in
      get_or-eq_default (upto v (bit_of bytes)) 0 out ∙ sym (spare j k hj hk past)

  number_at : (j : ℕ) → j < bytes_for v → byte_number state_of j ≡ get_or bytes j 0
  unfolding byte_number
  number_at j h =
      ap number (upto_same 8 (λ k. get_or state_of (8 * j + k) 0) (λ k. get_or bytes j 0 / 2 ^ k % 2) (λ k l. bit_at j k h l (dec_lt (8 * j + k) v)))
      ∙ number_of_bits 8 (get_or bytes j 0)
      ∙ mod-eq_of_lt (byte_at bytes j b)

  pub packed_unpacked : packed (upto v (bit_of bytes)) ≡ bytes
  unfolding state_of
  packed_unpacked =
      ext_get_or 0 (packed state_of) bytes (len ∙ sym size)
      (λ j h.
      let l : j < bytes_for v = rw len at h in
      packed_at state_of j (rw (length_upto v (bit_of bytes)) l) ∙ number_at j l)
    where
      len : length (packed state_of) ≡ bytes_for v
      len = packed_length state_of ∙ ap bytes_for (length_upto v (bit_of bytes))
