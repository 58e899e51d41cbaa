-- Codes and states, byte by byte: the two loops. Assumes nothing.
use Prim.Native.Nat.{ℕ, suc, ◌+◌, ◌-◌, ◌*◌, ◌/◌, ◌%◌, ◌^◌, ◌≤◌, ◌<◌}
use native.Mathlib.Omega.{arith}
use mathlib.Core.Path.{◌≡◌, refl, sym, ap, ◌∙◌}
use mathlib.Core.List.{List}
use lib.Pow.{pow_mono}
use lib.ListN.{length, get_or, drop, length-drop}
use lib.Seq.{drop-cons, drop-length, get_or-drop, ext_get_or}
use mathlib.Core.List.{reverse}
use Rattle.std.proofs.lemmas.List.{get_or-reverse, length-reverse}
use Rattle.std.proofs.lemmas.Grind.{get_or_default_zero}
use Rattle.state_codes.specs.Inner.States.{Bits, code, state_of}
use Rattle.state_codes.proofs.Bits.{state_at}
use Rattle.state_codes.proofs.States.{code_below, state_bits}

-- the code of no byte, and of one byte more at the front
pub code_none : (s : List ℕ) (v : ℕ) → v ≡ length s → 0 ≡ code (drop v s)
unfolding code
code_none s v e = rw (e, drop-length s)

code_more : (s : List ℕ) (v x : ℕ) → 0 < v → v ≤ length s → x ≡ code (drop v s) → 2 * x + get_or s (v - 1) 0 ≡ code (drop (v - 1) s)
unfolding code
code_more s v x some h e =
    let q : suc (v - 1) ≡ v = omega arith in
    let d : code (drop (v - 1) s) ≡ get_or s (v - 1) 0 + 2 * code (drop (suc (v - 1)) s) = ap code (drop-cons s (v - 1) 0 (omega arith)) in
    let r : code (drop (suc (v - 1)) s) ≡ code (drop v s) = ap (λ (k : ℕ). code (drop k s)) q in
    omega arith

-- the byte that a walk from the end comes to behind k others
pub code_turn :
    (s : List ℕ) (k x b : ℕ)
    → (k < length (reverse s)) × (b ≡ get_or (reverse s) k b)
    → x ≡ code (drop (length s - k) s)
    → 2 * x + b ≡ code (drop (length s - (k + 1)) s)
code_turn s k x b h e =
    let l : k < length s = omega (arith, length-reverse s, h) in
    let here : length s - (k + 1) < length s = omega arith in
    let back : length s - 1 - k ≡ length s - (k + 1) = omega arith in
    let before : length s - k - 1 ≡ length s - (k + 1) = omega arith in
    let byte : b ≡ get_or s (length s - k - 1) 0 = h.1 ∙ get_or-reverse s k b l ∙ rw (back, before) (get_or_default_zero s (length s - (k + 1)) b here) in
    rw (byte, ← before) (code_more s (length s - k) x (omega arith) (omega arith) e)

-- it fits
module _ {s : List ℕ} (b : Bits (length s) s) (ten : length s ≤ 10) where
  pub code_fits : (v : ℕ) → code (drop v s) < 1024
  code_fits v =
      let low : code (drop v s) < 2 ^ length (drop v s) = code_below (length (drop v s)) (drop v s) bits in
      let few : length (drop v s) ≤ 10 = simp length-drop (omega arith) in
      let most : 2 ^ length (drop v s) ≤ 2 ^ 10 = pow_mono few in
      omega arith
    where
      bits : Bits (length (drop v s)) (drop v s)
      bits =
          record {
            size = refl;
            bits = λ k h.
                let l : v + k < length s = omega (arith, simp length-drop at h) in
                rw (get_or-drop v s k 0) (b.bits (v + k) l);
          }

-- The loop's invariant: the bytes below v are those of the code.
pub record Writing (code : ℕ) (before : List ℕ) (v : ℕ) (s : List ℕ) : Type 0 where
  pub same : length s ≡ length before
  pub inside : v ≤ length before
  pub known : (k : ℕ) → k < v → get_or s k 0 ≡ code / 2 ^ k % 2

pub written : {code v : ℕ} {before s : List ℕ} → Writing code before v s → length s ≤ v → s ≡ state_of (length before) code
written {code} {v} {before} {s} w h =
    ext_get_or 0 s (state_of (length before) code) (w.same ∙ sym (state_bits (length before) code).size)
    (λ k l. w.known k (omega arith) ∙ sym (state_at (length before) code k (omega (arith, w.same))))
