-- Laws of states of V bits: a code is below 2^V and tells the state, and each number below 2^V is the code of one. Assumes nothing.
use Prim.Native.Nat.{ℕ, zero, suc, ◌/◌, ◌%◌, ◌^◌, ◌≤◌, ◌<◌}
use native.Mathlib.Nat.{two-pow-succ, pow-zero, not-suc-le-zero}
use native.Mathlib.Omega.{arith}
use mathlib.Core.Path.{◌≡◌, refl, ap}
use mathlib.Core.List.{List, [], ◌∷◌}
use lib.ListN.{length, get_or}
use Rattle.state_codes.specs.Inner.States.{Bits, code, state_of}

rest_bits : {v b : ℕ} {s : List ℕ} → Bits (suc v) (b ∷ s) → Bits v s
rest_bits {v} {b} {s} x =
    let size = x.size in
    record { size = omega arith; bits = λ k below. x.bits (suc k) (omega arith) }

pub code_below : (v : ℕ) (s : List ℕ) → Bits v s → code s < 2 ^ v
unfolding code
code_below zero [] x = rw (pow-zero 2) (omega arith)
code_below (suc v) [] x = let size = x.size in absurd (omega arith)
code_below zero (b ∷ s) x = let size = x.size in absurd (omega arith)
code_below (suc v) (b ∷ s) x =
    let more = two-pow-succ v in
    let rest = code_below v s (rest_bits x) in
    let bit : b ≤ 1 = x.bits 0 (omega arith) in
    omega arith

pub code_tells : (v : ℕ) (s s' : List ℕ) → Bits v s → Bits v s' → code s ≡ code s' → s ≡ s'
unfolding code
code_tells v [] [] x y e = refl
code_tells v [] (b ∷ s') x y e = let p = x.size in let q = y.size in absurd (omega arith)
code_tells v (b ∷ s) [] x y e = let p = x.size in let q = y.size in absurd (omega arith)
code_tells zero (b ∷ s) (b' ∷ s') x y e = let p = x.size in absurd (omega arith)
code_tells (suc v) (b ∷ s) (b' ∷ s') x y e =
    let bit : b ≤ 1 = x.bits 0 (omega arith) in
    let bit' : b' ≤ 1 = y.bits 0 (omega arith) in
    let same : b ≡ b' = omega arith in
    let rest : s ≡ s' = code_tells v s s' (rest_bits x) (rest_bits y) (omega arith) in
    cc

-- each number below 2^V is the code of a state, and each state is that of its code
pub state_bits : (v n : ℕ) → Bits v (state_of v n)
unfolding state_of
state_bits zero n = record { size = refl; bits = λ k below. absurd (not-suc-le-zero below) }
state_bits (suc v) n =
    let rest = state_bits v (n / 2) in
    record { size = ap suc rest.size; bits = λ k below. at k below rest }
  where
    at : (k : ℕ) → k < suc (length (state_of v (n / 2))) → Bits v (state_of v (n / 2)) → get_or (n % 2 ∷ state_of v (n / 2)) k 0 ≤ 1
    at zero below rest = omega arith
    at (suc k) below rest = rest.bits k (omega arith)

pub code_of_state : (v n : ℕ) → n < 2 ^ v → code (state_of v n) ≡ n
unfolding state_of code
code_of_state zero n below = let one = rw (pow-zero 2) at below in omega arith
code_of_state (suc v) n below =
    let more = two-pow-succ v in
    let rest = code_of_state v (n / 2) (omega arith) in
    omega arith

pub state_of_code : (v : ℕ) (s : List ℕ) → Bits v s → state_of v (code s) ≡ s
state_of_code v s bits =
    code_tells v (state_of v (code s)) s (state_bits v (code s)) bits (code_of_state v (code s) (code_below v s bits))
