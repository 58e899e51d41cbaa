-- Where the words of the sets stand. Assumes nothing.
use Prim.Native.Nat.{ℕ, ◌+◌, ◌-◌, ◌*◌, ◌/◌, ◌%◌, ◌^◌, ◌≤◌, ◌<◌}
use native.Mathlib.Omega.{arith}
use native.Mathlib.Nat.{mul-le-mul, zero-div}
use mathlib.Core.Path.{◌≡◌, refl, sym, ◌∙◌}
use mathlib.Core.Bool.{Bool, true, false, cond}
use mathlib.Core.List.{List}
use lib.ListN.{get_or}
use lib.Dec.{eqb}
use lib.Pow.{shr-shr}
use borrow.Author.Tests.{eqb-true, eq-eqb}
use Rattle.formula_builder.specs.declared.Frame.{Frame}
use Rattle.atom_sets.specs.Inner.Sets.{set_words, set_place, sets_end, atom_bit, lacks, set_from, InSet}

-- a product that fits a word of the machine
pub product_small : (s e : ℕ) → s ≤ 64 → e ≤ 4096 → s * e ≤ 262144
product_small s e h g = mul-le-mul {n₂ = 64} {m₂ = 4096} h g

-- there is a word for each variable, and the words are whole fours
pub word_within : (frame : Frame) (v : ℕ) → v < frame.variables → v / 8 < set_words frame
unfolding set_words
word_within frame v h = omega (arith, h)

pub whole_fours : (frame : Frame) → set_words frame % 4 ≡ 0
unfolding set_words
whole_fours frame = omega arith

-- one row more is one set more
pub row_more : (s e n : ℕ) → e < n → s * e + s ≤ s * n
row_more s e n h =
    let x : s * (e + 1) ≤ s * n = mul-le-mul {n₁ = s} {m₁ = e + 1} {n₂ = s} {m₂ = n} (omega arith) (omega arith) in
    omega (arith, x)

-- the sets stand behind four words for each row
pub sets_behind : (frame : Frame) → 4 * frame.effects ≤ sets_end frame
unfolding sets_end
sets_behind frame = omega arith

-- the word of a variable is one of its row's set
pub place_before :
    (frame : Frame) (v e : ℕ)
    → v < frame.variables
    → e < frame.effects
    → (4 * frame.effects ≤ set_place frame v e) × (set_place frame v e < sets_end frame)
unfolding set_place sets_end
place_before frame v e h g =
    let x = row_more (set_words frame) e frame.effects g in
    (omega arith, omega (arith, x, word_within frame v h))

pub place_within : {frame : Frame} {v e : ℕ} → InSet frame v e → set_place frame v e < sets_end frame
place_within {frame} {v} {e} a = (place_before frame v e a.variable a.effect).1

-- the bits are read from the words of the sets alone
pub lacks_same :
    (frame : Frame) (notes notes' : List ℕ) (clear : Bool) (v e : ℕ)
    → v < frame.variables
    → e < frame.effects
    → ((j : ℕ) → 4 * frame.effects ≤ j → j < sets_end frame → get_or notes' j 0 ≡ get_or notes j 0)
    → lacks frame notes' clear v e ≡ lacks frame notes clear v e
unfolding lacks
lacks_same frame notes notes' clear v e h g same =
    let x = place_before frame v e h g in
    rw (same (set_place frame v e) x.0 x.1)

-- the code's word and bit are the definition's
pub lacks_by :
    (frame : Frame) (notes : List ℕ) (clear : Bool) (v e k bit : ℕ)
    → k ≡ set_place frame v e
    → bit ≡ atom_bit clear v
    → eqb (get_or notes k 0 / 2 ^ bit % 2) 0 ≡ lacks frame notes clear v e
unfolding lacks
lacks_by frame notes clear v e k bit q r = rw (q, r)

-- the code's end is the definition's
pub end_is : (frame : Frame) (s : ℕ) → s ≡ set_words frame → 4 * frame.effects + s * frame.effects ≡ sets_end frame
unfolding sets_end
end_is frame s q = rw q

-- the code's word is the definition's
pub from_by :
    (frame : Frame) (notes : List ℕ) (v e k : ℕ)
    → k ≡ set_place frame v e
    → get_or notes k 0 / 2 ^ (2 * (v % 8)) ≡ set_from frame notes v e
unfolding set_from
from_by frame notes v e k q = rw q

-- the lower two bits are 0
two_bits : (w : ℕ) → w % 2 ≡ 0 → w / 2 % 2 ≡ 0 → w % 4 ≡ 0
two_bits w a b =
    let q : w ≡ 4 * (w / 2 / 2) = omega arith in
    omega (arith, q)

-- What the word from v on says of the atoms.
module _ (frame : Frame) (notes : List ℕ) (v e : ℕ) where
  -- an atom of v's word, d bits above v's lowest
  lacks_above :
      (clear : Bool) (u d : ℕ)
      → u / 8 ≡ v / 8
      → atom_bit clear u ≡ 2 * (v % 8) + d
      → lacks frame notes clear u e ≡ eqb (set_from frame notes v e / 2 ^ d % 2) 0
  unfolding lacks set_from set_place
  lacks_above clear u d q b =
      let w = get_or notes (4 * frame.effects + (set_words frame * e + v / 8)) 0 in
      rw (q, b, ← shr-shr w (2 * (v % 8)) d)

  -- if it is 0, v and the later variables of the word have none
  pub none_from :
      set_from frame notes v e ≡ 0
      → (clear : Bool) (u : ℕ)
      → v ≤ u
      → u / 8 ≡ v / 8
      → lacks frame notes clear u e ≡ true
  unfolding atom_bit
  none_from z clear u h q =
      let d = 2 * (u % 8 - v % 8) + cond clear 1 0 in
      lacks_above clear u d q (omega arith) ∙ rw (z, zero-div (2 ^ d)) refl

  -- the lower two bits are v's
  at_lowest : (clear : Bool) → lacks frame notes clear v e ≡ eqb (set_from frame notes v e / 2 ^ cond clear 1 0 % 2) 0
  unfolding atom_bit
  at_lowest clear = lacks_above clear v (cond clear 1 0) refl refl

  pub none_lowest : set_from frame notes v e % 4 ≡ 0 → (clear : Bool) → lacks frame notes clear v e ≡ true
  none_lowest z false = at_lowest false ∙ eq-eqb (set_from frame notes v e / 1 % 2) 0 (omega arith)
  none_lowest z true = at_lowest true ∙ eq-eqb (set_from frame notes v e / 2 % 2) 0 (omega arith)

  pub some_lowest : (set_from frame notes v e % 4 ≡ 0 → ⊥) → ((clear : Bool) → lacks frame notes clear v e ≡ true) → ⊥
  some_lowest n all =
      let a = eqb-true (set_from frame notes v e / 1 % 2) 0 (sym (at_lowest false) ∙ all false) in
      let b = eqb-true (set_from frame notes v e / 2 % 2) 0 (sym (at_lowest true) ∙ all true) in
      n (two_bits (set_from frame notes v e) (omega (arith, a)) b)
