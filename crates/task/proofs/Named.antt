-- Which variables the first k twin rows name: the byte of a variable is 0 exactly if none of them does. Assumes nothing.
use Prim.Native.Nat.{ℕ, ◌+◌, ◌≤◌, ◌<◌}
use native.Mathlib.Numerals.{add-one}
use native.Mathlib.Omega.{arith}
use mathlib.Core.Path.{◌≡◌, refl, sym, ap, ◌∙◌}
use mathlib.Core.Bool.{Bool, true, false, not, and-true, and-false}
use mathlib.Core.List.{List}
use lib.ListN.{length, get_or, set, replicate, length-set, length-replicate, get_or-replicate}
use lib.Seq.{get_or-set_same, get_or-set_other}
use lib.Dec.{eqb}
use borrow.Author.Tests.{eqb-true, eqb-false, eq-eqb, ne_eqb}
use Rattle.task.specs.Bounded.{every}
use Rattle.task.specs.Check.{twin_kept}
use Rattle.task.proofs.Bounded.{every_same}
use Rattle.task.proofs.Refusals.{twin_again, twin_fine}

pub record NamedBy (twins : List ℕ) (k : ℕ) (named : List ℕ) : Type 0 where
  pub size : length named ≡ 512
  pub tells : (x : ℕ) → x < 512 → eqb (get_or named x 0) 0 ≡ every k (λ j. not (eqb (get_or twins j 0) x))

pub named_none : (twins : List ℕ) → NamedBy twins 0 (replicate {A = ℕ} 512 0)
unfolding every
named_none twins =
    record {
      size = length-replicate {A = ℕ} 512 0;
      tells = λ x h. ap (λ (n : ℕ). eqb n 0) (get_or-replicate {A = ℕ} 512 x 0 0 h) ∙ eq-eqb 0 0 refl;
    }

module _ (twins : List ℕ) (k : ℕ) (named : List ℕ) (m : NamedBy twins k named) where
  -- row k marks what it names
  pub named_more : get_or twins k 0 < 512 → NamedBy twins (k + 1) (set named (get_or twins k 0) 1)
  unfolding every
  named_more h =
      record {
        size = length-set named (get_or twins k 0) 1 ∙ m.size;
        tells = λ x l. go x l (eqb (get_or twins k 0) x) refl;
      }
    where
      go :
          (x : ℕ)
          → x < 512
          → (b : Bool)
          → eqb (get_or twins k 0) x ≡ b
          → eqb (get_or (set named (get_or twins k 0) 1) x 0) 0 ≡ every (k + 1) (λ j. not (eqb (get_or twins j 0) x))
      go x l true e =
          let same : x ≡ get_or twins k 0 = sym (eqb-true (get_or twins k 0) x e) in
          let one : get_or (set named (get_or twins k 0) 1) x 0 ≡ 1 =
          ap (λ (y : ℕ). get_or (set named (get_or twins k 0) 1) y 0) same ∙ get_or-set_same named (get_or twins k 0) 1 0 (omega (arith, m.size))
          in
          rw (one, add-one k, e) (ne_eqb 1 0 (λ q. omega arith) ∙ sym (and-false (every k (λ j. not (eqb (get_or twins j 0) x)))))
      go x l false e =
          let other : get_or (set named (get_or twins k 0) 1) x 0 ≡ get_or named x 0 =
          get_or-set_other named (get_or twins k 0) x 1 0 (λ q. eqb-false (get_or twins k 0) x e (sym q))
          in
          rw (other, add-one k, e) (m.tells x l ∙ sym (and-true (every k (λ j. not (eqb (get_or twins j 0) x)))))

  -- what stands in row k and behind it does not matter
  pub named_stored : (w : ℕ) → NamedBy (set twins k w) k named
  named_stored w =
      record {
        size = m.size;
        tells =
            λ x l.
            m.tells x l
            ∙ every_same k (λ j. not (eqb (get_or twins j 0) x)) (λ j. not (eqb (get_or (set twins k w) j 0) x))
            (λ j h. ap (λ (y : ℕ). not (eqb y x)) (sym (get_or-set_other twins k j w 0 (λ q. omega arith))));
      }

  -- row k's test
  module _ (bound : ℕ) (few : bound ≤ 512) (below : get_or twins k 0 < bound) where
    pub named_before : (get_or named (get_or twins k 0) 0 ≡ 0 → ⊥) → twin_kept bound twins k ≡ false
    named_before n = twin_again bound twins k (sym (m.tells (get_or twins k 0) (omega arith)) ∙ ne_eqb (get_or named (get_or twins k 0) 0) 0 n)

    pub named_now : get_or named (get_or twins k 0) 0 ≡ 0 → twin_kept bound twins k ≡ true
    named_now z = twin_fine bound twins k below (sym (m.tells (get_or twins k 0) (omega arith)) ∙ eq-eqb (get_or named (get_or twins k 0) 0) 0 z)
