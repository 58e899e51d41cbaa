-- A positive formula that holds goes on holding where more variables are 1, and so does a positive effect condition. Assumes nothing.
use Prim.Native.Nat.{ℕ}
use mathlib.Core.Path.{◌≡◌, refl}
use mathlib.Core.Bool.{Bool, true, ◌||◌}
use mathlib.Core.List.{List}
use lib.ListN.{get_or}
use borrow.Author.Tests.{eqb-true, eq-eqb}
use Rattle.task.specs.Semantics.{Formula, falsum, verum, variable, negation, conjunction, disjunction, implication, equivalence, Atom, Effect, empty, atomic, both, under, holds, effcond}
use Rattle.task.proofs.Bounded.{and_left, and_right, and_both}
use Rattle.task.proofs.Marks.{or_left, or_right, or_cases}
use Rattle.normal_form.specs.Positive.{PositiveFormula, PositiveEffect}

either : (a b : Bool) {c d : Bool} → (a ≡ true → c ≡ true) → (b ≡ true → d ≡ true) → a || b ≡ true → c || d ≡ true
either a b {c} {d} f g e = or_cases a b (c || d ≡ true) e (λ h. or_left c d (f h)) (λ h. or_right c d (g h))

module _ (s s' : List ℕ) (more : (v : ℕ) → get_or s v 0 ≡ 1 → get_or s' v 0 ≡ 1) where
  pub formula_monotone : (p : Formula) → PositiveFormula p → holds s p ≡ true → holds s' p ≡ true
  unfolding holds
  formula_monotone falsum h e = e
  formula_monotone verum h e = refl
  formula_monotone (variable v) h e = eq-eqb (get_or s' v 0) 1 (more v (eqb-true (get_or s v 0) 1 e))
  formula_monotone (negation p) h e = absurd h
  formula_monotone (conjunction p q) h e =
      and_both (formula_monotone p h.0 (and_left (holds s p) (holds s q) e))
      (formula_monotone q h.1 (and_right (holds s p) (holds s q) e))
  formula_monotone (disjunction p q) h e =
      either (holds s p) (holds s q) (formula_monotone p h.0) (formula_monotone q h.1) e
  formula_monotone (implication p q) h e = absurd h
  formula_monotone (equivalence p q) h e = absurd h

  pub effect_monotone : (l : Atom) (e : Effect) → PositiveEffect e → effcond s l e ≡ true → effcond s' l e ≡ true
  unfolding effcond
  effect_monotone l empty h c = c
  effect_monotone l (atomic m) h c = c
  effect_monotone l (both e f) h c =
      either (effcond s l e) (effcond s l f) (effect_monotone l e h.0) (effect_monotone l f h.1) c
  effect_monotone l (under p e) h c =
      and_both (formula_monotone p h.0 (and_left (holds s p) (effcond s l e) c))
      (effect_monotone l e h.1 (and_right (holds s p) (effcond s l e) c))
