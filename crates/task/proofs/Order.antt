-- The numbers in order: one law for each way out of the check. Each takes the tests before it as passed. Assumes nothing.
use Prim.Native.Nat.{ℕ, zero, suc}
use mathlib.Core.Path.{◌≡◌, refl, sym, ap, ◌∙◌}
use mathlib.Core.Bool.{Bool, true, false, ◌&&◌}
use Rattle.task.specs.Bounded.{every, or_else, first_number}
use Rattle.task.specs.Table.{Lent}
use Rattle.task.specs.Check.{counts_kept, goal_kept, long_enough, initial_kept, twins_kept, formulas_kept, effects_kept, operators_number, unless, refusal}
use Rattle.task.proofs.RowRules.{passes}

-- a number that is not 0 is given for a test that fails
broken : (b : Bool) (number : ℕ) {n : ℕ} → n ≡ unless b number 0 → (n ≡ 0 → ⊥) → b ≡ false
broken true number e some = absurd (some e)
broken false number e some = refl

module _ (l : Lent) where
  pub refused_6 : counts_kept l.head ≡ false → 6 ≡ refusal l
  unfolding refusal
  refused_6 e = rw e

module _ (l : Lent) (a : counts_kept l.head ≡ true) where
  pub refused_7 : goal_kept l.head ≡ false → 7 ≡ refusal l
  unfolding refusal
  refused_7 e = rw (a, e)

module _ (l : Lent) (a : counts_kept l.head ≡ true) (b : goal_kept l.head ≡ true) where
  pub refused_5 : long_enough l ≡ false → 5 ≡ refusal l
  unfolding refusal
  refused_5 e = rw (a, b, e)

module _ (l : Lent) (a : counts_kept l.head ≡ true) (b : goal_kept l.head ≡ true) (c : long_enough l ≡ true) where
  pub refused_8 : initial_kept l ≡ false → 8 ≡ refusal l
  unfolding refusal
  refused_8 e = rw (a, b, c, e)

  pub refused_9 : initial_kept l ≡ true → twins_kept l ≡ false → 9 ≡ refusal l
  unfolding refusal
  refused_9 d e = rw (a, b, c, d, e)

  -- from here on each table has a number of its own, the first of its rows'
  module _ (d : initial_kept l ≡ true) (e : twins_kept l ≡ true) where
    pub refused_10 : {n : ℕ} → n ≡ unless (formulas_kept l) 10 0 → (n ≡ 0 → ⊥) → n ≡ refusal l
    unfolding refusal
    refused_10 is some = is ∙ rw (a, b, c, d, e, broken (formulas_kept l) 10 is some)

    module _ {m : ℕ} (f : m ≡ unless (formulas_kept l) 10 0) (none : m ≡ 0) where
      pub refused-11 : {n : ℕ} → n ≡ unless (effects_kept l) 11 0 → (n ≡ 0 → ⊥) → n ≡ refusal l
      unfolding refusal
      refused-11 is some = is ∙ rw (a, b, c, d, e, passes (formulas_kept l) 9 0 (sym f ∙ none), broken (effects_kept l) 11 is some)

      pub refused-12 :
          {k n : ℕ} → k ≡ unless (effects_kept l) 11 0 → k ≡ 0 → n ≡ operators_number l → n ≡ refusal l
      unfolding refusal
      refused-12 g free is =
          is ∙ rw (a, b, c, d, e, passes (formulas_kept l) 9 0 (sym f ∙ none), passes (effects_kept l) 10 0 (sym g ∙ free))

-- the rows of a table of one number
pub rows_one : (n : ℕ) (test : ℕ → Bool) (number : ℕ) → first_number n (λ i. unless (test i) number 0) ≡ unless (every n test) number 0
unfolding first_number every or_else
rows_one zero test number = refl
rows_one (suc n) test number =
    ap (λ (x : ℕ). or_else x (unless (test n) number 0)) (rows_one n test number) ∙ go (every n test) (test n) number
  where
    go : (a b : Bool) (number : ℕ) → or_else (unless a number 0) (unless b number 0) ≡ unless (a && b) number 0
    go true b number = refl
    go false true zero = refl
    go false false zero = refl
    go false b (suc number) = refl

-- a test of the code, `if !r`, said of what r is equal to
pub failed : {r t : Bool} → r ≡ t → r ≡ false → t ≡ false
failed {r} e h = sym e ∙ h

pub tested : {r t : Bool} → r ≡ t → r ≡ true → t ≡ true
tested {r} e h = sym e ∙ h
