-- The numbers in order: one law for each way out of the check. Each takes the tests before it as passed. Assumes nothing.
use Prim.Native.Nat.{ℕ, zero, suc}
use native.Mathlib.Nat.{suc-ne-zero}
use mathlib.Core.Path.{◌≡◌, refl, sym, ◌∙◌}
use mathlib.Core.Bool.{true, false}
use Rattle.task.specs.Bounded.{or_else}
use Rattle.task.specs.Check.{goal_kept}
use Rattle.finite_domain.specs.Table.{FiniteLent}
use Rattle.finite_domain.specs.Check.{finite_counts_kept, finite_long_enough, value_counts_kept, initial_values_kept, finite_formulas_number, finite_effects_number, finite_operators_number, finite_refusal}

-- the first of two numbers that is not 0
pub first_of : {n a : ℕ} (b : ℕ) → n ≡ a → (n ≡ 0 → ⊥) → n ≡ or_else a b
unfolding or_else
first_of {a = zero} b is some = absurd (some is)
first_of {a = suc a} b is some = is

pub second_of : {m n a b : ℕ} → m ≡ a → m ≡ 0 → n ≡ b → n ≡ or_else a b
unfolding or_else
second_of {a = zero} is none rest = rest
second_of {a = suc a} is none rest = absurd (suc-ne-zero a (sym is ∙ none))

pub first_zero : (a b : ℕ) → or_else a b ≡ 0 → a ≡ 0
unfolding or_else
first_zero zero b e = refl
first_zero (suc a) b e = e

pub second_zero : (a b : ℕ) → or_else a b ≡ 0 → b ≡ 0
unfolding or_else
second_zero zero b e = e
second_zero (suc a) b e = absurd (suc-ne-zero a e)

module _ (l : FiniteLent) where
  -- the number of the rows
  abbrev Rows_number : ℕ
  Rows_number = or_else (finite_formulas_number l) (or_else (finite_effects_number l) (finite_operators_number l))

  pub finite_6 : finite_counts_kept l.head ≡ false → 6 ≡ finite_refusal l
  unfolding finite_refusal
  finite_6 e = rw e

  module _ (a : finite_counts_kept l.head ≡ true) where
    pub finite_7 : goal_kept l.head ≡ false → 7 ≡ finite_refusal l
    unfolding finite_refusal
    finite_7 e = rw (a, e)

    module _ (b : goal_kept l.head ≡ true) where
      pub finite-5 : finite_long_enough l ≡ false → 5 ≡ finite_refusal l
      unfolding finite_refusal
      finite-5 e = rw (a, b, e)

      module _ (c : finite_long_enough l ≡ true) where
        pub finite-25 : value_counts_kept l ≡ false → 25 ≡ finite_refusal l
        unfolding finite_refusal
        finite-25 e = rw (a, b, c, e)

        module _ (d : value_counts_kept l ≡ true) where
          pub finite-26 : initial_values_kept l ≡ false → 26 ≡ finite_refusal l
          unfolding finite_refusal
          finite-26 e = rw (a, b, c, d, e)

          pub finite-rows : {n : ℕ} → initial_values_kept l ≡ true → n ≡ Rows_number → n ≡ finite_refusal l
          unfolding finite_refusal
          finite-rows e is = is ∙ rw (a, b, c, d, e)
