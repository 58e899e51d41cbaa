-- A row of a finite-domain table has no number exactly if it keeps its rule. Assumes nothing.
use Prim.Native.Nat.{ℕ, ◌<◌}
use mathlib.Core.Path.{◌≡◌, refl}
use mathlib.Core.Bool.{true, false, false≢true}
use mathlib.Core.List.{List}
use lib.ListN.{length, get_or}
use lib.Dec.{ltb}
use borrow.Author.Tests.{ltb-true, lt-ltb}
use Rattle.task.specs.Table.{Row, FormulaKind, false_kind, true_kind, variable_kind, not_kind, and_kind, or_kind, implies_kind, equivalent_kind, unknown_formula, EffectKind, empty_kind, set_kind, clear_kind, both_kind, under_kind, unknown_effect}
use Rattle.task.specs.Check.{unless, formula_words_kept, effect_words_kept}
use Rattle.task.proofs.RowRules.{formula_told, formula_passes, effect_told, effect_passes, passes, rest_of}
use Rattle.finite_domain.specs.Table.{finite_formula_kind, finite_effect_kind}
use Rattle.finite_domain.specs.Check.{value_kept, finite_formula_kept, formula_value_kept, finite_formula_number, finite_effect_kept, effect_value_kept, finite_effect_number}
use Rattle.finite_domain.specs.Rules.{ValueRule, FiniteFormulaRule, FiniteEffectRule}

-- the first v of the lent counts are the task's
module _
    (lent counts : List ℕ) (v : ℕ) (long : length counts ≡ v) (same : (a : ℕ) → a < v → get_or counts a 0 ≡ get_or lent a 0)
  where
    value_told : (a b : ℕ) → ltb a v ≡ true → value_kept lent a b ≡ true → ValueRule counts a b
    unfolding value_kept
    value_told a b p q =
        let h = ltb-true a v p in
        record { variable = rw long h; value = rw (same a h) (ltb-true b (get_or lent a 0) q) }

    variable_passes : (a b : ℕ) → ValueRule counts a b → ltb a v ≡ true
    variable_passes a b r = lt-ltb a v (rw long at r.variable)

    value_passes : (a b : ℕ) → ValueRule counts a b → value_kept lent a b ≡ true
    unfolding value_kept
    value_passes a b r =
        let h : a < v = rw long at r.variable in
        lt-ltb b (get_or lent a 0) (rw (same a h) at r.value)

    module _ (i : ℕ) where
      abbrev Formula_told : FormulaKind → (a b : ℕ) → ℕ
      Formula_told k a b = unless (finite_formula_kept v i k a b) 10 (unless (formula_value_kept lent k a b) 26 0)

      formula-kind-told : (k : FormulaKind) (a b : ℕ) → Formula_told k a b ≡ 0 → FiniteFormulaRule counts i k a b
      unfolding finite_formula_kept formula_value_kept
      formula-kind-told false_kind a b e = formula_told v i false_kind a b (passes (formula_words_kept v i false_kind a b) 9 0 e)
      formula-kind-told true_kind a b e = formula_told v i true_kind a b (passes (formula_words_kept v i true_kind a b) 9 0 e)
      formula-kind-told variable_kind a b e =
          let rest = unless (value_kept lent a b) 26 0 in
          value_told a b (passes (ltb a v) 9 rest e) (passes (value_kept lent a b) 25 0 (rest_of (ltb a v) 9 rest e))
      formula-kind-told not_kind a b e = formula_told v i not_kind a b (passes (formula_words_kept v i not_kind a b) 9 0 e)
      formula-kind-told and_kind a b e = formula_told v i and_kind a b (passes (formula_words_kept v i and_kind a b) 9 0 e)
      formula-kind-told or_kind a b e = formula_told v i or_kind a b (passes (formula_words_kept v i or_kind a b) 9 0 e)
      formula-kind-told implies_kind a b e =
          formula_told v i implies_kind a b (passes (formula_words_kept v i implies_kind a b) 9 0 e)
      formula-kind-told equivalent_kind a b e =
          formula_told v i equivalent_kind a b (passes (formula_words_kept v i equivalent_kind a b) 9 0 e)
      formula-kind-told unknown_formula a b e = false≢true (passes false 9 0 e)

      formula-kind-passes : (k : FormulaKind) (a b : ℕ) → FiniteFormulaRule counts i k a b → Formula_told k a b ≡ 0
      unfolding finite_formula_kept formula_value_kept
      formula-kind-passes false_kind a b r = rw (formula_passes v i false_kind a b r) refl
      formula-kind-passes true_kind a b r = rw (formula_passes v i true_kind a b r) refl
      formula-kind-passes variable_kind a b r = rw (variable_passes a b r, value_passes a b r) refl
      formula-kind-passes not_kind a b r = rw (formula_passes v i not_kind a b r) refl
      formula-kind-passes and_kind a b r = rw (formula_passes v i and_kind a b r) refl
      formula-kind-passes or_kind a b r = rw (formula_passes v i or_kind a b r) refl
      formula-kind-passes implies_kind a b r = rw (formula_passes v i implies_kind a b r) refl
      formula-kind-passes equivalent_kind a b r = rw (formula_passes v i equivalent_kind a b r) refl
      formula-kind-passes unknown_formula a b r = absurd r

      pub finite-formula-told :
          (r : Row)
          → finite_formula_number lent v i r ≡ 0
          → FiniteFormulaRule counts i (finite_formula_kind r.kind) r.a r.b
      unfolding finite_formula_number
      finite-formula-told r e = formula-kind-told (finite_formula_kind r.kind) r.a r.b e

      pub finite-formula-passes :
          (r : Row)
          → FiniteFormulaRule counts i (finite_formula_kind r.kind) r.a r.b
          → finite_formula_number lent v i r ≡ 0
      unfolding finite_formula_number
      finite-formula-passes r rule = formula-kind-passes (finite_formula_kind r.kind) r.a r.b rule

    module _ (f i : ℕ) where
      abbrev Effect_told : EffectKind → (a b : ℕ) → ℕ
      Effect_told k a b = unless (finite_effect_kept v f i k a b) 11 (unless (effect_value_kept lent k a b) 26 0)

      effect-kind-told : (k : EffectKind) (a b : ℕ) → Effect_told k a b ≡ 0 → FiniteEffectRule counts f i k a b
      unfolding finite_effect_kept effect_value_kept
      effect-kind-told empty_kind a b e = effect_told v f i empty_kind a b (passes (effect_words_kept v f i empty_kind a b) 10 0 e)
      effect-kind-told set_kind a b e =
          let rest = unless (value_kept lent a b) 26 0 in
          value_told a b (passes (ltb a v) 10 rest e) (passes (value_kept lent a b) 25 0 (rest_of (ltb a v) 10 rest e))
      effect-kind-told clear_kind a b e = false≢true (passes false 10 0 e)
      effect-kind-told both_kind a b e = effect_told v f i both_kind a b (passes (effect_words_kept v f i both_kind a b) 10 0 e)
      effect-kind-told under_kind a b e = effect_told v f i under_kind a b (passes (effect_words_kept v f i under_kind a b) 10 0 e)
      effect-kind-told unknown_effect a b e = false≢true (passes false 10 0 e)

      effect-kind-passes : (k : EffectKind) (a b : ℕ) → FiniteEffectRule counts f i k a b → Effect_told k a b ≡ 0
      unfolding finite_effect_kept effect_value_kept
      effect-kind-passes empty_kind a b r = rw (effect_passes v f i empty_kind a b r) refl
      effect-kind-passes set_kind a b r = rw (variable_passes a b r, value_passes a b r) refl
      effect-kind-passes clear_kind a b r = absurd r
      effect-kind-passes both_kind a b r = rw (effect_passes v f i both_kind a b r) refl
      effect-kind-passes under_kind a b r = rw (effect_passes v f i under_kind a b r) refl
      effect-kind-passes unknown_effect a b r = absurd r

      pub finite-effect-told :
          (r : Row)
          → finite_effect_number lent v f i r ≡ 0
          → FiniteEffectRule counts f i (finite_effect_kind r.kind) r.a r.b
      unfolding finite_effect_number
      finite-effect-told r e = effect-kind-told (finite_effect_kind r.kind) r.a r.b e

      pub finite-effect-passes :
          (r : Row)
          → FiniteEffectRule counts f i (finite_effect_kind r.kind) r.a r.b
          → finite_effect_number lent v f i r ≡ 0
      unfolding finite_effect_number
      finite-effect-passes r rule = effect-kind-passes (finite_effect_kind r.kind) r.a r.b rule
