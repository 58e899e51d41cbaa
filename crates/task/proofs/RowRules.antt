-- The test of one row passes exactly if the row keeps its rule.
use Prim.Native.Nat.{ℕ, suc, ◌<◌}
use native.Mathlib.Nat.{suc-ne-zero}
use mathlib.Core.Path.{◌≡◌, refl}
use mathlib.Core.Bool.{Bool, true, false, ◌&&◌, false≢true}
use lib.Dec.{leb, ltb, eqb}
use borrow.Author.Tests.{leb-true, ltb-true, eqb-true, le-leb, lt-ltb, eq-eqb}
use Rattle.task.specs.Table.{Operator, FormulaKind, false_kind, true_kind, variable_kind, not_kind, and_kind, or_kind, implies_kind, equivalent_kind, unknown_formula, EffectKind, empty_kind, set_kind, clear_kind, both_kind, under_kind, unknown_effect}
use Rattle.task.specs.Check.{unless, formula_words_kept, effect_words_kept, operator_kept, percent_kept, operator_number}
use Rattle.task.specs.Rules.{FormulaRule, EffectRule, OperatorRule}
use Rattle.task.proofs.Bounded.{and_left, and_right, and_both}

-- both words are 0
none_told : (a b : ℕ) → (eqb a 0 && eqb b 0) ≡ true → (a ≡ 0) × (b ≡ 0)
none_told a b e =
    (eqb-true a 0 (and_left (eqb a 0) (eqb b 0) e), eqb-true b 0 (and_right (eqb a 0) (eqb b 0) e))

none_passes : (a b : ℕ) → (a ≡ 0) × (b ≡ 0) → (eqb a 0 && eqb b 0) ≡ true
none_passes a b r = and_both (eq-eqb a 0 r.0) (eq-eqb b 0 r.1)

-- the first word is below a bound, the second is 0
one_told : (a m b : ℕ) → (ltb a m && eqb b 0) ≡ true → (a < m) × (b ≡ 0)
one_told a m b e =
    (ltb-true a m (and_left (ltb a m) (eqb b 0) e), eqb-true b 0 (and_right (ltb a m) (eqb b 0) e))

one_passes : (a m b : ℕ) → (a < m) × (b ≡ 0) → (ltb a m && eqb b 0) ≡ true
one_passes a m b r = and_both (lt-ltb a m r.0) (eq-eqb b 0 r.1)

-- each word is below a bound
two_told : (a m b n : ℕ) → (ltb a m && ltb b n) ≡ true → (a < m) × (b < n)
two_told a m b n e =
    (ltb-true a m (and_left (ltb a m) (ltb b n) e), ltb-true b n (and_right (ltb a m) (ltb b n) e))

two_passes : (a m b n : ℕ) → (a < m) × (b < n) → (ltb a m && ltb b n) ≡ true
two_passes a m b n r = and_both (lt-ltb a m r.0) (lt-ltb b n r.1)

pub formula_told : (v i : ℕ) (k : FormulaKind) (a b : ℕ) → formula_words_kept v i k a b ≡ true → FormulaRule v i k a b
unfolding formula_words_kept
formula_told v i false_kind a b e = none_told a b e
formula_told v i true_kind a b e = none_told a b e
formula_told v i variable_kind a b e = one_told a v b e
formula_told v i not_kind a b e = one_told a i b e
formula_told v i and_kind a b e = two_told a i b i e
formula_told v i or_kind a b e = two_told a i b i e
formula_told v i implies_kind a b e = two_told a i b i e
formula_told v i equivalent_kind a b e = two_told a i b i e
formula_told v i unknown_formula a b e = false≢true e

pub formula_passes : (v i : ℕ) (k : FormulaKind) (a b : ℕ) → FormulaRule v i k a b → formula_words_kept v i k a b ≡ true
unfolding formula_words_kept
formula_passes v i false_kind a b r = none_passes a b r
formula_passes v i true_kind a b r = none_passes a b r
formula_passes v i variable_kind a b r = one_passes a v b r
formula_passes v i not_kind a b r = one_passes a i b r
formula_passes v i and_kind a b r = two_passes a i b i r
formula_passes v i or_kind a b r = two_passes a i b i r
formula_passes v i implies_kind a b r = two_passes a i b i r
formula_passes v i equivalent_kind a b r = two_passes a i b i r
formula_passes v i unknown_formula a b r = absurd r

pub effect_told : (v f i : ℕ) (k : EffectKind) (a b : ℕ) → effect_words_kept v f i k a b ≡ true → EffectRule v f i k a b
unfolding effect_words_kept
effect_told v f i empty_kind a b e = none_told a b e
effect_told v f i set_kind a b e = one_told a v b e
effect_told v f i clear_kind a b e = one_told a v b e
effect_told v f i both_kind a b e = two_told a i b i e
effect_told v f i under_kind a b e = two_told a f b i e
effect_told v f i unknown_effect a b e = false≢true e

pub effect_passes :
    (v f i : ℕ) (k : EffectKind) (a b : ℕ) → EffectRule v f i k a b → effect_words_kept v f i k a b ≡ true
unfolding effect_words_kept
effect_passes v f i empty_kind a b r = none_passes a b r
effect_passes v f i set_kind a b r = one_passes a v b r
effect_passes v f i clear_kind a b r = one_passes a v b r
effect_passes v f i both_kind a b r = two_passes a i b i r
effect_passes v f i under_kind a b r = two_passes a f b i r
effect_passes v f i unknown_effect a b r = absurd r

-- a test passes whose number is not given, and so the rest is
pub passes : (b : Bool) (number rest : ℕ) → unless b (suc number) rest ≡ 0 → b ≡ true
passes true number rest e = refl
passes false number rest e = absurd (suc-ne-zero number e)

pub rest_of : (b : Bool) (number rest : ℕ) → unless b (suc number) rest ≡ 0 → rest ≡ 0
rest_of true number rest e = e
rest_of false number rest e = absurd (suc-ne-zero number e)

pub operator_told : (f e : ℕ) (o : Operator) → operator_number f e o ≡ 0 → OperatorRule f e o
unfolding operator_number operator_kept percent_kept
operator_told f e o t =
    let right = ltb o.precondition f && ltb o.effect e in
    let low = leb o.percent 200 in
    let both = two_told o.precondition f o.effect e (passes right 11 (unless low 24 0) t) in
    let percent = leb-true o.percent 200 (passes low 23 0 (rest_of right 11 (unless low 24 0) t)) in
    record { formula = both.0; changes = both.1; percent = percent }

pub operator_passes : (f e : ℕ) (o : Operator) → OperatorRule f e o → operator_number f e o ≡ 0
unfolding operator_number operator_kept percent_kept
operator_passes f e o r =
    rw (two_passes o.precondition f o.effect e (r.formula, r.changes), le-leb o.percent 200 r.percent) refl
