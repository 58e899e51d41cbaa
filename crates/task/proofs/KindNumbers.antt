-- A kind and its number, for code that compares numbers: each known kind has the number of its place.
use Prim.Native.Nat.{ℕ, zero, suc, ◌≤◌}
use native.Mathlib.Omega.{arith}
use mathlib.Core.Path.{◌≡◌, refl}
use Rattle.task.specs.Table.{FormulaKind, false_kind, true_kind, variable_kind, not_kind, and_kind, or_kind, implies_kind, equivalent_kind, unknown_formula, formula_kind, EffectKind, empty_kind, set_kind, clear_kind, both_kind, under_kind, unknown_effect, effect_kind}

-- a known kind comes from this number alone
abbrev pub HasFormulaNumber : ℕ → FormulaKind → Type 0
HasFormulaNumber n false_kind = n ≡ 0
HasFormulaNumber n true_kind = n ≡ 1
HasFormulaNumber n variable_kind = n ≡ 2
HasFormulaNumber n not_kind = n ≡ 3
HasFormulaNumber n and_kind = n ≡ 4
HasFormulaNumber n or_kind = n ≡ 5
HasFormulaNumber n implies_kind = n ≡ 6
HasFormulaNumber n equivalent_kind = n ≡ 7
HasFormulaNumber n unknown_formula = 8 ≤ n

abbrev pub HasEffectNumber : ℕ → EffectKind → Type 0
HasEffectNumber n empty_kind = n ≡ 0
HasEffectNumber n set_kind = n ≡ 1
HasEffectNumber n clear_kind = n ≡ 2
HasEffectNumber n both_kind = n ≡ 3
HasEffectNumber n under_kind = n ≡ 4
HasEffectNumber n unknown_effect = 5 ≤ n

pub formula_number : (n : ℕ) → HasFormulaNumber n (formula_kind n)
unfolding formula_kind
formula_number zero = refl
formula_number (suc zero) = refl
formula_number (suc (suc zero)) = refl
formula_number (suc (suc (suc zero))) = refl
formula_number (suc (suc (suc (suc zero)))) = refl
formula_number (suc (suc (suc (suc (suc zero))))) = refl
formula_number (suc (suc (suc (suc (suc (suc zero)))))) = refl
formula_number (suc (suc (suc (suc (suc (suc (suc zero))))))) = refl
formula_number (suc (suc (suc (suc (suc (suc (suc (suc n)))))))) = omega arith

pub effect_number : (n : ℕ) → HasEffectNumber n (effect_kind n)
unfolding effect_kind
effect_number zero = refl
effect_number (suc zero) = refl
effect_number (suc (suc zero)) = refl
effect_number (suc (suc (suc zero))) = refl
effect_number (suc (suc (suc (suc zero)))) = refl
effect_number (suc (suc (suc (suc (suc n))))) = omega arith

-- A property of a kind, by its number: one case for each number that the code tells apart.
pub by_effect_kind :
    (P : EffectKind → Type 0) (n : ℕ)
    → (n ≡ 0 → P empty_kind)
    → (n ≡ 1 → P set_kind)
    → (n ≡ 2 → P clear_kind)
    → (n ≡ 3 → P both_kind)
    → (n ≡ 4 → P under_kind)
    → (5 ≤ n → P unknown_effect)
    → P (effect_kind n)
by_effect_kind P n p0 p1 p2 p3 p4 p5 = go (effect_kind n) (effect_number n)
  where
    go : (k : EffectKind) → HasEffectNumber n k → P k
    go empty_kind e = p0 e
    go set_kind e = p1 e
    go clear_kind e = p2 e
    go both_kind e = p3 e
    go under_kind e = p4 e
    go unknown_effect e = p5 e
