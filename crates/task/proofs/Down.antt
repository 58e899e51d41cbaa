-- Tables under construction: references go down in the empty table, and still do after one more row and over more variables or formulas.
use Prim.Native.Nat.{ℕ, ◌≤◌, ◌<◌}
use native.Mathlib.Nat.{not-suc-le-zero}
use native.Mathlib.Omega.{arith}
use mathlib.Core.Path.{◌≡◌, subst}
use mathlib.Core.List.{List, [], ◌∷◌, ◌++◌}
use native.Mathlib.Decide.{dec_lt}
use lib.ListN.{length, get_or, length-append, get_or-append}
use lib.Seq.{get_or_at}
use Rattle.task.specs.Table.{Row, FormulaKind, false_kind, true_kind, variable_kind, not_kind, and_kind, or_kind, implies_kind, equivalent_kind, unknown_formula, formula_kind, EffectKind, empty_kind, set_kind, clear_kind, both_kind, under_kind, unknown_effect, effect_kind}
use Rattle.task.specs.Rules.{no_row, FormulaRule, EffectRule}
use Rattle.task.specs.Inner.Rows.{FormulaKept, FormulasDown, EffectKept, EffectsDown}

-- what each row keeps, one more row keeps too
one_more :
    (P : ℕ → Row → Type 0) (rows : List Row) (r : Row)
    → ((i : ℕ) → i < length rows → P i (get_or rows i no_row))
    → P (length rows) r
    → (i : ℕ)
    → i < length (rows ++ (r ∷ []))
    → P i (get_or (rows ++ (r ∷ [])) i no_row)
one_more P rows r each last i h = go (dec_lt i (length rows))
  where
    go : Dec (i < length rows) → P i (get_or (rows ++ (r ∷ [])) i no_row)
    go (yes b) = rw (get_or-append rows (r ∷ []) no_row i b) (each i b)
    go (no m) =
        let e : length rows ≡ i = omega (arith, length-append rows (r ∷ [])) in
        rw (get_or_at rows r [] no_row i e) (subst (λ (k : ℕ). P k r) e last)

formula_wider : (v w i : ℕ) (k : FormulaKind) (a b : ℕ) → v ≤ w → FormulaRule v i k a b → FormulaRule w i k a b
formula_wider v w i false_kind a b h r = r
formula_wider v w i true_kind a b h r = r
formula_wider v w i variable_kind a b h r = (omega arith, r.1)
formula_wider v w i not_kind a b h r = r
formula_wider v w i and_kind a b h r = r
formula_wider v w i or_kind a b h r = r
formula_wider v w i implies_kind a b h r = r
formula_wider v w i equivalent_kind a b h r = r
formula_wider v w i unknown_formula a b h r = r

effect_wider :
    (v w f g i : ℕ) (k : EffectKind) (a b : ℕ) → v ≤ w → f ≤ g → EffectRule v f i k a b → EffectRule w g i k a b
effect_wider v w f g i empty_kind a b h m r = r
effect_wider v w f g i set_kind a b h m r = (omega arith, r.1)
effect_wider v w f g i clear_kind a b h m r = (omega arith, r.1)
effect_wider v w f g i both_kind a b h m r = r
effect_wider v w f g i under_kind a b h m r = (omega arith, r.1)
effect_wider v w f g i unknown_effect a b h m r = r

pub formulas_none : (v : ℕ) → FormulasDown v []
formulas_none v = record { row = λ i h. absurd (not-suc-le-zero h) }

pub formulas_more :
    (v : ℕ) (rows : List Row) (r : Row)
    → FormulasDown v rows
    → FormulaKept v (length rows) r
    → FormulasDown v (rows ++ (r ∷ []))
formulas_more v rows r down last = record { row = one_more (FormulaKept v) rows r down.row last }

pub formulas_wider : {v : ℕ} {rows : List Row} (w : ℕ) → v ≤ w → FormulasDown v rows → FormulasDown w rows
formulas_wider {v} {rows} w h down =
    record {
      row =
          λ i b.
          let r = get_or rows i no_row in
          formula_wider v w i (formula_kind r.kind) r.a r.b h (down.row i b);
    }

pub effects_none : (v f : ℕ) → EffectsDown v f []
effects_none v f = record { row = λ i h. absurd (not-suc-le-zero h) }

pub effects_more :
    (v f : ℕ) (rows : List Row) (r : Row)
    → EffectsDown v f rows
    → EffectKept v f (length rows) r
    → EffectsDown v f (rows ++ (r ∷ []))
effects_more v f rows r down last = record { row = one_more (EffectKept v f) rows r down.row last }

pub effects_wider :
    {v f : ℕ} {rows : List Row} (w g : ℕ) → v ≤ w → f ≤ g → EffectsDown v f rows → EffectsDown w g rows
effects_wider {v} {f} {rows} w g h m down =
    record {
      row =
          λ i b.
          let r = get_or rows i no_row in
          effect_wider v w f g i (effect_kind r.kind) r.a r.b h m (down.row i b);
    }
