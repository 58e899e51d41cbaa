-- Where references go down, a row's tree unfolds by its row, and rows appended behind do not change it.
use Prim.Native.Nat.{ℕ, zero, suc, ◌≤◌, ◌<◌}
use native.Mathlib.Nat.{not-suc-le-zero}
use native.Mathlib.Omega.{arith}
use mathlib.Core.Path.{◌≡◌, refl, ap, ap₂}
use mathlib.Core.List.{List, ◌++◌}
use lib.ListN.{length, get_or, get_or-append}
use Rattle.task.specs.Table.{Row, Task, FormulaKind, false_kind, true_kind, variable_kind, not_kind, and_kind, or_kind, implies_kind, equivalent_kind, unknown_formula, formula_kind, EffectKind, empty_kind, set_kind, clear_kind, both_kind, under_kind, unknown_effect, effect_kind}
use Rattle.task.specs.Rules.{no_row, FormulaRule, EffectRule, Checked}
use Rattle.task.specs.Semantics.{Formula, negation, conjunction, disjunction, implication, equivalence, Effect, both, under}
use Rattle.task.specs.Tree.{formula_node, formula_within, formula_of, effect_node, effect_within, effect_of}
use Rattle.task.specs.Inner.Rows.{FormulasDown, EffectsDown}

pub rules_formulas : (t : Task) → Checked t → FormulasDown (length t.initial) t.formulas
rules_formulas t r = record { row = r.formula }

pub rules_effects : (t : Task) → Checked t → EffectsDown (length t.initial) (length t.formulas) t.effects
rules_effects t r = record { row = r.effect }

-- A row looks only at trees of lower rows.
formula_node_same :
    (v i : ℕ) (k : FormulaKind) (a b : ℕ) {p p' q q' : Formula}
    → FormulaRule v i k a b
    → (a < i → p ≡ p')
    → (b < i → q ≡ q')
    → formula_node k a p q ≡ formula_node k a p' q'
unfolding formula_node
formula_node_same v i false_kind a b r left right = refl
formula_node_same v i true_kind a b r left right = refl
formula_node_same v i variable_kind a b r left right = refl
formula_node_same v i not_kind a b r left right = ap negation (left r.0)
formula_node_same v i and_kind a b r left right = ap₂ conjunction (left r.0) (right r.1)
formula_node_same v i or_kind a b r left right = ap₂ disjunction (left r.0) (right r.1)
formula_node_same v i implies_kind a b r left right = ap₂ implication (left r.0) (right r.1)
formula_node_same v i equivalent_kind a b r left right = ap₂ equivalence (left r.0) (right r.1)
formula_node_same v i unknown_formula a b r left right = absurd r

effect_node_same :
    (v f i : ℕ) (k : EffectKind) (a b : ℕ) {p p' : Formula} {e e' g g' : Effect}
    → EffectRule v f i k a b
    → (a < f → p ≡ p')
    → (a < i → e ≡ e')
    → (b < i → g ≡ g')
    → effect_node k a p e g ≡ effect_node k a p' e' g'
unfolding effect_node
effect_node_same v f i empty_kind a b r formula left right = refl
effect_node_same v f i set_kind a b r formula left right = refl
effect_node_same v f i clear_kind a b r formula left right = refl
effect_node_same v f i both_kind a b r formula left right = ap₂ both (left r.0) (right r.1)
effect_node_same v f i under_kind a b r formula left right = ap₂ under (formula r.0) (right r.1)
effect_node_same v f i unknown_effect a b r formula left right = absurd r

module _ (v : ℕ) (rows : List Row) (down : FormulasDown v rows) where
  -- any two depths that are deep enough give the same tree
  formula_deep :
      (d e i : ℕ) → i < d → i < e → i < length rows → formula_within d rows i ≡ formula_within e rows i
  unfolding formula_within
  formula_deep zero e i h g b = absurd (not-suc-le-zero h)
  formula_deep (suc d) zero i h g b = absurd (not-suc-le-zero g)
  formula_deep (suc d) (suc e) i h g b =
      let r = get_or rows i no_row in
      formula_node_same v i (formula_kind r.kind) r.a r.b (down.row i b)
      (λ l. formula_deep d e r.a (omega arith) (omega arith) (omega arith))
      (λ l. formula_deep d e r.b (omega arith) (omega arith) (omega arith))

  pub formula_unfolds :
      (i : ℕ)
      → i < length rows
      → let r = get_or rows i no_row in
      formula_of rows i ≡ formula_node (formula_kind r.kind) r.a (formula_of rows r.a) (formula_of rows r.b)
  unfolding formula_of formula_within
  formula_unfolds i b =
      let r = get_or rows i no_row in
      formula_node_same v i (formula_kind r.kind) r.a r.b (down.row i b)
      (λ l. formula_deep i (suc r.a) r.a l (omega arith) (omega arith))
      (λ l. formula_deep i (suc r.b) r.b l (omega arith) (omega arith))

  formula_grows_within :
      (d : ℕ) (more : List Row) (i : ℕ)
      → i < length rows
      → formula_within d (rows ++ more) i ≡ formula_within d rows i
  unfolding formula_within
  formula_grows_within zero more i b = refl
  formula_grows_within (suc d) more i b =
      let r = get_or rows i no_row in
      rw (get_or-append rows more no_row i b)
      (formula_node_same v i (formula_kind r.kind) r.a r.b (down.row i b)
      (λ l. formula_grows_within d more r.a (omega arith))
      (λ l. formula_grows_within d more r.b (omega arith)))

  pub formula_grows : (more : List Row) (i : ℕ) → i < length rows → formula_of (rows ++ more) i ≡ formula_of rows i
  unfolding formula_of
  formula_grows more i b = formula_grows_within (suc i) more i b

module _ (v f : ℕ) (formulas effects : List Row) (down : EffectsDown v f effects) where
  effect_deep :
      (d e i : ℕ)
      → i < d
      → i < e
      → i < length effects
      → effect_within d formulas effects i ≡ effect_within e formulas effects i
  unfolding effect_within
  effect_deep zero e i h g b = absurd (not-suc-le-zero h)
  effect_deep (suc d) zero i h g b = absurd (not-suc-le-zero g)
  effect_deep (suc d) (suc e) i h g b =
      let r = get_or effects i no_row in
      effect_node_same v f i (effect_kind r.kind) r.a r.b (down.row i b) (λ l. refl)
      (λ l. effect_deep d e r.a (omega arith) (omega arith) (omega arith))
      (λ l. effect_deep d e r.b (omega arith) (omega arith) (omega arith))

  pub effect_unfolds :
      (i : ℕ)
      → i < length effects
      → let r = get_or effects i no_row in
      effect_of formulas effects i
      ≡ effect_node (effect_kind r.kind) r.a (formula_of formulas r.a) (effect_of formulas effects r.a)
      (effect_of formulas effects r.b)
  unfolding effect_of effect_within
  effect_unfolds i b =
      let r = get_or effects i no_row in
      effect_node_same v f i (effect_kind r.kind) r.a r.b (down.row i b) (λ l. refl)
      (λ l. effect_deep i (suc r.a) r.a l (omega arith) (omega arith))
      (λ l. effect_deep i (suc r.b) r.b l (omega arith) (omega arith))

  effect_appends_within :
      (d : ℕ) (more : List Row) (i : ℕ)
      → i < length effects
      → effect_within d formulas (effects ++ more) i ≡ effect_within d formulas effects i
  unfolding effect_within
  effect_appends_within zero more i b = refl
  effect_appends_within (suc d) more i b =
      let r = get_or effects i no_row in
      rw (get_or-append effects more no_row i b)
      (effect_node_same v f i (effect_kind r.kind) r.a r.b (down.row i b) (λ l. refl)
      (λ l. effect_appends_within d more r.a (omega arith))
      (λ l. effect_appends_within d more r.b (omega arith)))

  -- whatever the formulas are
  pub effect_appends :
      (more : List Row) (i : ℕ)
      → i < length effects
      → effect_of formulas (effects ++ more) i ≡ effect_of formulas effects i
  unfolding effect_of
  effect_appends more i b = effect_appends_within (suc i) more i b

  -- also when the formulas grow: an effect names formulas that are there
  module _ (w : ℕ) (formulas-down : FormulasDown w formulas) (there : f ≤ length formulas) where
    effect_grows_within :
        (d : ℕ) (more-formulas more : List Row) (i : ℕ)
        → i < length effects
        → effect_within d (formulas ++ more-formulas) (effects ++ more) i ≡ effect_within d formulas effects i
    unfolding effect_within
    effect_grows_within zero more-formulas more i b = refl
    effect_grows_within (suc d) more-formulas more i b =
        let r = get_or effects i no_row in
        rw (get_or-append effects more no_row i b)
        (effect_node_same v f i (effect_kind r.kind) r.a r.b (down.row i b)
        (λ l. formula_grows w formulas formulas-down more-formulas r.a (omega arith))
        (λ l. effect_grows_within d more-formulas more r.a (omega arith))
        (λ l. effect_grows_within d more-formulas more r.b (omega arith)))
