-- The condition of a row by its kind. Assumes nothing.
use Prim.Native.Nat.{ℕ, zero, suc, ◌≤◌, ◌<◌}
use native.Mathlib.Omega.{arith}
use native.Mathlib.Decide.{ℕ_discrete}
use mathlib.Core.Path.{◌≡◌, refl, sym, ap, ◌∙◌}
use mathlib.Core.Bool.{cond}
use mathlib.Core.Logic.{inl, inr}
use mathlib.Core.List.{List}
use lib.ListN.{length, get_or}
use Rattle.task.specs.Table.{row_at, effect_kind}
use Rattle.task.specs.Rules.{no_row, EffectRule}
use Rattle.task.specs.Semantics.{Formula, Atom, Effect}
use Rattle.task.specs.Tree.{effect_node}
use Rattle.task.proofs.Bounded.{length_upto, getD_upto}
use Rattle.task.proofs.Trees.{effect_unfolds}
use Rattle.task.specs.Inner.Rows.{EffectKept}
use Rattle.normal_form.specs.Builder.{Build, give, bind, join, pair, Polarity, plain, negated, opposite, image_of_false, image_of_true}
use Rattle.normal_form.specs.Conditions.{guarded, condition}
use Rattle.formula_builder.specs.declared.Frame.{Frame}
use Rattle.formula_builder.specs.Inner.Held.{side}
use Rattle.formula_builder.proofs.Steps.{join_false, join_left_true, join_right_true}
use Rattle.images.specs.Inner.Images.{source_rows, tree}
use Rattle.conditions.specs.declared.Target.{Target}
use Rattle.conditions.specs.Inner.Conditions.{atom_of, acts, atom_row, effect_rows, effect_tree, condition_at, EffectSource}

true_apart : (p : Polarity) → image_of_true p ≡ image_of_false p → ⊥
true_apart plain e = omega (arith, e)
true_apart negated e = omega (arith, e)

-- true and x, x and true are x; negated, false or x, x or false
module _ (p : Polarity) (x : ℕ) where
  pub join_with_left : join p (image_of_true p) x ≡ give x
  join_with_left = go (ℕ_discrete x (image_of_false p))
    where
      go : Dec (x ≡ image_of_false p) → join p (image_of_true p) x ≡ give x
      go (yes e) = join_false p (image_of_true p) x (inr (true_apart p, e)) ∙ ap (λ (y : ℕ). give y) (sym e)
      go (no n) = join_left_true p (image_of_true p) x (true_apart p) n refl

  pub join_with_right : join p x (image_of_true p) ≡ give x
  join_with_right = go (ℕ_discrete x (image_of_false p)) (ℕ_discrete x (image_of_true p))
    where
      go : Dec (x ≡ image_of_false p) → Dec (x ≡ image_of_true p) → join p x (image_of_true p) ≡ give x
      go (yes e) d = join_false p x (image_of_true p) (inl e) ∙ ap (λ (y : ℕ). give y) (sym e)
      go (no n) (yes e) = join_left_true p x (image_of_true p) n (true_apart p) e ∙ ap (λ (y : ℕ). give y) (sym e)
      go (no n) (no k) = join_right_true p x (image_of_true p) n (true_apart p) k refl

-- The condition of a row by its kind, over the formula f and the effects d and g that its words name.
module _ (n : ℕ) (p : Polarity) (l : Atom) (a : ℕ) (f : Formula) (d g : Effect) where
  atom_condition :
      (k : ℕ)
      → (k ≡ 3 → ⊥)
      → (k ≡ 4 → ⊥)
      → condition n p l (effect_node (effect_kind k) a f d g) ≡ give (cond (acts l (effect_kind k) a) (image_of_true p) (image_of_false p))
  unfolding condition effect_node effect_kind acts
  atom_condition zero h i = refl
  atom_condition (suc zero) h i = refl
  atom_condition (suc (suc zero)) h i = refl
  atom_condition (suc (suc (suc zero))) h i = absurd (h refl)
  atom_condition (suc (suc (suc (suc zero)))) h i = absurd (i refl)
  atom_condition (suc (suc (suc (suc (suc k))))) h i = refl

  both_condition :
      (k : ℕ)
      → k ≡ 3
      → condition n p l (effect_node (effect_kind k) a f d g) ≡ pair (opposite p) (condition n p l d) (condition n p l g)
  unfolding condition effect_node effect_kind
  both_condition k e = rw e

  under_condition :
      (k : ℕ)
      → k ≡ 4
      → condition n p l (effect_node (effect_kind k) a f d g) ≡ bind (condition n p l g) (λ c. guarded n p f c)
  unfolding condition effect_node effect_kind
  under_condition k e = rw e

-- there is no kind above 4
kind_most : (v f i k a b : ℕ) → EffectRule v f i (effect_kind k) a b → k ≤ 4
unfolding effect_kind
kind_most v f i zero a b r = omega arith
kind_most v f i (suc zero) a b r = omega arith
kind_most v f i (suc (suc zero)) a b r = omega arith
kind_most v f i (suc (suc (suc zero))) a b r = omega arith
kind_most v f i (suc (suc (suc (suc zero)))) a b r = omega arith
kind_most v f i (suc (suc (suc (suc (suc k))))) a b r = absurd r

module _ (frame : Frame) (formulas effects scratch : List ℕ) (source : EffectSource frame effects scratch) (e : ℕ) (h : e < frame.effects) where
  row_held : get_or (effect_rows frame effects) e no_row ≡ row_at effects e
  unfolding effect_rows
  row_held = getD_upto frame.effects (row_at effects) e no_row h

  within : e < length (effect_rows frame effects)
  unfolding effect_rows
  within = rw (length_upto frame.effects (row_at effects)) h

  rule_held : EffectKept frame.variables frame.formulas e (row_at effects e)
  rule_held = rw row_held at (source.down.row e within)

  pub both_lower : (row_at effects e).kind ≡ 3 → ((row_at effects e).a < e) × ((row_at effects e).b < e)
  unfolding effect_kind
  both_lower k =
      let r : EffectRule frame.variables frame.formulas e (effect_kind 3) (row_at effects e).a (row_at effects e).b =
      rw k at rule_held in
      r

  pub under_lower : (row_at effects e).kind ≡ 4 → ((row_at effects e).a < frame.formulas) × ((row_at effects e).b < e)
  unfolding effect_kind
  under_lower k =
      let r : EffectRule frame.variables frame.formulas e (effect_kind 4) (row_at effects e).a (row_at effects e).b =
      rw k at rule_held in
      r

  pub kind_known : (row_at effects e).kind < 5
  kind_known =
      omega
      (arith, kind_most frame.variables frame.formulas e (row_at effects e).kind (row_at effects e).a (row_at effects e).b rule_held)

  -- one that is neither is an atom, or empty
  pub known_kind : ((row_at effects e).kind ≡ 4 → ⊥) → (row_at effects e).kind ≤ 3
  known_kind four = omega (arith, kind_known, four)

  module _ (t : Target) where
    node : Build ℕ
    node =
        condition frame.variables (side t.negated) (atom_of t)
        (effect_node (effect_kind (row_at effects e).kind) (row_at effects e).a (tree frame formulas (row_at effects e).a)
        (effect_tree frame formulas effects (row_at effects e).a) (effect_tree frame formulas effects (row_at effects e).b))

    unfolds : condition_at frame formulas effects t e ≡ node
    unfolding condition_at effect_tree tree node
    unfolds =
        ap (condition frame.variables (side t.negated) (atom_of t))
        (effect_unfolds frame.variables frame.formulas (source_rows frame formulas) (effect_rows frame effects)
        source.down e within
        ∙ rw row_held)

    pub of_atom :
        ((row_at effects e).kind ≡ 3 → ⊥)
        → ((row_at effects e).kind ≡ 4 → ⊥)
        → condition_at frame formulas effects t e ≡ give (atom_row t (row_at effects e))
    unfolding node atom_row
    of_atom i j = unfolds ∙ atom_condition frame.variables _ _ _ _ _ _ (row_at effects e).kind i j

    pub of_both :
        (row_at effects e).kind ≡ 3
        → condition_at frame formulas effects t e
        ≡ pair (opposite (side t.negated)) (condition_at frame formulas effects t (row_at effects e).a)
        (condition_at frame formulas effects t (row_at effects e).b)
    unfolding node condition_at
    of_both k = unfolds ∙ both_condition frame.variables _ _ _ _ _ _ (row_at effects e).kind k

    pub of_under :
        (row_at effects e).kind ≡ 4
        → condition_at frame formulas effects t e
        ≡ bind (condition_at frame formulas effects t (row_at effects e).b)
        (λ c. guarded frame.variables (side t.negated) (tree frame formulas (row_at effects e).a) c)
    unfolding node condition_at
    of_under k = unfolds ∙ under_condition frame.variables _ _ _ _ _ _ (row_at effects e).kind k
