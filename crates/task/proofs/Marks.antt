-- Which effect rows act in a state: those reached from the root through "both", and through "under" where the formula holds.
-- An atom's effect condition holds exactly if a marked row is that atom.
use Prim.Native.Nat.{ℕ, zero, suc, ◌≤◌, ◌<◌}
use native.Mathlib.Nat.{not-suc-le-zero}
use native.Mathlib.Omega.{arith}
use mathlib.Core.Path.{◌≡◌, refl, sym, ap, ◌∙◌, subst}
use mathlib.Core.Logic.{◌↔◌}
use mathlib.Core.Bool.{Bool, true, false, ◌||◌, or-true, false≢true}
use mathlib.Core.List.{List}
use lib.ListN.{length, get_or}
use Rattle.task.specs.Table.{Row, EffectKind, empty_kind, set_kind, clear_kind, both_kind, under_kind, unknown_effect, effect_kind}
use Rattle.task.specs.Rules.{no_row, EffectRule}
use Rattle.task.specs.Semantics.{Formula, Effect, Atom, sets, clears, holds, same_atom, effcond}
use Rattle.task.specs.Tree.{formula_of, effect_node, effect_of}
use Rattle.task.proofs.Bounded.{and_left, and_right, and_both}
use Rattle.task.proofs.Trees.{effect_unfolds}
use Rattle.task.specs.Inner.Rows.{EffectsDown}

-- either side of a disjunction
pub or_left : (a b : Bool) → a ≡ true → (a || b) ≡ true
or_left a b p = rw p

pub or_right : (a b : Bool) → b ≡ true → (a || b) ≡ true
or_right a b p = rw p (or-true a)

pub or_cases : (a b : Bool) (P : Type 0) → (a || b) ≡ true → (a ≡ true → P) → (b ≡ true → P) → P
or_cases true b P e first second = first refl
or_cases false b P e first second = second e

-- a row of this kind and word a is the atom
unfoldable pub kind_is : Atom → EffectKind → ℕ → Bool
kind_is l empty_kind a = false
kind_is l set_kind a = same_atom l (sets a)
kind_is l clear_kind a = same_atom l (clears a)
kind_is l both_kind a = false
kind_is l under_kind a = false
kind_is l unknown_effect a = false

unfoldable pub row_is : Atom → Row → Bool
row_is l r = kind_is l (effect_kind r.kind) r.a

module _ (s : List ℕ) (formulas effects : List Row) (root : ℕ) where
  pub data Marked : ℕ → Type 0 where
    at_root : Marked root
    left : (i : ℕ) → Marked i → effect_kind (get_or effects i no_row).kind ≡ both_kind → Marked (get_or effects i no_row).a
    right : (i : ℕ) → Marked i → effect_kind (get_or effects i no_row).kind ≡ both_kind → Marked (get_or effects i no_row).b
    inner :
        (i : ℕ)
        → Marked i
        → effect_kind (get_or effects i no_row).kind ≡ under_kind
        → holds s (formula_of formulas (get_or effects i no_row).a) ≡ true
        → Marked (get_or effects i no_row).b

  -- a marked row that is the atom
  pub record Found (l : Atom) : Type 0 where
    pub at : ℕ
    pub marked : Marked at
    pub is_atom : row_is l (get_or effects at no_row) ≡ true

  module _ (v f : ℕ) (down : EffectsDown v f effects) (in_table : root < length effects) where
    rule_at :
        (i : ℕ) (k : EffectKind)
        → i < length effects
        → effect_kind (get_or effects i no_row).kind ≡ k
        → EffectRule v f i k (get_or effects i no_row).a (get_or effects i no_row).b
    rule_at i k b e =
        subst (λ (x : EffectKind). EffectRule v f i x (get_or effects i no_row).a (get_or effects i no_row).b) e
        (down.row i b)

    pub marked_below : (i : ℕ) → Marked i → i ≤ root
    marked_below i at_root = omega arith
    marked_below i (left j m e) =
        let h = marked_below j m in
        omega (arith, rule_at j both_kind (omega arith) e)
    marked_below i (right j m e) =
        let h = marked_below j m in
        omega (arith, rule_at j both_kind (omega arith) e)
    marked_below i (inner j m e holding) =
        let h = marked_below j m in
        omega (arith, rule_at j under_kind (omega arith) e)

    pub marked_in : (i : ℕ) → Marked i → i < length effects
    marked_in i m = omega (arith, marked_below i m)

    -- the effect of row i, its kind being known
    tree_at :
        (i : ℕ) (k : EffectKind)
        → i < length effects
        → effect_kind (get_or effects i no_row).kind ≡ k
        → let r = get_or effects i no_row in
        effect_of formulas effects i
        ≡ effect_node k r.a (formula_of formulas r.a) (effect_of formulas effects r.a)
        (effect_of formulas effects r.b)
    tree_at i k b e = rw (← e) (effect_unfolds v f formulas effects down i b)

    -- what holds of a marked row's condition holds of the root's
    climbs :
        (l : Atom) (i : ℕ)
        → Marked i
        → effcond s l (effect_of formulas effects i) ≡ true
        → effcond s l (effect_of formulas effects root) ≡ true
    unfolding effect_node effcond
    climbs l i at_root e = e
    climbs l i (left j m k) e =
        let r = get_or effects j no_row in
        climbs l j m
        (ap (effcond s l) (tree_at j both_kind (marked_in j m) k)
        ∙ or_left (effcond s l (effect_of formulas effects r.a)) (effcond s l (effect_of formulas effects r.b)) e)
    climbs l i (right j m k) e =
        let r = get_or effects j no_row in
        climbs l j m
        (ap (effcond s l) (tree_at j both_kind (marked_in j m) k)
        ∙ or_right (effcond s l (effect_of formulas effects r.a)) (effcond s l (effect_of formulas effects r.b)) e)
    climbs l i (inner j m k h) e =
        climbs l j m (ap (effcond s l) (tree_at j under_kind (marked_in j m) k) ∙ and_both h e)

    is_acts :
        (l : Atom) (k : EffectKind) (a : ℕ) (p : Formula) (e g : Effect)
        → kind_is l k a ≡ true
        → effcond s l (effect_node k a p e g) ≡ true
    unfolding kind_is effect_node effcond
    is_acts l empty_kind a p e g h = h
    is_acts l set_kind a p e g h = h
    is_acts l clear_kind a p e g h = h
    is_acts l both_kind a p e g h = absurd (false≢true h)
    is_acts l under_kind a p e g h = absurd (false≢true h)
    is_acts l unknown_effect a p e g h = absurd (false≢true h)

    pub found_acts : (l : Atom) → Found l → effcond s l (effect_of formulas effects root) ≡ true
    unfolding row_is
    found_acts l found =
        let i = found.at in
        let r = get_or effects i no_row in
        climbs l i found.marked
        (ap (effcond s l) (effect_unfolds v f formulas effects down i (marked_in i found.marked))
        ∙ is_acts l (effect_kind r.kind) r.a (formula_of formulas r.a) (effect_of formulas effects r.a)
        (effect_of formulas effects r.b) found.is_atom)

    -- a row whose condition holds is the atom, or a row below it, also marked, has the condition
    finds_at :
        (l : Atom) (i : ℕ) (k : EffectKind)
        → Marked i
        → effect_kind (get_or effects i no_row).kind ≡ k
        → let r = get_or effects i no_row in
        EffectRule v f i k r.a r.b
        → effcond s l
        (effect_node k r.a (formula_of formulas r.a) (effect_of formulas effects r.a)
        (effect_of formulas effects r.b))
        ≡ true
        → ((j : ℕ) → j < i → Marked j → effcond s l (effect_of formulas effects j) ≡ true → Found l)
        → Found l
    unfolding row_is kind_is effect_node effcond
    finds_at l i empty_kind m k rule e lower = absurd (false≢true e)
    finds_at l i set_kind m k rule e lower = record { at = i; marked = m; is_atom = rw k e }
    finds_at l i clear_kind m k rule e lower = record { at = i; marked = m; is_atom = rw k e }
    finds_at l i both_kind m k rule e lower =
        let r = get_or effects i no_row in
        or_cases (effcond s l (effect_of formulas effects r.a)) (effcond s l (effect_of formulas effects r.b)) (Found l) e
        (λ h. lower r.a rule.0 (left i m k) h)
        (λ h. lower r.b rule.1 (right i m k) h)
    finds_at l i under_kind m k rule e lower =
        let r = get_or effects i no_row in
        let p = holds s (formula_of formulas r.a) in
        let inside = effcond s l (effect_of formulas effects r.b) in
        lower r.b rule.1 (inner i m k (and_left p inside e)) (and_right p inside e)
    finds_at l i unknown_effect m k rule e lower = absurd rule

    finds : (l : Atom) (d i : ℕ) → i < d → Marked i → effcond s l (effect_of formulas effects i) ≡ true → Found l
    finds l zero i h m e = absurd (not-suc-le-zero h)
    finds l (suc d) i h m e =
        finds_at l i (effect_kind (get_or effects i no_row).kind) m refl (down.row i (marked_in i m))
        (ap (effcond s l) (sym (effect_unfolds v f formulas effects down i (marked_in i m))) ∙ e)
        (λ j lower. finds l d j (omega arith))

    -- The law of the stepper: the condition of an atom holds exactly if a marked row is that atom.
    pub effcond_marked : (l : Atom) → effcond s l (effect_of formulas effects root) ≡ true ↔ Found l
    effcond_marked l = (finds l (suc root) root (omega arith) at_root, found_acts l)
