-- Whether an effect's row is an atom, by its words. Assumes nothing.
use Prim.Native.Nat.{ℕ, zero, suc}
use native.Mathlib.Omega.{arith}
use mathlib.Core.Path.{◌≡◌, refl, sym, ◌∙◌}
use mathlib.Core.Bool.{Bool, true, false}
use lib.Dec.{eqb}
use borrow.Author.Tests.{eq-eqb, ne_eqb}
use Rattle.task.specs.Table.{EffectKind, empty_kind, set_kind, clear_kind, both_kind, under_kind, unknown_effect, effect_kind}
use Rattle.conditions.specs.Inner.Conditions.{atom_by, acts}

pub touch_other : (clear : Bool) (v a : ℕ) (k : EffectKind) → (a ≡ v → ⊥) → false ≡ acts (atom_by clear v) k a
unfolding acts
touch_other false v a empty_kind h = refl
touch_other false v a set_kind h = sym (ne_eqb v a (λ e. h (sym e)))
touch_other false v a clear_kind h = refl
touch_other false v a both_kind h = refl
touch_other false v a under_kind h = refl
touch_other false v a unknown_effect h = refl
touch_other true v a empty_kind h = refl
touch_other true v a set_kind h = refl
touch_other true v a clear_kind h = sym (ne_eqb v a (λ e. h (sym e)))
touch_other true v a both_kind h = refl
touch_other true v a under_kind h = refl
touch_other true v a unknown_effect h = refl

-- no row of a kind from 3 on is an atom
touch_none : (clear : Bool) (v a k : ℕ) → acts (atom_by clear v) (effect_kind (suc (suc (suc k)))) a ≡ false
unfolding acts effect_kind
touch_none clear v a zero = refl
touch_none clear v a (suc zero) = refl
touch_none clear v a (suc (suc k)) = refl

pub touch_clear : (v a k : ℕ) → a ≡ v → eqb k 2 ≡ acts (atom_by true v) (effect_kind k) a
unfolding acts effect_kind
touch_clear v a zero e = refl
touch_clear v a (suc zero) e = refl
touch_clear v a (suc (suc zero)) e = sym (eq-eqb v a (sym e))
touch_clear v a (suc (suc (suc k))) e = rw (touch_none true v a k) (ne_eqb (suc (suc (suc k))) 2 (λ q. omega arith))

pub touch_set : (v a k : ℕ) → a ≡ v → eqb k 1 ≡ acts (atom_by false v) (effect_kind k) a
unfolding acts effect_kind
touch_set v a zero e = refl
touch_set v a (suc zero) e = sym (eq-eqb v a (sym e))
touch_set v a (suc (suc zero)) e = refl
touch_set v a (suc (suc (suc k))) e = rw (touch_none false v a k) (ne_eqb (suc (suc (suc k))) 1 (λ q. omega arith))

-- an atom of the same variable, but not of the same kind
pub other_atom :
    (clear : Bool) (v a k : ℕ) → a ≡ v → (clear ≡ eqb k 2 → ⊥) → false ≡ acts (atom_by clear v) (effect_kind k) a
other_atom true v a k e h = sym (ne_eqb k 2 (λ z. h (sym (eq-eqb k 2 z)))) ∙ touch_clear v a k e
other_atom false v a k e h =
    sym (ne_eqb k 1 (λ z. h (sym (ne_eqb k 2 (λ y. omega (arith, y, z)))))) ∙ touch_set v a k e
