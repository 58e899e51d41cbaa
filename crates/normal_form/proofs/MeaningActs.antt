-- The effect of an operator's rules acts where one of the rules does. Assumes nothing.
use Prim.Native.Nat.{ℕ}
use mathlib.Core.Path.{◌≡◌, refl, sym, ◌∙◌}
use mathlib.Core.Bool.{Bool, true, false, ◌&&◌, ◌||◌}
use mathlib.Core.List.{List, [], ◌∷◌}
use Rattle.task.specs.Table.{Row}
use Rattle.task.specs.Semantics.{holds, Atom, same_atom, Effect, effcond, both}
use Rattle.task.specs.Tree.{formula_of}
use Rattle.normal_form.specs.Assembly.{Rule}
use Rattle.normal_form.proofs.ShapeRule.{conjunct}
use Rattle.normal_form.proofs.ShapeWritten.{chain_on, chain}

-- in compiled state c, over a table of formulas: whether a rule of atom l acts
unfoldable pub acts : List Row → List ℕ → Atom → List Rule → Bool
acts formulas c l [] = false
acts formulas c l (r ∷ rs) = (holds c (formula_of formulas r.condition) && same_atom l r.atom) || acts formulas c l rs

or_none : (x : Bool) → (x || false) ≡ x
or_none true = refl
or_none false = refl

or_regroup : (x y z : Bool) → ((x || y) || z) ≡ (x || (y || z))
or_regroup true y z = refl
or_regroup false y z = refl

module _ (formulas : List Row) (c : List ℕ) (l : Atom) where
  acts_on :
      (e : Effect) (rs : List Rule)
      → effcond c l (chain_on formulas e rs) ≡ (effcond c l e || acts formulas c l rs)
  unfolding chain_on conjunct effcond acts
  acts_on e [] = sym (or_none (effcond c l e))
  acts_on e (r ∷ rs) =
      acts_on (both e (conjunct formulas r)) rs
      ∙ or_regroup (effcond c l e) (holds c (formula_of formulas r.condition) && same_atom l r.atom)
      (acts formulas c l rs)

  pub acts_chain : (rs : List Rule) → effcond c l (chain formulas rs) ≡ acts formulas c l rs
  unfolding chain conjunct effcond acts
  acts_chain [] = refl
  acts_chain (r ∷ rs) = acts_on (conjunct formulas r) rs
