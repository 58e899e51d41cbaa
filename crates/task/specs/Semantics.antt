-- The meaning of formulas and effects in a state (002, "Semantics of Effects and Operators"). A state is a byte a variable, 1 for true.
use Rattle.std.specs.Prelude.{ℕ, Bool, true, false, cond, not, ◌&&◌, ◌||◌, List, length, get_or, eqb}
use Rattle.std.specs.Bool.{beq}
use Rattle.task.specs.Bounded.{upto}

pub data Formula : Type 0 where
  falsum : Formula
  verum : Formula
  variable : ℕ → Formula
  negation : Formula → Formula
  conjunction : Formula → Formula → Formula
  disjunction : Formula → Formula → Formula
  implication : Formula → Formula → Formula
  equivalence : Formula → Formula → Formula

-- an atomic effect: v becomes 1, or v becomes 0
pub data Atom : Type 0 where
  sets : ℕ → Atom
  clears : ℕ → Atom

pub data Effect : Type 0 where
  empty : Effect
  atomic : Atom → Effect
  both : Effect → Effect → Effect
  under : Formula → Effect → Effect

-- s ⊨ φ
unfoldable pub holds : List ℕ → Formula → Bool
holds s falsum = false
holds s verum = true
holds s (variable v) = eqb (get_or s v 0) 1
holds s (negation p) = not (holds s p)
holds s (conjunction p q) = holds s p && holds s q
holds s (disjunction p q) = holds s p || holds s q
holds s (implication p q) = not (holds s p) || holds s q
holds s (equivalence p q) = beq (holds s p) (holds s q)

abbrev pub same_atom : Atom → Atom → Bool
same_atom (sets v) (sets w) = eqb v w
same_atom (sets v) (clears w) = false
same_atom (clears v) (sets w) = false
same_atom (clears v) (clears w) = eqb v w

-- s ⊨ effcond(l, e) (002, "Effect Condition for an Effect")
unfoldable pub effcond : List ℕ → Atom → Effect → Bool
effcond s l empty = false
effcond s l (atomic m) = same_atom l m
effcond s l (both e f) = effcond s l e || effcond s l f
effcond s l (under p e) = holds s p && effcond s l e

-- 002, "Applying Effects", the correct definition: the set wins. Under "v becomes 1 and v becomes 0" v is 1 afterwards.
unfoldable pub value_after : List ℕ → Effect → ℕ → ℕ
value_after s e v = cond (effcond s (sets v) e) 1 (cond (effcond s (clears v) e) 0 (get_or s v 0))

-- s[[e]]: all variables change at once, each by what holds in s. Under "v1 if v0, and v0 cleared" from v0 = 1, v1 = 0, v1 becomes 1.
unfoldable pub apply : List ℕ → Effect → List ℕ
apply s e = upto (length s) (value_after s e)
