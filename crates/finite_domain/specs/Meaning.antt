-- The meaning of formulas and effects over finite-domain variables (000, "Semantics of Effects", consistency semantics; 002, "Effect Condition for an Effect").
-- A state is a value for each variable.
use Rattle.std.specs.Prelude.{ℕ, zero, suc, Bool, true, false, cond, not, ◌&&◌, ◌||◌, List, length, get_or, eqb}
use Rattle.std.specs.Bool.{beq}
use Rattle.task.specs.Bounded.{every, upto}

pub data FiniteFormula : Type 0 where
  finite_false : FiniteFormula
  finite_true : FiniteFormula
  has : (variable value : ℕ) → FiniteFormula
  finite_not : FiniteFormula → FiniteFormula
  finite_and : FiniteFormula → FiniteFormula → FiniteFormula
  finite_or : FiniteFormula → FiniteFormula → FiniteFormula
  finite_implies : FiniteFormula → FiniteFormula → FiniteFormula
  finite_equivalent : FiniteFormula → FiniteFormula → FiniteFormula

-- the atomic effect is v := d (000, "Syntax of Effects")
pub data FiniteEffect : Type 0 where
  finite_empty : FiniteEffect
  becomes : (variable value : ℕ) → FiniteEffect
  finite_both : FiniteEffect → FiniteEffect → FiniteEffect
  finite_under : FiniteFormula → FiniteEffect → FiniteEffect

-- s ⊨ φ
unfoldable pub finite_holds : List ℕ → FiniteFormula → Bool
finite_holds s finite_false = false
finite_holds s finite_true = true
finite_holds s (has a d) = eqb (get_or s a 0) d
finite_holds s (finite_not p) = not (finite_holds s p)
finite_holds s (finite_and p q) = finite_holds s p && finite_holds s q
finite_holds s (finite_or p q) = finite_holds s p || finite_holds s q
finite_holds s (finite_implies p q) = not (finite_holds s p) || finite_holds s q
finite_holds s (finite_equivalent p q) = beq (finite_holds s p) (finite_holds s q)

-- s ⊨ effcond(a := d, e)
unfoldable pub finite_effcond : List ℕ → (a d : ℕ) → FiniteEffect → Bool
finite_effcond s a d finite_empty = false
finite_effcond s a d (becomes x y) = eqb a x && eqb d y
finite_effcond s a d (finite_both e f) = finite_effcond s a d e || finite_effcond s a d f
finite_effcond s a d (finite_under p e) = finite_holds s p && finite_effcond s a d e

-- 000: "both s ⊨ effcond(v := d, e) and s ⊨ effcond(v := d', e)", of two values. A value does not clash with itself: "a becomes 1, and a becomes 1" may
-- be applied. A clash under a false condition is none: "a becomes 1, and (a becomes 2 under false)" may be applied.
unfoldable pub clash : List ℕ → FiniteEffect → (a d d' : ℕ) → Bool
clash s e a d d' = finite_effcond s a d e && finite_effcond s a d' e

-- s ⊨ consist(e): no variable gets two values at once. Each two values d < d', and not only neighbours: "a becomes 0, and a becomes 2" is forbidden.
unfoldable pub consistent : (counts : List ℕ) → List ℕ → FiniteEffect → Bool
consistent counts s e =
    every (length counts) (λ a. every (get_or counts a 0) (λ d'. every d' (λ d. not (clash s e a d d'))))

-- the value below n that passes the test, else the old one; in a consistent step at most one passes
unfoldable pub value_or : (n : ℕ) → (ℕ → Bool) → ℕ → ℕ
value_or zero test old = old
value_or (suc n) test old = cond (test n) n (value_or n test old)

-- s[[e]], where e is consistent: all variables change at once, each by what holds in s
unfoldable pub finite_apply : (counts : List ℕ) → List ℕ → FiniteEffect → List ℕ
finite_apply counts s e =
    upto (length counts) (λ a. value_or (get_or counts a 0) (λ d. finite_effcond s a d e) (get_or s a 0))
