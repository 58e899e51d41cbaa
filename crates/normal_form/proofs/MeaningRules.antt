-- What an operator's rules do, atom by atom: a variable is set under A and cleared under D, its twin the other way round.
use Prim.Native.Nat.{ℕ, zero, suc, ◌+◌, ◌<◌}
use native.Mathlib.Nat.{not-suc-le-zero}
use native.Mathlib.Omega.{arith}
use mathlib.Core.Path.{◌≡◌, refl, sym, ap, ap₂, ◌∙◌}
use mathlib.Core.Bool.{Bool, true, false, cond, ◌&&◌, ◌||◌}
use mathlib.Core.List.{List, [], ◌∷◌, ◌++◌}
use lib.ListN.{length, get_or}
use lib.Dec.{eqb, ltb}
use borrow.Author.Tests.{eqb-true, eq-eqb, ltb-true, lt-ltb}
use Rattle.task.specs.Table.{Row}
use Rattle.task.specs.Semantics.{holds, Atom, sets, clears, same_atom}
use Rattle.task.specs.Tree.{formula_of}
use Rattle.task.proofs.Bounded.{and_left, and_right, and_both}
use Rattle.normal_form.specs.Builder.{place}
use Rattle.normal_form.specs.Operators.{Changes}
use Rattle.normal_form.specs.Assembly.{Rule, rule, with_twin, rules_of, rules}
use Rattle.normal_form.proofs.Place.{place_found, place_here}
use Rattle.normal_form.proofs.MeaningActs.{acts}

-- variable x is v's twin
unfoldable pub twinned : ℕ → List ℕ → ℕ → ℕ → Bool
twinned n twins x v = ltb (place eqb v twins) (length twins) && eqb x (n + place eqb v twins)

or_regroup : (x y z : Bool) → ((x || y) || z) ≡ (x || (y || z))
or_regroup true y z = refl
or_regroup false y z = refl

or_none : (x : Bool) → (x || false) ≡ x
or_none true = refl
or_none false = refl

and_none : (x : Bool) → (x && false) ≡ false
and_none true = refl
and_none false = refl

set_bools : (x y p b t : Bool) → ((x && b) || ((x && (p && false)) || ((y && false) || (y && (p && t))))) ≡ ((x && b) || (y && (p && t)))
set_bools true y p true t = refl
set_bools true true true false t = refl
set_bools true true false false t = refl
set_bools true false true false t = refl
set_bools true false false false t = refl
set_bools false true p b t = refl
set_bools false false p b t = refl

clear_bools : (x y p b t : Bool) → ((x && false) || ((x && (p && t)) || ((y && b) || (y && (p && false))))) ≡ ((x && (p && t)) || (y && b))
clear_bools true true true b t = ap (λ (x : Bool). t || x) (or_none b)
clear_bools true true false b t = or_none b
clear_bools true false true b t = refl
clear_bools true false false b t = refl
clear_bools false true true b t = or_none b
clear_bools false true false b t = or_none b
clear_bools false false p b t = refl

module _ (formulas : List Row) (c : List ℕ) (zeroth : holds c (formula_of formulas 0) ≡ false) where
  acts_append : (l : Atom) (rs qs : List Rule) → acts formulas c l (rs ++ qs) ≡ (acts formulas c l rs || acts formulas c l qs)
  unfolding acts
  acts_append l [] qs = refl
  acts_append l (r ∷ rs) qs =
      let one = holds c (formula_of formulas r.condition) && same_atom l r.atom in
      ap (λ (x : Bool). one || x) (acts_append l rs qs) ∙ sym (or_regroup one (acts formulas c l rs) (acts formulas c l qs))

  acts_rule : (l m : Atom) (a : ℕ) → acts formulas c l (rule a m) ≡ (holds c (formula_of formulas a) && same_atom l m)
  unfolding rule acts
  acts_rule l m a = go (eqb a 0) refl
    where
      go :
          (b : Bool)
          → eqb a 0 ≡ b
          → acts formulas c l (cond b [] (record { condition = a; atom = m } ∷ []))
          ≡ (holds c (formula_of formulas a) && same_atom l m)
      go true e = sym (ap (λ (x : Bool). x && same_atom l m) (ap (λ (k : ℕ). holds c (formula_of formulas k)) (eqb-true a 0 e) ∙ zeroth))
      go false e = or_none (holds c (formula_of formulas a) && same_atom l m)

  acts_twin :
      (n : ℕ) (twins : List ℕ) (l : Atom) (v a : ℕ) (make : ℕ → Atom)
      → acts formulas c l (with_twin n twins v (λ w. rule a (make w)))
      ≡ (holds c (formula_of formulas a)
      && (ltb (place eqb v twins) (length twins) && same_atom l (make (n + place eqb v twins))))
  unfolding with_twin acts
  acts_twin n twins l v a make = go (ltb (place eqb v twins) (length twins))
    where
      go :
          (b : Bool)
          → acts formulas c l (cond b (rule a (make (n + place eqb v twins))) [])
          ≡ (holds c (formula_of formulas a) && (b && same_atom l (make (n + place eqb v twins))))
      go true = acts_rule l (make (n + place eqb v twins)) a
      go false = sym (and_none (holds c (formula_of formulas a)))

  module _ (n : ℕ) (twins : List ℕ) (ch : Changes) where
    four :
        (l : Atom)
        → acts formulas c l (rules_of n twins ch)
        ≡ ((holds c (formula_of formulas ch.adds) && same_atom l (sets ch.variable))
        || ((holds c (formula_of formulas ch.adds)
        && (ltb (place eqb ch.variable twins) (length twins)
        && same_atom l (clears (n + place eqb ch.variable twins))))
        || ((holds c (formula_of formulas ch.deletes) && same_atom l (clears ch.variable))
        || (holds c (formula_of formulas ch.deletes)
        && (ltb (place eqb ch.variable twins) (length twins)
        && same_atom l (sets (n + place eqb ch.variable twins)))))))
    unfolding rules_of
    four l =
        let v = ch.variable in
        acts_append l (rule ch.adds (sets v)) _
        ∙ ap₂ ◌||◌ (acts_rule l (sets v) ch.adds)
        (acts_append l (with_twin n twins v (λ w. rule ch.adds (clears w))) _
        ∙ ap₂ ◌||◌ (acts_twin n twins l v ch.adds clears)
        (acts_append l (rule ch.deletes (clears v)) _
        ∙ ap₂ ◌||◌ (acts_rule l (clears v) ch.deletes) (acts_twin n twins l v ch.deletes sets)))

    -- set v under A; v's twin under D
    pub acts_sets :
        (x : ℕ)
        → acts formulas c (sets x) (rules_of n twins ch)
        ≡ ((holds c (formula_of formulas ch.adds) && eqb x ch.variable)
        || (holds c (formula_of formulas ch.deletes) && twinned n twins x ch.variable))
    unfolding twinned
    acts_sets x =
        four (sets x)
        ∙ set_bools (holds c (formula_of formulas ch.adds)) (holds c (formula_of formulas ch.deletes))
        (ltb (place eqb ch.variable twins) (length twins)) (eqb x ch.variable) (eqb x (n + place eqb ch.variable twins))

    -- clear v's twin under A; v under D
    pub acts_clears :
        (x : ℕ)
        → acts formulas c (clears x) (rules_of n twins ch)
        ≡ ((holds c (formula_of formulas ch.adds) && twinned n twins x ch.variable)
        || (holds c (formula_of formulas ch.deletes) && eqb x ch.variable))
    unfolding twinned
    acts_clears x =
        four (clears x)
        ∙ clear_bools (holds c (formula_of formulas ch.adds)) (holds c (formula_of formulas ch.deletes))
        (ltb (place eqb ch.variable twins) (length twins)) (eqb x ch.variable) (eqb x (n + place eqb ch.variable twins))

  -- over all changes of an operator: no rule, or those of one variable, have the atom
  pub acts_none :
      (n : ℕ) (twins : List ℕ) (l : Atom) (d : Changes) (cs : List Changes)
      → ((k : ℕ) → k < length cs → acts formulas c l (rules_of n twins (get_or cs k d)) ≡ false)
      → acts formulas c l (rules n twins cs) ≡ false
  unfolding rules acts
  acts_none n twins l d [] h = refl
  acts_none n twins l d (ch ∷ cs) h =
      acts_append l (rules_of n twins ch) (rules n twins cs)
      ∙ ap₂ ◌||◌ (h 0 (omega arith)) (acts_none n twins l d cs (λ k b. h (suc k) (omega arith)))

  pub acts_one :
      (n : ℕ) (twins : List ℕ) (l : Atom) (d : Changes) (cs : List Changes) (x : ℕ)
      → x < length cs
      → ((k : ℕ) → k < length cs → (k ≡ x → ⊥) → acts formulas c l (rules_of n twins (get_or cs k d)) ≡ false)
      → acts formulas c l (rules n twins cs) ≡ acts formulas c l (rules_of n twins (get_or cs x d))
  unfolding rules
  acts_one n twins l d [] x b h = absurd (not-suc-le-zero b)
  acts_one n twins l d (ch ∷ cs) zero b h =
      acts_append l (rules_of n twins ch) (rules n twins cs)
      ∙ ap (λ (x : Bool). acts formulas c l (rules_of n twins ch) || x)
      (acts_none n twins l d cs (λ k b. h (suc k) (omega arith) (λ e. omega arith)))
      ∙ or_none (acts formulas c l (rules_of n twins ch))
  acts_one n twins l d (ch ∷ cs) (suc x) b h =
      acts_append l (rules_of n twins ch) (rules n twins cs)
      ∙ ap₂ ◌||◌ (h 0 (omega arith) (λ e. omega arith))
      (acts_one n twins l d cs x (omega arith) (λ k b ne. h (suc k) (omega arith) (λ e. ne (omega arith))))

eq_of_neither : (j k : ℕ) → (j < k → ⊥) → (k < j → ⊥) → j ≡ k
eq_of_neither j k f g = omega arith

-- Which variable is whose twin.
module _ (n : ℕ) (twins : List ℕ) where
  pub twinned_has : (x v : ℕ) → twinned n twins x v ≡ true → (k : ℕ) × (k < length twins) × (x ≡ n + k) × (get_or twins k 0 ≡ v)
  unfolding twinned
  twinned_has x v e =
      let k = place eqb v twins in
      let h : k < length twins = ltb-true k (length twins) (and_left (ltb k (length twins)) (eqb x (n + k)) e) in
      (k, h, eqb-true x (n + k) (and_right (ltb k (length twins)) (eqb x (n + k)) e), place_found v twins h)

  pub twinned_not : (x v : ℕ) → ((k : ℕ) → k < length twins → x ≡ n + k → get_or twins k 0 ≡ v → ⊥) → twinned n twins x v ≡ false
  twinned_not x v h = go (twinned n twins x v) refl
    where
      go : (b : Bool) → twinned n twins x v ≡ b → twinned n twins x v ≡ false
      go false e = e
      go true e = let t = twinned_has x v e in absurd (h t.0 t.1 t.2 t.3)

  pub twinned_itself :
      ((j k : ℕ) → j < k → k < length twins → get_or twins j 0 ≡ get_or twins k 0 → ⊥)
      → (j : ℕ)
      → j < length twins
      → twinned n twins (n + j) (get_or twins j 0) ≡ true
  unfolding twinned
  twinned_itself once j h =
      let k = place eqb (get_or twins j 0) twins in
      let b = place_here twins j h in
      let same : get_or twins k 0 ≡ get_or twins j 0 = place_found (get_or twins j 0) twins b in
      let e : j ≡ k = eq_of_neither j k (λ l. once j k l b (sym same)) (λ l. once k j l h same) in
      and_both (lt-ltb k (length twins) b) (eq-eqb (n + j) (n + k) (omega arith))
