-- What each rule of an operator is: of a variable or of its twin, under the row that was built for setting it or for clearing it.
use Prim.Native.Nat.{ℕ, ◌+◌, ◌<◌}
use mathlib.Core.Path.{◌≡◌, refl}
use mathlib.Core.Bool.{Bool, true, false, cond}
use mathlib.Core.List.{List, [], ◌∷◌, ◌++◌, append-nil, append_assoc}
use lib.ListN.{length}
use lib.Dec.{eqb, ltb}
use borrow.Author.Tests.{ltb-true}
use Rattle.task.specs.Semantics.{Atom, sets, clears}
use Rattle.normal_form.specs.Builder.{place}
use Rattle.normal_form.specs.Operators.{Changes}
use Rattle.normal_form.specs.Assembly.{Rule, rule, with_twin, rules_of, rules}

-- each of a list
pub data All {A : Type 0} (P : A → Type 0) : List A → Type 0 where
  none : All P []
  also : {x : A} {xs : List A} → P x → All P xs → All P (x ∷ xs)

pub all_append : {A : Type 0} {P : A → Type 0} {xs ys : List A} → All P xs → All P ys → All P (xs ++ ys)
all_append none q = q
all_append (also p ps) q = also p (all_append ps q)

pub all_map : {A : Type 0} {P Q : A → Type 0} {xs : List A} → ((x : A) → P x → Q x) → All P xs → All Q xs
all_map f none = none
all_map f (also {x = x} p ps) = also (f x p) (all_map f ps)

module _ (P : Rule → Type 0) where
  rule_all : (c : ℕ) (l : Atom) → P (record { condition = c; atom = l }) → All P (rule c l)
  unfolding rule
  rule_all c l p = go (eqb c 0)
    where
      go : (b : Bool) → All P (cond b [] (record { condition = c; atom = l } ∷ []))
      go true = none
      go false = also p none

  twin_all :
      (n : ℕ) (twins : List ℕ) (v : ℕ) (make : ℕ → List Rule)
      → (place eqb v twins < length twins → All P (make (n + place eqb v twins)))
      → All P (with_twin n twins v make)
  unfolding with_twin
  twin_all n twins v make p = go (ltb (place eqb v twins) (length twins)) refl
    where
      go :
          (b : Bool)
          → ltb (place eqb v twins) (length twins) ≡ b
          → All P (cond b (make (n + place eqb v twins)) [])
      go true e = p (ltb-true (place eqb v twins) (length twins) e)
      go false e = none

  pub rules_of_all :
      (n : ℕ) (twins : List ℕ) (c : Changes)
      → P (record { condition = c.adds; atom = sets c.variable })
      → P (record { condition = c.deletes; atom = clears c.variable })
      → (let k = place eqb c.variable twins in
      k < length twins
      → P (record { condition = c.adds; atom = clears (n + k) })
      × P (record { condition = c.deletes; atom = sets (n + k) }))
      → All P (rules_of n twins c)
  unfolding rules_of
  rules_of_all n twins c p q t =
      let w = n + place eqb c.variable twins in
      all_append (rule_all c.adds (sets c.variable) p)
      (all_append (twin_all n twins c.variable (λ w. rule c.adds (clears w)) (λ h. rule_all c.adds (clears w) (t h).0))
      (all_append (rule_all c.deletes (clears c.variable) q)
      (twin_all n twins c.variable (λ w. rule c.deletes (sets w)) (λ h. rule_all c.deletes (sets w) (t h).1))))

  pub rules_all :
      (n : ℕ) (twins : List ℕ) (cs : List Changes)
      → All (λ c. All P (rules_of n twins c)) cs
      → All P (rules n twins cs)
  unfolding rules
  rules_all n twins [] none = none
  rules_all n twins (c ∷ cs) (also p ps) = all_append p (rules_all n twins cs ps)

-- the rules of one more variable
pub rules_snoc :
    (n : ℕ) (twins : List ℕ) (cs : List Changes) (c : Changes)
    → rules n twins (cs ++ (c ∷ [])) ≡ rules n twins cs ++ rules_of n twins c
unfolding rules
rules_snoc n twins [] c = append-nil (rules_of n twins c)
rules_snoc n twins (d ∷ cs) c = rw (rules_snoc n twins cs c, append_assoc)
