-- The rules of an operator name no atom twice, so the chain of them is a flat effect. Assumes nothing.
use Prim.Native.Nat.{ℕ, suc, ◌+◌, ◌-◌, ◌<◌, ◌≤◌}
use native.Mathlib.Omega.{arith}
use mathlib.Core.Path.{◌≡◌, refl, sym, ap, ◌∙◌}
use mathlib.Core.Bool.{Bool, true, false, cond}
use mathlib.Core.List.{List, [], ◌∷◌, ◌++◌, append-nil, append_assoc}
use lib.ListN.{length, get_or}
use lib.Dec.{eqb, ltb}
use borrow.Author.Tests.{lt-ltb, le-ltb}
use Rattle.task.specs.Table.{Row}
use Rattle.task.specs.Semantics.{Formula, Atom, sets, clears, Effect, atomic, both, under}
use Rattle.task.specs.Tree.{formula_of}
use Rattle.normal_form.specs.Builder.{place}
use Rattle.normal_form.specs.Operators.{Changes}
use Rattle.normal_form.specs.Assembly.{Rule, rule, with_twin, rules_of, rules}
use Rattle.normal_form.specs.Flat.{Conjuncts, one, more, Absent, Distinct, Flat, nothing, conjunctive}
use Rattle.normal_form.proofs.Place.{place_found}
use Rattle.normal_form.proofs.ShapeRule.{conjunct, atom_variable}
use Rattle.normal_form.proofs.ShapeWritten.{chain_on, chain}
use Rattle.normal_form.proofs.ShapeEach.{Upwards, start, next}
use Rattle.normal_form.proofs.ShapeRules.{All, none, also, all_append, all_map, rules_of_all, rules_snoc}

-- the atoms of rules, in their order
abbrev pub atoms : List Rule → List Atom
atoms [] = []
atoms (r ∷ rs) = r.atom ∷ atoms rs

module _ (formulas : List Row) where
  conjuncts_on :
      (e : Effect) (ls : List Atom) (rs : List Rule)
      → Conjuncts e ls
      → Conjuncts (chain_on formulas e rs) (ls ++ atoms rs)
  unfolding chain_on conjunct
  conjuncts_on e ls [] c = rw append-nil c
  conjuncts_on e ls (r ∷ rs) c =
      rw append_assoc at
      (conjuncts_on (both e (conjunct formulas r)) (ls ++ (r.atom ∷ [])) rs
      (more c (one (formula_of formulas r.condition) r.atom)))

  pub flat_chain : (rs : List Rule) → Distinct (atoms rs) → Flat (chain formulas rs)
  unfolding chain conjunct
  flat_chain [] d = nothing
  flat_chain (r ∷ rs) d =
      conjunctive
      (conjuncts_on (conjunct formulas r) (r.atom ∷ []) rs (one (formula_of formulas r.condition) r.atom)) d

set_not_clear : (v w : ℕ) → sets v ≡ clears w → ⊥
set_not_clear v w e =
    let z : ◌≡◌ {A = ℕ} 0 1 = cc in
    omega arith

clear_not_set : (v w : ℕ) → clears v ≡ sets w → ⊥
clear_not_set v w e = set_not_clear w v (sym e)

sets_differ : (v w : ℕ) → (v ≡ w → ⊥) → sets v ≡ sets w → ⊥
sets_differ v w n e = n (cc)

clears_differ : (v w : ℕ) → (v ≡ w → ⊥) → clears v ≡ clears w → ⊥
clears_differ v w n e = n (cc)

absent_append : (l : Atom) (rs qs : List Rule) → Absent l (atoms rs) → Absent l (atoms qs) → Absent l (atoms (rs ++ qs))
absent_append l [] qs p q = q
absent_append l (r ∷ rs) qs p q = (p.0, absent_append l rs qs p.1 q)

module _ (n : ℕ) (twins : List ℕ) where
  -- the source variable that variable x is or is the twin of
  owner : ℕ → ℕ
  owner x = cond (ltb x n) x (get_or twins (x - n) 0)

  owner_own : (v : ℕ) → v < n → owner v ≡ v
  unfolding owner
  owner_own v h = rw (lt-ltb v n h)

  owner_twin : (v : ℕ) → place eqb v twins < length twins → owner (n + place eqb v twins) ≡ v
  unfolding owner
  owner_twin v h =
      let k = place eqb v twins in
      let e : n + k - n ≡ k = omega arith in
      rw (le-ltb (n + k) n (omega arith), e) (place_found v twins h)

  abbrev owner_of : Rule → ℕ
  owner_of r = owner (atom_variable r.atom)

  -- the rules of one variable are its own
  rules_of_owned : (c : Changes) → c.variable < n → All (λ r. owner_of r ≡ c.variable) (rules_of n twins c)
  unfolding atom_variable
  rules_of_owned c h =
      rules_of_all (λ r. owner_of r ≡ c.variable) n twins c (owner_own c.variable h) (owner_own c.variable h)
      (λ b. (owner_twin c.variable b, owner_twin c.variable b))

  absent_owned :
      (l : Atom) (m : ℕ) {rs : List Rule}
      → owner (atom_variable l) < m
      → All (λ r. owner_of r ≡ m) rs
      → Absent l (atoms rs)
  absent_owned l m h none = tt
  absent_owned l m h (also {x = r} p ps) = (
    λ e.
        let q : owner (atom_variable l) ≡ owner_of r = ap (λ (a : Atom). owner (atom_variable a)) e in
        omega arith,
    absent_owned l m h ps,
  )

  distinct_append :
      (m : ℕ) (rs qs : List Rule)
      → All (λ r. owner_of r < m) rs
      → All (λ r. owner_of r ≡ m) qs
      → Distinct (atoms rs)
      → Distinct (atoms qs)
      → Distinct (atoms (rs ++ qs))
  distinct_append m [] qs none q d e = e
  distinct_append m (r ∷ rs) qs (also p ps) q d e =
      (absent_append r.atom rs qs d.0 (absent_owned r.atom m p q), distinct_append m rs qs ps q d.1 e)

  -- a variable's rules: set it, clear its twin, clear it, set its twin, each at most once
  rules_of_distinct : (c : Changes) → c.variable < n → Distinct (atoms (rules_of n twins c))
  unfolding rules_of rule with_twin
  rules_of_distinct c h = go (eqb c.adds 0) (eqb c.deletes 0) (ltb (place eqb c.variable twins) (length twins))
    where
      v : ℕ
      v = c.variable

      w : ℕ
      w = n + place eqb v twins

      other : v ≡ w → ⊥
      other e = omega arith

      go :
          (a d t : Bool)
          → Distinct
          (atoms
          (cond a [] (record { condition = c.adds; atom = sets v } ∷ [])
          ++ (cond t (cond a [] (record { condition = c.adds; atom = clears w } ∷ [])) []
          ++ (cond d [] (record { condition = c.deletes; atom = clears v } ∷ [])
          ++ cond t (cond d [] (record { condition = c.deletes; atom = sets w } ∷ [])) []))))
      go true true true = tt
      go true true false = tt
      go true false true = ((clear_not_set v w, tt), (tt, tt))
      go true false false = (tt, tt)
      go false true true = ((set_not_clear v w, tt), (tt, tt))
      go false true false = (tt, tt)
      go false false true = (
        (set_not_clear v w, (set_not_clear v v, (sets_differ v w other, tt))),
        ((clears_differ w v (λ e. other (sym e)), (clear_not_set w w, tt)), ((clear_not_set v w, tt), (tt, tt))),
      )
      go false false false = ((set_not_clear v v, tt), (tt, tt))

  -- all rules of the variables below m: none is of m
  record Apart (m : ℕ) (rs : List Rule) : Type 0 where
    below : All (λ r. owner_of r < m) rs
    once : Distinct (atoms rs)

  apart_next :
      (m : ℕ) (cs : List Changes) (c : Changes)
      → c.variable ≡ m
      → m < n
      → Apart m (rules n twins cs)
      → Apart (suc m) (rules n twins cs ++ rules_of n twins c)
  apart_next m cs c e h a =
      let own : All (λ r. owner_of r ≡ m) (rules_of n twins c) =
      all_map (λ r q. q ∙ e) (rules_of_owned c (omega arith))
      in
      record {
        below = all_append (all_map (λ r q. omega arith) a.below) (all_map (λ r q. omega arith) own);
        once =
            distinct_append m (rules n twins cs) (rules_of n twins c) a.below own a.once
            (rules_of_distinct c (omega arith));
      }

  rules_apart : {m : ℕ} {cs : List Changes} → Upwards m cs → m ≤ n → Apart m (rules n twins cs)
  unfolding rules
  rules_apart start h = record { below = none; once = tt }
  rules_apart (next {m = m} {cs = cs} c e u) h =
      rw (rules_snoc n twins cs c) (apart_next m cs c e (omega arith) (rules_apart u (omega arith)))

  pub rules_distinct : {m : ℕ} {cs : List Changes} → Upwards m cs → m ≤ n → Distinct (atoms (rules n twins cs))
  rules_distinct u h = (rules_apart u h).once

pub twice : (p q : Formula) (l : Atom) → Flat (both (under p (atomic l)) (under q (atomic l))) → ⊥
twice p q l (conjunctive (more (one p2 l2) (one q2 l3)) d) = d.0.0 refl
