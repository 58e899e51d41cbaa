-- The changes that bring rules bring all of them, and each brings two effect rows or more. Assumes nothing.
use Prim.Native.Nat.{ℕ, zero, suc, ◌+◌, ◌*◌, ◌≤◌, ◌<◌}
use native.Mathlib.Omega.{arith}
use native.Mathlib.Decide.{dec_lt}
use mathlib.Core.Path.{◌≡◌, refl, sym, ap, ◌∙◌}
use mathlib.Core.Bool.{Bool, true, false, cond, true≢false}
use mathlib.Core.List.{List, [], ◌∷◌, ◌++◌}
use lib.ListN.{length, length-append}
use lib.Dec.{eqb}
use borrow.Author.Tests.{eqb-true, eq-eqb, ne_eqb}
use Rattle.task.specs.Semantics.{Atom, sets, clears}
use Rattle.task.proofs.Bounded.{and_left, and_right}
use Rattle.normal_form.specs.Operators.{Changes, Built}
use Rattle.normal_form.specs.Assembly.{Rule, rule, rules_of, rules, Assembled, assemble_operator}
use Rattle.normal_form.proofs.Assembling.{rules_none}
use Rattle.normal_form.proofs.ShapeCounts.{rows_of_rules, written_length}
use Rattle.normal_form.proofs.ShapeRules.{All, none, also}
use Rattle.change_records.specs.Inner.Recorded.{idle, acting}

rule_one : (c : ℕ) (l : Atom) → 0 < c → length (rule c l) ≡ 1
unfolding rule
rule_one c l h = rw (ne_eqb c 0 (omega arith))

rows_more : (k : ℕ) → 2 * k ≤ rows_of_rules k
unfolding rows_of_rules
rows_more zero = omega arith
rows_more (suc k) = omega arith

module _ (n : ℕ) (twins : List ℕ) where
  pub rules_acting : (cs : List Changes) → rules n twins (acting cs) ≡ rules n twins cs
  unfolding rules acting idle
  rules_acting [] = refl
  rules_acting (c ∷ cs) = go (idle c) refl (rules_acting cs)
    where
      go :
          (b : Bool)
          → idle c ≡ b
          → rules n twins (acting cs) ≡ rules n twins cs
          → rules n twins (cond b (acting cs) (c ∷ acting cs)) ≡ rules_of n twins c ++ rules n twins cs
      go true e same =
          let none =
          rules_none n twins c (eqb-true c.adds 0 (and_left (eqb c.adds 0) (eqb c.deletes 0) e))
          (eqb-true c.deletes 0 (and_right (eqb c.adds 0) (eqb c.deletes 0) e)) in
          same ∙ sym (ap (λ (l : List Rule). l ++ rules n twins cs) none)
      go false e same = ap (λ (l : List Rule). rules_of n twins c ++ l) same

  -- such a change has a rule
  some_rule : (c : Changes) → idle c ≡ false → 1 ≤ length (rules_of n twins c)
  unfolding rules_of idle
  some_rule c e = simp length-append (omega (arith, one (dec_lt 0 c.adds) (dec_lt 0 c.deletes)))
    where
      one :
          Dec (0 < c.adds)
          → Dec (0 < c.deletes)
          → 1 ≤ length (rule c.adds (sets c.variable)) + length (rule c.deletes (clears c.variable))
      one (yes h) d = omega (arith, rule_one c.adds (sets c.variable) h)
      one (no h) (yes d) = omega (arith, rule_one c.deletes (clears c.variable) d)
      one (no h) (no d) =
          let a = eq-eqb c.adds 0 (omega arith) in
          let b = eq-eqb c.deletes 0 (omega arith) in
          absurd (true≢false (rw (a, b) at e))

  acting_few : (cs : List Changes) → length (acting cs) ≤ length (rules n twins cs)
  unfolding rules acting
  acting_few [] = omega arith
  acting_few (c ∷ cs) = go (idle c) refl (acting_few cs) (length-append (rules_of n twins c) (rules n twins cs))
    where
      go :
          (b : Bool)
          → idle c ≡ b
          → length (acting cs) ≤ length (rules n twins cs)
          → length (rules_of n twins c ++ rules n twins cs) ≡ length (rules_of n twins c) + length (rules n twins cs)
          → length (cond b (acting cs) (c ∷ acting cs)) ≤ length (rules_of n twins c ++ rules n twins cs)
      go true e h k = omega (arith, h, k)
      go false e h k = omega (arith, h, k, some_rule c e)

  -- an operator, with the changes that bring rules alone
  pub acting_operator :
      (w : Assembled) (b : Built)
      → assemble_operator n twins w (record { precondition = b.precondition; changes = acting b.changes; source = b.source })
      ≡ assemble_operator n twins w b
  unfolding assemble_operator
  acting_operator w b = rw (rules_acting b.changes)

  pub operator_more :
      (w : Assembled) (b : Built)
      → length w.effects + 2 * length (acting b.changes) ≤ length (assemble_operator n twins w b).effects
  unfolding assemble_operator
  operator_more w b =
      let rs = rules n twins b.changes in
      omega (arith, written_length w.effects rs, rows_more (length rs), acting_few b.changes)

-- what all changes keep, those that bring rules keep
pub acting_all : (P : Changes → Type 0) {cs : List Changes} → All P cs → All P (acting cs)
unfolding acting
acting_all P none = none
acting_all P (also {x = c} {xs = cs} p ps) = go (idle c) (acting_all P ps)
  where
    go : (b : Bool) → All P (acting cs) → All P (cond b (acting cs) (c ∷ acting cs))
    go true all = all
    go false all = also p all
