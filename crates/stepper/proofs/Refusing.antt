-- Laws of the refusals: which number each way out gives, and what stands once none is given. Assumes nothing.
use Prim.Native.Nat.{ℕ, zero, suc, ◌+◌, ◌≤◌, ◌<◌}
use native.Mathlib.Omega.{arith}
use mathlib.Core.Path.{◌≡◌, refl}
use mathlib.Core.Bool.{Bool, true, false, ◌&&◌}
use mathlib.Core.List.{List}
use lib.ListN.{length, get_or}
use lib.Dec.{leb, eqb}
use borrow.Author.Tests.{eq-eqb, ne_eqb, eqb-true, le-leb, lt-leb, leb-true}
use Rattle.task.specs.Bounded.{every}
use Rattle.task.specs.Table.{Lent}
use Rattle.task.specs.Check.{refusal, unless}
use Rattle.task.proofs.Bounded.{and_left, and_right, every_at}
use Rattle.task.proofs.Held.{length_initial, length_formulas, length_effects, length_operators, formula_held, effect_held, operator_held, goal_held}
use Rattle.task.proofs.Kept.{kept_rules}
use Rattle.operator_step.specs.Inner.Steps.{TablesReady, Ready}
use Rattle.stepper.specs.Stepped.{state_kept, step_scratch_kept, first_of, early_refusal}

pub first : (n rest : ℕ) → (n ≡ 0 → ⊥) → n ≡ first_of n rest
first zero rest d = absurd (d refl)
first (suc n) rest d = refl

pub first_none : (n rest : ℕ) → first_of n rest ≡ 0 → n ≡ 0
first_none zero rest e = refl
first_none (suc n) rest e = e

pub rest_none : (n rest : ℕ) → first_of n rest ≡ 0 → rest ≡ 0
rest_none zero rest e = e
rest_none (suc n) rest e = absurd (omega arith)

pub unless_kept : (b : Bool) (n rest : ℕ) → (n ≡ 0 → ⊥) → unless b n rest ≡ 0 → b ≡ true
unless_kept true n rest d e = refl
unless_kept false n rest d e = absurd (d e)

unless_rest : (b : Bool) (n rest : ℕ) → (n ≡ 0 → ⊥) → unless b n rest ≡ 0 → rest ≡ 0
unless_rest true n rest d e = e
unless_rest false n rest d e = absurd (d e)

-- the ways out of `refused_early`
module _ (l : Lent) (s scratch : List ℕ) where
  pub refused_tables : (n : ℕ) → n ≡ refusal l → (n ≡ 0 → ⊥) → n ≡ early_refusal l s scratch
  unfolding early_refusal
  refused_tables n checked d =
      rw (← checked)
      (first n (unless (state_kept l.head.variables s) 16 (unless (step_scratch_kept l.head scratch) 14 0)) d)

  module _ (checked : 0 ≡ refusal l) where
    pub refused_length : (length s ≡ l.head.variables → ⊥) → 16 ≡ early_refusal l s scratch
    unfolding early_refusal state_kept
    refused_length d = rw (← checked, ne_eqb (length s) l.head.variables d)

    module _ (size : length s ≡ l.head.variables) {told : Bool} (bits : told ≡ every (length s) (λ v. leb (get_or s v 0) 1)) where
      pub refused-bits : told ≡ false → 16 ≡ early_refusal l s scratch
      unfolding early_refusal state_kept
      refused-bits e = rw (← checked, eq-eqb (length s) l.head.variables size, ← bits, e)

      pub refused-room : told ≡ true → length scratch < l.head.formulas + l.head.effects → 14 ≡ early_refusal l s scratch
      unfolding early_refusal state_kept step_scratch_kept
      refused-room e h =
          rw (
            ← checked,
            eq-eqb (length s) l.head.variables size,
            ← bits,
            e,
            lt-leb (l.head.formulas + l.head.effects) (length scratch) h,
          )

      pub not_refused : told ≡ true → l.head.formulas + l.head.effects ≤ length scratch → 0 ≡ early_refusal l s scratch
      unfolding early_refusal state_kept step_scratch_kept
      not_refused e h =
          rw (
            ← checked,
            eq-eqb (length s) l.head.variables size,
            ← bits,
            e,
            le-leb (l.head.formulas + l.head.effects) (length scratch) h,
          )

-- once the tables pass, a step may look at them
module _ (l : Lent) (passed : refusal l ≡ 0) where
  pub tables_ready : TablesReady l
  tables_ready =
      let long = (kept_rules l passed).0 in
      let rules = (kept_rules l passed).1 in
      record {
        formulas_there = long.formulas;
        effects_there = long.effects;
        operators_there = long.operators;
        formula =
            λ i h. rw (formula_held l i h, length_initial l long) at (rules.formula i (rw (length_formulas l) h));
        effect =
            λ i h.
            rw (effect_held l i h, length_initial l long, length_formulas l) at (rules.effect i (rw (length_effects l) h));
        operator =
            λ i h.
            rw (operator_held l i h, length_formulas l, length_effects l) at
            (rules.operator i (rw (length_operators l) h));
        goal = rw (goal_held l, length_formulas l) at rules.goal_is_formula;
      }

module _ (l : Lent) (s scratch : List ℕ) (passed : early_refusal l s scratch ≡ 0) where
  later : ℕ
  later = unless (state_kept l.head.variables s) 16 (unless (step_scratch_kept l.head scratch) 14 0)

  tables_passed : refusal l ≡ 0
  unfolding early_refusal later
  tables_passed = first_none (refusal l) later passed

  pub ready : Ready l s scratch
  unfolding early_refusal later state_kept step_scratch_kept
  ready =
      let rest = rest_none (refusal l) later passed in
      let room = unless (step_scratch_kept l.head scratch) 14 0 in
      let size = eqb (length s) l.head.variables in
      let bits = every (length s) (λ v. leb (get_or s v 0) 1) in
      let both : (size && bits) ≡ true = unless_kept (state_kept l.head.variables s) 16 room (omega arith) rest in
      record {
        tables = tables_ready l tables_passed;
        state =
            record {
              size = eqb-true (length s) l.head.variables (and_left size bits both);
              bits =
                  λ v h.
                  leb-true (get_or s v 0) 1
                  (every_at (length s) (λ w. leb (get_or s w 0) 1) (and_right size bits both) v h);
            };
        room =
            leb-true (l.head.formulas + l.head.effects) (length scratch)
            (unless_kept (step_scratch_kept l.head scratch) 14 0 (omega arith)
            (unless_rest (state_kept l.head.variables s) 16 room (omega arith) rest));
      }
