-- Laws of the refusals: which number each way out gives, and what stands once none is given. Assumes nothing.
use Prim.Native.Nat.{ℕ, ◌+◌, ◌*◌, ◌%◌, ◌^◌, ◌≤◌, ◌<◌}
use native.Mathlib.Nat.{one-mul}
use native.Mathlib.Omega.{arith}
use native.Mathlib.Decide.{dec_lt}
use mathlib.Core.Path.{◌≡◌, refl, sym, ◌∙◌}
use mathlib.Core.Bool.{Bool, true, false, ◌&&◌}
use mathlib.Core.List.{List}
use lib.Dec.{leb}
use lib.ListN.{length, get_or, get_or-eq_default}
use lib.Pow.{shl_exact, pow_mono}
use borrow.Author.Tests.{le-leb, lt-leb, leb-true}
use Rattle.task.specs.declared.Head.{Head}
use Rattle.task.specs.Table.{Lent, operator_width, task_of, operator_at}
use Rattle.task.specs.Check.{refusal, unless}
use Rattle.task.specs.Rules.{no_operator}
use Rattle.task.proofs.Charges.{charge_most}
use Rattle.task.specs.Run.{charge_of, charge, operator_of}
use Rattle.task.proofs.Bounded.{and_left, and_right, getD_upto}
use Rattle.task.proofs.Held.{length_initial, length_effects, length_operators}
use Rattle.task.proofs.Kept.{kept_rules}
use Rattle.stepper.specs.Stepped.{step_scratch_kept}
use Rattle.stepper.proofs.Refusing.{first, first_none, rest_none, unless_kept, tables_ready}
use Rattle.cheapest_plan.specs.Planned.{few_variables, search_scratch_kept, search_refusal}
use Rattle.cheapest_plan.specs.Inner.Visits.{TaskIn}
use Rattle.cheapest_plan.specs.Inner.Plans.{PlanReady}

-- 2 to a number of variables
pub few_states : {v : ℕ} → v ≤ 10 → 2 ^ v ≤ 1024
few_states few = pow_mono few

pub states_shifted : (v : ℕ) → v ≤ 10 → (1 * 2 ^ v % 18446744073709551616 ≡ 2 ^ v) × (1 * 2 ^ v % 18446744073709551616 ≤ 1024)
states_shifted v few =
    let e : 1 * 2 ^ v % 18446744073709551616 ≡ 2 ^ v = shl_exact {a = 1} 1 v 64 (omega arith) (omega arith) ∙ one-mul (2 ^ v) in
    (e, omega (arith, few_states few))

unless_rest : (b : Bool) (n rest : ℕ) → (n ≡ 0 → ⊥) → unless b n rest ≡ 0 → rest ≡ 0
unless_rest true n rest d e = e
unless_rest false n rest d e = absurd (d e)

-- the room of both scratches
module _ (h : Head) (scratch words : List ℕ) where
  pub room_tested :
      h.formulas + h.effects ≤ length scratch
      → {states : ℕ}
      → states ≡ 2 ^ h.variables
      → leb (4 * states) (length words) ≡ search_scratch_kept h scratch words
  unfolding search_scratch_kept step_scratch_kept
  room_tested bytes e = rw (le-leb (h.formulas + h.effects) (length scratch) bytes, e) refl

  pub room_untested : length scratch < h.formulas + h.effects → leb (h.formulas + h.effects) (length scratch) ≡ search_scratch_kept h scratch words
  unfolding search_scratch_kept step_scratch_kept
  room_untested short = rw (lt-leb (h.formulas + h.effects) (length scratch) short) refl

-- the ways out of `refused_early`
module _ (l : Lent) (scratch words : List ℕ) (n : ℕ) (checked : n ≡ refusal l) where
  pub refused_tables : (n ≡ 0 → ⊥) → n ≡ search_refusal l scratch words
  unfolding search_refusal
  refused_tables d =
      rw (← checked) (first n (unless (few_variables l.head) 21 (unless (search_scratch_kept l.head scratch words) 14 0)) d)

  module _ (passed : n ≡ 0) where
    none : refusal l ≡ 0
    none = sym checked ∙ passed

    pub refused_variables : 10 < l.head.variables → 21 ≡ search_refusal l scratch words
    unfolding search_refusal few_variables
    refused_variables h = rw (none, lt-leb l.head.variables 10 h)

    module _ (few : l.head.variables ≤ 10) where
      -- the last test
      pub roomy_last :
          (b : Bool)
          → b ≡ search_scratch_kept l.head scratch words
          → {r : ℕ}
          → r ≡ unless b 14 0
          → r ≡ search_refusal l scratch words
      unfolding search_refusal few_variables
      roomy_last b is told = told ∙ rw (none, le-leb l.head.variables 10 few, is) refl

-- once none is given, a search may begin
module _ (l : Lent) (words16 : (i : ℕ) → get_or l.operators i 0 < 65536) where
  low_cost : (o : ℕ) → o < l.head.operators → (get_or (task_of l).operators o no_operator).cost ≤ 65535
  unfolding task_of operator_at
  low_cost o h =
      rw (getD_upto l.head.operators (operator_at l.operators) o no_operator h) (omega (arith, words16 (operator_width * o + 2)))

  module _ (scratch words : List ℕ) (passed : search_refusal l scratch words ≡ 0) where
    later : ℕ
    later = unless (few_variables l.head) 21 (unless (search_scratch_kept l.head scratch words) 14 0)

    pub tables_passed : refusal l ≡ 0
    unfolding search_refusal later
    tables_passed = first_none (refusal l) later passed

    pub variables_few : l.head.variables ≤ 10
    unfolding search_refusal later few_variables
    variables_few =
        leb-true l.head.variables 10
        (unless_kept (few_variables l.head) 21 (unless (search_scratch_kept l.head scratch words) 14 0) (omega arith)
        (rest_none (refusal l) later passed))

    pub cheap : (s : List ℕ) (o : ℕ) → charge (task_of l) s o ≤ 131070
    unfolding charge operator_of
    cheap s o = go (dec_lt o (length (task_of l).operators))
      where
        go : Dec (o < length (task_of l).operators) → charge_of (get_or (task_of l).operators o no_operator) ≤ 131070
        go (yes h) =
            charge_most (get_or (task_of l).operators o no_operator) (low_cost o (rw (length_operators l) at h))
            ((kept_rules l tables_passed).1.operator o h).percent
        go (no h) =
            let outside : length (task_of l).operators ≤ o = omega arith in
            rw (get_or-eq_default (task_of l).operators no_operator {n = o} outside) (charge_most no_operator (omega arith) (omega arith))

    roomy : (step_scratch_kept l.head scratch && leb (4 * 2 ^ l.head.variables) (length words)) ≡ true
    unfolding search_refusal later search_scratch_kept
    roomy =
        unless_kept (search_scratch_kept l.head scratch words) 14 0 (omega arith)
        (unless_rest (few_variables l.head) 21 (unless (search_scratch_kept l.head scratch words) 14 0) (omega arith)
        (rest_none (refusal l) later passed))

    pub bytes_there : l.head.formulas + l.head.effects ≤ length scratch
    unfolding step_scratch_kept
    bytes_there =
        leb-true (l.head.formulas + l.head.effects) (length scratch)
        (and_left (step_scratch_kept l.head scratch) (leb (4 * 2 ^ l.head.variables) (length words)) roomy)

    pub words_there : 4 * 2 ^ l.head.variables ≤ length words
    words_there =
        leb-true (4 * 2 ^ l.head.variables) (length words)
        (and_right (step_scratch_kept l.head scratch) (leb (4 * 2 ^ l.head.variables) (length words)) roomy)

    unfoldable pub tables_in : TaskIn (task_of l) l
    unfolding task_of
    tables_in =
        let rules = kept_rules l tables_passed in
        record {
          variables = length_initial l rules.0;
          formulas = refl;
          effects = refl;
          operators = refl;
          goal = refl;
          ready = tables_ready l tables_passed;
          few = omega (arith, rules.1.limits.operators, length_operators l);
        }

    unfoldable pub search_ready : PlanReady l scratch words
    unfolding task_of
    search_ready =
        let rules = kept_rules l tables_passed in
        record {
          t = task_of l;
          tables = tables_in;
          passes = rules.1;
          cheap = cheap;
          starts = refl;
          few = variables_few;
          there = rules.0.initial;
          effects = omega (arith, rules.1.limits.effects, length_effects l);
          room = omega (arith, bytes_there);
          words_room = words_there;
        }
