-- `finite_refusal` gives 0 exactly if each of its tests passes; and what the tests of the head, the lengths and the values say. Assumes nothing.
use Prim.Native.Nat.{ℕ, ◌*◌, ◌≤◌, ◌<◌}
use mathlib.Core.Path.{◌≡◌}
use mathlib.Core.Logic.{◌↔◌}
use mathlib.Core.Bool.{Bool, true, ◌&&◌}
use lib.ListN.{length, get_or}
use lib.Dec.{leb, eqb}
use borrow.Author.Tests.{leb-true, ltb-true, eqb-true, le-leb, lt-ltb, eq-eqb}
use Rattle.task.specs.declared.Head.{Head}
use Rattle.task.specs.Bounded.{or_else}
use Rattle.task.specs.Table.{operator_width}
use Rattle.task.specs.Check.{counts_kept, goal_kept, unless}
use Rattle.task.specs.Rules.{Counts}
use Rattle.task.proofs.Bounded.{and_left, and_right, and_both, every_at, every_from}
use Rattle.task.proofs.RowRules.{passes, rest_of}
use Rattle.task.proofs.Passed.{counts_tested}
use Rattle.finite_domain.specs.Table.{FiniteLent}
use Rattle.finite_domain.specs.Check.{finite_counts_kept, finite_long_enough, count_kept, value_counts_kept, value_kept, initial_values_kept, finite_formulas_number, finite_effects_number, finite_operators_number, finite_refusal}
use Rattle.finite_domain.proofs.Order.{first_zero, second_zero}

-- Each test of `finite_refusal` passes.
pub record FinitePassed (l : FiniteLent) : Type 0 where
  pub counts : finite_counts_kept l.head ≡ true
  pub goal : goal_kept l.head ≡ true
  pub lengths : finite_long_enough l ≡ true
  pub values : value_counts_kept l ≡ true
  pub initial : initial_values_kept l ≡ true
  pub formulas : finite_formulas_number l ≡ 0
  pub effects : finite_effects_number l ≡ 0
  pub operators : finite_operators_number l ≡ 0

pub finite_passed : (l : FiniteLent) → finite_refusal l ≡ 0 → FinitePassed l
unfolding finite_refusal
finite_passed l e =
    let last = or_else (finite_effects_number l) (finite_operators_number l) in
    let rows = or_else (finite_formulas_number l) last in
    let r26 = unless (initial_values_kept l) 26 rows in
    let r25 = unless (value_counts_kept l) 25 r26 in
    let r5 = unless (finite_long_enough l) 5 r25 in
    let r7 = unless (goal_kept l.head) 7 r5 in
    let e7 = rest_of (finite_counts_kept l.head) 5 r7 e in
    let e5 = rest_of (goal_kept l.head) 6 r5 e7 in
    let e25 = rest_of (finite_long_enough l) 4 r25 e5 in
    let e26 = rest_of (value_counts_kept l) 24 r26 e25 in
    let some = rest_of (initial_values_kept l) 25 rows e26 in
    let more = second_zero (finite_formulas_number l) last some in
    record {
      counts = passes (finite_counts_kept l.head) 5 r7 e;
      goal = passes (goal_kept l.head) 6 r5 e7;
      lengths = passes (finite_long_enough l) 4 r25 e5;
      values = passes (value_counts_kept l) 24 r26 e25;
      initial = passes (initial_values_kept l) 25 rows e26;
      formulas = first_zero (finite_formulas_number l) last some;
      effects = first_zero (finite_effects_number l) (finite_operators_number l) more;
      operators = second_zero (finite_effects_number l) (finite_operators_number l) more;
    }

pub finite_not_refused : (l : FiniteLent) → FinitePassed l → finite_refusal l ≡ 0
unfolding finite_refusal or_else
finite_not_refused l p =
    rw (p.counts, p.goal, p.lengths, p.values, p.initial, p.formulas, p.effects) p.operators

pub finite_counts_tested :
    (h : Head) → finite_counts_kept h ≡ true ↔ (h.variables ≤ 64) × (h.twins ≡ 0) × Counts h
unfolding finite_counts_kept
finite_counts_tested h = (told, tested)
  where
    told : finite_counts_kept h ≡ true → (h.variables ≤ 64) × (h.twins ≡ 0) × Counts h
    told e =
        let others = eqb h.twins 0 && counts_kept h in
        let rest = and_right (leb h.variables 64) others e in (
          leb-true h.variables 64 (and_left (leb h.variables 64) others e),
          eqb-true h.twins 0 (and_left (eqb h.twins 0) (counts_kept h) rest),
          (counts_tested h).0 (and_right (eqb h.twins 0) (counts_kept h) rest),
        )

    tested : (h.variables ≤ 64) × (h.twins ≡ 0) × Counts h → finite_counts_kept h ≡ true
    tested c =
        and_both (le-leb h.variables 64 c.0) (and_both (eq-eqb h.twins 0 c.1) ((counts_tested h).1 c.2))

-- The lengths of a table, W left aside.
pub record FiniteRoom (l : FiniteLent) : Type 0 where
  pub counts : l.head.variables ≤ length l.counts
  pub initial : l.head.variables ≤ length l.initial
  pub formulas : 3 * l.head.formulas ≤ length l.formulas
  pub effects : 3 * l.head.effects ≤ length l.effects
  pub operators : operator_width * l.head.operators ≤ length l.operators

module _ (l : FiniteLent) where
  pub finite_lengths_tested : finite_long_enough l ≡ true ↔ FiniteRoom l
  unfolding finite_long_enough
  finite_lengths_tested = (told, tested)
    where
      told : finite_long_enough l ≡ true → FiniteRoom l
      told e =
          record {
            counts = leb-true l.head.variables (length l.counts) (search and_left);
            initial = leb-true l.head.variables (length l.initial) (search (and_left, and_right));
            formulas = leb-true (3 * l.head.formulas) (length l.formulas) (search (and_left, and_right));
            effects = leb-true (3 * l.head.effects) (length l.effects) (search (and_left, and_right));
            operators =
                leb-true (operator_width * l.head.operators) (length l.operators) (search (and_left, and_right));
          }

      tested : FiniteRoom l → finite_long_enough l ≡ true
      tested r =
          and_both (le-leb l.head.variables (length l.counts) r.counts)
          (and_both (le-leb l.head.variables (length l.initial) r.initial)
          (and_both (le-leb (3 * l.head.formulas) (length l.formulas) r.formulas)
          (and_both (le-leb (3 * l.head.effects) (length l.effects) r.effects)
          (le-leb (operator_width * l.head.operators) (length l.operators) r.operators))))

  pub values_tested :
      value_counts_kept l ≡ true
      ↔ ((a : ℕ) → a < l.head.variables → (1 ≤ get_or l.counts a 0) × (get_or l.counts a 0 ≤ 16))
  unfolding value_counts_kept count_kept
  values_tested = (
    λ e a h.
        let n = get_or l.counts a 0 in
        let both = every_at l.head.variables test e a h in
        (leb-true 1 n (and_left (leb 1 n) (leb n 16) both), leb-true n 16 (and_right (leb 1 n) (leb n 16) both)),
    λ r.
        every_from l.head.variables test (λ a h.
        let n = get_or l.counts a 0 in
        and_both (le-leb 1 n (r a h).0) (le-leb n 16 (r a h).1)),
  )
    where
      test : ℕ → Bool
      test a = count_kept (get_or l.counts a 0)

  pub initial_values_tested :
      initial_values_kept l ≡ true
      ↔ ((a : ℕ) → a < l.head.variables → get_or l.initial a 0 < get_or l.counts a 0)
  unfolding initial_values_kept value_kept
  initial_values_tested = (
    λ e a h. ltb-true (get_or l.initial a 0) (get_or l.counts a 0) (every_at l.head.variables test e a h),
    λ r.
        every_from l.head.variables test (λ a h. lt-ltb (get_or l.initial a 0) (get_or l.counts a 0) (r a h)),
  )
    where
      test : ℕ → Bool
      test a = value_kept l.counts a (get_or l.initial a 0)
