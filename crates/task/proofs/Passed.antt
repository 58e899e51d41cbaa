-- `refusal` gives 0 exactly if each of its tests passes; and what each test says of the lent words.
use Prim.Native.Nat.{ℕ, ◌+◌, ◌-◌, ◌*◌, ◌≤◌, ◌<◌}
use mathlib.Core.Path.{◌≡◌, ap}
use mathlib.Core.Logic.{◌↔◌}
use mathlib.Core.List.{List}
use mathlib.Core.Bool.{Bool, true, not}
use lib.ListN.{get_or}
use lib.Dec.{leb, ltb, eqb}
use borrow.Author.Tests.{leb-true, ltb-true, eqb-false, not-true, le-leb, lt-ltb, ne_eqb}
use Rattle.task.specs.declared.Head.{Head}
use Rattle.task.specs.Bounded.{every}
use Rattle.task.specs.Table.{Lent, operator_width, row_at, operator_at, formula_kind, effect_kind}
use Rattle.task.specs.Check.{Lengths, lengths_of, counts_kept, goal_kept, long_enough, room, initial_kept, twin_kept, twins_kept, formula_kept, formulas_kept, effect_kept, effects_kept, operator_number, operators_number, unless, refusal}
use Rattle.task.specs.Rules.{Counts, TwinRule, RoomFor, LongEnough, FormulaRule, EffectRule, OperatorRule}
use Rattle.task.proofs.Bounded.{and_left, and_right, and_both, every_at, every_from, first_at, first_from}
use Rattle.task.proofs.RowRules.{formula_told, formula_passes, effect_told, effect_passes, passes, rest_of, operator_told, operator_passes}

-- Each test of `refusal` passes.
pub record Passed (l : Lent) : Type 0 where
  pub counts : counts_kept l.head ≡ true
  pub goal : goal_kept l.head ≡ true
  pub lengths : long_enough l ≡ true
  pub initial : initial_kept l ≡ true
  pub twins : twins_kept l ≡ true
  pub formulas : formulas_kept l ≡ true
  pub effects : effects_kept l ≡ true
  pub operators : operators_number l ≡ 0

pub passed : (l : Lent) → refusal l ≡ 0 → Passed l
unfolding refusal
passed l e =
    let r12 = operators_number l in
    let r11 = unless (effects_kept l) 11 r12 in
    let r10 = unless (formulas_kept l) 10 r11 in
    let r9 = unless (twins_kept l) 9 r10 in
    let r8 = unless (initial_kept l) 8 r9 in
    let r5 = unless (long_enough l) 5 r8 in
    let r7 = unless (goal_kept l.head) 7 r5 in
    let e7 = rest_of (counts_kept l.head) 5 r7 e in
    let e5 = rest_of (goal_kept l.head) 6 r5 e7 in
    let e8 = rest_of (long_enough l) 4 r8 e5 in
    let e9 = rest_of (initial_kept l) 7 r9 e8 in
    let e10 = rest_of (twins_kept l) 8 r10 e9 in
    let e11 = rest_of (formulas_kept l) 9 r11 e10 in
    let e12 = rest_of (effects_kept l) 10 r12 e11 in
    record {
      counts = passes (counts_kept l.head) 5 r7 e;
      goal = passes (goal_kept l.head) 6 r5 e7;
      lengths = passes (long_enough l) 4 r8 e5;
      initial = passes (initial_kept l) 7 r9 e8;
      twins = passes (twins_kept l) 8 r10 e9;
      formulas = passes (formulas_kept l) 9 r11 e10;
      effects = passes (effects_kept l) 10 r12 e11;
      operators = e12;
    }

pub not_refused : (l : Lent) → Passed l → refusal l ≡ 0
unfolding refusal
not_refused l p =
    rw (p.counts, p.goal, p.lengths, p.initial, p.twins, p.formulas, p.effects, p.operators)

pub counts_tested : (h : Head) → counts_kept h ≡ true ↔ Counts h
unfolding counts_kept
counts_tested h = (told, tested)
  where
    told : counts_kept h ≡ true → Counts h
    told e =
        record {
          variables = leb-true h.variables 512 (search and_left);
          twins = leb-true (h.twins + h.twins) h.variables (search (and_left, and_right));
          one_formula = leb-true 1 h.formulas (search (and_left, and_right));
          formulas = leb-true h.formulas 4096 (search (and_left, and_right));
          effects = leb-true h.effects 4096 (search (and_left, and_right));
          operators = leb-true h.operators 256 (search (and_left, and_right));
        }

    tested : Counts h → counts_kept h ≡ true
    tested c =
        and_both (le-leb h.variables 512 c.variables)
        (and_both (le-leb (h.twins + h.twins) h.variables c.twins)
        (and_both (le-leb 1 h.formulas c.one_formula)
        (and_both (le-leb h.formulas 4096 c.formulas)
        (and_both (le-leb h.effects 4096 c.effects) (le-leb h.operators 256 c.operators)))))

pub goal_tested : (h : Head) → goal_kept h ≡ true ↔ h.goal < h.formulas
unfolding goal_kept
goal_tested h = (ltb-true h.goal h.formulas, lt-ltb h.goal h.formulas)

pub twin_tested : (bound : ℕ) (twins : List ℕ) (k : ℕ) → twin_kept bound twins k ≡ true ↔ TwinRule bound twins k
unfolding twin_kept
twin_tested bound twins k = (told, tested)
  where
    other : ℕ → Bool
    other j = not (eqb (get_or twins j 0) (get_or twins k 0))

    told : twin_kept bound twins k ≡ true → TwinRule bound twins k
    told e =
        record {
          below = ltb-true (get_or twins k 0) bound (and_left (ltb (get_or twins k 0) bound) (every k other) e);
          once =
              λ j h.
              eqb-false (get_or twins j 0) (get_or twins k 0)
              (not-true (eqb (get_or twins j 0) (get_or twins k 0))
              (every_at k other (and_right (ltb (get_or twins k 0) bound) (every k other) e) j h));
        }

    tested : TwinRule bound twins k → twin_kept bound twins k ≡ true
    tested r =
        and_both (lt-ltb (get_or twins k 0) bound r.below)
        (every_from k other (λ j h. ap not (ne_eqb (get_or twins j 0) (get_or twins k 0) (r.once j h))))

-- the test of room, of any tables and any counts
pub room_tested :
    (n : Lengths) (h : Head)
    → room n h ≡ true
    ↔ RoomFor n h.variables h.twins h.formulas h.effects h.operators
unfolding room
room_tested n h = (told, tested)
  where
    told : room n h ≡ true → RoomFor n h.variables h.twins h.formulas h.effects h.operators
    told e =
        record {
          initial = leb-true h.variables n.initial (search and_left);
          twins = leb-true h.twins n.twins (search (and_left, and_right));
          formulas = leb-true (3 * h.formulas) n.formulas (search (and_left, and_right));
          effects = leb-true (3 * h.effects) n.effects (search (and_left, and_right));
          operators = leb-true (operator_width * h.operators) n.operators (search (and_left, and_right));
        }

    tested : RoomFor n h.variables h.twins h.formulas h.effects h.operators → room n h ≡ true
    tested r =
        and_both (le-leb h.variables n.initial r.initial)
        (and_both (le-leb h.twins n.twins r.twins)
        (and_both (le-leb (3 * h.formulas) n.formulas r.formulas)
        (and_both (le-leb (3 * h.effects) n.effects r.effects)
        (le-leb (operator_width * h.operators) n.operators r.operators))))

module _ (l : Lent) where
  pub lengths_tested : long_enough l ≡ true ↔ LongEnough l
  unfolding long_enough
  lengths_tested = room_tested (lengths_of l) l.head

  pub initial_tested : initial_kept l ≡ true ↔ ((v : ℕ) → v < l.head.variables → get_or l.initial v 0 ≤ 1)
  unfolding initial_kept
  initial_tested = (
    λ e v h. leb-true (get_or l.initial v 0) 1 (every_at l.head.variables test e v h),
    λ r. every_from l.head.variables test (λ v h. le-leb (get_or l.initial v 0) 1 (r v h)),
  )
    where
      test : ℕ → Bool
      test v = leb (get_or l.initial v 0) 1

  pub twins_tested :
      twins_kept l ≡ true
      ↔ ((k : ℕ) → k < l.head.twins → TwinRule (l.head.variables - l.head.twins) l.twins k)
  unfolding twins_kept
  twins_tested = (
    λ e k h. (twin_tested bound l.twins k).0 (every_at l.head.twins (twin_kept bound l.twins) e k h),
    λ r. every_from l.head.twins (twin_kept bound l.twins) (λ k h. (twin_tested bound l.twins k).1 (r k h)),
  )
    where
      bound : ℕ
      bound = l.head.variables - l.head.twins

  pub formulas_tested :
      formulas_kept l ≡ true
      ↔ ((i : ℕ)
      → i < l.head.formulas
      → let r = row_at l.formulas i in
      FormulaRule l.head.variables i (formula_kind r.kind) r.a r.b)
  unfolding formulas_kept formula_kept
  formulas_tested = (
    λ e i h.
        let r = row_at l.formulas i in
        formula_told l.head.variables i (formula_kind r.kind) r.a r.b
        (every_at l.head.formulas test e i h),
    λ rule.
        every_from l.head.formulas test (λ i h.
        let r = row_at l.formulas i in
        formula_passes l.head.variables i (formula_kind r.kind) r.a r.b (rule i h)),
  )
    where
      test : ℕ → Bool
      test i = formula_kept l.head.variables i (row_at l.formulas i)

  pub effects_tested :
      effects_kept l ≡ true
      ↔ ((i : ℕ)
      → i < l.head.effects
      → let r = row_at l.effects i in
      EffectRule l.head.variables l.head.formulas i (effect_kind r.kind) r.a r.b)
  unfolding effects_kept effect_kept
  effects_tested = (
    λ e i h.
        let r = row_at l.effects i in
        effect_told l.head.variables l.head.formulas i (effect_kind r.kind) r.a r.b
        (every_at l.head.effects test e i h),
    λ rule.
        every_from l.head.effects test (λ i h.
        let r = row_at l.effects i in
        effect_passes l.head.variables l.head.formulas i (effect_kind r.kind) r.a r.b (rule i h)),
  )
    where
      test : ℕ → Bool
      test i = effect_kept l.head.variables l.head.formulas i (row_at l.effects i)

  pub operators_tested :
      operators_number l ≡ 0
      ↔ ((i : ℕ)
      → i < l.head.operators
      → OperatorRule l.head.formulas l.head.effects (operator_at l.operators i))
  unfolding operators_number
  operators_tested = (
    λ e i h.
        operator_told l.head.formulas l.head.effects (operator_at l.operators i)
        (first_at l.head.operators number e i h),
    λ rule.
        first_from l.head.operators number (λ i h.
        operator_passes l.head.formulas l.head.effects (operator_at l.operators i) (rule i h)),
  )
    where
      number : ℕ → ℕ
      number i = operator_number l.head.formulas l.head.effects (operator_at l.operators i)
