-- `check` meets its contract: the first refusal in order. Assumes nothing.
use lib.Seq.{length-take-le}
use mathlib.Core.Path.{refl, sym, ◌∙◌}
use Rattle.task.proofs.Bounded.{every_first}
use Rattle.task.proofs.Order.{failed, tested}
use Rattle.task.proofs.Refusals.{number_some}
use Rattle.task.proofs.Told.{returned}
use Rattle.finite_domain.specs.Check.{count_kept, value_counts_kept, initial_values_kept, finite_formulas_number, finite_effects_number, finite_operators_number}
use Rattle.finite_domain.proofs.Order.{first_of, second_of, finite_6, finite_7, finite-5, finite-25, finite-26, finite-rows}
use Rattle.finite_domain.proofs.Passed.{finite_lengths_tested}
use Rattle.finite_domain.proofs.Ways.{values_first}
use Rattle.finite_domain.proofs.check.check.Goals as goal

pub returns-then-not-finite_counts_kept : goal.returns-then-not-finite_counts_kept
returns-then-not-finite_counts_kept c =
    finite_6 _ (failed c.finite_counts_kept.ensures c.if-not-finite_counts_kept.true)

pub returns-then-not-goal_kept : goal.returns-then-not-goal_kept
returns-then-not-goal_kept c =
    finite_7 _ (tested c.finite_counts_kept.ensures c.if-not-finite_counts_kept.false) (failed c.goal_kept.ensures c.if-not-goal_kept.true)

pub returns-then-not-finite_long_enough : goal.returns-then-not-finite_long_enough
returns-then-not-finite_long_enough c =
    finite-5 _ (tested c.finite_counts_kept.ensures c.if-not-finite_counts_kept.false) (tested c.goal_kept.ensures c.if-not-goal_kept.false)
    (failed c.finite_long_enough.ensures c.if-not-finite_long_enough.true)

pub slice_bounds-counts-end : goal.slice_bounds-counts-end
slice_bounds-counts-end c =
    let room = (finite_lengths_tested _).0 (tested c.finite_long_enough.ensures c.if-not-finite_long_enough.false) in
    sym (length-take-le c.args.tables.now.head.variables c.args.tables.now.counts.now room.counts)

pub returns-then-not-value_counts_kept : goal.returns-then-not-value_counts_kept
unfolding value_counts_kept initial_values_kept
returns-then-not-value_counts_kept c =
    let t = c.args.tables.now in
    let room = (finite_lengths_tested _).0 (tested c.finite_long_enough.ensures c.if-not-finite_long_enough.false) in
    finite-25 _ (tested c.finite_counts_kept.ensures c.if-not-finite_counts_kept.false) (tested c.goal_kept.ensures c.if-not-goal_kept.false)
    (tested c.finite_long_enough.ensures c.if-not-finite_long_enough.false)
    (failed (c.value_counts_kept.ensures ∙ every_first count_kept t.head.variables t.counts.now room.counts) c.if-not-value_counts_kept.true)

pub slice_bounds-initial_values_kept-end : goal.slice_bounds-initial_values_kept-end
slice_bounds-initial_values_kept-end c =
    let room = (finite_lengths_tested _).0 (tested c.finite_long_enough.ensures c.if-not-finite_long_enough.false) in
    sym (length-take-le c.args.tables.now.head.variables c.args.tables.now.initial.now room.initial)

pub initial_values_kept-requires : goal.initial_values_kept-requires
initial_values_kept-requires c =
    let t = c.args.tables.now in
    let room = (finite_lengths_tested _).0 (tested c.finite_long_enough.ensures c.if-not-finite_long_enough.false) in
    length-take-le t.head.variables t.counts.now room.counts ∙ sym (length-take-le t.head.variables t.initial.now room.initial)

pub returns-then-not-initial_values_kept : goal.returns-then-not-initial_values_kept
unfolding value_counts_kept initial_values_kept
returns-then-not-initial_values_kept c =
    let t = c.args.tables.now in
    let room = (finite_lengths_tested _).0 (tested c.finite_long_enough.ensures c.if-not-finite_long_enough.false) in
    finite-26 _ (tested c.finite_counts_kept.ensures c.if-not-finite_counts_kept.false) (tested c.goal_kept.ensures c.if-not-goal_kept.false)
    (tested c.finite_long_enough.ensures c.if-not-finite_long_enough.false)
    (tested (c.value_counts_kept.ensures ∙ every_first count_kept t.head.variables t.counts.now room.counts) c.if-not-value_counts_kept.false)
    (failed (c.initial_values_kept.ensures ∙ values_first t.counts.now t.initial.now t.head.variables room.counts room.initial) c.if-not-initial_values_kept.true)

pub check_rows-requires : goal.check_rows-requires
check_rows-requires c =
    let room = (finite_lengths_tested _).0 (tested c.finite_long_enough.ensures c.if-not-finite_long_enough.false) in
    (room.counts, room.formulas)

pub returns-in_err-check_rows : goal.returns-in_err-check_rows
unfolding value_counts_kept initial_values_kept finite_formulas_number finite_effects_number finite_operators_number
returns-in_err-check_rows c =
    let t = c.args.tables.now in
    let room = (finite_lengths_tested _).0 (tested c.finite_long_enough.ensures c.if-not-finite_long_enough.false) in
    let e = c.in_err-check_rows.field-0.0 in
    returned c.from_residual.result e _ c.from_residual.ensures.1
    (finite-rows _ (tested c.finite_counts_kept.ensures c.if-not-finite_counts_kept.false) (tested c.goal_kept.ensures c.if-not-goal_kept.false)
    (tested c.finite_long_enough.ensures c.if-not-finite_long_enough.false)
    (tested (c.value_counts_kept.ensures ∙ every_first count_kept t.head.variables t.counts.now room.counts) c.if-not-value_counts_kept.false)
    (tested (c.initial_values_kept.ensures ∙ values_first t.counts.now t.initial.now t.head.variables room.counts room.initial) c.if-not-initial_values_kept.false)
    (first_of _ c.in_err-check_rows.ensures (number_some e)))

pub check_rows-requires-2 : goal.check_rows-requires-2
check_rows-requires-2 c =
    let room = (finite_lengths_tested _).0 (tested c.finite_long_enough.ensures c.if-not-finite_long_enough.false) in
    (room.counts, room.effects)

pub returns-in_err-check_rows-2 : goal.returns-in_err-check_rows-2
unfolding value_counts_kept initial_values_kept finite_formulas_number finite_effects_number finite_operators_number
returns-in_err-check_rows-2 c =
    let t = c.args.tables.now in
    let room = (finite_lengths_tested _).0 (tested c.finite_long_enough.ensures c.if-not-finite_long_enough.false) in
    let e = c.in_err-check_rows-2.field-0.0 in
    returned c.from_residual-in_err-check_rows-2.result e _ c.from_residual-in_err-check_rows-2.ensures.1
    (finite-rows _ (tested c.finite_counts_kept.ensures c.if-not-finite_counts_kept.false) (tested c.goal_kept.ensures c.if-not-goal_kept.false)
    (tested c.finite_long_enough.ensures c.if-not-finite_long_enough.false)
    (tested (c.value_counts_kept.ensures ∙ every_first count_kept t.head.variables t.counts.now room.counts) c.if-not-value_counts_kept.false)
    (tested (c.initial_values_kept.ensures ∙ values_first t.counts.now t.initial.now t.head.variables room.counts room.initial) c.if-not-initial_values_kept.false)
    (second_of c.in_ok-check_rows.ensures refl (first_of _ c.in_err-check_rows-2.ensures (number_some e))))

pub check_rows-requires-3 : goal.check_rows-requires-3
check_rows-requires-3 c =
    let room = (finite_lengths_tested _).0 (tested c.finite_long_enough.ensures c.if-not-finite_long_enough.false) in
    (room.counts, room.operators)

pub returns : goal.returns
unfolding value_counts_kept initial_values_kept finite_formulas_number finite_effects_number finite_operators_number
returns c =
    let t = c.args.tables.now in
    let room = (finite_lengths_tested _).0 (tested c.finite_long_enough.ensures c.if-not-finite_long_enough.false) in
    finite-rows _ (tested c.finite_counts_kept.ensures c.if-not-finite_counts_kept.false) (tested c.goal_kept.ensures c.if-not-goal_kept.false)
    (tested c.finite_long_enough.ensures c.if-not-finite_long_enough.false)
    (tested (c.value_counts_kept.ensures ∙ every_first count_kept t.head.variables t.counts.now room.counts) c.if-not-value_counts_kept.false)
    (tested (c.initial_values_kept.ensures ∙ values_first t.counts.now t.initial.now t.head.variables room.counts room.initial) c.if-not-initial_values_kept.false)
    (second_of c.in_ok-check_rows.ensures refl (second_of c.in_ok-check_rows-2.ensures refl c.check_rows-3.ensures))
