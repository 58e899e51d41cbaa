-- `check` meets its contract: the first refusal in order. Assumes nothing.
use Prim.Native.Nat.{ℕ}
use lib.Dec.{leb}
use lib.Seq.{length-take-le}
use native.Mathlib.Omega.{arith}
use mathlib.Core.Path.{refl, ◌∙◌, sym}
use Rattle.task.specs.Check.{initial_kept, twins_kept, formulas_kept, effects_kept, operators_number}
use Rattle.task.proofs.Bounded.{every_first}
use Rattle.task.proofs.Passed.{counts_tested, lengths_tested}
use Rattle.task.proofs.Order.{refused_6, refused_7, refused_5, refused_8, refused_9, refused_10, refused-11, refused-12, rows_one, failed, tested}
use Rattle.task.proofs.Refusals.{twins_first, number_some}
use Rattle.task.proofs.Told.{returned}
use Rattle.task.proofs.check.check.Goals as goal

pub returns-then-not-counts_kept : goal.returns-then-not-counts_kept
returns-then-not-counts_kept c = refused_6 _ (failed c.counts_kept.ensures c.if-not-counts_kept.true)

pub returns-then-not-goal_kept : goal.returns-then-not-goal_kept
returns-then-not-goal_kept c =
    refused_7 _ (tested c.counts_kept.ensures c.if-not-counts_kept.false) (failed c.goal_kept.ensures c.if-not-goal_kept.true)

pub returns-then-not-long_enough : goal.returns-then-not-long_enough
returns-then-not-long_enough c =
    refused_5 _ (tested c.counts_kept.ensures c.if-not-counts_kept.false) (tested c.goal_kept.ensures c.if-not-goal_kept.false)
    (failed c.long_enough.ensures c.if-not-long_enough.true)

pub slice_bounds-bits-end : goal.slice_bounds-bits-end
slice_bounds-bits-end c =
    let room = (lengths_tested _).0 (tested c.long_enough.ensures c.if-not-long_enough.false) in
    sym (length-take-le c.args.tables.now.head.variables c.args.tables.now.initial.now room.initial)

pub returns-then-not-bits : goal.returns-then-not-bits
unfolding initial_kept twins_kept formulas_kept effects_kept operators_number
returns-then-not-bits c =
    let t = c.args.tables.now in
    let room = (lengths_tested _).0 (tested c.long_enough.ensures c.if-not-long_enough.false) in
    refused_8 _ (tested c.counts_kept.ensures c.if-not-counts_kept.false) (tested c.goal_kept.ensures c.if-not-goal_kept.false)
    (tested c.long_enough.ensures c.if-not-long_enough.false)
    (failed (c.bits.ensures ∙ every_first (λ (b : ℕ). leb b 1) t.head.variables t.initial.now room.initial) c.if-not-bits.true)

pub slice_bounds-twins_kept-end : goal.slice_bounds-twins_kept-end
slice_bounds-twins_kept-end c =
    let room = (lengths_tested _).0 (tested c.long_enough.ensures c.if-not-long_enough.false) in
    sym (length-take-le c.args.tables.now.head.twins c.args.tables.now.twins.now room.twins)

pub overflow_sub-variables : goal.overflow_sub-variables
overflow_sub-variables c =
    omega (arith, ((counts_tested _).0 (tested c.counts_kept.ensures c.if-not-counts_kept.false)).twins)

pub twins_kept-requires : goal.twins_kept-requires
twins_kept-requires c = omega (arith, ((counts_tested _).0 (tested c.counts_kept.ensures c.if-not-counts_kept.false)).variables)

pub returns-then-not-twins_kept : goal.returns-then-not-twins_kept
unfolding initial_kept twins_kept formulas_kept effects_kept operators_number
returns-then-not-twins_kept c =
    let t = c.args.tables.now in
    let room = (lengths_tested _).0 (tested c.long_enough.ensures c.if-not-long_enough.false) in
    refused_9 _ (tested c.counts_kept.ensures c.if-not-counts_kept.false) (tested c.goal_kept.ensures c.if-not-goal_kept.false)
    (tested c.long_enough.ensures c.if-not-long_enough.false)
    (tested (c.bits.ensures ∙ every_first (λ (b : ℕ). leb b 1) t.head.variables t.initial.now room.initial) c.if-not-bits.false)
    (failed (c.twins_kept.ensures ∙ twins_first _ t.twins.now t.head.twins room.twins) c.if-not-twins_kept.true)

pub check_rows-requires : goal.check_rows-requires
check_rows-requires c =
    ((lengths_tested _).0 (tested c.long_enough.ensures c.if-not-long_enough.false)).formulas

pub returns-in_err-check_rows : goal.returns-in_err-check_rows
unfolding initial_kept twins_kept formulas_kept effects_kept operators_number
returns-in_err-check_rows c =
    let t = c.args.tables.now in
    let room = (lengths_tested _).0 (tested c.long_enough.ensures c.if-not-long_enough.false) in
    let e = c.in_err-check_rows.field-0.0 in
    returned c.from_residual.result e _ c.from_residual.ensures.1
    (refused_10 _ (tested c.counts_kept.ensures c.if-not-counts_kept.false) (tested c.goal_kept.ensures c.if-not-goal_kept.false)
    (tested c.long_enough.ensures c.if-not-long_enough.false)
    (tested (c.bits.ensures ∙ every_first (λ (b : ℕ). leb b 1) t.head.variables t.initial.now room.initial) c.if-not-bits.false)
    (tested (c.twins_kept.ensures ∙ twins_first _ t.twins.now t.head.twins room.twins) c.if-not-twins_kept.false)
    (c.in_err-check_rows.ensures ∙ rows_one _ _ 10) (number_some e))

pub check_rows-requires-2 : goal.check_rows-requires-2
check_rows-requires-2 c =
    ((lengths_tested _).0 (tested c.long_enough.ensures c.if-not-long_enough.false)).effects

pub returns-in_err-check_rows-2 : goal.returns-in_err-check_rows-2
unfolding initial_kept twins_kept formulas_kept effects_kept operators_number
returns-in_err-check_rows-2 c =
    let t = c.args.tables.now in
    let room = (lengths_tested _).0 (tested c.long_enough.ensures c.if-not-long_enough.false) in
    let e = c.in_err-check_rows-2.field-0.0 in
    returned c.from_residual-in_err-check_rows-2.result e _ c.from_residual-in_err-check_rows-2.ensures.1
    (refused-11 _ (tested c.counts_kept.ensures c.if-not-counts_kept.false) (tested c.goal_kept.ensures c.if-not-goal_kept.false)
    (tested c.long_enough.ensures c.if-not-long_enough.false)
    (tested (c.bits.ensures ∙ every_first (λ (b : ℕ). leb b 1) t.head.variables t.initial.now room.initial) c.if-not-bits.false)
    (tested (c.twins_kept.ensures ∙ twins_first _ t.twins.now t.head.twins room.twins) c.if-not-twins_kept.false)
    (c.in_ok-check_rows.ensures ∙ rows_one _ _ 10) refl
    (c.in_err-check_rows-2.ensures ∙ rows_one _ _ 11) (number_some e))

pub check_rows-requires-3 : goal.check_rows-requires-3
check_rows-requires-3 c =
    ((lengths_tested _).0 (tested c.long_enough.ensures c.if-not-long_enough.false)).operators

pub returns : goal.returns
unfolding initial_kept twins_kept formulas_kept effects_kept operators_number
returns c =
    let t = c.args.tables.now in
    let room = (lengths_tested _).0 (tested c.long_enough.ensures c.if-not-long_enough.false) in
    refused-12 _ (tested c.counts_kept.ensures c.if-not-counts_kept.false) (tested c.goal_kept.ensures c.if-not-goal_kept.false)
    (tested c.long_enough.ensures c.if-not-long_enough.false)
    (tested (c.bits.ensures ∙ every_first (λ (b : ℕ). leb b 1) t.head.variables t.initial.now room.initial) c.if-not-bits.false)
    (tested (c.twins_kept.ensures ∙ twins_first _ t.twins.now t.head.twins room.twins) c.if-not-twins_kept.false)
    (c.in_ok-check_rows.ensures ∙ rows_one _ _ 10) refl
    (c.in_ok-check_rows-2.ensures ∙ rows_one _ _ 11) refl c.check_rows-3.ensures
