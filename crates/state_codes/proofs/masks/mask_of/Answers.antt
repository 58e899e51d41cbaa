-- `mask_of` gives the word of a row by its kind, each way out by a law of Masking. Assumes nothing.
use native.Mathlib.Omega.{arith}
use Rattle.state_codes.proofs.Masking.{known, empty_row, set_ref, set_row, clear_ref, clear_row, both_refs, both_row, under_refs, under_false, under_true}
use Rattle.state_codes.proofs.masks.mask_of.Goals as goal

pub unwrap-kind-requires : goal.unwrap-kind-requires
unwrap-kind-requires c = known c.requires c.row_at-row.ensures _ c.try_from.ensures

pub overflow_shl-result : goal.overflow_shl-result
overflow_shl-result c =
    omega (arith, set_ref c.requires c.row_at-row.ensures c.try_from.ensures c.unwrap-kind.ensures c.in-Set.is)

pub overflow_shl-result-in-Clear : goal.overflow_shl-result-in-Clear
overflow_shl-result-in-Clear c =
    omega (arith, clear_ref c.requires c.row_at-row.ensures c.try_from.ensures c.unwrap-kind.ensures c.in-Clear.is)

pub bounds-masks-a : goal.bounds-masks-a
bounds-masks-a c =
    omega (arith, c.requires.room, both_refs c.requires c.row_at-row.ensures c.try_from.ensures c.unwrap-kind.ensures c.in-Both.is)

pub bounds-masks-b : goal.bounds-masks-b
bounds-masks-b c =
    omega (arith, c.requires.room, both_refs c.requires c.row_at-row.ensures c.try_from.ensures c.unwrap-kind.ensures c.in-Both.is)

pub bounds-values-a : goal.bounds-values-a
bounds-values-a c =
    omega (arith, c.requires.values_there, under_refs c.requires c.row_at-row.ensures c.try_from.ensures c.unwrap-kind.ensures c.in-Under.is)

pub bounds-masks-b-else-values-a-eq0 : goal.bounds-masks-b-else-values-a-eq0
bounds-masks-b-else-values-a-eq0 c =
    omega (arith, c.requires.room, under_refs c.requires c.row_at-row.ensures c.try_from.ensures c.unwrap-kind.ensures c.in-Under.is)

pub returns-in-Empty : goal.returns-in-Empty
returns-in-Empty c = empty_row c.requires c.row_at-row.ensures c.try_from.ensures c.unwrap-kind.ensures c.in-Empty.is

pub returns-in-Set : goal.returns-in-Set
returns-in-Set c = set_row c.requires c.row_at-row.ensures c.try_from.ensures c.unwrap-kind.ensures c.in-Set.is

pub returns-in-Clear : goal.returns-in-Clear
returns-in-Clear c = clear_row c.requires c.row_at-row.ensures c.try_from.ensures c.unwrap-kind.ensures c.in-Clear.is

pub returns-in-Both : goal.returns-in-Both
returns-in-Both c = both_row c.requires c.row_at-row.ensures c.try_from.ensures c.unwrap-kind.ensures c.in-Both.is

pub returns-then-values-a-eq0 : goal.returns-then-values-a-eq0
returns-then-values-a-eq0 c =
    under_false c.requires c.row_at-row.ensures c.try_from.ensures c.unwrap-kind.ensures c.in-Under.is c.if-values-a-eq0.true

pub returns-else-values-a-eq0 : goal.returns-else-values-a-eq0
returns-else-values-a-eq0 c =
    under_true c.requires c.row_at-row.ensures c.try_from.ensures c.unwrap-kind.ensures c.in-Under.is c.if-values-a-eq0.false
