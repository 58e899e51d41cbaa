-- `value_of` gives the row's value by its kind, each way out by a law of Valuing. Assumes nothing.
use native.Mathlib.Omega.{arith}
use Rattle.evaluating.proofs.Valuing.{known, constant_row, variable_ref, variable_row, join_refs, join_bits, join_row}
use Rattle.evaluating.proofs.formulas.value_of.Goals as goal

pub unwrap-kind-requires : goal.unwrap-kind-requires
unwrap-kind-requires c = known c.requires c.row_at-row.ensures _ c.try_from.ensures

pub returns-in-False : goal.returns-in-False
returns-in-False c =
    constant_row c.requires c.row_at-row.ensures c.try_from.ensures c.unwrap-kind.ensures c.in-False.is c.joined.ensures

pub bounds-state-a : goal.bounds-state-a
bounds-state-a c = variable_ref c.requires c.row_at-row.ensures c.try_from.ensures c.unwrap-kind.ensures c.in-Variable.is

pub returns-in-Variable : goal.returns-in-Variable
returns-in-Variable c = variable_row c.requires c.row_at-row.ensures c.try_from.ensures c.unwrap-kind.ensures c.in-Variable.is

pub bounds-values-a : goal.bounds-values-a
bounds-values-a c =
    omega (arith, c.requires.room, join_refs c.requires c.row_at-row.ensures c.try_from.ensures c.unwrap-kind.ensures c.in-Not.is)

pub bounds-values-b : goal.bounds-values-b
bounds-values-b c =
    omega (arith, c.requires.room, join_refs c.requires c.row_at-row.ensures c.try_from.ensures c.unwrap-kind.ensures c.in-Not.is)

pub joined-requires-in-Not : goal.joined-requires-in-Not
joined-requires-in-Not c = join_bits c.requires c.row_at-row.ensures c.try_from.ensures c.unwrap-kind.ensures c.in-Not.is

pub returns-in-Not : goal.returns-in-Not
returns-in-Not c =
    join_row c.requires c.row_at-row.ensures c.try_from.ensures c.unwrap-kind.ensures c.in-Not.is c.joined-in-Not.ensures
