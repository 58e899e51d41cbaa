-- `fill_columns` meets its contract: filling the columns of rows that were built adds nothing. Assumes nothing.
use Rattle.effect_batches.specs.Inner.Filling.{FilledBy}
use Rattle.effect_batches.proofs.fill.fill_columns.Given as goal

abbrev pub invariant-loop-a : goal.invariant-loop-a
invariant-loop-a l = FilledBy l.initial.b l.b
