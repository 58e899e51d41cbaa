-- `fill_atom` meets its contract: filling rows for one atom adds nothing. Assumes nothing.
use Rattle.effect_batches.specs.Inner.Filling.{FilledBy}
use Rattle.effect_batches.proofs.fill.fill_atom.Given as goal

abbrev pub invariant-loop-e : goal.invariant-loop-e
invariant-loop-e l = FilledBy l.initial.b l.b
