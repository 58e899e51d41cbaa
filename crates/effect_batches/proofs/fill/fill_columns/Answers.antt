-- `fill_columns` meets its contract: filling the columns of rows that were built adds nothing. Assumes nothing.
use native.Mathlib.Omega.{arith}
use mathlib.Core.Path.{refl}
use Rattle.effect_batches.proofs.Filling.{filled_none, filled_on, asks_atom}
use Rattle.effect_batches.proofs.fill.fill_columns.Goals as goal

pub loop-a-init : goal.loop-a-init
loop-a-init c = filled_none c.args.b.now c.requires.stands

pub fill_atom-requires : goal.fill_atom-requires
fill_atom-requires c = asks_atom c.loop-a.invariant _ c.requires refl (omega arith)

pub loop-a-preserved : goal.loop-a-preserved
loop-a-preserved c = filled_on c.loop-a.invariant c.fill_atom.ensures
