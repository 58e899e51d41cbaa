-- `fill_atom` meets its contract: filling rows for one atom adds nothing. Assumes nothing.
use native.Mathlib.Omega.{arith}
use Rattle.effect_batches.proofs.Filling.{filled_none, filled_on, asks_row}
use Rattle.effect_batches.proofs.fill.fill_atom.Goals as goal

pub loop-e-init : goal.loop-e-init
loop-e-init c = filled_none c.args.b.now c.requires.fills.stands

pub fill_row-requires : goal.fill_row-requires
fill_row-requires c = asks_row c.loop-e.invariant c.loop-e.e-index c.requires (omega arith)

pub loop-e-preserved : goal.loop-e-preserved
loop-e-preserved c = filled_on c.loop-e.invariant c.fill_row.ensures
