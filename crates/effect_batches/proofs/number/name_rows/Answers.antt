-- `name_rows` meets its contract: the rows that rows of the batch name get the next columns. Assumes nothing.
use native.Mathlib.Omega.{arith}
use Rattle.effect_batches.proofs.Numbers.{below_asks}
use Rattle.effect_batches.proofs.number.name_rows.Goals as goal

pub name_below-last-requires : goal.name_below-last-requires
name_below-last-requires c =
    below_asks c.requires.0 c.loop-i.invariant.0 (omega arith)
    (omega (arith, c.loop-i.invariant.1.once, c.requires.1, c.requires.0.rows.limit))
