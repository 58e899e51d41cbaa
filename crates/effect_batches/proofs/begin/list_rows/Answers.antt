-- `list_rows` meets its contract: each row that is listed has a word of an earlier operator. Assumes nothing.
use native.Mathlib.Omega.{arith}
use mathlib.Core.Path.{◌∙◌}
use Rattle.effect_batches.proofs.begin.list_rows.Goals as goal

pub loop-e-preserved : goal.loop-e-preserved
loop-e-preserved c =
    let row = c.list_row-k.ensures c.args.rows (omega arith) in
    (c.list_row-k.auto.list ∙ c.loop-e.invariant.0, omega (arith, row.once, c.loop-e.invariant.1), row.listed c.loop-e.invariant.2)
