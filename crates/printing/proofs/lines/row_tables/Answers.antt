-- `row_tables` meets its contract: lines f, e and o. Assumes nothing.
use native.Mathlib.Omega.{arith}
use Rattle.printing.proofs.Puts.{then_put, put_as}
use Rattle.printing.proofs.Texts.{tables_joined}
use Rattle.printing.proofs.lines.row_tables.Goals as goal

pub returns : goal.returns
returns c =
    let t = c.args.tables.now in
    put_as (then_put (then_put c.row_lines-after_formulas.ensures c.row_lines-after_effects.ensures) c.row_lines.ensures)
    (tables_joined t.head t.formulas.now t.effects.now t.operators.now) (omega arith)
