-- `front` meets its contract: lines t, i and w. Assumes nothing.
use native.Mathlib.Omega.{arith}
use lib.Seq.{length-take-le}
use Rattle.printing.proofs.Puts.{then_put, put_as}
use Rattle.printing.proofs.Texts.{front_joined}
use Rattle.printing.proofs.lines.front.Goals as goal

pub returns : goal.returns
returns c =
    let t = c.args.tables.now in
    let v = length-take-le t.head.variables t.initial.now c.requires.initial_long in
    let w = length-take-le t.head.twins t.twins.now c.requires.twins_long in
    put_as (then_put (then_put c.line-after_head.ensures c.state_line-after_state.ensures) c.twin_lines.ensures)
    (front_joined t.head t.initial.now t.twins.now c.requires.twins_long) (omega (arith, v, w))
