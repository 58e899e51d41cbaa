-- `state_line` meets its contract: line i. Assumes nothing.
use native.Mathlib.Omega.{arith}
use Rattle.printing.proofs.Puts.{then_put, put_as}
use Rattle.printing.proofs.Texts.{state_text}
use Rattle.printing.proofs.lines.state_line.Goals as goal

pub returns : goal.returns
returns c =
    put_as (then_put (then_put c.put-next.ensures c.values-end.ensures) c.put.ensures) (state_text c.args.initial.now)
    (omega arith)
