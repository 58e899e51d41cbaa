-- `number` meets its contract: A number in decimal: five digits at most, the higher ones first. Assumes nothing.
use native.Mathlib.Omega.{arith}
use mathlib.Core.Path.{sym}
use Rattle.printing.proofs.Decimal.{decimal_digit, decimal_more, decimal_short}
use Rattle.printing.proofs.Puts.{then_put, put_as, put_short}
use Rattle.printing.proofs.bytes.+number.Goals as goal

pub returns-then-n-lt10 : goal.returns-then-n-lt10
returns-then-n-lt10 t c = put_as c.put.ensures (sym (decimal_digit c.args.n c.if-n-lt10.true)) (omega arith)

pub returns : goal.returns
returns t c =
    put_short (then_put c.number-next.ensures c.put-2.ensures) (sym (decimal_more c.args.n c.if-n-lt10.false))
    (decimal_short 4 c.args.n (omega (arith, c.ranges.n)))
