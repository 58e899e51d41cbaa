-- `decode` meets its contract: the operator numbers of a sequence of bytes, into the front of `numbers`; what stands behind them stays. Assumes
-- nothing.
use native.Mathlib.Omega.{arith}
use Rattle.layouts.proofs.RunWays.{decode_begin, decode_more, decode_end}
use Rattle.layouts.proofs.numbers.decode.Goals as goal

pub loop-i-init : goal.loop-i-init
loop-i-init c = decode_begin c.args.sequence.now c.args.numbers.now

pub loop-i-preserved : goal.loop-i-preserved
loop-i-preserved c =
    decode_more c.args.sequence.now c.args.numbers.now c.loop-i.numbers c.loop-i.i c.loop-i.invariant (omega arith)
    c.from_le_bytes.ensures

pub returns : goal.returns
returns c =
    decode_end c.args.sequence.now c.args.numbers.now c.loop-i.numbers c.loop-i.i c.loop-i.invariant (omega arith)
