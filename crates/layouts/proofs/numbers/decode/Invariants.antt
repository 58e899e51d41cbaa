-- `decode` meets its contract: the operator numbers of a sequence of bytes, into the front of `numbers`; what stands behind them stays. Assumes
-- nothing.
use Rattle.layouts.proofs.RunWays.{Decoded}
use Rattle.layouts.proofs.numbers.decode.Given as goal

abbrev pub invariant-loop-i : goal.invariant-loop-i
invariant-loop-i l = Decoded l.sequence l.initial.numbers l.numbers l.i
