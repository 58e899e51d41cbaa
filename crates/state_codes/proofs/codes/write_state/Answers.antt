-- `write_state` meets its contract: the bits from the lowest on. Assumes nothing.
use native.Mathlib.Omega.{arith}
use Rattle.state_codes.proofs.Coding.{written}
use Rattle.state_codes.proofs.codes.write_state.Goals as goal

pub returns : goal.returns
returns c = written c.loop-v.invariant (omega arith)
