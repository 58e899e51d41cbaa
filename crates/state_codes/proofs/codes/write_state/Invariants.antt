-- `write_state` meets its contract: the bits from the lowest on. Assumes nothing.
use Rattle.state_codes.proofs.Coding.{Writing}
use Rattle.state_codes.proofs.codes.write_state.Given as goal

abbrev pub invariant-loop-v : goal.invariant-loop-v
invariant-loop-v l = Writing l.code l.initial.state l.v l.state
