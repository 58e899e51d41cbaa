-- `code_of` meets its contract: from the last byte to the first. Assumes nothing.
use Rattle.std.proofs.Common.{◌≡◌, ◌-◌, length, drop}
use Rattle.state_codes.specs.Inner.States.{code as state-code}
use Rattle.state_codes.proofs.codes.code_of.Given as goal

abbrev pub invariant-loop-bit : goal.invariant-loop-bit
invariant-loop-bit l = l.code ≡ state-code (drop (length l.state - length l.yielded) l.state)
