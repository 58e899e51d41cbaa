-- `unpack` meets its contract: variable v of a packed state, for each variable. Assumes nothing.
use Rattle.std.proofs.Common.{◌≡◌, take}
use Rattle.task.specs.Bounded.{upto}
use Rattle.file_format.specs.Reading.{bit_of}
use Rattle.task_file.proofs.read_state.unpack.Given as goal

abbrev pub invariant-loop-v : goal.invariant-loop-v
invariant-loop-v l = take l.v l.initial' ≡ upto l.v (bit_of l.packed)
