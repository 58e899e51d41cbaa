-- `put_state` meets its contract: a state, packed. Assumes nothing.
use Rattle.std.proofs.Common.{◌≡◌, length}
use Rattle.std.specs.Slice.Iter.{chunks_rest, chunks_size}
use Rattle.task_writer.proofs.PutLoops.{PackDone}
use Rattle.task_writer.proofs.put_tables.put_state.Given as goal

abbrev pub invariant-loop-bits : goal.invariant-loop-bits
invariant-loop-bits l =
    (chunks_size l.bits-iterator ≡ 8)
    × PackDone l.state l.at l.initial.out l.out (chunks_rest l.bits-iterator) (length l.yielded) l.next
