-- `put_bytes` meets its contract: bytes, plain. Assumes nothing.
use lib.ListN.{take}
use Rattle.task_writer.specs.Inner.Putting.{Put}
use Rattle.task_writer.proofs.put.put_bytes.Given as goal

abbrev pub invariant-loop-byte : goal.invariant-loop-byte
invariant-loop-byte l = Put (take l.byte-index l.bytes) l.at l.next l.initial.out l.out
