-- `pack` meets its contract: from the last bit to the first. Assumes nothing.
use Rattle.std.proofs.Common.{◌≡◌, ◌-◌, length, drop}
use Rattle.file_format.specs.Bytes.{number}
use Rattle.task_writer.proofs.put_tables.pack.Given as goal

abbrev pub invariant-loop-bit : goal.invariant-loop-bit
invariant-loop-bit l = l.byte ≡ number (drop (length l.bits - length l.yielded) l.bits)
