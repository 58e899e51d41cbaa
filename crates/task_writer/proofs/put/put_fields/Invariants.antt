-- `put_fields` meets its contract: fields by their defaults. Assumes nothing.
use lib.ListN.{length, take}
use Rattle.file_format.specs.Bytes.{fields_bytes}
use Rattle.task_writer.specs.Inner.Putting.{Put}
use Rattle.task_writer.proofs.put.put_fields.Given as goal

abbrev pub invariant-loop-field : goal.invariant-loop-field
invariant-loop-field l =
    Put (fields_bytes (take (length l.yielded) l.defaults) (take (length l.yielded) l.fields)) l.at l.next l.initial.out l.out
