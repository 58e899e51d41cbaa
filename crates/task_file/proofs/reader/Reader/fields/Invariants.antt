-- `fields` meets its contract: the fields of these defaults by their map. Assumes nothing.
use Rattle.std.proofs.Common.{◌≡◌, length}
use Rattle.task_file.proofs.FieldLoop.{FieldsDone}
use Rattle.task_file.proofs.reader.Reader.fields.Given as goal

abbrev pub invariant-loop-field : goal.invariant-loop-field
invariant-loop-field g l =
    record {
      size : length l.field-items ≡ l.field-index-end;
      done : FieldsDone l.fn.defaults l.map l.initial.self l.field-items l.bits l.self l.field-index;
    }
