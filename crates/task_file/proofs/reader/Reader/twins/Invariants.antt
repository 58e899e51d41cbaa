-- `twins` meets its contract: the originals, as `twins`. Assumes nothing.
use Rattle.task.proofs.Named.{NamedBy}
use Rattle.task_file.proofs.TwinRows.{TwinsDone}
use Rattle.task_file.proofs.reader.Reader.twins.Given as goal

abbrev pub invariant-loop-twin : goal.invariant-loop-twin
invariant-loop-twin l =
    record {
      done : TwinsDone l.bound l.initial.self l.twin-items l.self l.twin-index;
      named : NamedBy l.twin-items l.twin-index l.named;
    }
