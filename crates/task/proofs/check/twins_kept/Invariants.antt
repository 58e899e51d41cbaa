-- `twins_kept` meets its contract: whether each twin row names a variable below `bound` that no row before it names. Assumes nothing.
use mathlib.Core.Path.{◌≡◌}
use mathlib.Core.Bool.{true}
use Rattle.task.specs.Bounded.{every}
use Rattle.task.specs.Check.{twin_kept}
use Rattle.task.proofs.Named.{NamedBy}
use Rattle.task.proofs.check.twins_kept.Given as goal

abbrev pub invariant-loop-twin : goal.invariant-loop-twin
invariant-loop-twin l =
    record { kept : every l.twin-index (twin_kept l.bound l.twins) ≡ true; named : NamedBy l.twins l.twin-index l.named }
