-- `size_batch` meets its contract: a batch has an operator at least, and its columns are given. Assumes nothing.
use mathlib.Core.Path.{◌≡◌}
use Prim.Native.Nat.{◌+◌, ◌≤◌, ◌<◌}
use lib.ListN.{length}
use Rattle.effect_batches.specs.Inner.Numbers.{Renumbered}
use Rattle.effect_batches.proofs.begin.size_batch.Given as goal

abbrev pub invariant-loop-size : goal.invariant-loop-size
invariant-loop-size l =
    (length l.notes ≡ length l.initial.notes) × (0 < l.size) × (l.from + l.size ≤ l.count) × Renumbered l.frame.effects l.initial.notes l.notes l.columns

abbrev pub decreases-loop-size : goal.decreases-loop-size
decreases-loop-size l =
    l.size
