-- `list_rows` meets its contract: each row that is listed has a word of an earlier operator. Assumes nothing.
use mathlib.Core.Path.{◌≡◌}
use Prim.Native.Nat.{◌≤◌}
use lib.ListN.{length}
use Rattle.effect_batches.specs.Inner.Numbers.{Listed}
use Rattle.effect_batches.proofs.begin.list_rows.Given as goal

abbrev pub invariant-loop-e : goal.invariant-loop-e
invariant-loop-e l =
    (length l.list ≡ length l.initial.list) × (l.k ≤ l.e) × Listed l.rows l.first l.from l.list l.k
