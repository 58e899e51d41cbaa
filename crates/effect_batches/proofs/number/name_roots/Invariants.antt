-- `name_roots` meets its contract: the rows that operators name get columns, no others. Assumes nothing.
use mathlib.Core.Path.{◌≡◌}
use Prim.Native.Nat.{◌-◌, ◌≤◌}
use lib.ListN.{length}
use Rattle.effect_batches.specs.Inner.Numbers.{Renumbered}
use Rattle.effect_batches.proofs.number.name_roots.Given as goal

abbrev pub invariant-loop-o : goal.invariant-loop-o
invariant-loop-o l =
    (length l.notes ≡ length l.fn.notes) × (l.last ≤ l.o - l.from) × Renumbered l.rows l.fn.notes l.notes l.last
