-- `name_rows` meets its contract: the rows that rows of the batch name get the next columns. Assumes nothing.
use mathlib.Core.Path.{◌≡◌}
use Prim.Native.Nat.{◌*◌}
use lib.ListN.{length}
use Rattle.effect_batches.specs.Inner.Numbers.{Numbered}
use Rattle.effect_batches.proofs.number.name_rows.Given as goal

abbrev pub invariant-loop-i : goal.invariant-loop-i
invariant-loop-i l =
    (length l.notes ≡ length l.initial.notes) × Numbered l.fn.frame.effects (2 * l.i) l.given l.initial.notes l.notes l.last
