-- `meet_roots` meets its contract: each operator names its effect. Assumes nothing.
use mathlib.Core.Path.{◌≡◌}
use Prim.Native.Nat.{ℕ}
use mathlib.Core.List.{List}
use lib.ListN.{length}
use Rattle.effect_batches.specs.Inner.Firsts.{First}
use Rattle.effect_batches.proofs.first.meet_roots.Given as goal

abbrev pub invariant-loop-k : goal.invariant-loop-k
invariant-loop-k l =
    (length l.first ≡ length l.initial.first) × ((effects : List ℕ) → First effects l.operators l.count l.first)
