-- `find_first` meets its contract: a word names an operator that comes to its row. Assumes nothing.
use mathlib.Core.Path.{◌≡◌}
use lib.ListN.{length}
use Rattle.effect_batches.specs.Inner.Firsts.{First}
use Rattle.effect_batches.proofs.first.find_first.Given as goal

abbrev pub invariant-loop-i : goal.invariant-loop-i
invariant-loop-i l =
    (length l.first ≡ length l.initial.first) × First l.effects l.operators l.count l.first
