-- `mark` hands on from the root down, each turn by a law of Marking. Assumes nothing.
use Rattle.applying.proofs.Marking.{Going}
use Rattle.applying.proofs.effects.mark.Given as goal

abbrev pub invariant-loop-i : goal.invariant-loop-i
invariant-loop-i l = Going l.effects l.at l.root l.initial.scratch l.i l.scratch
