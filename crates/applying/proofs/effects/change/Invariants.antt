-- `change` stores row by row what `changed` stores, from the laws of Passes. Assumes nothing.
use Rattle.task.specs.Kinds.{effect_number}
use Rattle.applying.proofs.Passes.{Passing}
use Rattle.applying.proofs.effects.change.Given as goal

abbrev pub invariant-loop-i : goal.invariant-loop-i
invariant-loop-i l = Passing l.effects (effect_number l.kind) l.value l.scratch l.at l.i l.initial.state l.state
