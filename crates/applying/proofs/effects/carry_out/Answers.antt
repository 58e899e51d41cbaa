-- `carry_out` decides the conditions and clears, then sets by what was decided. Assumes nothing.
use native.Mathlib.Omega.{arith}
use mathlib.Core.Path.{refl}
use Rattle.applying.proofs.Marking.{still_markable}
use Rattle.applying.proofs.Passes.{changeable}
use Rattle.applying.proofs.effects.carry_out.Goals as goal

pub mark-requires : goal.mark-requires
mark-requires c = (_, still_markable c.requires.effects c.evaluate.auto.scratch)

pub change-requires : goal.change-requires
change-requires c =
    changeable (still_markable c.requires.effects c.evaluate.auto.scratch) c.mark.ensures.same (omega arith) (omega arith) refl

pub change-requires-2 : goal.change-requires-2
change-requires-2 c =
    changeable (still_markable c.requires.effects c.evaluate.auto.scratch) c.mark.ensures.same (omega arith) (omega arith)
    c.change.auto.state
