-- `begin_marks` leaves the root's mark alone, from the laws of Marking. Assumes nothing.
use Rattle.applying.proofs.Marking.{begun}
use Rattle.applying.proofs.effects.begin_marks.Goals as goal

pub returns : goal.returns
returns c = begun _ _ _ _ c.requires (c.fill.ensures.after (λ y e. e))
