-- `mark` hands on from the root down, each turn by a law of Marking. Assumes nothing.
use native.Mathlib.Omega.{arith}
use mathlib.Core.Path.{◌≡◌}
use Rattle.applying.proofs.Marking.{starts, still_markable, markable_here, passes, hands_on, finished}
use Rattle.applying.proofs.effects.mark.Goals as goal

pub loop-i-init : goal.loop-i-init
loop-i-init c = starts c.begin_marks.ensures

pub hand_on-requires : goal.hand_on-requires
hand_on-requires c =
    (c.requires.0, markable_here (still_markable c.requires.1 c.begin_marks.ensures.same) (omega arith) c.loop-i.auto.i c.loop-i.invariant)

pub loop-i-preserved-then-scratch-at-ne0 : goal.loop-i-preserved-then-scratch-at-ne0
loop-i-preserved-then-scratch-at-ne0 c =
    hands_on (still_markable c.requires.1 c.begin_marks.ensures.same) (omega arith) c.loop-i.auto.i c.loop-i.invariant
    c.hand_on.new.scratch c.if-scratch-at-ne0.true c.hand_on.ensures

pub loop-i-preserved : goal.loop-i-preserved
loop-i-preserved c =
    passes (still_markable c.requires.1 c.begin_marks.ensures.same) (omega arith) c.loop-i.auto.i c.loop-i.invariant
    c.if-scratch-at-ne0.false

pub returns : goal.returns
returns c =
    let e : c.loop-i.i ≡ 0 = omega arith in
    finished c.requires.1 c.begin_marks.ensures (rw e at c.loop-i.invariant)
