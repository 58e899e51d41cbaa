-- `change` stores row by row what `changed` stores, from the laws of Passes. Assumes nothing.
use native.Mathlib.Omega.{arith}
use Rattle.applying.proofs.Passes.{acts_not_marked, acts_other_kind, acts_marked, begin, idle, act, inside}
use Rattle.applying.proofs.effects.change.Goals as goal
use Rattle.applying.proofs.effects.change.Goals.{then-scratch-at-ne0+then-row-kind, then-scratch-at-ne0+else-row-kind, else-scratch-at-ne0}

pub loop-i-init : goal.loop-i-init
loop-i-init c = begin

pub bounds-state-row : goal.bounds-state-row
bounds-state-row c =
    inside c.loop-i.invariant c.requires (omega arith)
    (acts_marked _ _ _ _ _ c.if-scratch-at-ne0.true c.row_at-row.ensures c.if-row-kind.true) c.row_at-row.ensures

pub loop-i-preserved : goal.loop-i-preserved
loop-i-preserved c =
    elim c.if-scratch-at-ne0.branch [
      | then-scratch-at-ne0+then-row-kind w ↦ rw w.state-is
          (act c.loop-i.invariant (acts_marked _ _ _ _ _ w.if-scratch-at-ne0.true w.row_at-row.ensures w.if-row-kind.true) w.row_at-row.ensures)
      | then-scratch-at-ne0+else-row-kind w ↦ rw w.state-is
          (idle c.loop-i.invariant (acts_other_kind _ _ _ _ _ w.if-scratch-at-ne0.true w.row_at-row.ensures w.if-row-kind.false))
      | else-scratch-at-ne0 w ↦ rw w.state-is (idle c.loop-i.invariant (acts_not_marked _ _ _ _ _ w.if-scratch-at-ne0.false))
    ]
