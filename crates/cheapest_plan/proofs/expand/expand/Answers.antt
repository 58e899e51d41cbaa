-- `expand` meets its contract: all operators, upwards. Assumes nothing.
use mathlib.Core.Path.{refl, ◌∙◌}
use lib.ListN.{replicate, length-set}
use Rattle.state_queue.proofs.Playing.{roomy_on}
use Rattle.cheapest_plan.proofs.Comparing.{noted_own}
use Rattle.cheapest_plan.proofs.Expanding.{zeros_none, zeros_on}
use Rattle.cheapest_plan.proofs.expand.expand.Goals as goal

pub loop-o-init : goal.loop-o-init
loop-o-init c =
    let state = c.args.origin.now.state in (
      refl,
      zeros_none,
      λ h at. record { stepping = at; noted = noted_own 1024 state h.ground.few h.here at.is_taken },
      length-set (replicate 1024 _) state _,
    )

pub step_from-requires : goal.step_from-requires
step_from-requires c =
    let pre = c.requires in
    let inv = c.loop-o.invariant in (
      c.loop-o-test.true,
      record { roomy = roomy_on pre.roomy inv.0; stage = pre.stage; stepping = inv.2 pre.stage pre.stepping },
    )

pub loop-o-preserved : goal.loop-o-preserved
loop-o-preserved c =
    let inv = c.loop-o.invariant in
    let stepped = c.step_from.ensures in
    let kept = c.step_from.auto in (
      kept.words ∙ inv.0,
      zeros_on inv.1 stepped.zeros,
      λ h at. stepped.told h (inv.2 h at),
      kept.notes ∙ inv.3,
    )
