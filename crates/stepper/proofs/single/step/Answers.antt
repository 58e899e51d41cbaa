-- `step` gives what `stepped` gives, by the laws of Calls. Assumes nothing.
use Rattle.stepper.proofs.Calls.{step_gives}
use Rattle.stepper.proofs.single.step.Goals as goal

pub returns : goal.returns
returns c =
    step_gives _ _ _ _ c.step_done-outcome.new.scratch c.step_done-outcome.ensures c.step_done-outcome.auto.scratch
    (c.fill.ensures.after (λ y e. e))
