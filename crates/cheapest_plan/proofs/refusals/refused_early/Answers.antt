-- `refused_early` gives the first number in order, each way out by a law of Refusing. Assumes nothing.
use mathlib.Core.Path.{refl, ◌∙◌}
use Rattle.task.specs.Refused.{number_of}
use Rattle.task.proofs.Refusals.{number_some}
use Rattle.task.proofs.Told.{returned}
use Rattle.cheapest_plan.proofs.Refusing.{room_tested, room_untested, refused_tables, refused_variables, roomy_last}
use Rattle.cheapest_plan.proofs.refusals.refused_early.Goals as goal
use Rattle.cheapest_plan.proofs.refusals.refused_early.Goals.{then-rows-scratch, else-rows-scratch}

pub returns-in_err-check : goal.returns-in_err-check
returns-in_err-check c =
    let e = c.in_err-check.field-0.0 in
    returned c.from_residual.result e _ c.from_residual.ensures.1 (refused_tables _ _ _ (number_of e) c.in_err-check.ensures (number_some e))

pub returns-then-head-gt-MOST_VARIABLES : goal.returns-then-head-gt-MOST_VARIABLES
returns-then-head-gt-MOST_VARIABLES c =
    refused_variables _ _ _ 0 c.in_ok-check.ensures refl c.if-head-gt-MOST_VARIABLES.true

pub returns : goal.returns
returns c =
    let few = c.if-head-gt-MOST_VARIABLES.false in
    elim c.if-rows-scratch.branch [
      | then-rows-scratch w ↦
          roomy_last _ _ _ 0 c.in_ok-check.ensures refl few _ (w.roomy-is ∙ room_tested _ _ _ w.if-rows-scratch.true w.states_of.ensures.0)
          c.refuse_unless.ensures
      | else-rows-scratch w ↦
          roomy_last _ _ _ 0 c.in_ok-check.ensures refl few _ (w.roomy-is ∙ room_untested _ _ _ w.if-rows-scratch.false) c.refuse_unless.ensures
    ]
