-- `is_goal` meets its contract: the formulas are evaluated in the state of the code. Assumes nothing.
use Rattle.cheapest_plan.proofs.Visiting.{goal_valuable, goal_found}
use Rattle.cheapest_plan.proofs.visits.is_goal.Goals as goal

pub evaluate-requires : goal.evaluate-requires
evaluate-requires c =
    goal_valuable c.requires c.args.s c.write_state.ensures

pub returns : goal.returns
returns c =
    goal_found c.requires c.args.s c.write_state.ensures c.evaluate.ensures
