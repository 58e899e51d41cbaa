-- `states_of` meets its contract: 2 to the number of variables. Assumes nothing.
use Rattle.cheapest_plan.proofs.Refusing.{states_shifted}
use Rattle.cheapest_plan.proofs.refusals.states_of.Goals as goal

pub returns : goal.returns
returns c = states_shifted c.args.variables c.requires
