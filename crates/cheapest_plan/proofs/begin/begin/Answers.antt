-- `begin` meets its contract: no state is reached, then the initial state is queued. Assumes nothing.
use native.Mathlib.Omega.{arith}
use mathlib.Core.Path.{◌∙◌}
use lib.ListN.{length-set}
use Rattle.state_queue.proofs.Playing.{roomy_on}
use Rattle.cheapest_plan.proofs.Beginning.{begin_nearly, begins}
use Rattle.cheapest_plan.proofs.begin.begin.Goals as goal

pub raise-requires : goal.raise-requires
raise-requires c =
    let long = c.set_nodes.auto.words ∙ c.empty.auto.words in (
      roomy_on c.requires.0 (length-set c.set_nodes.new.words c.args.start 1 ∙ long),
      begin_nearly c.empty.ensures c.set_nodes.ensures c.requires.1 (omega (arith, c.requires.0, long)),
    )

pub returns : goal.returns
returns c =
    let long = c.set_nodes.auto.words ∙ c.empty.auto.words in
    begins c.empty.ensures c.set_nodes.ensures c.requires.1 (omega (arith, c.requires.0, long)) c.raise.ensures
