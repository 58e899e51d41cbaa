-- `take` meets its contract: the state's word is 0, and the nodes over it are set. Assumes nothing.
use mathlib.Core.Path.{◌∙◌}
use lib.ListN.{length-set}
use Rattle.state_queue.proofs.Playing.{roomy_on}
use Rattle.cheapest_plan.proofs.Visiting.{take_waits, taken_now}
use Rattle.cheapest_plan.proofs.visits.take.Goals as goal

pub lower-requires : goal.lower-requires
lower-requires c =
    (roomy_on c.requires.0 (length-set c.args.words.now c.args.s 0), take_waits c.requires.0 c.requires.1 c.requires.2)

pub shape_of-words : goal.shape_of-words
shape_of-words c =
    c.lower.auto.words ∙ length-set c.args.words.now c.args.s 0

pub returns : goal.returns
returns c =
    taken_now c.requires.0 c.requires.1 c.requires.2 c.lower.ensures
