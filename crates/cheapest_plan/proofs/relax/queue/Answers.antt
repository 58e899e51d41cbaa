-- `queue` meets its contract: three words are stored, and the state goes up. Assumes nothing.
use Rattle.cheapest_plan.proofs.Queueing.{queue_roomy, queue_nearly, queued_now}
use Rattle.cheapest_plan.proofs.relax.queue.Goals as goal

pub raise-requires : goal.raise-requires
raise-requires c =
    (queue_roomy c.requires c.args.arrival.last, queue_nearly c.requires c.args.arrival.last)

pub returns : goal.returns
returns c =
    queued_now c.requires c.args.arrival.last c.raise.ensures
