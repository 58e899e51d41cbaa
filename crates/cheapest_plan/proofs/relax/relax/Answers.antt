-- `relax` meets its contract: the old list stays, or the new one is queued. Assumes nothing.
use Rattle.cheapest_plan.proofs.Expanding.{zeros_none}
use Rattle.cheapest_plan.proofs.Relaxing.{relaxed_old, may_queue, relaxed_zeros, relaxed_new}
use Rattle.cheapest_plan.proofs.relax.relax.Goals as goal

pub queue-requires : goal.queue-requires
queue-requires c =
    may_queue c.requires.1 c.requires.0 (rw c.if-not-judge.true at (c.judge.ensures.told c.requires.1))

pub returns-then-not-judge : goal.returns-then-not-judge
returns-then-not-judge c =
    let pre = c.requires.1 in
    let judged = c.judge.ensures in
    let queued = c.queue.ensures in
    let comes = c.if-not-judge.true in
    record {
      zeros = relaxed_zeros pre queued (rw comes at (judged.told pre));
      told = λ h. relaxed_new h queued (rw comes at (judged.told h)) (judged.noted h);
    }

pub returns-else-not-judge : goal.returns-else-not-judge
returns-else-not-judge c =
    let judged = c.judge.ensures in
    record { zeros = zeros_none; told = λ h. relaxed_old h (rw c.if-not-judge.false at (judged.told h)) (judged.noted h) }
