-- `compared` meets its contract: what was noted is taken, or the lists are compared, and that is noted. Assumes nothing.
use Rattle.cheapest_plan.proofs.Comparing.{noted_before, pair_comparable, pair_verdict, noted_now}
use Rattle.cheapest_plan.proofs.relax.compared.Goals as goal

pub returns-in-Some : goal.returns-in-Some
returns-in-Some c = record { told = λ h. noted_before h c.in-Some.is; noted = λ h. h.noted }

pub precedes-comes_first-requires : goal.precedes-comes_first-requires
precedes-comes_first-requires c = (c.requires.0, pair_comparable c.requires.1)

pub returns : goal.returns
returns c =
    let found = c.precedes-comes_first.ensures in
    record { told = λ h. pair_verdict h found; noted = λ h. noted_now h _ (pair_verdict h found) }
