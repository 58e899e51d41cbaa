-- `bits` meets its contract: whether every byte is 0 or 1. Assumes nothing.
use Rattle.std.proofs.Common.{◌<◌, ◌≤◌, rules}
use Rattle.std.proofs.lemmas.Iterator.{cases_from_all, YieldsList-from_slice}
use borrow.Author.Tests.{tests}
use Rattle.task.proofs.Told.{every_byte}
use Rattle.task.proofs.check.bits.Goals as goal

pub returns : goal.returns
returns c =
    every_byte c.args.bytes.now c.all.result
    (cases_from_all _ _ _ (λ x. x ≤ 1) (λ x. 1 < x) c.all.ensures.ran (YieldsList-from_slice c.args.bytes.now cc) (λ x q k. search (rules, tests)) (λ x q k. search (rules, tests)))
