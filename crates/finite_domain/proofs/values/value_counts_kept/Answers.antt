-- `value_counts_kept` meets its contract: whether each value count is 1 to 16. Assumes nothing.
use Rattle.std.proofs.Common.{◌≡◌, true, false, rules}
use Rattle.std.proofs.lemmas.Iterator.{cases_from_all, YieldsList-from_slice}
use borrow.Author.Tests.{tests}
use Rattle.finite_domain.specs.Check.{count_kept}
use Rattle.finite_domain.proofs.Ways.{every_item}
use Rattle.finite_domain.proofs.values.value_counts_kept.Goals as goal

pub returns : goal.returns
returns c =
    every_item c.args.counts.now 0 count_kept c.all.result
    (cases_from_all _ _ _ (λ x. count_kept x ≡ true) (λ x. count_kept x ≡ false) c.all.ensures.ran
    (YieldsList-from_slice c.args.counts.now cc) (λ x q k. search (rules, tests)) (λ x q k. search (rules, tests)))
