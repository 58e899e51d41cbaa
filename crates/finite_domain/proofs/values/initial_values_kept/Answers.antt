-- `initial_values_kept` meets its contract: whether each initial value is below its variable's count. Assumes nothing.
use Rattle.std.proofs.Common.{◌≡◌, true, false, ◌∙◌, rules}
use Rattle.std.specs.List.{zip}
use Rattle.std.proofs.lemmas.Iterator.{cases_from_all, YieldsList-from_slice, YieldsList-from_zip}
use borrow.Author.Tests.{tests}
use Rattle.finite_domain.proofs.Ways.{below, every_item, every_value}
use Rattle.finite_domain.proofs.values.initial_values_kept.Goals as goal

pub returns : goal.returns
returns c =
    let counts = c.args.counts.now in
    let initial = c.args.initial.now in
    every_item (zip initial counts) (0, 0) below c.all.result
    (cases_from_all c.all.new.self _ _ (λ p. below p ≡ true) (λ p. below p ≡ false) c.all.ensures.ran
    (YieldsList-from_zip (YieldsList-from_slice initial cc) (YieldsList-from_slice counts cc))
    (λ x q k. search (rules, tests)) (λ x q k. search (rules, tests)))
    ∙ every_value counts initial c.requires
