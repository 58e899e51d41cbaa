-- `joined` meets its contract: the join of rows l and r for row e, "and" or "or": what is kept, or made and kept. Assumes nothing.
use Rattle.conditions.proofs.Joins.{joined_kept, joined_made}
use Rattle.conditions.proofs.ConditionBuilder.joined.Goals as goal

pub returns-in-Some-clause-joined : goal.returns-in-Some-clause-joined
returns-in-Some-clause-joined c = joined_kept c.in-Some.ensures

pub returns-clause-joined : goal.returns-clause-joined
returns-clause-joined c =
    let x = c.in_ok-x.ensures in
    joined_made (λ ready. (x.built ready).builds) (rw x.same.frame at c.keep_join.ensures)
