-- `plan` meets its contract: the cheapest plan of a task file, through small tables or through full ones. Assumes nothing.
use mathlib.Core.Path.{sym, ◌∙◌}
use mathlib.Core.Bool.{false≢true}
use lib.ListN.{length}
use Rattle.entry_tables.specs.Own.{own, small}
use Rattle.plan_entry.specs.Entry.{plan_entry, plan_entry_by}
use Rattle.plan_entry.proofs.PlanWays.{told_five, plan_settled, plan_again}
use Rattle.plan_entry.proofs.call.plan.Goals as goal

pub returns-then-ne : goal.returns-then-ne
unfolding small
returns-then-ne c =
    let a = c.args in
    plan_settled small a.file.now (length a.out.now) (length a.res.now)
    (λ five. let same = rw (told_five c.plan_through-answer.result five) at c.ne.ensures in false≢true (sym same ∙ c.if-ne.true))
    c.plan_through-answer.ensures

pub returns : goal.returns
unfolding own plan_entry plan_entry_by
returns c =
    let a = c.args in
    plan_again a.file.now c.if-file-le128.auto.out c.if-file-le128.auto.res c.plan_through.ensures
