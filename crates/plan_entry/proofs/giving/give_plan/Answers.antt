-- `give_plan` meets its contract: the plan's numbers and the result, and 0 past them; 23 and all 0 if the numbers do not fit. Assumes nothing.
use native.Mathlib.Omega.{arith}
use mathlib.Core.Path.{◌∙◌}
use Rattle.layouts.proofs.RunWays.{le_four, le_eight}
use Rattle.task_writer.proofs.Puts.{put_same}
use Rattle.plan_entry.proofs.PlanWays.{too_long, gives_plan}
use Rattle.plan_entry.proofs.giving.give_plan.Goals as goal

pub returns-then-out-count : goal.returns-then-out-count
returns-then-out-count c =
    let a = c.args in
    too_long a.numbers.now a.out.now a.res.now a.plan.steps a.plan.cost c.requires.room.1 c.if-out-count.true c.requires.clear

pub returns : goal.returns
returns c =
    let a = c.args in
    gives_plan a.numbers.now a.out.now a.res.now a.plan.steps a.plan.cost c.requires.room.1 (omega (arith, c.if-out-count.false)) c.requires.room.2
    c.requires.clear c.put_words.ensures
    (put_same (c.to_le_bytes.ensures ∙ le_four a.plan.steps) c.put_bytes-to_cost.ensures)
    (put_same (c.to_le_bytes-2.ensures ∙ le_eight a.plan.cost) c.put_bytes.ensures)
