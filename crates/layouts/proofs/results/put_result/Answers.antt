-- `put_result` meets its contract: the result, and 0 past it; gives the stop's number. Assumes nothing.
use native.Mathlib.Omega.{arith}
use mathlib.Core.Path.{ap, ◌∙◌}
use Rattle.task_writer.proofs.Puts.{put_same}
use Rattle.plan.specs.Outcome.{outcome_told}
use Rattle.layouts.specs.Layout.{flag}
use Rattle.layouts.proofs.RunWays.{flag_is, le_four, le_eight, word_low, result_put}
use Rattle.layouts.proofs.results.put_result.Goals as goal

pub returns : goal.returns
returns c =
    let o = c.args.outcome in
    result_put (outcome_told o) c.args.out.now (c.fill.ensures.after (λ y h. h))
    (put_same (c.to_le_bytes.ensures ∙ le_four o.steps) c.put_bytes-to_cost.ensures)
    (put_same (c.to_le_bytes-2.ensures ∙ le_eight o.cost) c.put_bytes-to_goal.ensures)
    c.put_byte-to_plan.ensures c.put_byte-to_stop.ensures
    (put_same (word_low c.stop-number.result (omega arith)) c.put_word.ensures)
    (c.from.ensures ∙ flag_is o.goal) (c.from-2.ensures ∙ flag_is c.plan-planned.result ∙ ap flag c.plan-planned.ensures)
    c.from-3.ensures c.stop-number.ensures c.requires
