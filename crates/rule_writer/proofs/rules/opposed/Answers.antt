-- `opposed` meets its contract: a rule, and the opposite one for the twin at place k. Assumes nothing.
use Rattle.rule_writer.proofs.Writing.{overfull_more, writes_both, onward}
use Rattle.rule_writer.proofs.rules.opposed.Goals as goal

pub returns-in_err-a : goal.returns-in_err-a
returns-in_err-a c = onward _ _ c.from_residual.result _ c.from_residual.ensures.1 (overfull_more _ c.in_err-a.ensures)

pub returns : goal.returns
returns c = writes_both _ _ _ _ _ _ c.twin_rule.result c.in_ok-a.ensures c.twin_rule.ensures
