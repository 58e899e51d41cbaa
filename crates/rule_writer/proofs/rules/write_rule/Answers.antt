-- `write_rule` meets its contract: one rule; none for a condition that is row 0. Assumes nothing.
use Rattle.rule_writer.proofs.Writing.{wrote_none, rule_absent, rule_there}
use Rattle.rule_writer.proofs.rules.write_rule.Goals as goal

pub returns-then-r-eq0 : goal.returns-then-r-eq0
returns-then-r-eq0 c = wrote_none c.requires (rule_absent c.args.r c.if-r-eq0.true)

pub returns-then-at-eq0 : goal.returns-then-at-eq0
returns-then-at-eq0 c = rw (rule_there c.args.r c.if-r-eq0.false) c.first.ensures

pub returns-else-at-eq0 : goal.returns-else-at-eq0
returns-else-at-eq0 c = rw (rule_there c.args.r c.if-r-eq0.false) c.next.ensures
