-- `twin_rule` meets its contract: the opposite rule for the twin at place k; none if k is past the twins. Assumes nothing.
use Rattle.rule_writer.proofs.Writing.{wrote_none, twin_there, twin_absent}
use Rattle.rule_writer.proofs.rules.twin_rule.Goals as goal

pub returns-then-k-frame : goal.returns-then-k-frame
returns-then-k-frame c = rw (twin_there c.args.frame c.args.k c.args.r c.if-k-frame.true) c.write_rule.ensures

pub returns-else-k-frame : goal.returns-else-k-frame
returns-else-k-frame c = wrote_none c.requires.rows (twin_absent c.args.frame c.args.k c.args.r c.if-k-frame.false)
