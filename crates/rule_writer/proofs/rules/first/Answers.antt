-- `first` meets its contract: an operator's first rule. Assumes nothing.
use Rattle.rule_writer.proofs.Writing.{first_full, first_done}
use Rattle.rule_writer.proofs.rules.first.Goals as goal

pub returns-then-room-n : goal.returns-then-room-n
returns-then-room-n c = first_full c.args.room c.args.at c.args.table.now c.args.r c.requires c.if-room-n.true

pub returns : goal.returns
returns c =
    rw c.conjunct.ensures (first_done c.args.room c.args.at c.args.table.now c.args.r c.requires c.if-room-n.false)
