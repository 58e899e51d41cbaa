-- `next` meets its contract: a further rule, joined by "both" to what stands. Assumes nothing.
use Rattle.rule_writer.proofs.Writing.{next_full, next_done}
use Rattle.rule_writer.proofs.rules.next.Goals as goal

pub returns-then-room-n : goal.returns-then-room-n
returns-then-room-n c = next_full c.args.room c.args.at c.args.table.now c.args.r c.requires c.if-room-n.true

pub returns : goal.returns
returns c =
    rw (c.store.ensures, c.conjunct.ensures)
    (next_done c.args.room c.args.at c.args.table.now c.args.r c.requires c.if-room-n.false)
