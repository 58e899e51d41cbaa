-- `lay` meets its contract: the layout, and 0 past it; 20 and all 0 if it does not fit. Assumes nothing.
use Rattle.task.specs.Lending.{lent_tables}
use Rattle.layouts.specs.Inner.Giving.{flat_bytes}
use Rattle.layouts.proofs.LayWays.{too_short, fitted}
use Rattle.layouts.proofs.laying.lay.Goals as goal

pub returns-then-out-end : goal.returns-then-out-end
returns-then-out-end c =
    too_short (flat_bytes (lent_tables c.args.tables.now)) c.args.out.now (c.fill.ensures.after (λ y h. h)) c.put_tables-end.ensures
    c.if-out-end.true (c.fill-then-out-end.ensures.after (λ y h. h))

pub returns : goal.returns
returns c =
    fitted (flat_bytes (lent_tables c.args.tables.now)) c.args.out.now (c.fill.ensures.after (λ y h. h)) c.put_tables-end.ensures
    c.if-out-end.false
