-- `begin` meets its contract: false and true, in a table that is all 0. Assumes nothing.
use Rattle.building.proofs.Begun.{no_beginning, beginning}
use Rattle.building.proofs.taking.begin.Goals as goal

pub returns-then-most-lt2-clause-begun : goal.returns-then-most-lt2-clause-begun
returns-then-most-lt2-clause-begun c = no_beginning c.args.b.now.frame c.args.b.now.table.now c.if-most-lt2.true

pub returns-clause-begun : goal.returns-clause-begun
returns-clause-begun c = beginning c.args.b.now.frame c.args.b.now.table.now c.requires c.if-most-lt2.false c.first_rows.ensures
