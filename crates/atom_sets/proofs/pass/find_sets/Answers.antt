-- `find_sets` meets its contract: the sets of all rows; the words around them stay. Assumes nothing.
use native.Mathlib.Omega.{arith}
use Rattle.atom_sets.proofs.Finds.{finding_none, finding_asks, finding_more, finding_all}
use Rattle.atom_sets.proofs.pass.find_sets.Goals as goal

pub loop-i-init : goal.loop-i-init
loop-i-init c = finding_none c.args.frame c.args.effects.now c.args.notes.now

pub set_of-requires : goal.set_of-requires
set_of-requires c = finding_asks c.requires c.loop-i.auto.notes (omega arith)

pub loop-i-preserved : goal.loop-i-preserved
loop-i-preserved c = finding_more c.requires (omega arith) c.loop-i.invariant c.set_of.ensures

pub returns : goal.returns
returns c = finding_all c.requires c.loop-i.auto.notes c.loop-i.invariant (omega arith)
