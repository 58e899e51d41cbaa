-- `unite_four` meets its contract: the four words at i become those at a together with those at b. Assumes nothing.
use Rattle.atom_sets.proofs.Words.{united_four}
use Rattle.atom_sets.proofs.pass.unite_four.Goals as goal

pub returns : goal.returns
returns c = united_four c.requires.0 c.args.b
