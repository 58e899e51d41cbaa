-- `copy_four` meets its contract: the four words at i become those at a. Assumes nothing.
use Rattle.atom_sets.proofs.Words.{copied_four}
use Rattle.atom_sets.proofs.pass.copy_four.Goals as goal

pub returns : goal.returns
returns c = copied_four c.requires
