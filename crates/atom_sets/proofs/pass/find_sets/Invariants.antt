-- `find_sets` meets its contract: the sets of all rows; the words around them stay. Assumes nothing.
use Rattle.atom_sets.proofs.Finds.{Finding}
use Rattle.atom_sets.proofs.pass.find_sets.Given as goal

abbrev pub invariant-loop-i : goal.invariant-loop-i
invariant-loop-i l = Finding l.frame l.effects l.initial.notes l.i l.notes
