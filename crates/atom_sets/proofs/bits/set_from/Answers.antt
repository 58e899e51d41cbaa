-- `set_from` meets its contract: the atoms of variable v and of the later variables of its word, in the set of row e: the lowest bit says set v, the
-- next clear v. Assumes nothing.
use native.Mathlib.Omega.{arith}
use Rattle.atom_sets.proofs.Places.{place_within, from_by}
use Rattle.atom_sets.proofs.bits.set_from.Goals as goal

pub offset_bounds-notes-k : goal.offset_bounds-notes-k
offset_bounds-notes-k c = omega (arith, place_within c.requires.0, c.set_word-k.ensures, c.well_formed)

pub bounds-notes-k : goal.bounds-notes-k
bounds-notes-k c = omega (arith, place_within c.requires.0, c.set_word-k.ensures, c.requires.1)

pub returns : goal.returns
returns c = from_by c.args.frame c.args.notes.now c.args.v c.args.e c.set_word-k.result c.set_word-k.ensures
