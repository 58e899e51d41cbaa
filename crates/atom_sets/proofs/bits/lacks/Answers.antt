-- `lacks` meets its contract: whether the set of row e lacks set v, or clear v. Assumes nothing.
use native.Mathlib.Omega.{arith}
use Rattle.atom_sets.proofs.Places.{place_within, lacks_by}
use Rattle.atom_sets.proofs.bits.lacks.Goals as goal

pub offset_bounds-notes-k : goal.offset_bounds-notes-k
offset_bounds-notes-k c = omega (arith, place_within c.requires.0, c.set_word-k.ensures, c.well_formed)

pub bounds-notes-k : goal.bounds-notes-k
bounds-notes-k c = omega (arith, place_within c.requires.0, c.set_word-k.ensures, c.requires.1)

pub returns : goal.returns
returns c =
    lacks_by c.args.frame c.args.notes.now c.args.clear c.args.v c.args.e c.set_word-k.result c.atom_bit.result
    c.set_word-k.ensures c.atom_bit.ensures.0
