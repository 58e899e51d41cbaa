-- `put_atom` meets its contract: the word of variable v in the set of row i gets the one bit of set v, or of clear v. Assumes nothing.
use native.Mathlib.Omega.{arith}
use Rattle.atom_sets.proofs.Places.{place_within}
use Rattle.atom_sets.proofs.Finds.{put_by}
use Rattle.atom_sets.proofs.pass.put_atom.Goals as goal

pub offset_bounds-notes-k : goal.offset_bounds-notes-k
offset_bounds-notes-k c = omega (arith, place_within c.requires.0, c.set_word-k.ensures, c.well_formed)

pub bounds-notes-k : goal.bounds-notes-k
bounds-notes-k c = omega (arith, place_within c.requires.0, c.set_word-k.ensures, c.requires.1)

pub returns : goal.returns
returns c =
    put_by c.args.frame c.args.notes.now c.args.clear c.args.v c.args.i c.set_word-k.result c.atom_bit.result
    c.set_word-k.ensures c.atom_bit.ensures.0 c.atom_bit.ensures.1
