-- `place` meets its contract: the word of the notes that keeps the condition of target t and effect e, if one does. Assumes nothing.
use native.Mathlib.Omega.{arith}
use Rattle.atom_sets.proofs.Places.{sets_behind}
use Rattle.conditions.proofs.Notes.{place_sum, place_found}
use Rattle.conditions.proofs.kept.place.Goals as goal

pub bounds-notes-e : goal.bounds-notes-e
bounds-notes-e c = omega (arith, c.requires.0.words, c.requires.0.effect, sets_behind c.args.frame.now)

pub returns : goal.returns
returns c =
    place_found c.args.frame.now c.args.notes.now c.args.t c.args.e _ (omega arith)
    (omega (arith, c.part_of-part.ensures.0, c.width_of-n.ensures.0, c.if-n-part.false)) c.requires.1
    (place_sum c.args.frame.now c.args.t _ _ _ c.sets_end.ensures.0 c.part_of-part.ensures.0 c.width_of-n.ensures.0)
    (omega (arith, c.if-notes-k.false))
