-- `set_of` meets its contract: the set of row i, from those of the rows that it names. Assumes nothing.
use native.Mathlib.Omega.{arith}
use mathlib.Core.Bool.{true, false}
use Rattle.atom_sets.proofs.Places.{whole_fours}
use Rattle.atom_sets.proofs.Finds.{both_lower, under_lower, row_room, found_both, found_under, found_atom}
use Rattle.atom_sets.proofs.pass.set_of.Goals as goal

pub unite-requires : goal.unite-requires
unite-requires c =
    let r = c.read_row-w in
    let kind = rw c.in-Both.ensures at c.try_from.ensures in
    let low = both_lower c.requires r.result r.ensures kind in (
      omega (arith, whole_fours c.args.frame, c.set_words-n.ensures),
      row_room c.requires r.result r.ensures c.set_words-n.ensures.0 c.set_start-to.ensures.0 r.result.a low.0 c.set_start-a.ensures.0,
      row_room c.requires r.result r.ensures c.set_words-n.ensures.0 c.set_start-to.ensures.0 r.result.b low.1 c.set_start-b.ensures.0,
    )

pub returns-in-Both : goal.returns-in-Both
returns-in-Both c =
    let r = c.read_row-w in
    let kind = rw c.in-Both.ensures at c.try_from.ensures in
    found_both c.requires r.result r.ensures c.set_words-n.ensures.0 c.set_start-to.ensures.0 kind c.set_start-a.ensures.0
    c.set_start-b.ensures.0 c.unite.ensures

pub copy-requires : goal.copy-requires
copy-requires c =
    let r = c.read_row-w in
    let kind = rw c.in-Under.ensures at c.try_from.ensures in (
      omega (arith, whole_fours c.args.frame, c.set_words-n.ensures),
      row_room c.requires r.result r.ensures c.set_words-n.ensures.0 c.set_start-to.ensures.0 r.result.b
          (under_lower c.requires r.result r.ensures kind) c.set_start-b-in-Under.ensures.0,
    )

pub returns-in-Under : goal.returns-in-Under
returns-in-Under c =
    let r = c.read_row-w in
    let kind = rw c.in-Under.ensures at c.try_from.ensures in
    found_under c.requires r.result r.ensures c.set_words-n.ensures.0 c.set_start-to.ensures.0 kind c.set_start-b-in-Under.ensures.0
    c.copy.ensures

pub returns-in-Set : goal.returns-in-Set
returns-in-Set c =
    let r = c.read_row-w in
    found_atom c.requires r.result r.ensures false (rw c.in-Set.ensures at c.try_from.ensures) c.put_atom.ensures

pub returns-in-Clear : goal.returns-in-Clear
returns-in-Clear c =
    let r = c.read_row-w in
    found_atom c.requires r.result r.ensures true (rw c.in-Clear.ensures at c.try_from.ensures) c.put_atom-in-Clear.ensures
