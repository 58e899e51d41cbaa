-- `hand_on` meets its contract: a row hands its word on to the rows that it names. Assumes nothing.
use native.Mathlib.Omega.{arith}
use Rattle.effect_batches.proofs.Firsts.{names_right, names_left, first_met, comes_below}
use Rattle.effect_batches.proofs.first.hand_on.Goals as goal

pub meet-requires : goal.meet-requires
meet-requires c =
    let kind = rw c.in-Ok-Both.field-0-is at c.in-Ok-Both.ensures in
    let right = names_right c.requires.row c.read_row-r.result c.read_row-r.ensures (omega (arith, kind)) in
    omega (arith, c.requires.row.lower c.read_row-r.result.b right, c.requires.effect)

pub meet-requires-in-Ok-Both : goal.meet-requires-in-Ok-Both
meet-requires-in-Ok-Both c =
    let kind = rw c.in-Ok-Both.field-0-is at c.in-Ok-Both.ensures in
    let left = names_left c.requires.row c.read_row-r.result c.read_row-r.ensures kind in
    omega (arith, c.requires.row.lower c.read_row-r.result.a left, c.requires.effect, c.meet.auto.first)

pub returns-in-Ok-Both : goal.returns-in-Ok-Both
returns-in-Ok-Both c =
    let kind = rw c.in-Ok-Both.field-0-is at c.in-Ok-Both.ensures in
    let right = names_right c.requires.row c.read_row-r.result c.read_row-r.ensures (omega (arith, kind)) in
    let left = names_left c.requires.row c.read_row-r.result c.read_row-r.ensures kind in
    record {
      stays = λ operators count f.
          let word = f.comes c.args.i in
          first_met c.meet-in-Ok-Both.ensures (comes_below left word) (first_met c.meet.ensures (comes_below right word) f);
    }

pub meet-requires-in-Ok-Under : goal.meet-requires-in-Ok-Under
meet-requires-in-Ok-Under c =
    let kind = rw c.in-Ok-Under.field-0-is at c.in-Ok-Under.ensures in
    let right = names_right c.requires.row c.read_row-r.result c.read_row-r.ensures (omega (arith, kind)) in
    omega (arith, c.requires.row.lower c.read_row-r.result.b right, c.requires.effect)

pub returns-in-Ok-Under : goal.returns-in-Ok-Under
returns-in-Ok-Under c =
    let kind = rw c.in-Ok-Under.field-0-is at c.in-Ok-Under.ensures in
    let right = names_right c.requires.row c.read_row-r.result c.read_row-r.ensures (omega (arith, kind)) in
    record { stays = λ operators count f. first_met c.meet-in-Ok-Under.ensures (comes_below right (f.comes c.args.i)) f }
