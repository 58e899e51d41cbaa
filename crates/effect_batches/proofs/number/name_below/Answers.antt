-- `name_below` meets its contract: the rows that a row names get the next columns, or keep what they have. Assumes nothing.
use native.Mathlib.Omega.{arith}
use mathlib.Core.Path.{refl}
use Rattle.effect_batches.proofs.Firsts.{names_right, names_left}
use Rattle.effect_batches.proofs.Numbers.{numbered_more, numbered_then, names_row}
use Rattle.effect_batches.proofs.number.name_below.Goals as goal

pub name-right-requires : goal.name-right-requires
name-right-requires c =
    let kind = rw c.in-Ok-Both.field-0-is at c.in-Ok-Both.ensures in
    names_row c.requires (names_right c.requires.row c.read_row-r.result c.read_row-r.ensures (omega (arith, kind))) refl
    (omega (arith, c.requires.few))

pub name-requires : goal.name-requires
name-requires c =
    let kind = rw c.in-Ok-Both.field-0-is at c.in-Ok-Both.ensures in
    let right = names_right c.requires.row c.read_row-r.result c.read_row-r.ensures (omega (arith, kind)) in
    let low = c.requires.row.lower c.read_row-r.result.b right in
    names_row c.requires (names_left c.requires.row c.read_row-r.result c.read_row-r.ensures kind) c.name-right.auto.notes
    (omega (arith, c.requires.few, (c.name-right.ensures c.args.i low).once))

pub returns-in-Ok-Both : goal.returns-in-Ok-Both
returns-in-Ok-Both c =
    let kind = rw c.in-Ok-Both.field-0-is at c.in-Ok-Both.ensures in
    let right = names_right c.requires.row c.read_row-r.result c.read_row-r.ensures (omega (arith, kind)) in
    let left = names_left c.requires.row c.read_row-r.result c.read_row-r.ensures kind in
    let below_right = c.requires.row.lower c.read_row-r.result.b right in
    let below_left = c.requires.row.lower c.read_row-r.result.a left in
    λ n h.
    numbered_then (omega arith) (c.name-right.ensures n (omega (arith, below_right, h)))
    (c.name.ensures n (omega (arith, below_left, h)))

pub name-requires-in-Ok-Under : goal.name-requires-in-Ok-Under
name-requires-in-Ok-Under c =
    let kind = rw c.in-Ok-Under.field-0-is at c.in-Ok-Under.ensures in
    names_row c.requires (names_right c.requires.row c.read_row-r.result c.read_row-r.ensures (omega (arith, kind))) refl
    (omega (arith, c.requires.few))

pub returns-in-Ok-Under : goal.returns-in-Ok-Under
returns-in-Ok-Under c =
    let kind = rw c.in-Ok-Under.field-0-is at c.in-Ok-Under.ensures in
    let right = names_right c.requires.row c.read_row-r.result c.read_row-r.ensures (omega (arith, kind)) in
    let below_right = c.requires.row.lower c.read_row-r.result.b right in
    λ n h. numbered_more (omega arith) (c.name-in-Ok-Under.ensures n (omega (arith, below_right, h)))
