-- `hand_on` marks by the kind of the row, each way out by a law of Handing. Assumes nothing.
use Rattle.applying.proofs.Handing.{known, both_there, under_there, handed_both, handed_under, handed_shut, handed_none}
use Rattle.applying.proofs.effects.hand_on.Goals as goal

pub unwrap-kind-requires : goal.unwrap-kind-requires
unwrap-kind-requires c = known c.requires.1 c.row_at-row.ensures _ c.try_from.ensures

pub bounds-scratch-at : goal.bounds-scratch-at
bounds-scratch-at c = both_there c.requires.1 c.row_at-row.ensures c.try_from.ensures c.unwrap-kind.ensures c.in-Both.is

pub bounds-scratch-a : goal.bounds-scratch-a
bounds-scratch-a c = under_there c.requires.1 c.row_at-row.ensures c.try_from.ensures c.unwrap-kind.ensures c.in-Under.is

pub returns-in-Both : goal.returns-in-Both
returns-in-Both c = handed_both c.requires.1 c.row_at-row.ensures c.try_from.ensures c.unwrap-kind.ensures c.in-Both.is

pub returns-then-scratch-a-ne0 : goal.returns-then-scratch-a-ne0
returns-then-scratch-a-ne0 c =
    handed_under c.requires.1 c.row_at-row.ensures c.try_from.ensures c.unwrap-kind.ensures c.in-Under.is c.if-scratch-a-ne0.true

pub returns-else-scratch-a-ne0 : goal.returns-else-scratch-a-ne0
returns-else-scratch-a-ne0 c =
    handed_shut c.requires.1 c.row_at-row.ensures c.try_from.ensures c.unwrap-kind.ensures c.in-Under.is c.if-scratch-a-ne0.false

pub returns-in-Empty : goal.returns-in-Empty
returns-in-Empty c = handed_none c.requires.1 c.row_at-row.ensures c.try_from.ensures c.unwrap-kind.ensures c.in-Empty.is
