-- `keep_join` meets its contract: keeps x, the join of rows l and r for row e, if the target is plain. Assumes nothing.
use native.Mathlib.Omega.{arith}
use lib.ListN.{length-set}
use Rattle.conditions.proofs.Joins.{join_room, keep_join_kept}
use Rattle.conditions.proofs.joined.keep_join.Goals as goal

pub bounds-notes-k : goal.bounds-notes-k
bounds-notes-k c = omega (arith, join_room c.requires.0)

pub bounds-notes-k-2 : goal.bounds-notes-k-2
bounds-notes-k-2 c = simp length-set (omega (arith, join_room c.requires.0))

pub bounds-notes-k-3 : goal.bounds-notes-k-3
bounds-notes-k-3 c = simp length-set (omega (arith, join_room c.requires.0))

pub returns : goal.returns
returns c = keep_join_kept c.requires.0 c.args.t c.args.l c.args.r c.args.x c.if-t.false
