-- `row_lines` meets its contract: lines f, e or o, the rows of a table by its letter. Assumes nothing.
use Prim.Native.Nat.{◌*◌}
use Rattle.task.specs.Bounded.{upto}
use Rattle.printing.specs.Lines.{numbered}
use Rattle.printing.specs.Inner.Put.{Put, listed_at}
use Rattle.printing.proofs.lines.row_lines.Given as goal

abbrev pub invariant-loop-i : goal.invariant-loop-i
invariant-loop-i l =
    Put l.initial.out l.at (numbered l.letter 0 (upto l.i (listed_at l.table l.words))) (32 * l.i) l.out l.next
