-- `line` meets its contract: its letter and its numbers. Assumes nothing.
use Prim.Native.Nat.{◌+◌, ◌*◌}
use mathlib.Core.List.{◌∷◌}
use lib.ListN.{take}
use Rattle.task.specs.Words.{joined}
use Rattle.printing.specs.Lines.{word}
use Rattle.printing.specs.Inner.Put.{Put}
use Rattle.printing.proofs.lines.line.Given as goal

abbrev pub invariant-loop-number : goal.invariant-loop-number
invariant-loop-number l =
    Put l.fn.out l.at (l.letter ∷ joined word (take l.number-index l.numbers)) (1 + 6 * l.number-index) l.out l.next
