-- `values` meets its contract: the initial values behind a blank; nothing if there are none. Assumes nothing.
use Prim.Native.Nat.{◌+◌}
use mathlib.Core.List.{◌∷◌, map}
use lib.ListN.{take}
use Rattle.printing.specs.Lines.{blank, digit}
use Rattle.printing.specs.Inner.Put.{Put}
use Rattle.printing.proofs.lines.values.Given as goal

abbrev pub invariant-loop-value : goal.invariant-loop-value
invariant-loop-value l =
    Put l.fn.out l.at (blank ∷ map digit (take l.value-index l.initial')) (1 + l.value-index) l.out l.next
