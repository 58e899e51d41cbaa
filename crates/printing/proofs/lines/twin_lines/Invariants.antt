-- `twin_lines` meets its contract: lines w, for the twins from variable `first` on. Assumes nothing.
use Prim.Native.Nat.{◌*◌}
use Rattle.task.specs.Bounded.{upto}
use Rattle.printing.specs.Lines.{numbered}
use Rattle.printing.specs.Inner.Put.{Put, original_at}
use Rattle.printing.proofs.lines.twin_lines.Given as goal

abbrev pub invariant-loop-k : goal.invariant-loop-k
invariant-loop-k l = Put l.initial.out l.at (numbered 119 l.first (upto l.k (original_at l.twins))) (14 * l.k) l.out l.next
