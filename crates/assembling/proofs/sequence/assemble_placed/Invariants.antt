-- `assemble_placed` meets its contract: writes the rules and the rows of the first count operators into tables that are all 0, the places of the
-- twins being known; stops at the first operator whose rules have no room. Assumes nothing.
use Prim.Native.Nat.{◌≤◌}
use mathlib.Core.Path.{◌≡◌}
use Rattle.assembling.specs.Inner.Assembles.{begins_at, assembled_in, ForTwins, Holding}
use Rattle.assembling.proofs.sequence.assemble_placed.Given as goal

abbrev pub invariant-loop-o : goal.invariant-loop-o
invariant-loop-o l =
    record {
      begins : l.k ≡ begins_at l.recorded.records.now l.o;
      holding :
          ForTwins l.recorded.frame l.recorded.places.now (λ twins. Holding (assembled_in l.recorded.frame.variables twins l.operators l.recorded.records.now l.o) l.rows l.o l.out l.written);
      within : l.rows ≤ l.recorded.frame.room;
    }
