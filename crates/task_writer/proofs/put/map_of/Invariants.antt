-- `map_of` meets its contract: the bit map of fields. Assumes nothing.
use mathlib.Core.Path.{◌≡◌}
use lib.ListN.{drop}
use Rattle.file_format.specs.Bytes.{map_of}
use Rattle.task_writer.proofs.put.map_of.Given as goal

abbrev pub invariant-loop-i : goal.invariant-loop-i
invariant-loop-i l = l.map ≡ map_of (drop l.i l.defaults) (drop l.i l.fields)
