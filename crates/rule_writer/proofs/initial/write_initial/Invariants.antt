-- `write_initial` meets its contract: the source's values, then those of the twins. Assumes nothing.
use mathlib.Core.Path.{◌≡◌}
use lib.ListN.{take}
use lib.Seq.{paste}
use Rattle.normal_form.specs.Finished.{twin_values}
use Rattle.rule_writer.proofs.initial.write_initial.Given as goal

abbrev pub invariant-loop-k : goal.invariant-loop-k
invariant-loop-k l = l.out ≡ paste l.initial.out l.v (twin_values (take l.v l.source) (take l.w l.originals)) l.k
