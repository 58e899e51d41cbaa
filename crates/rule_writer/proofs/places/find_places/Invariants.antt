-- `find_places` meets its contract: the places of w twins, the last one first: of equal originals the first stays. Assumes nothing.
use Rattle.rule_writer.proofs.Placing.{Numbered}
use Rattle.rule_writer.proofs.places.find_places.Given as goal

abbrev pub invariant-loop-k : goal.invariant-loop-k
invariant-loop-k l = Numbered l.originals l.fn.places l.v l.w l.places l.k
