-- `write_records` meets its contract: the rules of the changes recorded from k up to an end, behind what stands. Assumes nothing.
use Rattle.normal_form.specs.Assembly.{rules}
use Rattle.rule_writer.specs.Inner.Writes.{Ready, Wrote}
use Rattle.assembling.specs.Inner.Assembles.{changes_between, ForTwins}
use Rattle.assembling.proofs.operator.write_records.Given as goal

abbrev pub invariant-loop-i : goal.invariant-loop-i
invariant-loop-i l =
    record {
      ready : Ready l.recorded.frame.room l.r l.out;
      written :
          ForTwins l.recorded.frame l.recorded.places.now (λ twins. Wrote (rules l.recorded.frame.variables twins (changes_between l.recorded.records.now l.k l.i)) l.recorded.frame.room l.initial.r l.initial.out l.out l.r);
    }
