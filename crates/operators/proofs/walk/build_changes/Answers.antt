-- `build_changes` meets its contract: the changes of all variables are built, and recorded behind those that are; variables that the effect does not
-- touch are passed over. Assumes nothing.
use mathlib.Core.Path.{refl, ◌∙◌}
use Rattle.conditions.proofs.Steps.{same_conditions_itself, same_conditions_twice}
use Rattle.operators.proofs.Walks.{walking_begins, walking-stops, walking-more, change_here, leaves_here, touched_here, tally_failed}
use Rattle.operators.proofs.walk.build_changes.Goals as goal

pub loop-v-init : goal.loop-v-init
loop-v-init c =
    record {
      same = same_conditions_itself c.args.b.now;
      walking = walking_begins c.requires.0 c.next_touched-v.ensures;
      noted = c.requires.0.noted;
      long = refl;
    }

pub returns-in_err-c-clause-walked : goal.returns-in_err-c-clause-walked
returns-in_err-c-clause-walked c =
    let i = c.loop-v.invariant in
    rw (tally_failed c.change_of.new.b c.from_residual.result c.from_residual.ensures.0)
    (walking-stops c.requires.0 i.walking (change_here i.same c.change_of.new.b c.args.e c.loop-v.v c.in_err-c.ensures.makes)
    c.loop-v-test.true refl refl)

pub loop-v-preserved : goal.loop-v-preserved
loop-v-preserved c =
    let i = c.loop-v.invariant in
    let d = c.change_of.new.b in
    let same = same_conditions_twice i.same c.in_ok-c.ensures.same in
    let noted = (leaves_here i.same d c.in_ok-c.ensures.leaves).noted refl in
    record {
      same = same;
      walking =
          walking-more c.requires.0 i.walking (change_here i.same d c.args.e c.loop-v.v c.in_ok-c.ensures.makes) refl c.keep_change-k.ensures
          noted (touched_here same c.next_touched-v-in-loop-v.ensures);
      noted = noted;
      long = c.keep_change-k.auto.records ∙ i.long;
    }
