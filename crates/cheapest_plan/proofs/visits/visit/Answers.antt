-- `visit` meets its contract: a goal state stays; any other is taken, and all operators are stepped from it. Assumes nothing.
use Prim.Native.Nat.{◌≤◌}
use native.Mathlib.Omega.{arith}
use mathlib.Core.Path.{sym}
use mathlib.Core.Bool.{false≢true}
use lib.ListN.{length}
use Rattle.state_queue.proofs.Playing.{roomy_on}
use Rattle.cheapest_plan.proofs.Expanding.{zeros_none, zeros_on}
use Rattle.cheapest_plan.proofs.Visiting.{take_zeros, first_below, visited_goal, visit_taken, visit_stage, visited-on, visit_maskable}
use Rattle.cheapest_plan.proofs.visits.visit.Goals as goal

pub returns-then-is_goal : goal.returns-then-is_goal
returns-then-is_goal c =
    record {
      zeros = zeros_none;
      gone = λ e. absurd (false≢true (sym e));
      told = λ v. visited_goal v c.requires.roomy.0 c.is_goal.ensures c.if-is_goal.true;
    }

pub offset_bounds-words-s : goal.offset_bounds-words-s
offset_bounds-words-s c =
    let pre = c.requires in
    omega (arith, pre.roomy.0, first_below pre.visitable pre.roomy.0)

pub bounds-words-s : goal.bounds-words-s
bounds-words-s c =
    let pre = c.requires in
    omega (arith, pre.roomy.0, first_below pre.visitable pre.roomy.0)

pub overflow_add-steps : goal.overflow_add-steps
overflow_add-steps c =
    let pre = c.requires in
    omega (arith, pre.roomy.0, first_below pre.visitable pre.roomy.0)

pub offset_bounds-words-n : goal.offset_bounds-words-n
offset_bounds-words-n c =
    let pre = c.requires in
    omega (arith, pre.roomy.0, first_below pre.visitable pre.roomy.0)

pub bounds-words-n : goal.bounds-words-n
bounds-words-n c =
    let pre = c.requires in
    omega (arith, pre.roomy.0, first_below pre.visitable pre.roomy.0)

pub take-requires : goal.take-requires
take-requires c =
    let pre = c.requires in
    (pre.roomy.0, pre.visitable.known.queue, first_below pre.visitable pre.roomy.0)

pub find_masks-requires : goal.find_masks-requires
find_masks-requires c =
    visit_maskable c.requires.visitable c.requires.goal_ready.few (omega (arith, c.requires.goal_ready.room, c.is_goal.auto.scratch)) c.requires.roomy.1

pub expand-requires : goal.expand-requires
unfolding visit_stage
expand-requires c =
    let pre = c.requires in
    record {
      roomy = roomy_on pre.roomy.0 c.take.auto.words;
      stage =
          visit_stage pre.visitable pre.roomy.0 c.is_goal.ensures c.if-is_goal.false c.take.ensures pre.goal_ready.few c.find_masks.ensures
          (omega (arith, pre.goal_ready.room, c.is_goal.auto.scratch)) (omega (arith, pre.roomy.1, c.find_masks.auto.masks));
      stepping = visit_taken pre.visitable pre.roomy.0 c.is_goal.ensures c.if-is_goal.false c.take.ensures;
    }

pub returns : goal.returns
returns c =
    let pre = c.requires in
    let roomy = pre.roomy.0 in
    let room : c.args.tables.now.head.formulas ≤ length c.is_goal.new.scratch = omega
    (arith, c.requires.goal_ready.room, c.is_goal.auto.scratch) in
    let masks-room : c.args.tables.now.head.effects ≤ length c.find_masks.new.masks = omega
    (arith, c.requires.roomy.1, c.find_masks.auto.masks) in
    record {
      zeros = zeros_on (take_zeros c.take.ensures) c.expand.ensures.zeros;
      gone = λ e. c.expand.ensures.zeros.stay c.args.s (first_below pre.visitable roomy) c.take.ensures.word;
      told = λ v.
          visited-on v roomy c.is_goal.ensures c.if-is_goal.false c.take.ensures pre.goal_ready.few c.find_masks.ensures room masks-room
          (c.expand.ensures.told
          (visit_stage v roomy c.is_goal.ensures c.if-is_goal.false c.take.ensures pre.goal_ready.few
          c.find_masks.ensures room masks-room));
    }
