-- `write_plan` meets its contract: the list goes to its place from its end. Assumes nothing.
use native.Mathlib.Omega.{arith}
use Rattle.cheapest_plan.proofs.Backwards.{aside_begin, aside_on, back_begin, last_step}
use Rattle.cheapest_plan.proofs.writing.write_plan.Goals as goal

pub loop-k-init : goal.loop-k-init
loop-k-init c =
    (aside_begin c.args.steps c.args.plan.now, λ h. back_begin h c.args.plan.now)

pub overflow_add-step : goal.overflow_add-step
overflow_add-step c =
    omega (arith, c.requires.0, (c.loop-k.invariant.1 c.requires.1).there)

pub offset_bounds-words-n : goal.offset_bounds-words-n
offset_bounds-words-n c =
    omega (arith, c.requires.0, (c.loop-k.invariant.1 c.requires.1).there)

pub bounds-words-n : goal.bounds-words-n
bounds-words-n c =
    omega (arith, c.requires.0, (c.loop-k.invariant.1 c.requires.1).there)

pub parent_of-s-requires : goal.parent_of-s-requires
parent_of-s-requires c =
    let inv = c.loop-k.invariant in
    let pre = c.requires in
    (last_step pre.1 (inv.1 pre.1) (omega arith) inv.0.inside (omega (arith, pre.2, inv.0.long))).some

pub loop-k-preserved : goal.loop-k-preserved
loop-k-preserved c =
    let inv = c.loop-k.invariant in
    let pre = c.requires in (
      aside_on c.operator_of.result (omega arith) inv.0,
      λ h.
          (last_step h (inv.1 h) (omega arith) inv.0.inside (omega (arith, pre.2, inv.0.long))).further c.operator_of.result c.parent_of-s.result
          c.operator_of.ensures c.parent_of-s.ensures,
    )

pub returns : goal.returns
returns c =
    let inv = c.loop-k.invariant in
    record { front = λ h i l. (inv.1 h).written i (omega arith) l; behind = inv.0.behind }
