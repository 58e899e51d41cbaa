-- `precedes` meets its contract: both lists are walked back until their fronts are the same. Assumes nothing.
use native.Mathlib.Omega.{arith}
use Rattle.cheapest_plan.proofs.Comparing.{parted_begin, apart, a_below, b_below, parted_on, parted_less, parted_end}
use Rattle.cheapest_plan.proofs.last_steps.precedes.Goals as goal

pub loop-x-init : goal.loop-x-init
loop-x-init c = λ h. parted_begin h

pub parent_of-a-requires : goal.parent_of-a-requires
parent_of-a-requires c =
    let h = c.requires.1 in
    omega (arith, (apart h (c.loop-x.invariant h) c.loop-x-test.true).a_is)

pub parent_of-b-requires : goal.parent_of-b-requires
parent_of-b-requires c =
    let h = c.requires.1 in
    omega (arith, (apart h (c.loop-x.invariant h) c.loop-x-test.true).b_is)

pub overflow_mul-x : goal.overflow_mul-x
overflow_mul-x c =
    omega (arith, c.requires.0)

pub overflow_add-x : goal.overflow_add-x
overflow_add-x c =
    let h = c.requires.1 in
    let w = apart h (c.loop-x.invariant h) c.loop-x-test.true in
    omega (arith, c.requires.0, a_below h w c.parent_of-a.ensures c.parent_of-b.ensures)

pub offset_bounds-words-n : goal.offset_bounds-words-n
offset_bounds-words-n c =
    let h = c.requires.1 in
    let w = apart h (c.loop-x.invariant h) c.loop-x-test.true in
    omega (arith, c.requires.0, a_below h w c.parent_of-a.ensures c.parent_of-b.ensures)

pub bounds-words-n : goal.bounds-words-n
bounds-words-n c =
    let h = c.requires.1 in
    let w = apart h (c.loop-x.invariant h) c.loop-x-test.true in
    omega (arith, c.requires.0, a_below h w c.parent_of-a.ensures c.parent_of-b.ensures)

pub overflow_mul-y : goal.overflow_mul-y
overflow_mul-y c =
    omega (arith, c.requires.0)

pub overflow_add-y : goal.overflow_add-y
overflow_add-y c =
    let h = c.requires.1 in
    let w = apart h (c.loop-x.invariant h) c.loop-x-test.true in
    omega (arith, c.requires.0, b_below h w c.parent_of-a.ensures c.parent_of-b.ensures)

pub offset_bounds-words-n-in-loop-x : goal.offset_bounds-words-n-in-loop-x
offset_bounds-words-n-in-loop-x c =
    let h = c.requires.1 in
    let w = apart h (c.loop-x.invariant h) c.loop-x-test.true in
    omega (arith, c.requires.0, b_below h w c.parent_of-a.ensures c.parent_of-b.ensures)

pub bounds-words-n-in-loop-x : goal.bounds-words-n-in-loop-x
bounds-words-n-in-loop-x c =
    let h = c.requires.1 in
    let w = apart h (c.loop-x.invariant h) c.loop-x-test.true in
    omega (arith, c.requires.0, b_below h w c.parent_of-a.ensures c.parent_of-b.ensures)

pub loop-x-smaller : goal.loop-x-smaller
loop-x-smaller c =
    let h = c.requires.1 in
    let w = apart h (c.loop-x.invariant h) c.loop-x-test.true in
    parted_less h w c.parent_of-a.ensures c.parent_of-b.ensures

pub loop-x-preserved : goal.loop-x-preserved
loop-x-preserved c =
    λ h. parted_on h (apart h (c.loop-x.invariant h) c.loop-x-test.true) c.parent_of-a.ensures c.parent_of-b.ensures

pub returns : goal.returns
returns c = record { told = λ h. parted_end h (c.loop-x.invariant h) c.loop-x-test.false }
