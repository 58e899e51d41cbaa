-- `next_touched` meets its contract: the first variable from one on of which effect e names an atom. Assumes nothing.
use native.Mathlib.Omega.{arith}
use Rattle.operators.proofs.Passing.{searching_none, searching_more, searched, searched_all}
use Rattle.operators.proofs.Walks.{looks_at}
use Rattle.operators.proofs.walk.next_touched.Goals as goal

pub loop-v-init : goal.loop-v-init
loop-v-init c = searching_none c.args.b.now.images.builder.frame c.args.b.now.notes.now c.args.e c.args.from

pub passed_at-k-requires : goal.passed_at-k-requires
passed_at-k-requires c = (looks_at c.requires c.loop-v-test.true, c.requires.words)

pub returns-then-k-eq0 : goal.returns-then-k-eq0
returns-then-k-eq0 c = searched c.loop-v.invariant c.loop-v-test.true c.passed_at-k.ensures c.if-k-eq0.true

pub overflow_add-v : goal.overflow_add-v
overflow_add-v c = omega (arith, c.loop-v-test.true, c.passed_at-k.ensures.most, c.requires.variables)

pub loop-v-smaller : goal.loop-v-smaller
loop-v-smaller c = omega (arith, c.loop-v-test.true, c.if-k-eq0.false)

pub loop-v-preserved : goal.loop-v-preserved
loop-v-preserved c = searching_more c.loop-v.invariant c.passed_at-k.ensures

pub returns : goal.returns
returns c = searched_all c.requires.from_most c.loop-v.invariant (omega (arith, c.loop-v-test.false))
