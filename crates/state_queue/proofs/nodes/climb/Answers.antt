-- `climb` meets its contract: the ways out of one node. Assumes nothing.
use native.Mathlib.Omega.{arith}
use Prim.Native.Nat.{◌≤◌, ◌<◌}
use mathlib.Core.Path.{refl, sym, ◌∙◌}
use borrow.Author.Tests.{lt-ltb, le-ltb}
use Rattle.state_queue.specs.Inner.Queue.{key, named_already, named_now, other_stays}
use Rattle.state_queue.proofs.nodes.climb.Goals as goal

pub returns-then-first-state : goal.returns-then-first-state
returns-then-first-state c = named_already (sym c.winner-first.ensures ∙ c.if-first-state.true) refl

pub returns-then-comes_first : goal.returns-then-comes_first
returns-then-comes_first c =
    let a = c.args in
    let l : key a.words.now a.n a.state < key a.words.now a.n c.winner-first.result =
    omega (arith, c.if-comes_first.true, c.key_of.ensures, c.requires.2) in
    rw (lt-ltb a.own c.key_of.result c.if-comes_first.true) (named_now (rw c.winner-first.ensures at l) refl)

pub returns-else-comes_first : goal.returns-else-comes_first
returns-else-comes_first c =
    let a = c.args in
    let l : key a.words.now a.n c.winner-first.result ≤ key a.words.now a.n a.state =
    omega (arith, c.if-comes_first.false, c.key_of.ensures, c.requires.2) in
    rw (le-ltb a.own c.key_of.result c.if-comes_first.false)
    (other_stays (λ z. c.if-first-state.false (c.winner-first.ensures ∙ z)) (rw c.winner-first.ensures at l) refl)
