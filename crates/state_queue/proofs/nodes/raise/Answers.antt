-- `raise` meets its contract: the state goes up as far as it comes first. Assumes nothing.
use native.Mathlib.Omega.{arith}
use mathlib.Core.Path.{sym, ◌∙◌}
use Rattle.state_queue.proofs.Keys.{key_front}
use Rattle.state_queue.proofs.Playing.{roomy_on}
use Rattle.state_queue.proofs.Raising.{raising_begin, raising_climbs, raising_climbed, raising_stopped, raised}
use Rattle.state_queue.proofs.nodes.raise.Goals as goal

pub loop-node-init : goal.loop-node-init
loop-node-init c = raising_begin c.requires.1

pub climb-requires : goal.climb-requires
climb-requires c =
    let inv = c.loop-node.invariant in
    let same = key_front c.args.words.now c.loop-node.words inv.front c.args.state inv.there in
    (roomy_on c.requires.0 inv.long, raising_climbs inv (omega arith), c.key_of-own.ensures ∙ sym same)

pub returns-then-not-climb : goal.returns-then-not-climb
returns-then-not-climb c =
    raising_stopped c.loop-node.invariant (omega arith) (rw c.if-not-climb.true at c.climb.ensures)

pub loop-node-preserved : goal.loop-node-preserved
loop-node-preserved c =
    raising_climbed c.loop-node.invariant (roomy_on c.requires.0 c.loop-node.invariant.long) (omega arith)
    (rw c.if-not-climb.false at c.climb.ensures)

pub returns : goal.returns
returns c = raised c.loop-node.invariant (omega arith)
