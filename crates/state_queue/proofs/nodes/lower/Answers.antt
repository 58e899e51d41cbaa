-- `lower` meets its contract: the nodes over a state, from the lowest on. Assumes nothing.
use native.Mathlib.Omega.{arith}
use Prim.Native.Nat.{◌<◌}
use Rattle.state_queue.proofs.Playing.{roomy_on}
use Rattle.state_queue.proofs.Lowering.{lowering_begin, beside_bottom, lowering_other, lowering_named, lowering_on, lowered}
use mathlib.Core.Logic.{inl, inr}
use Rattle.state_queue.proofs.nodes.lower.Goals as goal
use Rattle.state_queue.proofs.nodes.lower.Goals.{then-other_key-first_key, else-other_key-first_key}

pub loop-node-init : goal.loop-node-init
loop-node-init c = lowering_begin c.requires.1 c.key_of-first_key.ensures

pub sibling-beside-requires : goal.sibling-beside-requires
sibling-beside-requires c =
    (omega arith, omega (arith, c.loop-node.invariant.bottom, c.requires.0.limit))

pub winner-other-requires : goal.winner-other-requires
winner-other-requires c =
    (roomy_on c.requires.0 c.loop-node.invariant.playing.long, beside_bottom c.args.n c.sibling-beside.ensures c.loop-node.invariant.bottom)

pub key_of-other_key-requires : goal.key_of-other_key-requires
key_of-other_key-requires c = (
  roomy_on c.requires.0 c.loop-node.invariant.playing.long,
  lowering_other c.loop-node.invariant (omega arith) c.sibling-beside.ensures c.winner-other.ensures,
)

pub overflow_cast-words : goal.overflow_cast-words
overflow_cast-words c =
    let named : c.if-other_key-first_key.first < c.args.n =
    elim c.if-other_key-first_key.branch [
      | then-other_key-first_key w ↦
          lowering_named c.loop-node.invariant (omega arith) c.sibling-beside.ensures c.winner-other.ensures
          {other_key = c.key_of-other_key.result} {k = c.if-other_key-first_key.first_key} (inl (w.if-other_key-first_key.true, w.first-is, w.first_key-is))
      | else-other_key-first_key w ↦
          lowering_named c.loop-node.invariant (omega arith) c.sibling-beside.ensures c.winner-other.ensures
          {other_key = c.key_of-other_key.result} {k = c.if-other_key-first_key.first_key} (inr (w.if-other_key-first_key.false, w.first-is, w.first_key-is))
    ] in
    omega (arith, named, c.requires.0.limit)

pub loop-node-preserved : goal.loop-node-preserved
loop-node-preserved c =
    let roomy = roomy_on c.requires.0 c.loop-node.invariant.playing.long in
    elim c.if-other_key-first_key.branch [
      | then-other_key-first_key w ↦
          lowering_on c.loop-node.invariant (omega arith) c.sibling-beside.ensures c.winner-other.ensures roomy c.key_of-other_key.ensures
          (inl (w.if-other_key-first_key.true, w.first-is, w.first_key-is))
      | else-other_key-first_key w ↦
          lowering_on c.loop-node.invariant (omega arith) c.sibling-beside.ensures c.winner-other.ensures roomy c.key_of-other_key.ensures
          (inr (w.if-other_key-first_key.false, w.first-is, w.first_key-is))
    ]

pub returns : goal.returns
returns c = lowered c.loop-node.invariant (omega arith)
