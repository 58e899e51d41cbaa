-- `put_state` meets its contract: a state, packed. Assumes nothing.
use native.Mathlib.Omega.{arith}
use mathlib.Core.Path.{◌∙◌}
use Rattle.std.proofs.Common.{rules}
use lib.ListN.{length}
use Rattle.std.proofs.lemmas.List.{length_push}
use Rattle.std.specs.Slice.Iter.{chunks_rest}
use Rattle.task_writer.proofs.PutLoops.{pack_begin, pack_more, pack_end, pack_reach, chunk_bits}
use Rattle.task_writer.proofs.put_tables.put_state.Goals as goal

pub loop-bits-init : goal.loop-bits-init
loop-bits-init c = (search rules, pack_begin c.args.state.now c.args.at c.args.out.now (search rules))

pub pack-requires : goal.pack-requires
pack-requires c =
    let steps = c.in-Some.ensures.steps in (
      chunk_bits c.in-Some.bits.now (chunks_rest c.next.new.self) (length c.loop-bits.yielded) c.requires.0 c.loop-bits.invariant.1.left steps.1.0,
      omega (arith, steps.1.1, c.loop-bits.invariant.0),
    )

pub put_byte-next-requires : goal.put_byte-next-requires
put_byte-next-requires c = omega (arith, c.requires.1, pack_reach c.loop-bits.invariant.1)

pub loop-bits-preserved : goal.loop-bits-preserved
loop-bits-preserved c =
    let steps = c.in-Some.ensures.steps in
    let size = c.loop-bits.invariant.0 in (
      steps.0 ∙ size,
      rw length_push
          (pack_more c.args.state.now c.args.at c.args.out.now c.in-Some.bits.now (chunks_rest c.next.new.self) c.loop-bits.invariant.1
          steps.1.0 (rw size at steps.1.1) steps.1.2 (rw c.pack.ensures at c.put_byte-next.ensures)),
    )

pub returns : goal.returns
returns c =
    let steps = c.in-None.ensures.steps in
    pack_end c.args.state.now c.args.at c.args.out.now c.loop-bits.invariant.1 steps.1.0
