-- `put_bytes` meets its contract: bytes, plain. Assumes nothing.
use Rattle.task_writer.proofs.Puts.{put_more, byte_more}
use Rattle.task_writer.proofs.put.put_bytes.Goals as goal

pub loop-byte-preserved : goal.loop-byte-preserved
loop-byte-preserved c =
    put_more (byte_more c.args.bytes.now c.loop-byte.byte-index c.loop-byte-test.true) c.loop-byte.invariant c.put_byte-next.ensures
