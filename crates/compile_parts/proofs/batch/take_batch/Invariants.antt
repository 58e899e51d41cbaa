-- `take_batch` meets its contract: a batch begins, and its operators are taken in order. Assumes nothing.
use Rattle.compile_parts.proofs.Batched.{TakingBy}
use Rattle.compile_parts.proofs.batch.take_batch.Given as goal

abbrev pub invariant-loop : goal.invariant-loop
invariant-loop l = TakingBy l.fn.b l.b l.operators l.fn.records l.records l.at l.counter
