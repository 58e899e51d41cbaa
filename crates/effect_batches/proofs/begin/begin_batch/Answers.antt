-- `begin_batch` meets its contract: the notes stay right, and the rows that are listed have words of earlier operators. Assumes nothing.
use native.Mathlib.Omega.{arith}
use mathlib.Core.Path.{◌∙◌}
use Rattle.effect_batches.proofs.Numbers.{forgets, lists, noted_anew}
use Rattle.effect_batches.proofs.begin.begin_batch.Goals as goal

pub forget-requires : goal.forget-requires
forget-requires c =
    let sets_end = c.sets_end-k in
    let size-batch = c.size_batch-size in
    forgets c.requires sets_end.ensures.0 size-batch.auto.notes size-batch.ensures.renumbered

pub list_rows-rows-requires : goal.list_rows-rows-requires
list_rows-rows-requires c =
    let forget = c.forget in
    let size-batch = c.size_batch-size in
    lists c.requires (forget.auto.notes ∙ size-batch.auto.notes)

pub returns : goal.returns
returns c =
    let size-batch = c.size_batch-size in
    let forget = c.forget in
    let sets_end = c.sets_end-k in
    let list-rows = c.list_rows-rows in
    record {
      more = omega (arith, size-batch.ensures.some);
      most = size-batch.ensures.most;
      noted =
          noted_anew c.args.frame size-batch.auto.notes forget.auto.notes size-batch.ensures.renumbered
          (rw sets_end.ensures.0 at forget.ensures);
      listed = list-rows.ensures;
    }
