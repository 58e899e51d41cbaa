-- `next_batch` meets its contract: the batch begins, and filling its columns adds nothing. Assumes nothing.
use mathlib.Core.Path.{refl}
use Rattle.effect_batches.proofs.Covering.{batch_fills}
use Rattle.effect_batches.proofs.Filling.{filled_notes}
use Rattle.effect_batches.proofs.next.next_batch.Goals as goal

pub fill_columns-requires : goal.fill_columns-requires
fill_columns-requires c = batch_fills c.requires c.begin_batch-batch.ensures

pub returns : goal.returns
returns c =
    let batch = c.begin_batch-batch in
    record {
      more = batch.ensures.more;
      most = batch.ensures.most;
      filled =
          filled_notes refl refl refl batch.auto.notes (batch_fills c.requires batch.ensures).stands c.fill_columns.ensures;
    }
