-- `number_batch` meets its contract: the columns of a batch are apart, and all else stays. Assumes nothing.
use Rattle.effect_batches.proofs.Numbers.{roots_room}
use Rattle.effect_batches.proofs.number.number_batch.Goals as goal

pub name_roots-given-requires : goal.name_roots-given-requires
name_roots-given-requires c = roots_room c.requires.0 c.requires.1
