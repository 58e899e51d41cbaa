-- `name` meets its contract: a row gets the next column, or keeps what it has. Assumes nothing.
use Rattle.effect_batches.proofs.Numbers.{numbered_next}
use Rattle.effect_batches.proofs.number.name.Goals as goal

pub returns : goal.returns
returns c = λ n h. numbered_next n c.requires.within h
