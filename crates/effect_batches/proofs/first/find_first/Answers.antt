-- `find_first` meets its contract: a word names an operator that comes to its row. Assumes nothing.
use native.Mathlib.Omega.{arith}
use Rattle.effect_batches.proofs.Firsts.{row_kept}
use Rattle.effect_batches.proofs.first.find_first.Goals as goal

pub hand_on-requires : goal.hand_on-requires
hand_on-requires c =
    record {
      row = row_kept c.requires.rows _ (omega arith);
      effect = omega (arith, c.requires.words, c.meet_roots.auto.first, c.loop-i.invariant.0);
    }
