-- `find_masks` meets its contract: the rows upwards. Assumes nothing.
use native.Mathlib.Omega.{arith}
use Rattle.state_codes.proofs.Masking.{row_ready, masking_more}
use Rattle.state_codes.proofs.masks.find_masks.Goals as goal

pub mask_of-mask-requires : goal.mask_of-mask-requires
mask_of-mask-requires c = row_ready c.requires (omega arith) c.loop-i.invariant

pub loop-i-preserved : goal.loop-i-preserved
loop-i-preserved c = masking_more c.requires (omega arith) c.loop-i.invariant c.mask_of-mask.ensures
