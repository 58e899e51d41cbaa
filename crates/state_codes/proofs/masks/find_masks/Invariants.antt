-- `find_masks` meets its contract: the rows upwards. Assumes nothing.
use Rattle.state_codes.proofs.Masking.{Masking}
use Rattle.state_codes.proofs.masks.find_masks.Given as goal

abbrev pub invariant-loop-i : goal.invariant-loop-i
invariant-loop-i l = Masking l.effects l.values l.initial.masks l.rows l.i l.masks
