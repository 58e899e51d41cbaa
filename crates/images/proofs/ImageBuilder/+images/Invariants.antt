-- The two memoised functions and what they share meet their contracts: the row number falls from each row to its operands. Assumes nothing.
-- In the answers `start` is the entry, `read` where the row was read, `left`, `right`, `made` and `end` where a row was built, `one` to `three` the tests.
use Prim.Native.Nat.{◌+◌, ◌*◌}
use Rattle.images.proofs.ImageBuilder.+images.Given as goal

abbrev pub decreases-build : goal.decreases-build
decreases-build l = 6 * l.i + 3

abbrev pub decreases-equivalent : goal.decreases-equivalent
decreases-equivalent l = 6 * l.i + 1

abbrev pub decreases-image : goal.decreases-image
decreases-image l = 6 * l.i + 4

abbrev pub decreases-negated_image : goal.decreases-negated_image
decreases-negated_image l = 6 * l.i + 4

abbrev pub decreases-pair : goal.decreases-pair
decreases-pair l = 6 * l.i

abbrev pub decreases-sided : goal.decreases-sided
decreases-sided l = 6 * l.i + 4

abbrev pub decreases-step : goal.decreases-step
decreases-step l = 6 * l.i + 2
