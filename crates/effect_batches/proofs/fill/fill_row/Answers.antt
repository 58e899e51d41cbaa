-- `fill_row` meets its contract: the condition was built, so nothing is added. Assumes nothing.
use Rattle.effect_batches.proofs.Filling.{filled_none, filled_row}
use Rattle.effect_batches.proofs.fill.fill_row.Goals as goal

pub returns-then-lacked : goal.returns-then-lacked
returns-then-lacked c = filled_none c.args.b.now c.requires.stands

pub returns : goal.returns
returns c = filled_row c.condition.new.self c.condition.result c.requires c.condition.ensures
