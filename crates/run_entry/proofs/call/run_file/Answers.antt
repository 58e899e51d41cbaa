-- `run_file` meets its contract: through small tables, and after 5 through the full ones. Assumes nothing.
use mathlib.Core.Path.{ap, ◌∙◌}
use lib.ListN.{length}
use Rattle.entry_tables.specs.Own.{small, own}
use Rattle.run_entry.specs.Entry.{run_entry}
use Rattle.run_entry.proofs.RunWays.{not_short, short, run_settled, not_run, run_again}
use Rattle.run_entry.proofs.call.run_file.Goals as goal
use Rattle.run_entry.proofs.call.run_file.Goals.{then-file-le128+else-ne, else-file-le128}

pub returns-then-ne : goal.returns-then-ne
unfolding small
returns-then-ne c =
    let a = c.args in
    let g = c.run_through-answer.ensures in
    run_settled small a.file.now a.state.now a.sequence.now (length a.res.now) g
    (not_short c.run_through-answer.result c.if-ne.ensures g.stops)

pub returns : goal.returns
unfolding small own run_entry
returns c =
    let a = c.args in
    elim c.if-file-le128.branch [
      | then-file-le128+else-ne w ↦ run_again a.file.now a.sequence.now
          (w.state-is ∙ not_run small a.file.now a.state.now a.sequence.now (length a.res.now) w.run_through-answer.ensures (short w.run_through-answer.result w.if-ne.ensures))
          (ap length w.res-is ∙ w.run_through-answer.auto.res) c.run_through.ensures
      | else-file-le128 w ↦ run_again a.file.now a.sequence.now w.state-is (ap length w.res-is) c.run_through.ensures
    ]
