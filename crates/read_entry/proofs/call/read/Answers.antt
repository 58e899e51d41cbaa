-- `read` meets its contract: reads a task file: 0 and its tables, or the number and all 0. Assumes nothing.
use Rattle.std.proofs.Common.{length, sym, ◌∙◌}
use Rattle.std.proofs.lemmas.Bool.{false≢true}
use Rattle.entry_tables.specs.Own.{own, small}
use Rattle.entry_tables.proofs.Reading.{not_five}
use Rattle.read_entry.specs.Entry.{read_entry, read_entry_by}
use Rattle.read_entry.proofs.ReadWays.{read_settled, read_again}
use Rattle.read_entry.proofs.call.read.Goals as goal

pub returns-then-ne : goal.returns-then-ne
unfolding small
returns-then-ne c =
    read_settled small c.args.file.now (length c.args.tables.now)
    (not_five c.read_in-answer.result (λ e. absurd (false≢true (rw e at (sym c.ne.ensures ∙ c.if-ne.true)))))
    c.read_in-answer.ensures

pub returns : goal.returns
unfolding own read_entry read_entry_by
returns c = read_again c.args.file.now c.if-file-le128.auto.tables c.read_in.ensures
