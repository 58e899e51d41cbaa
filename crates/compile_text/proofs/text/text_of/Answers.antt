-- `text_of` meets its contract: the text of an input. Assumes nothing.
use mathlib.Core.Path.{refl}
use Rattle.task_file.proofs.ReadWays.{bytes_from}
use Rattle.entry_tables.specs.Own.{own}
use Rattle.entry_tables.proofs.Reading.{read_as}
use Rattle.compile_text.proofs.TextWays.{text_refused, text_read}
use Rattle.compile_text.proofs.text.text_of.Goals as goal

pub compile_text-requires : goal.compile_text-requires
unfolding own
compile_text-requires c =
    (read_as own c.args.file.now c.in-Ok.ensures refl (bytes_from c.args.file.now (λ i. (c.type_inv.file i).fits))).kept

pub returns-in-Ok : goal.returns-in-Ok
unfolding own
returns-in-Ok c =
    text_read (read_as own c.args.file.now c.in-Ok.ensures refl (bytes_from c.args.file.now (λ i. (c.type_inv.file i).fits)))
    c.compile_text.ensures

pub returns-in-Err : goal.returns-in-Err
unfolding own
returns-in-Err c = text_refused c.args.file.now c.in-Err.refusal c.in-Err.ensures c.number_line.ensures
