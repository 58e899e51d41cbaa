-- `run_through` meets its contract: reads into tables of its own, then runs. Assumes nothing.
use mathlib.Core.Path.{refl}
use Rattle.task_file.proofs.ReadWays.{bytes_from}
use Rattle.entry_tables.proofs.Reading.{read_as}
use Rattle.run_entry.proofs.RunWays.{run_read, run_no_file}
use Rattle.run_entry.proofs.call.run_through.Goals as goal

pub returns-in_err-tables : goal.returns-in_err-tables
returns-in_err-tables g c =
    run_no_file _ _ _ _ _ c.in_err-tables.field-0.0 _ c.in_err-tables.ensures c.from_residual.ensures.1 refl

pub run_read-requires : goal.run_read-requires
run_read-requires g c =
    (read_as _ c.args.file.now c.in_ok-tables.ensures refl (bytes_from c.args.file.now (λ i. (c.type_inv.file i).fits))).kept

pub returns : goal.returns
returns g c =
    run_read _ _ _ (read_as _ c.args.file.now c.in_ok-tables.ensures refl (bytes_from c.args.file.now (λ i. (c.type_inv.file i).fits)))
    c.run_read.ensures
