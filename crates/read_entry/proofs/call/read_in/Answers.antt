-- `read_in` meets its contract: through tables of these sizes. Assumes nothing.
use Rattle.std.proofs.Common.{length, refl}
use Rattle.task_file.specs.Outcome.{lengths}
use Rattle.task_file.proofs.ReadWays.{bytes_from}
use Rattle.entry_tables.proofs.Reading.{read_as}
use Rattle.read_entry.proofs.ReadWays.{lay_in, read_laid, read_refused}
use Rattle.read_entry.proofs.call.read_in.Goals as goal

pub lay-requires : goal.lay-requires
lay-requires g c =
    let m = lengths 512 g.row.TWINS g.row.WORDS g.row.WORDS g.row.OPERATORS in
    lay_in (read_as m c.args.file.now c.in-Ok.ensures refl (bytes_from c.args.file.now (λ i. (c.type_inv.file i).fits)))

pub returns-in-Ok : goal.returns-in-Ok
returns-in-Ok g c =
    let m = lengths 512 g.row.TWINS g.row.WORDS g.row.WORDS g.row.OPERATORS in
    read_laid (length c.args.tables.now) (read_as m c.args.file.now c.in-Ok.ensures refl (bytes_from c.args.file.now (λ i. (c.type_inv.file i).fits)))
    c.lay.ensures

pub returns-in-Err : goal.returns-in-Err
returns-in-Err g c =
    let m = lengths 512 g.row.TWINS g.row.WORDS g.row.WORDS g.row.OPERATORS in
    read_refused m c.args.file.now (length c.args.tables.now) c.in-Err.ensures refl (c.fill.ensures.after (λ y e. e))
