-- `compile_in` meets its contract: reads into tables of its own, then compiles. Assumes nothing.
use mathlib.Core.Path.{refl}
use lib.ListN.{length}
use Rattle.task.specs.Refused.{number_of}
use Rattle.task_file.proofs.ReadWays.{bytes_from}
use Rattle.task_file.specs.Outcome.{lengths}
use Rattle.entry_tables.proofs.Reading.{read_as}
use Rattle.compile_entry.proofs.CompileWays.{compile_read, compile_no_file}
use Rattle.compile_entry.proofs.call.compile_in.Goals as goal

pub compile_tables-requires : goal.compile_tables-requires
compile_tables-requires g c =
    let m = lengths 512 g.row.TWINS g.row.WORDS g.row.WORDS g.row.OPERATORS in
    (read_as m c.args.file.now c.in-Ok.ensures refl (bytes_from c.args.file.now (λ i. (c.type_inv.file i).fits))).kept

pub returns-in-Ok : goal.returns-in-Ok
returns-in-Ok g c =
    let m = lengths 512 g.row.TWINS g.row.WORDS g.row.WORDS g.row.OPERATORS in
    compile_read (length c.args.out.now) (length c.args.res.now)
    (read_as m c.args.file.now c.in-Ok.ensures refl (bytes_from c.args.file.now (λ i. (c.type_inv.file i).fits))) c.compile_tables.ensures

pub returns-in-Err : goal.returns-in-Err
returns-in-Err g c =
    let m = lengths 512 g.row.TWINS g.row.WORDS g.row.WORDS g.row.OPERATORS in
    compile_no_file m c.args.file.now (length c.args.out.now) (length c.args.res.now) (number_of c.in-Err.refusal)
    c.in-Err.ensures c.refuse.ensures
