-- `compile_in` meets its contract: compiles tables that pass, through tables of these sizes. Assumes nothing.
use lib.ListN.{length}
use Rattle.task.specs.Lending.{lent_tables}
use Rattle.compiled_file.specs.Inner.Giving.{room_in}
use Rattle.compiled_file.proofs.CompileWays.{room_is, no_task_compiled, compiled_kept, compiled_given}
use Rattle.compiled_file.proofs.compiling.compile_in.Goals as goal

pub returns-in-Err : goal.returns-in-Err
returns-in-Err g c =
    let room = room_is g.row.WORDS g.row.OPERATORS g.row.SCRATCH in
    no_task_compiled (lent_tables c.args.source.now) (room_in g.row.WORDS g.row.OPERATORS g.row.SCRATCH) (rw room at c.compile-compiled.ensures)
    (length c.args.out.now) (length c.args.res.now) c.in-Err.is c.refuse.ensures

pub give_file-requires : goal.give_file-requires
give_file-requires g c =
    let room = room_is g.row.WORDS g.row.OPERATORS g.row.SCRATCH in
    compiled_kept (lent_tables c.args.source.now) (room_in g.row.WORDS g.row.OPERATORS g.row.SCRATCH) (rw room at c.compile-compiled.ensures)
    c.in-Ok.is

pub returns : goal.returns
returns g c =
    let room = room_is g.row.WORDS g.row.OPERATORS g.row.SCRATCH in
    compiled_given (lent_tables c.args.source.now) (room_in g.row.WORDS g.row.OPERATORS g.row.SCRATCH) (rw room at c.compile-compiled.ensures)
    c.in-Ok.is (length c.args.out.now) (length c.args.res.now) c.give_file.ensures
