-- `read` meets its contract: reads a task file through the tables. Assumes nothing.
use Rattle.std.proofs.Common.{◌≡◌, refl, rules, length}
use Rattle.task_file.specs.Outcome.{lengths}
use Rattle.task_file.proofs.ReadWays.{same_lengths}
use Rattle.entry_tables.proofs.Reading.{refused_as, refused_onward}
use Rattle.entry_tables.proofs.own.OwnTables.read.Goals as goal

pub returns-in_err-head : goal.returns-in_err-head
returns-in_err-head g c =
    let s = c.args.self.now in
    let same : lengths (length s.initial) (length s.twins) (length s.formulas) (length s.effects) (length s.operators)
    ≡ lengths 512 g.row.TWINS g.row.WORDS g.row.WORDS g.row.OPERATORS =
    same_lengths (search rules) (search rules) (search rules) (search rules) (search rules) in
    rw same at
    (refused_onward _ c.args.file.now _ _ c.from_residual.ensures.1 (refused_as _ c.args.file.now c.in_err-head.ensures refl))
