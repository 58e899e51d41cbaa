-- `plan_through` meets its contract: reads into tables of these sizes, then searches. Assumes nothing.
use native.Mathlib.Omega.{arith}
use mathlib.Core.Path.{refl}
use Rattle.task_file.specs.Outcome.{lengths}
use Rattle.task_file.proofs.ReadWays.{bytes_from}
use Rattle.entry_tables.proofs.Reading.{read_as}
use Rattle.plan_entry.proofs.PlanWays.{own_fits, by_accepted, by_rejected}
use Rattle.plan_entry.proofs.call.plan_through.Goals as goal

pub new-own-requires : goal.new-own-requires
new-own-requires g c = own_fits c.requires

pub read-requires : goal.read-requires
read-requires g c = own_fits c.requires

pub returns-in_err-tables : goal.returns-in_err-tables
returns-in_err-tables g c = grind (arith, by_rejected)

pub plan_read-requires-clause-clear : goal.plan_read-requires-clause-clear
plan_read-requires-clause-clear g c = grind arith

pub plan_read-requires-clause-kept : goal.plan_read-requires-clause-kept
plan_read-requires-clause-kept g c =
    let a = c.args in
    let m = lengths 512 g.row.TWINS g.row.WORDS g.row.WORDS g.row.OPERATORS in
    (read_as m a.file.now c.in_ok-tables.ensures refl (bytes_from a.file.now (λ i. (c.type_inv.file i).fits))).kept

pub returns : goal.returns
returns g c =
    let a = c.args in
    let m = lengths 512 g.row.TWINS g.row.WORDS g.row.WORDS g.row.OPERATORS in
    let read = (read_as m a.file.now c.in_ok-tables.ensures refl (bytes_from a.file.now (λ i. (c.type_inv.file i).fits))).read in
    grind (arith, by_accepted)
