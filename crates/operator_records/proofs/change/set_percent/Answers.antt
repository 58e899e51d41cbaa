-- `set_percent` meets its contract: where the core refuses nothing, the record at the number gets the percent. Assumes nothing.
use mathlib.Core.Path.{◌≡◌, refl, sym, ◌∙◌}
use lib.ListN.{length}
use Rattle.task.specs.Refused.{number_of, told}
use Rattle.task.proofs.Refusals.{number_some}
use Rattle.task.proofs.Told.{returned}
use Rattle.operator_records.specs.Rows.{no_record}
use Rattle.operator_records.proofs.Answers.{within, change-refused, change_made}
use Rattle.operator_records.proofs.change.set_percent.Goals as goal

pub returns-in_err-check_change : goal.returns-in_err-check_change
returns-in_err-check_change c =
    let a = c.args in
    let e = c.in_err-check_change.field-0.0 in
    let is : told c.from_residual.result ≡ number_of e = returned c.from_residual.result e _ c.from_residual.ensures.1 refl in
    change-refused a.records.now a.number a.percent _ (is ∙ c.in_err-check_change.ensures) (λ none. number_some e (sym is ∙ none))

pub bounds-records-at : goal.bounds-records-at
bounds-records-at c =
    let a = c.args in within (length a.records.now) a.number a.percent (sym c.in_ok-check_change.ensures)

pub returns : goal.returns
returns c =
    let a = c.args in change_made no_record a.records.now a.number a.percent 0 c.in_ok-check_change.ensures refl
