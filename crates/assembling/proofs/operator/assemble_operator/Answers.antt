-- `assemble_operator` meets its contract: operator o of the source, its record being w and its changes recorded from k on, behind so many effect rows. Assumes
-- nothing.
use mathlib.Core.Path.{ap, ◌∙◌}
use Rattle.formula_builder.specs.Inner.Held.{row_of}
use Rattle.task.specs.Table.{Operator, operator_at, with_parts}
use Rattle.task.specs.Inner.Stored.{operator_stored}
use Rattle.rule_writer.proofs.Writing.{onward}
use Rattle.assembling.proofs.Operators.{operator_written, operator_overfull}
use Rattle.assembling.proofs.operator.assemble_operator.Goals as goal

pub returns-in_err-r-clause-written : goal.returns-in_err-r-clause-written
returns-in_err-r-clause-written c =
    let a = c.args in
    λ twins p.
    onward _ _ c.from_residual.result _ c.from_residual.ensures.1
    (operator_overfull a.recorded.now.frame.variables twins a.recorded.now.records.now (row_of a.w) a.k (operator_at a.source.now a.o) (c.in_err-r.ensures.written twins p))

pub returns-clause-written : goal.returns-clause-written
returns-clause-written c =
    let a = c.args in
    let row = c.with_parts-row.ensures ∙ ap (λ (o : Operator). with_parts o a.w.kind c.in_ok-r.r.stands) c.operator_at.ensures in
    λ twins p.
    operator_written a.recorded.now.frame.variables twins a.recorded.now.records.now (row_of a.w) a.k (operator_at a.source.now a.o) (c.in_ok-r.ensures.written twins p)
    c.requires.space (c.store_operator.ensures ∙ ap (operator_stored a.written.now a.o) row)
