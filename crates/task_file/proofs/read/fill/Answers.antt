-- `fill` meets its contract: a file into the front of the tables, and 0 into all behind. Assumes nothing.
use Rattle.std.proofs.Common.{refl, sym, ap, ◌∙◌}
use Rattle.task.specs.declared.refusal.Refusal.{Refusal}
use Rattle.task.specs.Refused.{number_of}
use Rattle.task_file.specs.Outcome.{Refused}
use Rattle.task_file.proofs.ReadWays.{bytes_from, answered_onward, head_room, head_lost, table_lost, bytes_left, task_held, room_kept, same_lengths}
use Rattle.task_file.proofs.read.fill.Goals as goal

pub returns-in_err-head : goal.returns-in_err-head
returns-in_err-head c = rw (head_lost _ _ (sym (rw c.new-reader.ensures at c.in_err-head.ensures))) (answered_onward _ _ c.from_residual.ensures.1)

pub tables-requires : goal.tables-requires
tables-requires c = head_room _ _ (sym (rw c.new-reader.ensures at c.in_ok-head.ensures)) refl

pub returns-in_err-tables : goal.returns-in_err-tables
returns-in_err-tables c =
    rw (table_lost _ _ (sym (rw c.new-reader.ensures at c.in_ok-head.ensures)) (sym c.in_err-tables.ensures))
    (answered_onward _ _ c.from_residual-in_err-tables.ensures.1)

pub returns-in_err-end : goal.returns-in_err-end
returns-in_err-end c =
    rw (bytes_left _ _ (sym (rw c.new-reader.ensures at c.in_ok-head.ensures)) (sym c.in_ok-tables.ensures) c.in_err-end.ensures.0)
    (answered_onward _ _ c.from_residual-in_err-end.ensures.1 ∙ ap (λ (e : Refusal). Refused (number_of e)) c.in_err-end.ensures.1)

pub clear_behind-requires : goal.clear_behind-requires
clear_behind-requires c =
    let t = c.tables.auto in
    room_kept (same_lengths t.initial t.twins t.formulas t.effects t.operators)
    (head_room _ _ (sym (rw c.new-reader.ensures at c.in_ok-head.ensures)) refl)

pub returns : goal.returns
returns c =
    let t = c.tables.auto in
    let same = same_lengths t.initial t.twins t.formulas t.effects t.operators in
    task_held _ _ (sym (rw c.new-reader.ensures at c.in_ok-head.ensures)) _ _ _ _ _ (sym c.in_ok-tables.ensures)
    c.in_ok-end.ensures
    (bytes_from c.args.file.now (λ i. (c.type_inv.file i).fits))
    (room_kept same (head_room _ _ (sym (rw c.new-reader.ensures at c.in_ok-head.ensures)) refl)) same c.clear_behind.ensures
