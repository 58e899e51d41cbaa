-- `fields` meets its contract: the fields of these defaults by their map. Assumes nothing.
use Rattle.std.proofs.Common.{sym, ◌∙◌, arith, length-set}
use Rattle.task_file.proofs.Ways.{returned_as}
use Rattle.task_file.proofs.FieldLoop.{fields_begin, field_lost, field_more, fields_end}
use Rattle.task_file.proofs.reader.Reader.fields.Goals as goal

pub loop-field-init : goal.loop-field-init
loop-field-init g c = record { size = omega arith; done = fields_begin c.args.defaults c.args.map c.args.self.now }

pub returns-in_err-field : goal.returns-in_err-field
returns-in_err-field g c =
    let l = c.loop-field in returned_as _ _ _ _ c.from_residual.ensures.1
    (field_lost _ l.field-items l.bits l.self l.field-index (omega arith) l.invariant.done (sym c.in_err-field.ensures))

pub loop-field-preserved : goal.loop-field-preserved
loop-field-preserved g c =
    let l = c.loop-field in record {
      size = length-set _ _ _ ∙ l.invariant.size;
      done = field_more _ l.field-items l.bits l.self l.field-index (omega arith) l.invariant.done (sym c.in_ok-field.ensures);
    }

pub returns : goal.returns
returns g c =
    let l = c.loop-field in sym (fields_end _ l.field-items l.bits l.self l.field-index (omega arith) l.invariant.done)
