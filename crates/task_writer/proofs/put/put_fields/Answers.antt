-- `put_fields` meets its contract: fields by their defaults. Assumes nothing.
use native.Mathlib.Omega.{arith}
use lib.ListN.{length}
use Rattle.std.proofs.lemmas.List.{length_push}
use Rattle.std.proofs.lemmas.Slice.Zip.{zip_turn}
use Rattle.file_format.specs.Bytes.{fields_bytes}
use Rattle.task_writer.proofs.Puts.{put_none, put_more, fields_more, fields_reach}
use Rattle.task_writer.proofs.put.put_fields.Goals as goal

pub loop-field-init : goal.loop-field-init
unfolding fields_bytes
loop-field-init c = put_none c.args.at c.args.out.now

pub put_field-next-requires : goal.put_field-next-requires
put_field-next-requires c =
    let turn = zip_turn c.args.fields.now c.args.defaults.now c.loop-field.yielded c.into_iter-field-iterator.result c.loop-field.field-iterator c.next.new.self _ (cc) (cc) c.loop-field.yielded_by _ c.in-Some.is c.next.ensures.steps in
    omega (arith, turn.1, fields_reach c.args.defaults.now c.args.fields.now (length c.loop-field.yielded) (omega (arith, turn.1)))

pub loop-field-preserved : goal.loop-field-preserved
loop-field-preserved c =
    let ds = c.args.defaults.now in
    let ws = c.args.fields.now in
    let turn = zip_turn ws ds c.loop-field.yielded c.into_iter-field-iterator.result c.loop-field.field-iterator c.next.new.self _ (cc) (cc) c.loop-field.yielded_by _ c.in-Some.is c.next.ensures.steps in
    rw length_push
    (put_more (fields_more ds ws (length c.loop-field.yielded) turn.1 turn.0) c.loop-field.invariant
    (rw (turn.3 0, turn.2 0) at c.put_field-next.ensures))
