-- `give_file` meets its contract: the file of tables that pass, and its length; 20 and all 0 if one of the two does not fit. Assumes nothing.
use native.Mathlib.Omega.{arith}
use mathlib.Core.Path.{refl, ◌∙◌, ap}
use lib.ListN.{take}
use Rattle.task.specs.Lending.{lent_tables}
use Rattle.task.specs.Refused.{number_of}
use Rattle.task.proofs.Told.{returned}
use Rattle.task_writer.proofs.Puts.{put_same}
use Rattle.compiled_file.proofs.FileWays.{short_result, short_out, gives_file, le_front}
use Rattle.compiled_file.proofs.filing.give_file.Goals as goal

pub returns-then-res-lt4 : goal.returns-then-res-lt4
returns-then-res-lt4 c =
    short_result (lent_tables c.args.tables.now) c.args.out.now c.args.res.now c.if-res-lt4.true c.refuse.ensures

pub returns-in_err-size : goal.returns-in_err-size
returns-in_err-size c =
    let e = c.in_err-size.field-0.0 in
    short_out (lent_tables c.args.tables.now) c.args.out.now c.args.res.now c.requires c.in_err-size.ensures refl
    (returned c.from_residual.result e (number_of e) c.from_residual.ensures.1 refl) (c.fill.ensures.after (λ y h. h))

pub returns : goal.returns
returns c =
    gives_file (lent_tables c.args.tables.now) c.args.out.now c.args.res.now c.requires c.in_ok-size.ensures refl
    (omega (arith, c.if-res-lt4.false)) (c.fill.ensures.after (λ y h. h)) (put_same (ap (take 4) c.to_le_bytes-bytes.ensures ∙ le_front c.in_ok-size.size) c.put_bytes.ensures)
