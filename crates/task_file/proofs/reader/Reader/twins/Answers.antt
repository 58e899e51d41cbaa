-- `twins` meets its contract: the originals, as `twins`. Assumes nothing.
use Rattle.std.proofs.Common.{◌<◌, length, sym, arith}
use Rattle.task.proofs.Named.{named_none}
use Rattle.task_file.proofs.Ways.{returned_left}
use Rattle.task_file.proofs.TwinRows.{twin_high, twin_before, twin_now, twin_marked, twins_begin, twin_lost, twin_broken, twin_more}
use Rattle.task_file.proofs.reader.Reader.twins.Goals as goal
use Rattle.task_file.proofs.reader.Reader.twins.Goals.{then-bound-original-via-then-bound-original, then-bound-original-via-else-bound-original+then-named-original-ne0}

pub loop-twin-init : goal.loop-twin-init
loop-twin-init c = record { done = twins_begin c.args.bound c.args.self.now c.args.twins.now; named = named_none c.args.twins.now }

pub returns-in_err-twin : goal.returns-in_err-twin
returns-in_err-twin c =
    let l = c.loop-twin in
    let lost = twin_lost c.args.bound c.args.self.now l.twin-items l.self l.twin-index l.invariant.done (omega arith) (sym c.in_err-twin.ensures) in
    returned_left _ _ _ _ _ c.from_residual.ensures.1 (rw l.auto.twin-items at lost)

pub returns-then-bound-original : goal.returns-then-bound-original
returns-then-bound-original c =
    let l = c.loop-twin in
    let bound = c.args.bound in
    let fits : l.twin-index < length l.twin-items = omega arith in
    let lost = twin_broken bound c.args.self.now l.twin-items l.self l.twin-index l.invariant.done fits (sym c.in_ok-twin.ensures) in
    elim c.then-bound-original.branch [
      | then-bound-original-via-then-bound-original w ↦
          sym (rw l.auto.twin-items at (lost (twin_high bound c.requires l.twin-items l.twin-index _ fits w.if-bound-original.true)))
      | then-bound-original-via-else-bound-original+then-named-original-ne0 w ↦
          sym (rw l.auto.twin-items at (lost (twin_before bound c.requires l.twin-items l.twin-index _ fits l.named l.invariant.named w.if-bound-original.false w.if-named-original-ne0.true)))
    ]

pub loop-twin-preserved : goal.loop-twin-preserved
loop-twin-preserved c =
    let l = c.loop-twin in
    let fits : l.twin-index < length l.twin-items = omega arith in
    let now = twin_now c.args.bound c.requires l.twin-items l.twin-index _ fits l.named l.invariant.named c.if-bound-original.false c.if-named-original-ne0.false in
    record {
      done = twin_more c.args.bound c.args.self.now l.twin-items l.self l.twin-index l.invariant.done fits (sym c.in_ok-twin.ensures) now;
      named = twin_marked c.args.bound c.requires l.twin-items l.twin-index _ fits l.named l.invariant.named c.if-bound-original.false;
    }
