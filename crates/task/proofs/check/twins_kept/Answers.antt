-- `twins_kept` meets its contract: whether each twin row names a variable below `bound` that no row before it names. Assumes nothing.
use native.Mathlib.Omega.{arith}
use Rattle.task.proofs.Bounded.{every_none, every_more, every_stops}
use Rattle.task.proofs.Refusals.{twin_outside}
use Rattle.task.proofs.Named.{named_none, named_more, named_before, named_now}
use Rattle.task.proofs.check.twins_kept.Goals as goal

pub loop-twin-init : goal.loop-twin-init
loop-twin-init c = record { kept = every_none _; named = named_none c.args.twins.now }

pub returns-then-bound-original : goal.returns-then-bound-original
returns-then-bound-original c = every_stops _ _ c.loop-twin.twin-index (omega arith) (twin_outside _ _ _ c.if-bound-original.true)

pub returns-then-named-original-ne0 : goal.returns-then-named-original-ne0
returns-then-named-original-ne0 c =
    let l = c.loop-twin in every_stops _ _ l.twin-index (omega arith)
    (named_before c.args.twins.now l.twin-index l.named l.invariant.named c.args.bound c.requires c.if-bound-original.false c.if-named-original-ne0.true)

pub loop-twin-preserved : goal.loop-twin-preserved
loop-twin-preserved c =
    let l = c.loop-twin in record {
      kept =
          every_more _ _ l.invariant.kept
          (named_now c.args.twins.now l.twin-index l.named l.invariant.named c.args.bound c.requires c.if-bound-original.false c.if-named-original-ne0.false);
      named = named_more c.args.twins.now l.twin-index l.named l.invariant.named (omega (arith, c.requires, c.if-bound-original.false));
    }
