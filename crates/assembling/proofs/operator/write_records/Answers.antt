-- `write_records` meets its contract: the rules of the changes recorded from k up to an end, behind what stands. Assumes nothing.
use native.Mathlib.Omega.{arith}
use Rattle.rule_writer.proofs.Writing.{onward, rules_placed}
use Rattle.assembling.proofs.Operators.{change_below, records_none, records_more, records_overfull, records_all, changed_rules}
use Rattle.assembling.proofs.operator.write_records.Goals as goal

pub loop-i-init : goal.loop-i-init
loop-i-init c =
    record {
      ready = c.requires.ready.rows;
      written = λ twins p. records_none c.args.recorded.now.frame.variables twins c.args.recorded.now.records.now c.args.k c.requires.ready.rows;
    }

pub returns-in_err-r-clause-written : goal.returns-in_err-r-clause-written
returns-in_err-r-clause-written c =
    let a = c.args in
    let i = c.loop-i.i in
    let below = change_below a.recorded.now.records.now i c.requires.in_order c.loop-i.auto.i c.loop-i-test.true c.kept_change-c.ensures in
    λ twins p.
    onward _ _ c.from_residual.result _ c.from_residual.ensures.1
    (records_overfull a.recorded.now.frame.variables twins a.recorded.now.records.now a.k i a.end c.loop-i.auto.i c.loop-i-test.true (c.loop-i.invariant.written twins p)
    (rw (changed_rules a.recorded.now.frame.variables twins a.recorded.now.records.now i c.kept_change-c.ensures, rules_placed a.recorded.now.frame c.kept_change-c.result p below) c.in_err-r.ensures))

pub loop-i-preserved : goal.loop-i-preserved
loop-i-preserved c =
    let a = c.args in
    let i = c.loop-i.i in
    let below = change_below a.recorded.now.records.now i c.requires.in_order c.loop-i.auto.i c.loop-i-test.true c.kept_change-c.ensures in
    record {
      ready = c.in_ok-r.ensures.ready;
      written = λ twins p.
          records_more a.recorded.now.frame.variables twins a.recorded.now.records.now a.k i c.loop-i.auto.i (c.loop-i.invariant.written twins p)
          (rw (changed_rules a.recorded.now.frame.variables twins a.recorded.now.records.now i c.kept_change-c.ensures, rules_placed a.recorded.now.frame c.kept_change-c.result p below) c.in_ok-r.ensures);
    }

pub returns-clause-written : goal.returns-clause-written
returns-clause-written c =
    let a = c.args in
    λ twins p. records_all a.recorded.now.frame.variables twins a.recorded.now.records.now a.k c.loop-i.i a.end (omega (arith, c.requires.in_order.order)) (c.loop-i.invariant.written twins p)
