-- `assemble_placed` meets its contract: writes the rules and the rows of the first count operators into tables that are all 0, the places of the
-- twins being known; stops at the first operator whose rules have no room. Assumes nothing.
use native.Mathlib.Omega.{arith}
use Rattle.rule_writer.proofs.Writing.{onward}
use Rattle.assembling.proofs.Operators.{begins_none, begins_next, assembling_begun, assembling_more, assembling_stop, assembling_done}
use Rattle.assembling.proofs.sequence.assemble_placed.Goals as goal

pub loop-o-init : goal.loop-o-init
loop-o-init c =
    let a = c.args in
    let asks = c.requires.0 in
    record {
      begins = begins_none a.recorded.now.records.now;
      holding = λ twins p.
          assembling_begun a.recorded.now.frame.variables twins a.operators.now a.recorded.now.records.now a.out.now a.written.now (omega (arith, asks.one, asks.space))
          asks.blank asks.blank_operators;
      within = asks.one;
    }

pub returns-in_err-rows : goal.returns-in_err-rows
returns-in_err-rows c =
    let a = c.args in
    let at = c.loop-o in
    λ twins p.
    onward _ _ c.from_residual.result _ c.from_residual.ensures.1
    (assembling_stop a.recorded.now.frame.variables twins a.operators.now a.recorded.now.records.now at.o c.read_row-w.result c.read_row-w.ensures at.invariant.begins
    (at.invariant.holding twins p) a.count c.loop-o-test.true (c.in_err-rows.ensures.written twins p))

pub loop-o-preserved : goal.loop-o-preserved
loop-o-preserved c =
    let a = c.args in
    let at = c.loop-o in
    record {
      begins = begins_next a.recorded.now.records.now at.o c.read_row-w.ensures;
      holding = λ twins p.
          assembling_more a.recorded.now.frame.variables twins a.operators.now a.recorded.now.records.now at.o c.read_row-w.result c.read_row-w.ensures at.invariant.begins
          (at.invariant.holding twins p) (c.in_ok-rows.ensures.written twins p);
      within = c.in_ok-rows.ensures.within;
    }

pub returns : goal.returns
returns c =
    let a = c.args in
    let at = c.loop-o in
    λ twins p.
    assembling_done a.recorded.now.frame.variables twins a.operators.now a.recorded.now.records.now at.o a.count (omega arith) (at.invariant.holding twins p) at.invariant.within
