-- `twin_row` meets its contract: the row of v's twin, which gets the next variable number when first met; or that there is no room. Assumes nothing.
use native.Mathlib.Omega.{arith}
use Rattle.formula_builder.proofs.Named.{twin_known, twin_full, twin-over, twin_added}
use lib.ListN.{length-set}
use Rattle.formula_builder.proofs.Steps.{same_itself, step_failed}
use Rattle.formula_builder.proofs.Builder.twin_row.Goals as goal

pub returns-in-Some : goal.returns-in-Some
returns-in-Some c =
    let b = c.args.self.now in
    record {
      builds =
          twin_known b.frame b.rows b.twins b.table.now b.originals.now c.requires.0 c.args.v c.requires.1 c.in-Some.k
          (omega (arith, c.in-Some.ensures));
      same = same_itself b;
    }

pub returns-then-w-self : goal.returns-then-w-self
returns-then-w-self c =
    let b = c.args.self.now in
    record {
      builds =
          twin_full b.frame b.rows b.twins b.table.now b.originals.now c.requires.0 c.args.v c.requires.1
          (omega (arith, c.in_default.ensures)) c.if-w-self.true;
      same = same_itself b;
    }

pub returns-in_err-k : goal.returns-in_err-k
returns-in_err-k c =
    let b = c.args.self.now in
    record {
      builds =
          rw (step_failed c.variable_row.new.self c.from_residual.result c.from_residual.ensures.0)
          (twin-over b.frame b.rows b.twins b.table.now b.originals.now c.requires.0 c.args.v c.requires.1
          (omega (arith, c.in_default.ensures)) c.in_err-k.ensures.built.builds);
      same = c.in_err-k.ensures.built.same;
    }

pub returns : goal.returns
returns c =
    let b = c.args.self.now in
    let k = c.in_ok-k.ensures.built in
    record {
      builds =
          twin_added b.frame b.rows b.twins b.table.now b.originals.now c.requires.0 c.args.v c.requires.1
          (omega (arith, c.in_default.ensures)) c.in_ok-k.ensures.twins.count c.in_ok-k.ensures.twins.originals c.if-w-self.false k.builds;
      same =
          record {
            frame = k.same.frame;
            table = k.same.table;
            table_length = simp length-set k.same.table_length;
            originals = k.same.originals;
            originals_length = simp length-set k.same.originals_length;
          };
    }
