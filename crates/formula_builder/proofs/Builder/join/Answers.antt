-- `join` meets its contract: the join of rows l and r, "and" or "or"; or that there is no room. Assumes nothing.
use native.Mathlib.Omega.{arith}
use Rattle.normal_form.specs.Builder.{image_of_false as false_row}
use Rattle.formula_builder.specs.Inner.Held.{side}
use Rattle.formula_builder.proofs.Steps.{builds_as, builds_stands, falsity_small, join_false, join_left_true, join_right_true, join_fresh, same_itself}
use Rattle.formula_builder.proofs.Builder.join.Goals as goal

pub returns-then-l-none-clause-built : goal.returns-then-l-none-clause-built
returns-then-l-none-clause-built c =
    λ ready.
    let p = side c.args.or in
    rw c.falsity-none.ensures
    (record {
      builds =
          builds_as (join_false p c.args.l c.args.r (rw c.falsity-none.ensures at c.then-l-none.either))
          (builds_stands (false_row p) ready (omega (arith, falsity_small p, ready.two)));
      same = same_itself c.args.self.now;
    })

pub returns-then-l-all-clause-built : goal.returns-then-l-all-clause-built
returns-then-l-all-clause-built c =
    λ ready.
    record {
      builds =
          builds_as
          (join_left_true (side c.args.or) c.args.l c.args.r (rw c.falsity-none.ensures at c.if-l-none.false)
          (rw c.falsity-none.ensures at c.if-r-none.false) (rw c.truth-all.ensures at c.if-l-all.true))
          (builds_stands c.args.r ready c.requires.right);
      same = same_itself c.args.self.now;
    }

pub returns-then-r-all-clause-built : goal.returns-then-r-all-clause-built
returns-then-r-all-clause-built c =
    λ ready.
    record {
      builds =
          builds_as
          (join_right_true (side c.args.or) c.args.l c.args.r (rw c.falsity-none.ensures at c.if-l-none.false)
          (rw c.falsity-none.ensures at c.if-r-none.false) (rw c.truth-all.ensures at c.if-l-all.false)
          (rw c.truth-all.ensures at c.if-r-all.true))
          (builds_stands c.args.l ready c.requires.left);
      same = same_itself c.args.self.now;
    }

pub returns-clause-built : goal.returns-clause-built
returns-clause-built c =
    λ ready.
    let built = rw c.join_kind-kind.ensures at (c.row.ensures.built ready) in
    record {
      builds =
          builds_as
          (join_fresh (side c.args.or) c.args.l c.args.r (rw c.falsity-none.ensures at c.if-l-none.false)
          (rw c.falsity-none.ensures at c.if-r-none.false) (rw c.truth-all.ensures at c.if-l-all.false)
          (rw c.truth-all.ensures at c.if-r-all.false))
          built.builds;
      same = built.same;
    }
