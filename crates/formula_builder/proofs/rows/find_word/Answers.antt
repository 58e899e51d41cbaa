-- `find_word` meets its contract: the word that names the row with these words; if no row has them, the word, now 0, that is to name it. Assumes
-- nothing.
use Prim.Native.Nat.{suc, ◌-◌}
use mathlib.Core.Path.{◌≡◌, sym, ◌∙◌}
use native.Mathlib.Omega.{arith}
use Rattle.formula_builder.specs.Inner.Held.{row_of}
use Rattle.formula_builder.proofs.Indexing.{walk-below, walk-less, walk-goes-on, walk-finds, walk_ends}
use Rattle.formula_builder.proofs.rows.find_word.Goals as goal

pub same-requires : goal.same-requires
same-requires c =
    let at : c.loop-s.s ≡ suc (c.loop-s.s - 1) = omega (arith, c.loop-s-test.true) in omega
    (arith, c.requires.room, walk-below c.args.most c.args.table.now (row_of c.args.r) c.requires c.loop-s.invariant at)

pub returns-then-same : goal.returns-then-same
returns-then-same c =
    let at : c.loop-s.s ≡ suc (c.loop-s.s - 1) = omega (arith, c.loop-s-test.true) in walk-finds c.args.most
    c.args.table.now (row_of c.args.r) c.requires c.loop-s.invariant at (sym c.same.ensures ∙ c.if-same.true)

pub link_word-p-requires : goal.link_word-p-requires
link_word-p-requires c =
    let at : c.loop-s.s ≡ suc (c.loop-s.s - 1) = omega (arith, c.loop-s-test.true) in
    (c.requires.limit, walk-below c.args.most c.args.table.now (row_of c.args.r) c.requires c.loop-s.invariant at)

pub bounds-table-p-in-loop-s : goal.bounds-table-p-in-loop-s
bounds-table-p-in-loop-s c =
    let at : c.loop-s.s ≡ suc (c.loop-s.s - 1) = omega (arith, c.loop-s-test.true) in omega (
      arith,
      c.requires.room,
      c.link_word-p.ensures,
      walk-below c.args.most c.args.table.now (row_of c.args.r) c.requires c.loop-s.invariant at,
    )

pub loop-s-smaller : goal.loop-s-smaller
loop-s-smaller c =
    let at : c.loop-s.s ≡ suc (c.loop-s.s - 1) = omega (arith, c.loop-s-test.true) in rw c.link_word-p.ensures
    (walk-less c.args.most c.args.table.now (row_of c.args.r) c.requires c.loop-s.invariant at)

pub loop-s-preserved : goal.loop-s-preserved
loop-s-preserved c =
    let at : c.loop-s.s ≡ suc (c.loop-s.s - 1) = omega (arith, c.loop-s-test.true) in rw c.link_word-p.ensures
    (walk-goes-on c.args.most c.args.table.now (row_of c.args.r) c.requires c.loop-s.invariant at
    (sym c.same.ensures ∙ c.if-same.false))

pub returns : goal.returns
returns c =
    walk_ends c.args.most c.args.table.now (row_of c.args.r) c.requires c.loop-s.invariant
    (omega (arith, c.loop-s-test.false))
