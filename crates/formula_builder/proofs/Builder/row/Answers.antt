-- `row` meets its contract: the row with these words, whether it stands or is appended; or that there is no room. Assumes nothing.
use Prim.Native.Nat.{suc, ◌<◌}
use native.Mathlib.Omega.{arith}
use mathlib.Core.Path.{◌≡◌, refl}
use lib.ListN.{get_or}
use Rattle.formula_builder.specs.Inner.Held.{row_of, size_in}
use Rattle.formula_builder.proofs.Indexing.{length_appended, found_below}
use Rattle.formula_builder.proofs.Steps.{rows_searchable, row_stands, row_full, row_appended, same_itself}
use Rattle.formula_builder.proofs.Builder.row.Goals as goal

pub find_word-p-requires : goal.find_word-p-requires
find_word-p-requires c = rows_searchable c.requires

pub returns-in-Some-clause-built : goal.returns-in-Some-clause-built
returns-in-Some-clause-built c =
    λ ready.
    let b = c.args.self.now in
    let f = c.find_word-p.ensures in
    let i = c.in-Some.k in
    let e : get_or b.table.now c.find_word-p.result 0 ≡ suc i = omega (arith, c.in-Some.ensures) in
    record {
      builds =
          row_stands b.frame (size_in b) b.table.now b.originals.now ready (row_of c.args.words) i
          (found_below c.requires.index f i e) (f.stands i e);
      same = same_itself b;
    }

pub returns-then-n-most-clause-built : goal.returns-then-n-most-clause-built
returns-then-n-most-clause-built c =
    λ ready.
    let b = c.args.self.now in
    record {
      builds =
          row_full b.frame (size_in b) b.table.now b.originals.now ready (row_of c.args.words) c.find_word-p.result
          c.find_word-p.ensures (omega (arith, c.in_default.ensures)) c.if-n-most.true;
      same = same_itself b;
    }

pub returns-clause-built : goal.returns-clause-built
returns-clause-built c =
    λ ready.
    let b = c.args.self.now in
    let f = c.find_word-p.ensures in
    let x = c.requires in
    let few : b.rows < b.frame.rows = omega (arith, x.within, c.if-n-most.false) in
    rw c.append_row.ensures
    (record {
      builds =
          row_appended b.frame (size_in b) b.table.now b.originals.now ready (row_of c.args.words) c.find_word-p.result f
          (omega (arith, c.in_default.ensures)) c.if-n-most.false;
      same =
          record {
            frame = refl;
            table = refl;
            table_length = length_appended b.frame.rows b.rows b.table.now (row_of c.args.words) c.find_word-p.result few x.room f;
            originals = refl;
            originals_length = refl;
          };
    })
