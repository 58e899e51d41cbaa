-- `first_rows` meets its contract: false and true, the first two rows. Assumes nothing.
use Rattle.formula_builder.proofs.Indexing.{first_searchable, second_searchable, first_two}
use Rattle.formula_builder.proofs.rows.first_rows.Goals as goal

pub find_word-p-requires : goal.find_word-p-requires
find_word-p-requires c = first_searchable c.requires

pub find_word-q-requires : goal.find_word-q-requires
find_word-q-requires c =
    rw c.append_row.ensures (second_searchable c.requires c.find_word-p.ensures)

pub returns : goal.returns
returns c =
    rw c.append_row-2.ensures
    (rw c.append_row.ensures
    (first_two c.requires c.find_word-p.ensures (rw c.append_row.ensures at c.find_word-q.ensures)))
