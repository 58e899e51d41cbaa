-- `find_word` meets its contract: the word that names the row with these words; if no row has them, the word, now 0, that is to name it. Assumes
-- nothing.
use Rattle.formula_builder.specs.Inner.Held.{row_of}
use Rattle.formula_builder.proofs.Indexing.{Walks, remaining}
use Rattle.formula_builder.proofs.rows.find_word.Given as goal

abbrev pub invariant-loop-s : goal.invariant-loop-s
invariant-loop-s l = Walks l.most l.table (row_of l.r) l.p l.bits l.s

abbrev pub decreases-loop-s : goal.decreases-loop-s
decreases-loop-s l = remaining l.most l.s
