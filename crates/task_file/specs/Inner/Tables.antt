-- The three tables of rows side by side, for one loop over any of them: a row as its words.
use Rattle.std.specs.Prelude.{ℕ, List, []}
use Rattle.task.specs.declared.Head.{Head}
use Rattle.task.specs.declared.Table.{Table}
use Rattle.task.specs.declared.Table.TheVariants.{Formulas, Effects, Operators}
use Rattle.task.specs.Words.{row_words, operator_row_words, words_of, operator_words}
use Rattle.file_format.specs.Parse.{Parsed, parsed, next, table_read}
use Rattle.file_format.specs.Reading.{row_read, operator_fields_read, formula_read, effect_read, operator_read}

-- a row's words, without its own number
abbrev pub row_words_read : Table → List ℕ → Parsed (List ℕ)
row_words_read Formulas bytes = next (row_read bytes) (λ r. parsed (row_words r))
row_words_read Effects bytes = next (row_read bytes) (λ r. parsed (row_words r))
row_words_read Operators bytes = next (operator_fields_read bytes) (λ o. parsed (operator_row_words o))

-- row i of a table
abbrev pub kept_words_read : Table → Head → ℕ → List ℕ → Parsed (List ℕ)
kept_words_read Formulas h i bytes = next (formula_read h.variables i [] bytes) (λ r. parsed (row_words r))
kept_words_read Effects h i bytes = next (effect_read h.variables h.formulas i [] bytes) (λ r. parsed (row_words r))
kept_words_read Operators h i bytes =
    next (operator_read h.formulas h.effects i [] bytes) (λ o. parsed (operator_row_words o))

-- the first n rows of a table
abbrev pub words_read : Table → Head → ℕ → List ℕ → Parsed (List ℕ)
words_read Formulas h n bytes = next (table_read (formula_read h.variables) n bytes) (λ rows. parsed (words_of rows))
words_read Effects h n bytes =
    next (table_read (effect_read h.variables h.formulas) n bytes) (λ rows. parsed (words_of rows))
words_read Operators h n bytes =
    next (table_read (operator_read h.formulas h.effects) n bytes) (λ rows. parsed (operator_words rows))
