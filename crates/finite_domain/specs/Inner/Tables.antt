-- What the check asks of row i of any of the three tables of words.
use Rattle.std.specs.Prelude.{ℕ, List}
use Rattle.task.specs.declared.Head.{Head}
use Rattle.task.specs.declared.Table.{Table}
use Rattle.task.specs.declared.Table.TheVariants.{Formulas, Effects, Operators}
use Rattle.task.specs.declared.TableRow.{TableRow}
use Rattle.task.specs.Table.{Row, operator, row_at, operator_at}
use Rattle.task.specs.Check.{operator_number}
use Rattle.finite_domain.specs.Check.{finite_formula_number, finite_effect_number}

-- a row of three words, by their names
abbrev pub named_row : TableRow → Row
named_row r = record { kind = r.first; a = r.second; b = r.third }

-- the number of a row's words: 0, or 10 and 26, 11 and 26, 12 and 24
abbrev pub finite_words_number : Table → Head → List ℕ → ℕ → TableRow → ℕ
finite_words_number Formulas h counts i r = finite_formula_number counts h.variables i (named_row r)
finite_words_number Effects h counts i r = finite_effect_number counts h.variables h.formulas i (named_row r)
finite_words_number Operators h counts i r =
    operator_number h.formulas h.effects (operator r.first r.second r.third r.fourth)

-- the same of row i
abbrev pub finite_row_number : Table → Head → (counts words : List ℕ) → ℕ → ℕ
finite_row_number Formulas h counts words = λ i. finite_formula_number counts h.variables i (row_at words i)
finite_row_number Effects h counts words = λ i. finite_effect_number counts h.variables h.formulas i (row_at words i)
finite_row_number Operators h counts words = λ i. operator_number h.formulas h.effects (operator_at words i)
