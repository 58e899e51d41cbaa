-- The three tables of rows, side by side: how wide their rows are, their words, and what the check asks of row i of a table of words.
use Rattle.std.specs.Prelude.{ℕ, List, [], ◌∷◌}
use Rattle.task.specs.declared.Head.{Head}
use Rattle.task.specs.declared.Table.{Table}
use Rattle.task.specs.declared.Table.TheVariants.{Formulas, Effects, Operators}
use Rattle.task.specs.declared.TableRow.{TableRow}
use Rattle.task.specs.Table.{Row, Operator, operator_width, operator, row_at, operator_at}
use Rattle.task.specs.Check.{unless, formula_kept, effect_kept, operator_number}
use Rattle.task.specs.Inner.Stored.{three, operator_stored}

-- how many words a row has
abbrev pub width : Table → ℕ
width Formulas = 3
width Effects = 3
width Operators = operator_width

-- row i: its words in order; a row of three has 0 behind them
abbrev in_order : Row → TableRow
in_order r = record { first = r.kind; second = r.a; third = r.b; fourth = 0 }

abbrev pub words_at : Table → List ℕ → ℕ → TableRow
words_at Formulas words i = in_order (row_at words i)
words_at Effects words i = in_order (row_at words i)
words_at Operators words i =
    let o = operator_at words i in
    record { first = o.precondition; second = o.effect; third = o.cost; fourth = o.percent }

-- an operator's words as a row, and a row's words as an operator
abbrev pub operator_words_row : Operator → TableRow
operator_words_row o = record { first = o.precondition; second = o.effect; third = o.cost; fourth = o.percent }

abbrev pub words_operator : TableRow → Operator
words_operator r = operator r.first r.second r.third r.fourth

-- the words that a row of a table has
abbrev pub listed : Table → TableRow → List ℕ
listed Formulas r = r.first ∷ r.second ∷ r.third ∷ []
listed Effects r = r.first ∷ r.second ∷ r.third ∷ []
listed Operators r = r.first ∷ r.second ∷ r.third ∷ r.fourth ∷ []

-- a row stored as row i
abbrev pub row_stored : Table → List ℕ → ℕ → TableRow → List ℕ
row_stored Formulas t i r = three t i r.first r.second r.third
row_stored Effects t i r = three t i r.first r.second r.third
row_stored Operators t i r = operator_stored t i (operator r.first r.second r.third r.fourth)

-- the number of a row's words: 0, 10, 11, or 12 and 24
abbrev pub words_number : Table → Head → ℕ → TableRow → ℕ
words_number Formulas h i r = unless (formula_kept h.variables i (record { kind = r.first; a = r.second; b = r.third })) 10 0
words_number Effects h i r =
    unless (effect_kept h.variables h.formulas i (record { kind = r.first; a = r.second; b = r.third })) 11 0
words_number Operators h i r =
    operator_number h.formulas h.effects (operator r.first r.second r.third r.fourth)

-- the same of row i
abbrev pub row_number : Table → Head → List ℕ → ℕ → ℕ
row_number Formulas h words = λ i. unless (formula_kept h.variables i (row_at words i)) 10 0
row_number Effects h words = λ i. unless (effect_kept h.variables h.formulas i (row_at words i)) 11 0
row_number Operators h words = λ i. operator_number h.formulas h.effects (operator_at words i)
