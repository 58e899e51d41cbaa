-- 01's lines, computed: the whole example, and the edges of a line.
use Prim.Native.Nat.{ℕ}
use mathlib.Core.Path.{◌≡◌, refl}
use mathlib.Core.List.{[], ◌∷◌}
use Rattle.task.specs.Table.{Row, Task, operator}
use Rattle.task.specs.Words.{joined, row_words, operator_row_words}
use Rattle.printing.specs.Lines.{bytes, digits_within, decimal, word, line, numbered, values, initial_line, head_line, twin_lines, lines, refusal_line}

abbrev words : ℕ → ℕ → ℕ → Row
words k a b = record { kind = k; a = a; b = b }

-- the compiled task of 01's whole example
abbrev compiled : Task
compiled =
    record {
      initial = 0 ∷ 1 ∷ 1 ∷ 0 ∷ [];
      originals = 0 ∷ 1 ∷ [];
      formulas = words 0 0 0 ∷ words 1 0 0 ∷ words 2 2 0 ∷ words 2 1 0 ∷ words 2 0 0 ∷ words 2 3 0 ∷ words 4 4 5 ∷ [];
      effects =
          words 0 0 0
          ∷ words 1 0 0
          ∷ words 4 1 1
          ∷ words 2 2 0
          ∷ words 4 1 3
          ∷ words 3 2 4
          ∷ words 2 1 0
          ∷ words 4 3 6
          ∷ words 3 5 7
          ∷ words 1 3 0
          ∷ words 4 3 9
          ∷ words 3 8 10
          ∷ [];
      operators = operator 2 11 3 100 ∷ [];
      goal = 6;
    }

pub whole :
    lines compiled
    ≡ bytes "t 4 2 7 12 1 6\ni 0110\nw 2 0\nw 3 1\nf 0 0 0 0\nf 1 1 0 0\nf 2 2 2 0\nf 3 2 1 0\nf 4 2 0 0\nf 5 2 3 0\nf 6 4 4 5\ne 0 0 0 0\ne 1 1 0 0\ne 2 4 1 1\ne 3 2 2 0\ne 4 4 1 3\ne 5 3 2 4\ne 6 2 1 0\ne 7 4 3 6\ne 8 3 5 7\ne 9 1 3 0\ne 10 4 3 9\ne 11 3 8 10\no 0 2 11 3 100\n"
unfolding bytes digits_within decimal word line numbered values initial_line head_line twin_lines lines joined row_words operator_row_words
whole = refl

-- a bare i has no blank behind it
pub bare : initial_line [] ≡ bytes "i\n"
unfolding bytes initial_line values
bare = refl

pub refused : refusal_line 20 ≡ bytes "r 20\n"
unfolding bytes digits_within decimal word line joined refusal_line
refused = refl

-- the largest number has five digits, and 0 one
pub largest : decimal 65535 ≡ bytes "65535"
unfolding bytes digits_within decimal
largest = refl

pub smallest : decimal 0 ≡ bytes "0"
unfolding bytes digits_within decimal
smallest = refl
