-- The lines of a task, and of a refusal (01, end of "Sheets to try"), as bytes of ASCII.
use Rattle.std.specs.Prelude.{ℕ, zero, suc, ◌+◌, ◌-◌, ◌/◌, ◌%◌, cond, List, [], ◌∷◌, ◌++◌, map, length, ltb}
use Prim.Native.Char.{code}
use Prim.Native.String.{String, [] as end, ◌∷◌ as ◌followed◌}
use Rattle.task.specs.Table.{Task}
use Rattle.task.specs.Words.{joined, row_words, operator_row_words}

-- a text of ASCII as bytes
unfoldable pub bytes : String → List ℕ
bytes end = []
bytes (◌followed◌ c rest) = code c ∷ bytes rest

abbrev pub newline : ℕ
newline = 10

abbrev pub blank : ℕ
blank = 32

-- the digit of a number below 10
abbrev pub digit : ℕ → ℕ
digit n = 48 + n

-- at most d digits, highest first: what stands before the last one, nothing if n is below 10 (so no 0 leads), and the last
unfoldable pub digits_within : ℕ → ℕ → List ℕ
digits_within zero n = []
digits_within (suc d) n =
    let before = digits_within d (n / 10) in
    cond (ltb n 10) [] before ++ (digit (n % 10) ∷ [])

-- a number in decimal: n + 1 digits are enough for n. 0 is "0", and 10 is "10", not "01".
unfoldable pub decimal : ℕ → List ℕ
decimal n = digits_within (suc n) n

-- a blank and a number
unfoldable pub word : ℕ → List ℕ
word n = blank ∷ decimal n

-- a letter, the numbers, and the end of the line
unfoldable pub line : ℕ → List ℕ → List ℕ
line letter numbers = letter ∷ (joined word numbers ++ (newline ∷ []))

-- a line for each row: its number, from `first` on, and its words
unfoldable pub numbered : (letter first : ℕ) → List (List ℕ) → List ℕ
numbered letter first [] = []
numbered letter first (words ∷ rest) = line letter (first ∷ words) ++ numbered letter (suc first) rest

-- the initial values, a digit each, behind one blank: a bare i has none
unfoldable pub values : List ℕ → List ℕ
values [] = []
values (b ∷ rest) = blank ∷ map digit (b ∷ rest)

-- i
unfoldable pub initial_line : List ℕ → List ℕ
initial_line initial = 105 ∷ (values initial ++ (newline ∷ []))

-- t: V W F E O goal
unfoldable pub head_line : Task → List ℕ
head_line t =
    line 116
    (length t.initial
    ∷ length t.originals
    ∷ length t.formulas
    ∷ length t.effects
    ∷ length t.operators
    ∷ t.goal
    ∷ [])

-- w: a twin and its original. The twin of row k is variable V − W + k: with V 4 and W 2 the first is 2, not 0 and not 4.
unfoldable pub twin_lines : Task → List ℕ
twin_lines t = numbered 119 (length t.initial - length t.originals) (map (λ original. original ∷ []) t.originals)

-- t, i, w, then f, e and o: a row's number and its words
unfoldable pub lines : Task → List ℕ
lines t =
    head_line t
    ++ (initial_line t.initial
    ++ (twin_lines t
    ++ (numbered 102 0 (map row_words t.formulas)
    ++ (numbered 101 0 (map row_words t.effects) ++ numbered 111 0 (map operator_row_words t.operators)))))

-- a refusal prints only r and its number
unfoldable pub refusal_line : ℕ → List ℕ
refusal_line number = line 114 (number ∷ [])
