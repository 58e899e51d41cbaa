-- The bytes of a task (01, "The task file"), field by field in the file's order. A byte is a number below 256.
use Rattle.std.specs.Prelude.{ℕ, ◌+◌, ◌*◌, ◌/◌, ◌%◌, cond, List, [], ◌∷◌, ◌++◌, length, get_or, eqb}
use Rattle.task.specs.declared.Head.{Head}
use Rattle.task.specs.Bounded.{upto}
use Rattle.task.specs.Table.{Row, Operator, Task}
use Rattle.task.specs.Words.{joined, head_of, operator_row_words}

-- the number whose bits these are, the lowest first
unfoldable pub number : List ℕ → ℕ
number [] = 0
number (bit ∷ bits) = bit + 2 * number bits

-- 16 bits little-endian: 258 is 02 01
unfoldable pub word_bytes : ℕ → List ℕ
word_bytes w = w % 256 ∷ w / 256 ∷ []

-- an absent field is its default and a present one is not: so a field that is its default has no bytes, and one task has one file
unfoldable pub field_bytes : (default w : ℕ) → List ℕ
field_bytes default w = cond (eqb w default) [] (word_bytes w)

unfoldable pub present : (default w : ℕ) → ℕ
present default w = cond (eqb w default) 0 1

-- some fields by their defaults: their bytes, one after another
unfoldable pub fields_bytes : (defaults fields : List ℕ) → List ℕ
fields_bytes [] ws = []
fields_bytes (d ∷ ds) [] = []
fields_bytes (d ∷ ds) (w ∷ ws) = field_bytes d w ++ fields_bytes ds ws

-- and their bit map: the first field's bit is the lowest
unfoldable pub map_of : (defaults fields : List ℕ) → ℕ
map_of [] ws = 0
map_of (d ∷ ds) [] = 0
map_of (d ∷ ds) (w ∷ ws) = present d w + 2 * map_of ds ws

-- the defaults: 0, but for an operator's percent, which is 100 (02, K2). With 0 there too, an absent percent would make its operator free of charge.
abbrev pub zeros : List ℕ
zeros = 0 ∷ 0 ∷ 0 ∷ []

abbrev pub head_defaults : List ℕ
head_defaults = zeros ++ zeros

abbrev pub row_defaults : List ℕ
row_defaults = 0 ∷ 0 ∷ []

abbrev pub operator_defaults : List ℕ
operator_defaults = 0 ∷ 0 ∷ 0 ∷ 100 ∷ []

unfoldable pub head_fields : Head → List ℕ
head_fields h = h.variables ∷ h.twins ∷ h.formulas ∷ h.effects ∷ h.operators ∷ h.goal ∷ []

-- head map: bits 0 to 5 for V, W, F, E, O, goal
unfoldable pub head_bytes : Head → List ℕ
head_bytes h = map_of head_defaults (head_fields h) ∷ fields_bytes head_defaults (head_fields h)

-- a formula's or an effect's row: bit 0 for a, bit 1 for b, the kind in bits 4 to 7
unfoldable pub row_bytes : Row → List ℕ
row_bytes r = (map_of row_defaults (r.a ∷ r.b ∷ []) + 16 * r.kind) ∷ fields_bytes row_defaults (r.a ∷ r.b ∷ [])

-- an operator's map uses bits 0 to 3
unfoldable pub operator_bytes : Operator → List ℕ
operator_bytes o = map_of operator_defaults (operator_row_words o) ∷ fields_bytes operator_defaults (operator_row_words o)

-- the bytes that so many bits take
unfoldable pub bytes_for : ℕ → ℕ
bytes_for bits = (bits + 7) / 8

-- variable v in bit v mod 8 of byte v / 8; past the last variable the bits are 0
unfoldable pub packed : List ℕ → List ℕ
packed state = upto (bytes_for (length state)) (λ j. number (upto 8 (λ k. get_or state (8 * j + k) 0)))

-- the head, the initial state, the originals, the formulas, the effects, the operators
unfoldable pub file_of : Task → List ℕ
file_of t =
    head_bytes (head_of t)
    ++ (packed t.initial
    ++ (joined word_bytes t.originals
    ++ (joined row_bytes t.formulas ++ (joined row_bytes t.effects ++ joined operator_bytes t.operators))))
