-- Reading a task file (01, "Where each number is given"): row by row, the map byte (1, then 2), each field in file order (1, then 3), then
-- the row's own number.
use Rattle.std.specs.Prelude.{ℕ, ◌-◌, ◌/◌, ◌%◌, ◌^◌, Bool, ◌||◌, List, [], ◌∷◌, ◌++◌, get_or, ltb, eqb}
use Rattle.task.specs.declared.Head.{Head}
use Rattle.task.specs.Bounded.{upto}
use Rattle.task.specs.Table.{Row, Operator, Task, operator}
pub use Rattle.task.specs.Check.{Lengths}
unfoldable pub use Rattle.task.specs.Check.{room}
use Rattle.task.specs.Check.{counts_kept, goal_kept, twin_kept, formula_kept, effect_kept, operator_number}
use Rattle.file_format.specs.Bytes.{head_defaults, row_defaults, operator_defaults, bytes_for}
use Rattle.file_format.specs.Parse.{Parsed, parsed, unparsed, next, kept, byte_read, word_read, mapped_read, table_read}

abbrev pub head_from : ℕ → List ℕ → Head
head_from m ws =
    record {
      variables = get_or ws 0 0;
      twins = get_or ws 1 0;
      formulas = get_or ws 2 0;
      effects = get_or ws 3 0;
      operators = get_or ws 4 0;
      goal = get_or ws 5 0;
    }

-- bits 6 and 7 of the map are unused: the one-byte file FF is 2, and not 1
abbrev pub head_clear : ℕ → Bool
head_clear m = ltb m 64

unfoldable pub head_read : List ℕ → Parsed Head
head_read = mapped_read head_defaults head_clear head_from

-- 6, 7, 5
unfoldable pub head_kept : Lengths → Head → List ℕ → Parsed Head
head_kept l h rest =
    next (kept (counts_kept h) 6 h rest) (λ h rest. next (kept (goal_kept h) 7 h rest) (λ h. kept (room l h) 5 h))

-- variable v of a packed state
unfoldable pub bit_of : List ℕ → ℕ → ℕ
bit_of bytes v = get_or bytes (v / 8) 0 / 2 ^ (v % 8) % 2

-- the bits behind variable v - 1 in its byte are 0. Without variables in the last byte there is none to look at.
unfoldable pub spare_clear : List ℕ → ℕ → Bool
spare_clear bytes v = eqb (v % 8) 0 || eqb (get_or bytes (v / 8) 0 / 2 ^ (v % 8)) 0

-- the initial state of v variables: 1, then 2
unfoldable pub initial_read : ℕ → List ℕ → Parsed (List ℕ)
initial_read v bytes =
    next (table_read (λ i done. byte_read) (bytes_for v) bytes)
    (λ packed. kept (spare_clear packed v) 2 (upto v (bit_of packed)))

-- an original: 1, then 9
unfoldable pub twin_read : ℕ → ℕ → List ℕ → List ℕ → Parsed ℕ
twin_read bound k done bytes = next (word_read bytes) (λ w. kept (twin_kept bound (done ++ (w ∷ [])) k) 9 w)

-- a formula's or an effect's row without its own number; bits 2 and 3 of the map are unused
abbrev pub row_clear : ℕ → Bool
row_clear m = eqb (m / 4 % 4) 0

abbrev pub row_from : ℕ → List ℕ → Row
row_from m ws = record { kind = m / 16; a = get_or ws 0 0; b = get_or ws 1 0 }

unfoldable pub row_read : List ℕ → Parsed Row
row_read = mapped_read row_defaults row_clear row_from

unfoldable pub formula_read : ℕ → ℕ → List Row → List ℕ → Parsed Row
formula_read v i done bytes = next (row_read bytes) (λ r. kept (formula_kept v i r) 10 r)

unfoldable pub effect_read : (v f : ℕ) → ℕ → List Row → List ℕ → Parsed Row
effect_read v f i done bytes = next (row_read bytes) (λ r. kept (effect_kept v f i r) 11 r)

-- an operator's row without its own number; bits 4 to 7 of the map are unused
abbrev pub operator_clear : ℕ → Bool
operator_clear m = ltb m 16

abbrev pub operator_from : ℕ → List ℕ → Operator
operator_from m ws = operator (get_or ws 0 0) (get_or ws 1 0) (get_or ws 2 0) (get_or ws 3 0)

unfoldable pub operator_fields_read : List ℕ → Parsed Operator
operator_fields_read = mapped_read operator_defaults operator_clear operator_from

-- 12, then 24
abbrev pub operator_right : (f e : ℕ) → Operator → Bool
operator_right f e o = eqb (operator_number f e o) 0

unfoldable pub operator_read : (f e : ℕ) → ℕ → List Operator → List ℕ → Parsed Operator
operator_read f e i done bytes =
    next (operator_fields_read bytes) (λ o. kept (operator_right f e o) (operator_number f e o) o)

-- all that stands behind the head
unfoldable pub tables_read : Head → List ℕ → Parsed Task
tables_read h bytes =
    next (initial_read h.variables bytes)
    (λ initial rest.
    next (table_read (twin_read (h.variables - h.twins)) h.twins rest)
    (λ originals rest.
    next (table_read (formula_read h.variables) h.formulas rest)
    (λ formulas rest.
    next (table_read (effect_read h.variables h.formulas) h.effects rest)
    (λ effects rest.
    next (table_read (operator_read h.formulas h.effects) h.operators rest)
    (λ operators.
    parsed
    (record {
      initial = initial;
      originals = originals;
      formulas = formulas;
      effects = effects;
      operators = operators;
      goal = h.goal;
    }))))))

unfoldable pub task_read : Lengths → List ℕ → Parsed Task
task_read l bytes = next (head_read bytes) (λ h rest. next (head_kept l h rest) tables_read)

-- what reading a file comes to
pub data Verdict : Type 0 where
  accepted : Task → Verdict
  rejected : ℕ → Verdict

-- 4: bytes follow
unfoldable pub at_end : Parsed Task → Verdict
at_end (parsed t []) = accepted t
at_end (parsed t (x ∷ rest)) = rejected 4
at_end (unparsed n) = rejected n

unfoldable pub reading : Lengths → List ℕ → Verdict
reading l file = at_end (task_read l file)
