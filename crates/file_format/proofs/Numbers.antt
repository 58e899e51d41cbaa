-- Reading refuses with a number from 1 to 12, or with 24, and with no other. Assumes nothing.
use Prim.Native.Nat.{ℕ, zero, suc, ◌-◌, ◌/◌, ◌%◌, ◌≤◌}
use native.Mathlib.Omega.{arith}
use mathlib.Core.Path.{◌≡◌, refl}
use mathlib.Core.Bool.{Bool, true, false, not}
use mathlib.Core.List.{List, [], ◌∷◌}
use lib.Dec.{eqb}
use Rattle.task.specs.declared.Head.{Head}
use Rattle.task.specs.Table.{Operator, Task}
use Rattle.task.specs.Check.{unless, counts_kept, goal_kept, operator_kept, percent_kept, operator_number}
use Rattle.file_format.specs.Bytes.{head_defaults, row_defaults, operator_defaults, bytes_for}
use Rattle.file_format.specs.Parse.{Parsed, parsed, unparsed, next, kept, byte_read, word_read, field_read, fields_read, mapped_read, table_read}
use Rattle.file_format.specs.Reading.{Lengths, room, head_read, head_kept, initial_read, twin_read, row_read, formula_read, effect_read, operator_fields_read, operator_right, operator_read, tables_read, task_read, accepted, rejected, at_end, reading}

-- 1 to 12, and 24
pub data Told (n : ℕ) : Type 0 where
  low : 1 ≤ n → n ≤ 12 → Told n
  high : n ≡ 24 → Told n

abbrev Numbered : {A : Type 0} → Parsed A → Type 0
Numbered (parsed x rest) = Unit {0}
Numbered (unparsed n) = Told n

next_numbered :
    {A B : Type 0} (p : Parsed A) (more : A → List ℕ → Parsed B)
    → Numbered p
    → ((x : A) (rest : List ℕ) → Numbered (more x rest))
    → Numbered (next p more)
unfolding next
next_numbered (parsed x rest) more first second = second x rest
next_numbered (unparsed n) more first second = first

kept_numbered : {A : Type 0} (b : Bool) (n : ℕ) (x : A) (rest : List ℕ) → 1 ≤ n → n ≤ 12 → Numbered (kept b n x rest)
unfolding kept
kept_numbered true n x rest least most = tt
kept_numbered false n x rest least most = low least most

byte_numbered : (bytes : List ℕ) → Numbered (byte_read bytes)
unfolding byte_read
byte_numbered [] = low (omega arith) (omega arith)
byte_numbered (x ∷ rest) = tt

word_numbered : (bytes : List ℕ) → Numbered (word_read bytes)
unfolding word_read
word_numbered bytes =
    next_numbered (byte_read bytes) _ (byte_numbered bytes)
    (λ low rest. next_numbered (byte_read rest) _ (byte_numbered rest) (λ high rest. tt))

field_numbered : (default bit : ℕ) (bytes : List ℕ) → Numbered (field_read default bit bytes)
unfolding field_read
field_numbered default zero bytes = tt
field_numbered default (suc bit) bytes =
    next_numbered (word_read bytes) _ (word_numbered bytes)
    (λ w rest. kept_numbered (not (eqb w default)) 3 w rest (omega arith) (omega arith))

fields_numbered : (ds : List ℕ) (m : ℕ) (bytes : List ℕ) → Numbered (fields_read ds m bytes)
unfolding fields_read
fields_numbered [] m bytes = tt
fields_numbered (d ∷ ds) m bytes =
    next_numbered (field_read d (m % 2) bytes) _ (field_numbered d (m % 2) bytes)
    (λ w rest. next_numbered (fields_read ds (m / 2) rest) _ (fields_numbered ds (m / 2) rest) (λ ws rest. tt))

mapped_numbered :
    {A : Type 0} (ds : List ℕ) (clear : ℕ → Bool) (made : ℕ → List ℕ → A) (bytes : List ℕ)
    → Numbered (mapped_read ds clear made bytes)
unfolding mapped_read
mapped_numbered ds clear made bytes =
    next_numbered (byte_read bytes) _ (byte_numbered bytes)
    (λ m rest.
    next_numbered (kept (clear m) 2 m rest) _ (kept_numbered (clear m) 2 m rest (omega arith) (omega arith))
    (λ m rest. next_numbered (fields_read ds m rest) _ (fields_numbered ds m rest) (λ ws rest. tt)))

table_numbered :
    {A : Type 0} (row : ℕ → List A → List ℕ → Parsed A)
    → ((i : ℕ) (done : List A) (bytes : List ℕ) → Numbered (row i done bytes))
    → (n : ℕ) (bytes : List ℕ)
    → Numbered (table_read row n bytes)
unfolding table_read
table_numbered row each zero bytes = tt
table_numbered row each (suc i) bytes =
    next_numbered (table_read row i bytes) _ (table_numbered row each i bytes)
    (λ done rest. next_numbered (row i done rest) _ (each i done rest) (λ r rest. tt))

initial_numbered : (v : ℕ) (bytes : List ℕ) → Numbered (initial_read v bytes)
unfolding initial_read
initial_numbered v bytes =
    next_numbered (table_read (λ i done. byte_read) (bytes_for v) bytes) _
    (table_numbered (λ i done. byte_read) (λ i done. byte_numbered) (bytes_for v) bytes)
    (λ packed rest. kept_numbered _ 2 _ rest (omega arith) (omega arith))

twin_numbered : (bound k : ℕ) (done bytes : List ℕ) → Numbered (twin_read bound k done bytes)
unfolding twin_read
twin_numbered bound k done bytes =
    next_numbered (word_read bytes) _ (word_numbered bytes) (λ w rest. kept_numbered _ 9 w rest (omega arith) (omega arith))

operator_numbered : (f e : ℕ) (o : Operator) (rest : List ℕ) → Numbered (kept (operator_right f e o) (operator_number f e o) o rest)
unfolding operator_number kept
operator_numbered f e o rest = go (operator_kept f e o) (percent_kept o)
  where
    go : (a b : Bool) → let n = unless a 12 (unless b 24 0) in Numbered (kept (eqb n 0) n o rest)
    go true true = tt
    go true false = high refl
    go false b = low (omega arith) (omega arith)

tables_numbered : (h : Head) (bytes : List ℕ) → Numbered (tables_read h bytes)
unfolding tables_read formula_read row_read effect_read operator_read operator_fields_read
tables_numbered h bytes =
    next_numbered (initial_read h.variables bytes) _ (initial_numbered h.variables bytes)
    (λ initial rest.
    next_numbered (table_read (twin_read (h.variables - h.twins)) h.twins rest) _
    (table_numbered _ (twin_numbered (h.variables - h.twins)) h.twins rest)
    (λ originals rest.
    next_numbered (table_read (formula_read h.variables) h.formulas rest) _
    (table_numbered (formula_read h.variables)
    (λ i done bytes.
    next_numbered (row_read bytes) _ (mapped_numbered row_defaults _ _ bytes)
    (λ r rest. kept_numbered _ 10 r rest (omega arith) (omega arith)))
    h.formulas rest)
    (λ formulas rest.
    next_numbered (table_read (effect_read h.variables h.formulas) h.effects rest) _
    (table_numbered (effect_read h.variables h.formulas)
    (λ i done bytes.
    next_numbered (row_read bytes) _ (mapped_numbered row_defaults _ _ bytes)
    (λ r rest. kept_numbered _ 11 r rest (omega arith) (omega arith)))
    h.effects rest)
    (λ effects rest.
    next_numbered (table_read (operator_read h.formulas h.effects) h.operators rest) _
    (table_numbered (operator_read h.formulas h.effects)
    (λ i done bytes.
    next_numbered (operator_fields_read bytes) _ (mapped_numbered operator_defaults _ _ bytes)
    (λ o rest. operator_numbered h.formulas h.effects o rest))
    h.operators rest)
    (λ operators rest. tt)))))

task_numbered : (l : Lengths) (file : List ℕ) → Numbered (task_read l file)
unfolding task_read head_read head_kept
task_numbered l file =
    next_numbered (head_read file) _ (mapped_numbered head_defaults _ _ file)
    (λ h rest.
    next_numbered (head_kept l h rest) _
    (next_numbered (kept (counts_kept h) 6 h rest) _ (kept_numbered _ 6 h rest (omega arith) (omega arith))
    (λ h rest.
    next_numbered (kept (goal_kept h) 7 h rest) _ (kept_numbered _ 7 h rest (omega arith) (omega arith))
    (λ h rest. kept_numbered (room l h) 5 h rest (omega arith) (omega arith))))
    tables_numbered)

pub rejected_by : (l : Lengths) (file : List ℕ) (n : ℕ) → reading l file ≡ rejected n → Told n
unfolding reading at_end
rejected_by l file n e = go (task_read l file) refl (task_numbered l file)
  where
    go : (p : Parsed Task) → task_read l file ≡ p → Numbered p → Told n
    go (parsed t []) q b =
        let f : accepted t ≡ rejected n = rw q at e in
        absurd (let z : ◌≡◌ {A = ℕ} 0 1 = cc in omega arith)
    go (parsed t (x ∷ rest)) q b =
        let f : rejected 4 ≡ rejected n = rw q at e in
        let same : 4 ≡ n = cc in
        low (omega arith) (omega arith)
    go (unparsed m) q b =
        let f : rejected m ≡ rejected n = rw q at e in
        let same : m ≡ n = cc in
        rw same at b
