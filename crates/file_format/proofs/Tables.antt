-- The five parts behind the head: each is read as it is written, for a task that keeps the rules. Assumes nothing.
use Prim.Native.Nat.{ℕ, suc, ◌<◌, ◌≤◌}
use native.Mathlib.Omega.{arith}
use mathlib.Core.Path.{◌≡◌, refl, sym, ap, ◌∙◌}
use mathlib.Core.Logic.{◌↔◌}
use mathlib.Core.Bool.{Bool, true}
use mathlib.Core.List.{List, [], ◌∷◌, ◌++◌}
use lib.ListN.{length, get_or, take}
use lib.Seq.{take-suc, get_or-take}
use Rattle.task.specs.Bounded.{upto}
use Rattle.task.proofs.Bounded.{length_upto, getD_upto}
use Rattle.task.specs.Table.{Row, Operator}
use Rattle.task.specs.Check.{twin_kept, formula_kept, effect_kept, operator_number}
use Rattle.task.specs.Rules.{no_row, no_operator, TwinRule}
use Rattle.task.specs.Words.{joined}
use Rattle.task.proofs.Passed.{twin_tested}
use Rattle.file_format.specs.Bytes.{word_bytes, row_defaults, operator_defaults, row_bytes, operator_bytes, bytes_for, packed}
use Rattle.file_format.specs.Parse.{Parsed, parsed, next, kept, byte_read, word_read, table_read}
use Rattle.file_format.specs.Reading.{initial_read, bit_of, spare_clear, twin_read, row_read, row_clear, row_from, formula_read, effect_read, operator_fields_read, operator_clear, operator_from, operator_right, operator_read}
use Rattle.file_format.proofs.Parse.{Bytes, bytes_front, kept_parsed, kept_true, Steps, next_parsed, Stable, kept_stable, byte_stable, next_stable}
use Rattle.file_format.proofs.Fields.{byte_parsed, byte_reads, word_reads, word_parsed, word_stable}
use Rattle.file_format.proofs.Table.{table_reads, Table, table_parsed, table_stable}
use Rattle.file_format.proofs.Rows.{row_reads, row_parsed, operator_fields_reads, operator_fields_parsed, mapped_stable, ruled_reads, ruled_parsed, ruled_stable}
use Rattle.file_format.proofs.Initial.{Bits, unpacked_packed, packed_clear, packed_length, packed_unpacked}

-- plain bytes
unfoldable pub one_byte : ℕ → List ℕ
one_byte x = x ∷ []

pub bytes_joined : (bytes : List ℕ) → joined one_byte bytes ≡ bytes
unfolding joined one_byte
bytes_joined [] = refl
bytes_joined (x ∷ bytes) = ap {B = List ℕ} (λ (l : List ℕ). x ∷ l) (bytes_joined bytes)

unfoldable pub plain_byte : ℕ → List ℕ → List ℕ → Parsed ℕ
plain_byte i done = byte_read

pub initial_reads : (state rest : List ℕ) → Bits state → initial_read (length state) (packed state ++ rest) ≡ parsed state rest
unfolding initial_read plain_byte one_byte next
initial_reads state rest b =
    let e : table_read plain_byte (bytes_for (length state)) (packed state ++ rest) ≡ parsed (packed state) rest =
    rw (packed_length state, bytes_joined (packed state)) at (table_reads one_byte plain_byte 0 (packed state) (λ i h rest. byte_reads (get_or (packed state) i 0) rest) rest)
    in
    rw (e, unpacked_packed state b) (kept_true (spare_clear (packed state) (length state)) 2 state rest (packed_clear state b))

-- an initial state that was read
pub record Initial (v : ℕ) (bytes state rest : List ℕ) : Type 0 where
  pub same : bytes ≡ packed state ++ rest
  pub size : length state ≡ v
  pub bits : (i : ℕ) → i < v → get_or state i 0 ≤ 1

bit_small : (bytes : List ℕ) (v : ℕ) → bit_of bytes v ≤ 1
unfolding bit_of
bit_small bytes v = omega arith

pub initial_parsed : (v : ℕ) (bytes : List ℕ) {state rest : List ℕ} → Bytes bytes → initial_read v bytes ≡ parsed state rest → Initial v bytes state rest
unfolding initial_read plain_byte one_byte
initial_parsed v bytes {state} {rest} b e = go (next_parsed (table_read plain_byte (bytes_for v) bytes) (λ packed. kept (spare_clear packed v) 2 (upto v (bit_of packed))) e)
  where
    go : Steps (table_read plain_byte (bytes_for v) bytes) (λ packed. kept (spare_clear packed v) 2 (upto v (bit_of packed))) state rest → Initial v bytes state rest
    go s =
        let t = table_parsed one_byte plain_byte 0 (λ i done x. Unit {0}) (λ i done bytes x rest b e. record { same = byte_parsed bytes e; good = tt }) (bytes_for v) bytes b s.first in
        let k = kept_parsed (spare_clear s.value v) 2 (upto v (bit_of s.value)) s.mid s.second in
        let front : bytes ≡ s.value ++ s.mid = t.same ∙ ap (λ (l : List ℕ). l ++ s.mid) (bytes_joined s.value) in
        let p = packed_unpacked s.value v (bytes_front s.value s.mid (rw front at b)) t.size k.holds in
        let q : state ≡ upto v (bit_of s.value) = sym k.same in
        record {
          same = cc (front, p, k.same, k.behind);
          size = ap length q ∙ length_upto v (bit_of s.value);
          bits = λ i h. rw (q, getD_upto v (bit_of s.value) i 0 h) (bit_small s.value i);
        }

pub initial_stable : (v : ℕ) → Stable (initial_read v)
unfolding initial_read plain_byte
initial_stable v =
    next_stable (table_read plain_byte (bytes_for v)) (λ packed. kept (spare_clear packed v) 2 (upto v (bit_of packed)))
    (table_stable plain_byte (λ i done. byte_stable) (bytes_for v))
    (λ packed. kept_stable (spare_clear packed v) 2 (upto v (bit_of packed)))

-- what a twin row's test looks at: the rows up to its own
pub twin_front : (bound : ℕ) (os : List ℕ) (k : ℕ) → k < length os → twin_kept bound (take k os ++ (get_or os k 0 ∷ [])) k ≡ true ↔ TwinRule bound os k
twin_front bound os k h = (told, tested)
  where
    front : take k os ++ (get_or os k 0 ∷ []) ≡ take (suc k) os
    front = sym (take-suc os k 0 h)

    told : twin_kept bound (take k os ++ (get_or os k 0 ∷ [])) k ≡ true → TwinRule bound os k
    told e =
        let r = (twin_tested bound (take (suc k) os) k).0 (rw front at e) in
        let here : get_or (take (suc k) os) k 0 ≡ get_or os k 0 = get_or-take (suc k) os k 0 (omega arith) in
        record {
          below = rw here at r.below;
          once = λ j l same. r.once j l (get_or-take (suc k) os j 0 (omega arith) ∙ same ∙ sym here);
        }

    tested : TwinRule bound os k → twin_kept bound (take k os ++ (get_or os k 0 ∷ [])) k ≡ true
    tested r =
        let here : get_or (take (suc k) os) k 0 ≡ get_or os k 0 = get_or-take (suc k) os k 0 (omega arith) in
        let rule : TwinRule bound (take (suc k) os) k =
        record {
          below = rw here r.below;
          once = λ j l same. r.once j l (sym (get_or-take (suc k) os j 0 (omega arith)) ∙ same ∙ here);
        }
        in
        rw front ((twin_tested bound (take (suc k) os) k).1 rule)

pub twins_reads :
    (bound : ℕ) (os rest : List ℕ)
    → ((k : ℕ) → k < length os → TwinRule bound os k)
    → table_read (twin_read bound) (length os) (joined word_bytes os ++ rest) ≡ parsed os rest
unfolding twin_read
twins_reads bound os rest rule =
    table_reads word_bytes (twin_read bound) 0 os
    (λ k h rest.
    ruled_reads word_read word_bytes (λ w. twin_kept bound (take k os ++ (w ∷ [])) k) (λ w. 9) (get_or os k 0) rest
    (word_reads (get_or os k 0) rest)
    ((twin_front bound os k h).1 (rule k h)))
    rest

pub twins_parsed :
    (bound n : ℕ) (bytes : List ℕ) {os rest : List ℕ}
    → Bytes bytes
    → table_read (twin_read bound) n bytes ≡ parsed os rest
    → Table word_bytes (twin_read bound) 0 (λ k done w. twin_kept bound (done ++ (w ∷ [])) k ≡ true) n bytes os rest
unfolding twin_read
twins_parsed bound n bytes b e =
    table_parsed word_bytes (twin_read bound) 0 (λ k done w. twin_kept bound (done ++ (w ∷ [])) k ≡ true)
    (λ k done bytes x rest b e.
    ruled_parsed word_read word_bytes (λ w. twin_kept bound (done ++ (w ∷ [])) k) (λ w. 9)
    (λ bytes x rest b e. (word_parsed bytes b e).same)
    bytes x rest b e)
    n bytes b e

pub twins_stable : (bound n : ℕ) → Stable (table_read (twin_read bound) n)
unfolding twin_read
twins_stable bound n =
    table_stable (twin_read bound) (λ k done. ruled_stable word_read word_bytes (λ w. twin_kept bound (done ++ (w ∷ [])) k) (λ w. 9) word_stable) n

row_stable : Stable row_read
unfolding row_read
row_stable = mapped_stable row_defaults row_clear row_from

-- Tables of rows: the rule of row i is a test of the row alone.
module _ {A : Type 0} (q : A → List ℕ) (p : List ℕ → Parsed A) (d : A) (rule : ℕ → A → Bool) (n : A → ℕ) where
  abbrev pub ruled_row : ℕ → List A → List ℕ → Parsed A
  ruled_row i done bytes = next (p bytes) (λ x. kept (rule i x) (n x) x)

  pub rows_reads :
      ((x : A) (rest : List ℕ) → p (q x ++ rest) ≡ parsed x rest)
      → (rows : List A) (rest : List ℕ)
      → ((i : ℕ) → i < length rows → rule i (get_or rows i d) ≡ true)
      → table_read ruled_row (length rows) (joined q rows ++ rest) ≡ parsed rows rest
  rows_reads one rows rest each =
      table_reads q ruled_row d rows
      (λ i h rest. ruled_reads p q (rule i) n (get_or rows i d) rest (one (get_or rows i d) rest) (each i h))
      rest

  pub rows_parsed :
      ((bytes : List ℕ) (x : A) (rest : List ℕ) → Bytes bytes → p bytes ≡ parsed x rest → bytes ≡ q x ++ rest)
      → (count : ℕ) (bytes : List ℕ) (rows : List A) (rest : List ℕ)
      → Bytes bytes
      → table_read ruled_row count bytes ≡ parsed rows rest
      → Table q ruled_row d (λ i done x. rule i x ≡ true) count bytes rows rest
  rows_parsed one count bytes rows rest b e =
      table_parsed q ruled_row d (λ i done x. rule i x ≡ true)
      (λ i done bytes x rest b e. ruled_parsed p q (rule i) n one bytes x rest b e)
      count bytes b e

  pub rows_stable : Stable p → (count : ℕ) → Stable (table_read ruled_row count)
  rows_stable h count = table_stable ruled_row (λ i done. ruled_stable p q (rule i) n h) count

pub formulas_reads :
    (v : ℕ) (rows : List Row) (rest : List ℕ)
    → ((i : ℕ) → i < length rows → formula_kept v i (get_or rows i no_row) ≡ true)
    → table_read (formula_read v) (length rows) (joined row_bytes rows ++ rest) ≡ parsed rows rest
unfolding formula_read
formulas_reads v rows rest each = rows_reads row_bytes row_read no_row (formula_kept v) (λ x. 10) row_reads rows rest each

pub formulas_parsed :
    (v count : ℕ) (bytes : List ℕ) {rows : List Row} {rest : List ℕ}
    → Bytes bytes
    → table_read (formula_read v) count bytes ≡ parsed rows rest
    → Table row_bytes (formula_read v) no_row (λ i done x. formula_kept v i x ≡ true) count bytes rows rest
unfolding formula_read
formulas_parsed v count bytes {rows} {rest} b e =
    rows_parsed row_bytes row_read no_row (formula_kept v) (λ x. 10) (λ bytes x rest b e. row_parsed bytes b e) count bytes rows rest b e

pub formulas_stable : (v count : ℕ) → Stable (table_read (formula_read v) count)
unfolding formula_read
formulas_stable v count = rows_stable row_bytes row_read no_row (formula_kept v) (λ x. 10) row_stable count

pub effects_reads :
    (v f : ℕ) (rows : List Row) (rest : List ℕ)
    → ((i : ℕ) → i < length rows → effect_kept v f i (get_or rows i no_row) ≡ true)
    → table_read (effect_read v f) (length rows) (joined row_bytes rows ++ rest) ≡ parsed rows rest
unfolding effect_read
effects_reads v f rows rest each = rows_reads row_bytes row_read no_row (effect_kept v f) (λ x. 11) row_reads rows rest each

pub effects_parsed :
    (v f count : ℕ) (bytes : List ℕ) {rows : List Row} {rest : List ℕ}
    → Bytes bytes
    → table_read (effect_read v f) count bytes ≡ parsed rows rest
    → Table row_bytes (effect_read v f) no_row (λ i done x. effect_kept v f i x ≡ true) count bytes rows rest
unfolding effect_read
effects_parsed v f count bytes {rows} {rest} b e =
    rows_parsed row_bytes row_read no_row (effect_kept v f) (λ x. 11) (λ bytes x rest b e. row_parsed bytes b e) count bytes rows rest b e

pub effects_stable : (v f count : ℕ) → Stable (table_read (effect_read v f) count)
unfolding effect_read
effects_stable v f count = rows_stable row_bytes row_read no_row (effect_kept v f) (λ x. 11) row_stable count

pub operators_reads :
    (f e : ℕ) (rows : List Operator) (rest : List ℕ)
    → ((i : ℕ) → i < length rows → operator_right f e (get_or rows i no_operator) ≡ true)
    → table_read (operator_read f e) (length rows) (joined operator_bytes rows ++ rest) ≡ parsed rows rest
unfolding operator_read
operators_reads f e rows rest each =
    rows_reads operator_bytes operator_fields_read no_operator (λ i. operator_right f e) (operator_number f e) operator_fields_reads rows rest each

pub operators_parsed :
    (f e count : ℕ) (bytes : List ℕ) {rows : List Operator} {rest : List ℕ}
    → Bytes bytes
    → table_read (operator_read f e) count bytes ≡ parsed rows rest
    → Table operator_bytes (operator_read f e) no_operator (λ i done x. operator_right f e x ≡ true) count bytes rows rest
unfolding operator_read
operators_parsed f e count bytes {rows} {rest} b q =
    rows_parsed operator_bytes operator_fields_read no_operator (λ i. operator_right f e) (operator_number f e)
    (λ bytes x rest b e. operator_fields_parsed bytes b e) count bytes rows rest b q

pub operators_stable : (f e count : ℕ) → Stable (table_read (operator_read f e) count)
unfolding operator_read operator_fields_read
operators_stable f e count =
    rows_stable operator_bytes operator_fields_read no_operator (λ i. operator_right f e) (operator_number f e) (mapped_stable operator_defaults operator_clear operator_from) count
