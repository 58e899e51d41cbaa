-- A task's file is a list of bytes exactly as far as its words are unsigned 16-bit: of a task that keeps the rules it is, and where it is, no cost is above
-- 65,535. Assumes nothing.
use Prim.Native.Nat.{ℕ, zero, suc, ◌<◌, ◌≤◌}
use native.Mathlib.Nat.{not-suc-le-zero}
use native.Mathlib.Omega.{arith}
use native.Mathlib.Decide.{ℕ_discrete}
use mathlib.Core.Path.{◌≡◌, refl}
use mathlib.Core.Bool.{Bool, true, false, cond}
use mathlib.Core.List.{List, [], ◌∷◌, ◌++◌}
use lib.ListN.{length, get_or}
use lib.Dec.{eqb}
use borrow.Author.Tests.{ne_eqb}
use Rattle.task.specs.Table.{Row, Operator, Task}
use Rattle.task.specs.Rules.{no_row, no_operator, Rules, OperatorWords}
use Rattle.task.specs.Words.{joined, head_of, operator_row_words}
use Rattle.task.proofs.Sixteen.{formula_known, effect_known}
use Rattle.file_format.specs.Bytes.{word_bytes, field_bytes, fields_bytes, head_defaults, row_defaults, operator_defaults, head_fields, head_bytes, row_bytes, operator_bytes, packed, file_of}
use Rattle.file_format.proofs.Parse.{Bytes, bytes_behind, bytes_front}
use Rattle.file_format.proofs.Fields.{Words, map_lt}
use Rattle.file_format.proofs.Rows.{operator_defaults_small}
use Rattle.file_format.proofs.Initial.{bits_of_state, packed_byte}

bytes_append : (front rest : List ℕ) → Bytes front → Bytes rest → Bytes (front ++ rest)
bytes_append [] rest b c = c
bytes_append (x ∷ front) rest b c = (b.0, bytes_append front rest b.1 c)

-- each is a byte, by its place
pub bytes_each : (bytes : List ℕ) → ((i : ℕ) → i < length bytes → get_or bytes i 0 < 256) → Bytes bytes
bytes_each [] h = tt
bytes_each (x ∷ bytes) h = (h 0 (omega arith), bytes_each bytes (λ i b. h (suc i) (omega arith)))

pub each_byte : (bytes : List ℕ) → Bytes bytes → (i : ℕ) → i < length bytes → get_or bytes i 0 < 256
each_byte [] b i h = absurd (not-suc-le-zero h)
each_byte (x ∷ bytes) b zero h = b.0
each_byte (x ∷ bytes) b (suc i) h = each_byte bytes b.1 i (omega arith)

-- lists of elements
module _ {A : Type 0} (f : A → List ℕ) (d : A) where
  joined_bytes : (xs : List A) → ((i : ℕ) → i < length xs → Bytes (f (get_or xs i d))) → Bytes (joined f xs)
  unfolding joined
  joined_bytes [] h = tt
  joined_bytes (x ∷ xs) h = bytes_append (f x) (joined f xs) (h 0 (omega arith)) (joined_bytes xs (λ i b. h (suc i) (omega arith)))

  bytes_joined : (xs : List A) → Bytes (joined f xs) → (i : ℕ) → i < length xs → Bytes (f (get_or xs i d))
  unfolding joined
  bytes_joined [] b i h = absurd (not-suc-le-zero h)
  bytes_joined (x ∷ xs) b zero h = bytes_front (f x) (joined f xs) b
  bytes_joined (x ∷ xs) b (suc i) h = bytes_joined xs (bytes_behind (f x) (joined f xs) b) i (omega arith)

-- words and fields
word_small : (w : ℕ) → w < 65536 → Bytes (word_bytes w)
unfolding word_bytes
word_small w h = (omega arith, (omega arith, tt))

field_small : (default w : ℕ) → w < 65536 → Bytes (field_bytes default w)
unfolding field_bytes
field_small default w h = go (eqb w default)
  where
    go : (b : Bool) → Bytes (cond b [] (word_bytes w))
    go true = tt
    go false = word_small w h

small_field : (default w : ℕ) → default < 65536 → Bytes (field_bytes default w) → w < 65536
unfolding field_bytes word_bytes
small_field default w small b = go (ℕ_discrete w default)
  where
    go : Dec (w ≡ default) → w < 65536
    go (yes e) = omega arith
    go (no ne) =
        let c = rw (ne_eqb w default ne) at b in
        omega (arith, c.1.0)

fields_small : (ds ws : List ℕ) → Words ws → Bytes (fields_bytes ds ws)
unfolding fields_bytes
fields_small [] ws h = tt
fields_small (d ∷ ds) [] h = tt
fields_small (d ∷ ds) (w ∷ ws) h = bytes_append (field_bytes d w) (fields_bytes ds ws) (field_small d w h.0) (fields_small ds ws h.1)

small_fields : (ds ws : List ℕ) → length ws ≡ length ds → Words ds → Bytes (fields_bytes ds ws) → Words ws
unfolding fields_bytes
small_fields [] [] size h b = tt
small_fields [] (w ∷ ws) size h b = absurd (omega arith)
small_fields (d ∷ ds) [] size h b = tt
small_fields (d ∷ ds) (w ∷ ws) size h b = (
  small_field d w h.0 (bytes_front (field_bytes d w) (fields_bytes ds ws) b),
  small_fields ds ws (omega arith) h.1 (bytes_behind (field_bytes d w) (fields_bytes ds ws) b),
)

row_small : (r : Row) → r.kind < 16 → r.a < 65536 → r.b < 65536 → Bytes (row_bytes r)
unfolding row_bytes
row_small r k a b = (
  omega (arith, map_lt row_defaults (r.a ∷ r.b ∷ [])),
  fields_small row_defaults (r.a ∷ r.b ∷ []) (a, (b, tt)),
)

operator_small : (o : Operator) → OperatorWords o → Bytes (operator_bytes o)
unfolding operator_bytes operator_row_words
operator_small o w = (
  omega (arith, map_lt operator_defaults (operator_row_words o)),
  fields_small operator_defaults (operator_row_words o) (w.precondition, (w.effect, (w.cost, (w.percent, tt)))),
)

-- the file of a task that keeps the rules
module _ (t : Task) (r : Rules t) where
  head_small : Bytes (head_bytes (head_of t))
  unfolding head_bytes head_fields head_of
  head_small =
      let l = r.checked.limits in
      let twins : length t.originals < 65536 = omega (arith, l.variables, l.twins) in
      let goal : t.goal < 65536 = omega (arith, l.formulas, r.checked.goal_is_formula) in (
        omega (arith, map_lt head_defaults (head_fields (head_of t))),
        fields_small head_defaults (head_fields (head_of t))
            (omega (arith, l.variables), (twins, (omega (arith, l.formulas), (omega (arith, l.effects), (omega (arith, l.operators), (goal, tt)))))),
      )

  pub file_is_bytes : Bytes (file_of t)
  unfolding file_of
  file_is_bytes =
      let c = r.checked in
      let w = r.words in
      bytes_append (head_bytes (head_of t)) _ head_small
      (bytes_append (packed t.initial) _
      (bytes_each (packed t.initial) (packed_byte t.initial (bits_of_state t.initial c.initial_bits)))
      (bytes_append (joined word_bytes t.originals) _
      (joined_bytes word_bytes 0 t.originals (λ k h. word_small (get_or t.originals k 0) (w.original k h)))
      (bytes_append (joined row_bytes t.formulas) _
      (joined_bytes row_bytes no_row t.formulas (λ i h.
      row_small (get_or t.formulas i no_row) (omega (arith, formula_known t c i h)) (w.formula i h).first (w.formula i h).second))
      (bytes_append (joined row_bytes t.effects) _
      (joined_bytes row_bytes no_row t.effects (λ i h.
      row_small (get_or t.effects i no_row) (omega (arith, effect_known t c i h)) (w.effect i h).first (w.effect i h).second))
      (joined_bytes operator_bytes no_operator t.operators (λ i h. operator_small (get_or t.operators i no_operator) (w.operator i h)))))))

-- where a file is a list of bytes, no cost is above 65,535
pub costs_of_bytes :
    (t : Task) → Bytes (file_of t) → (i : ℕ) → i < length t.operators → (get_or t.operators i no_operator).cost ≤ 65535
unfolding file_of operator_bytes operator_row_words joined
costs_of_bytes t b i h =
    let operators : Bytes (joined operator_bytes t.operators) =
    bytes_behind (joined row_bytes t.effects) _
    (bytes_behind (joined row_bytes t.formulas) _
    (bytes_behind (joined word_bytes t.originals) _
    (bytes_behind (packed t.initial) _ (bytes_behind (head_bytes (head_of t)) _ b))))
    in
    let o = get_or t.operators i no_operator in
    let fields = (bytes_joined operator_bytes no_operator t.operators operators i h).1 in
    omega (arith, (small_fields operator_defaults (operator_row_words o) refl operator_defaults_small fields).1.1.0)
