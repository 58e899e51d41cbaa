-- Taking values from the front of a list of bytes: the value and the bytes behind it, or the number of the refusal.
use Rattle.std.specs.Prelude.{ℕ, zero, suc, ◌+◌, ◌*◌, ◌/◌, ◌%◌, Bool, true, false, not, List, [], ◌∷◌, ◌++◌, eqb}

pub data Parsed (A : Type 0) : Type 0 where
  parsed : A → List ℕ → Parsed A
  unparsed : ℕ → Parsed A

-- and then, from the bytes behind it; the first refusal stands
unfoldable pub next : {A B : Type 0} → Parsed A → (A → List ℕ → Parsed B) → Parsed B
next (parsed x rest) more = more x rest
next (unparsed n) more = unparsed n

-- the value, unless its rule is broken: then the rule's number
unfoldable pub kept : {A : Type 0} → Bool → ℕ → A → List ℕ → Parsed A
kept true n x rest = parsed x rest
kept false n x rest = unparsed n

-- 1: the file ends inside
unfoldable pub byte_read : List ℕ → Parsed ℕ
byte_read [] = unparsed 1
byte_read (x ∷ rest) = parsed x rest

-- 16 bits little-endian
unfoldable pub word_read : List ℕ → Parsed ℕ
word_read bytes = next (byte_read bytes) (λ low rest. next (byte_read rest) (λ high. parsed (low + 256 * high)))

-- a field by its bit: absent it is its default; present 1, then 3. So 3 is not given for a 0 of which only one byte is there.
unfoldable pub field_read : (default bit : ℕ) → List ℕ → Parsed ℕ
field_read default zero bytes = parsed default bytes
field_read default (suc bit) bytes = next (word_read bytes) (λ w. kept (not (eqb w default)) 3 w)

-- the fields of these defaults by their map, the lowest bit first
unfoldable pub fields_read : (defaults : List ℕ) → ℕ → List ℕ → Parsed (List ℕ)
fields_read [] m bytes = parsed [] bytes
fields_read (d ∷ ds) m bytes =
    next (field_read d (m % 2) bytes)
    (λ w rest. next (fields_read ds (m / 2) rest) (λ ws. parsed (w ∷ ws)))

-- What begins with a map: the map byte (1, then 2 unless its unused bits are clear), the fields by it, and the value made of the two.
unfoldable pub mapped_read : {A : Type 0} → (defaults : List ℕ) → (ℕ → Bool) → (ℕ → List ℕ → A) → List ℕ → Parsed A
mapped_read defaults clear made bytes =
    next (byte_read bytes)
    (λ m rest.
    next (kept (clear m) 2 m rest) (λ m rest. next (fields_read defaults m rest) (λ ws. parsed (made m ws))))

-- n rows one after the other; how row i is read may go by i and by the rows before it
unfoldable pub table_read : {A : Type 0} → (ℕ → List A → List ℕ → Parsed A) → ℕ → List ℕ → Parsed (List A)
table_read row zero bytes = parsed [] bytes
table_read row (suc i) bytes =
    next (table_read row i bytes) (λ done rest. next (row i done rest) (λ r. parsed (done ++ (r ∷ []))))
