-- The head and each kind of row: reading undoes writing and writing undoes reading. Assumes nothing.
use Prim.Native.Nat.{ℕ, zero, suc, ◌+◌, ◌*◌, ◌/◌, ◌%◌, ◌^◌, ◌<◌}
use native.Mathlib.Nat.{mul-suc}
use native.Mathlib.Omega.{arith}
use mathlib.Core.Path.{◌≡◌, refl, sym, ap, ◌∙◌}
use mathlib.Core.Bool.{Bool, true}
use mathlib.Core.List.{List, [], ◌∷◌, ◌++◌}
use lib.ListN.{length, get_or}
use lib.Seq.{ext_get_or}
use borrow.Author.Tests.{ltb-true, lt-ltb, eqb-true, eq-eqb}
use Rattle.task.specs.declared.Head.{Head}
use Rattle.task.specs.Bounded.{upto}
use Rattle.task.proofs.Bounded.{length_upto, getD_upto}
use Rattle.task.specs.Table.{Row, Operator, operator_width}
use Rattle.task.specs.Words.{operator_row_words}
use Rattle.file_format.specs.Bytes.{fields_bytes, map_of, head_defaults, row_defaults, operator_defaults, head_fields, head_bytes, row_bytes, operator_bytes}
use Rattle.file_format.specs.Parse.{Parsed, parsed, next, kept, byte_read, fields_read, mapped_read}
use Rattle.file_format.specs.Reading.{head_from, head_clear, head_read, row_from, row_clear, operator_from, operator_clear, row_read, operator_fields_read}
use Rattle.file_format.proofs.Parse.{Bytes, parsed_value, parsed_rest, kept_parsed, kept_true, Steps, next_parsed, next_to, Stable, pure_stable, kept_stable, byte_stable, next_stable}
use Rattle.file_format.proofs.Fields.{byte_parsed, byte_reads, Written, Words, Mapped, mapped, above, map_lt, fields_reads, fields_parsed, fields_stable}

-- a list of n words is its words
listed : (n : ℕ) (ws : List ℕ) → length ws ≡ n → ws ≡ upto n (λ i. get_or ws i 0)
listed n ws e =
    ext_get_or 0 ws (upto n (λ i. get_or ws i 0)) (e ∙ sym (length_upto n (λ i. get_or ws i 0)))
    (λ i h. sym (getD_upto n (λ i. get_or ws i 0) i 0 (rw e at h)))

-- A map byte that passes a test, then fields by it, then a value made of the map and the fields: the head and every row are read so.
module _ {A : Type 0} (ds : List ℕ) (clear : ℕ → Bool) (made : ℕ → List ℕ → A) where
  pub mapped_reads :
      (m : ℕ) (ws rest : List ℕ) → length ws ≡ length ds → clear m ≡ true → Mapped ds ws m
      → mapped_read ds clear made (m ∷ (fields_bytes ds ws ++ rest)) ≡ parsed (made m ws) rest
  unfolding mapped_read
  mapped_reads m ws rest size t h =
      next_to (λ m rest. next (kept (clear m) 2 m rest) (λ m rest. next (fields_read ds m rest) (λ ws. parsed (made m ws)))) (byte_reads m (fields_bytes ds ws ++ rest))
      ∙ next_to (λ m rest. next (fields_read ds m rest) (λ ws. parsed (made m ws))) (kept_true (clear m) 2 m (fields_bytes ds ws ++ rest) t)
      ∙ next_to (λ ws. parsed (made m ws)) (fields_reads ds ws m rest size h)

  pub record MappedRow (bytes : List ℕ) (x : A) (rest : List ℕ) : Type 0 where
    pub byte : ℕ
    pub fields : List ℕ
    pub passed : clear byte ≡ true
    pub value : made byte fields ≡ x
    pub same : bytes ≡ byte ∷ (fields_bytes ds fields ++ rest)
    pub size : length fields ≡ length ds
    pub by_map : Mapped ds fields byte

  pub mapped_parsed :
      (bytes : List ℕ) {x : A} {rest : List ℕ}
      → Words ds
      → Bytes bytes
      → mapped_read ds clear made bytes ≡ parsed x rest
      → MappedRow bytes x rest
  unfolding mapped_read
  mapped_parsed bytes {x} {rest} small b e =
      let s = next_parsed (byte_read bytes) (λ m rest. next (kept (clear m) 2 m rest) (λ m rest. next (fields_read ds m rest) (λ ws. parsed (made m ws)))) e in
      let t = next_parsed (kept (clear s.value) 2 s.value s.mid) (λ m rest. next (fields_read ds m rest) (λ ws. parsed (made m ws))) s.second in
      let k = kept_parsed (clear s.value) 2 s.value s.mid t.first in
      let u = next_parsed (fields_read ds t.value t.mid) (λ ws. parsed (made t.value ws)) t.second in
      let front : bytes ≡ s.value ∷ s.mid = byte_parsed bytes s.first in
      let all : Bytes (s.value ∷ s.mid) = rw front at b in
      let below : Bytes t.mid = rw k.behind at all.1 in
      let f = fields_parsed ds t.value t.mid small below u.first in
      record {
        byte = t.value;
        fields = u.value;
        passed = ap clear (sym k.same) ∙ k.holds;
        value = parsed_value u.second;
        same = cc (front, k.same, k.behind, f.same, parsed_rest u.second);
        size = f.size;
        by_map = f.by_map;
      }

  pub mapped_stable : Stable (mapped_read ds clear made)
  unfolding mapped_read
  mapped_stable =
      next_stable byte_read (λ m rest. next (kept (clear m) 2 m rest) (λ m rest. next (fields_read ds m rest) (λ ws. parsed (made m ws)))) byte_stable
      (λ m.
      next_stable (kept (clear m) 2 m) (λ m rest. next (fields_read ds m rest) (λ ws. parsed (made m ws))) (kept_stable (clear m) 2 m)
      (λ m. next_stable (fields_read ds m) (λ ws. parsed (made m ws)) (fields_stable ds m) (λ ws. pure_stable (made m ws))))

-- a map with nothing above it
map_alone : (ds ws : List ℕ) → Mapped ds ws (map_of ds ws)
map_alone ds ws =
    let e : map_of ds ws + 2 ^ length ds * 0 ≡ map_of ds ws = omega arith in
    rw e at (mapped ds ws 0)

pub head_reads : (h : Head) (rest : List ℕ) → head_read (head_bytes h ++ rest) ≡ parsed h rest
unfolding head_read head_bytes head_fields
head_reads h rest =
    mapped_reads head_defaults head_clear head_from (map_of head_defaults (head_fields h)) (head_fields h) rest refl
    (lt-ltb (map_of head_defaults (head_fields h)) 64 (map_lt head_defaults (head_fields h)))
    (map_alone head_defaults (head_fields h))

-- the bytes of a map that holds nothing else
alone_same : (ds : List ℕ) (m : ℕ) (ws : List ℕ) → length ws ≡ length ds → m < 2 ^ length ds → Mapped ds ws m → m ≡ map_of ds ws
alone_same ds m ws size below h =
    let a = above ds ws m size h in
    go a.0 a.1
  where
    go : (r : ℕ) → m ≡ map_of ds ws + 2 ^ length ds * r → m ≡ map_of ds ws
    go zero e = omega arith
    go (suc r) e = absurd (omega (arith, mul-suc (2 ^ length ds) r))

-- all defaults are words
pub head_defaults_small : Words head_defaults
head_defaults_small = (omega arith, (omega arith, (omega arith, (omega arith, (omega arith, (omega arith, tt))))))

pub row_defaults_small : Words row_defaults
row_defaults_small = (omega arith, (omega arith, tt))

pub operator_defaults_small : Words operator_defaults
operator_defaults_small = (omega arith, (omega arith, (omega arith, (omega arith, tt))))

pub head_parsed : (bytes : List ℕ) {h : Head} {rest : List ℕ} → Bytes bytes → head_read bytes ≡ parsed h rest → bytes ≡ head_bytes h ++ rest
unfolding head_read head_bytes head_fields upto
head_parsed bytes {h} {rest} b e = go (mapped_parsed head_defaults head_clear head_from bytes head_defaults_small b e)
  where
    go : MappedRow head_defaults head_clear head_from bytes h rest → bytes ≡ head_bytes h ++ rest
    go r =
        let l : r.fields ≡ head_fields h = listed 6 r.fields r.size ∙ ap head_fields r.value in
        let m : r.byte ≡ map_of head_defaults r.fields =
        alone_same head_defaults r.byte r.fields r.size (ltb-true r.byte 64 r.passed) r.by_map in
        cc (r.same, l, m)

pub row_reads : (r : Row) (rest : List ℕ) → row_read (row_bytes r ++ rest) ≡ parsed r rest
unfolding row_read row_bytes
row_reads r rest =
    let ws : List ℕ = r.a ∷ r.b ∷ [] in
    let m = map_of row_defaults ws + 16 * r.kind in
    let l = map_lt row_defaults ws in
    let k : m / 16 ≡ r.kind = omega arith in
    let e : map_of row_defaults ws + 4 * (4 * r.kind) ≡ m = omega arith in
    mapped_reads row_defaults row_clear row_from m ws rest refl (eq-eqb (m / 4 % 4) 0 (omega arith)) (rw e at (mapped row_defaults ws (4 * r.kind)))
    ∙ ap {B = Parsed Row} (λ (kind : ℕ). parsed (record { kind = kind; a = r.a; b = r.b }) rest) k

pub row_parsed : (bytes : List ℕ) {x : Row} {rest : List ℕ} → Bytes bytes → row_read bytes ≡ parsed x rest → bytes ≡ row_bytes x ++ rest
unfolding row_read row_bytes upto
row_parsed bytes {x} {rest} b e = go (mapped_parsed row_defaults row_clear row_from bytes row_defaults_small b e)
  where
    go : MappedRow row_defaults row_clear row_from bytes x rest → bytes ≡ row_bytes x ++ rest
    go r =
        let l : r.fields ≡ x.a ∷ x.b ∷ [] = listed 2 r.fields r.size ∙ ap (λ (y : Row). y.a ∷ y.b ∷ []) r.value in
        let k : r.byte / 16 ≡ x.kind = ap (λ (y : Row). y.kind) r.value in
        let a = above row_defaults r.fields r.byte r.size r.by_map in
        let t : r.byte / 4 % 4 ≡ 0 = eqb-true (r.byte / 4 % 4) 0 r.passed in
        let s : r.byte ≡ map_of row_defaults r.fields + 4 * a.0 = a.1 in
        let m : r.byte ≡ map_of row_defaults r.fields + 16 * x.kind = omega (arith, map_lt row_defaults r.fields) in
        cc (r.same, l, m)

pub operator_fields_reads : (o : Operator) (rest : List ℕ) → operator_fields_read (operator_bytes o ++ rest) ≡ parsed o rest
unfolding operator_fields_read operator_bytes operator_row_words
operator_fields_reads o rest =
    let ws = operator_row_words o in
    mapped_reads operator_defaults operator_clear operator_from (map_of operator_defaults ws) ws rest refl
    (lt-ltb (map_of operator_defaults ws) 16 (map_lt operator_defaults ws))
    (map_alone operator_defaults ws)

pub operator_fields_parsed : (bytes : List ℕ) {o : Operator} {rest : List ℕ} → Bytes bytes → operator_fields_read bytes ≡ parsed o rest → bytes ≡ operator_bytes o ++ rest
unfolding operator_fields_read operator_bytes operator_row_words upto
operator_fields_parsed bytes {o} {rest} b e = go (mapped_parsed operator_defaults operator_clear operator_from bytes operator_defaults_small b e)
  where
    go : MappedRow operator_defaults operator_clear operator_from bytes o rest → bytes ≡ operator_bytes o ++ rest
    go r =
        let l : r.fields ≡ operator_row_words o = listed operator_width r.fields r.size ∙ ap operator_row_words r.value in
        let m : r.byte ≡ map_of operator_defaults r.fields =
        alone_same operator_defaults r.byte r.fields r.size (ltb-true r.byte 16 r.passed) r.by_map in
        cc (r.same, l, m)

-- A row with its own number: its rule is a test.
module _ {A : Type 0} (p : List ℕ → Parsed A) (q : A → List ℕ) (rule : A → Bool) (n : A → ℕ) where
  pub ruled_reads : (x : A) (rest : List ℕ) → p (q x ++ rest) ≡ parsed x rest → rule x ≡ true → next (p (q x ++ rest)) (λ x. kept (rule x) (n x) x) ≡ parsed x rest
  ruled_reads x rest e h = next_to (λ x. kept (rule x) (n x) x) e ∙ kept_true (rule x) (n x) x rest h

  pub ruled_parsed :
      ((bytes : List ℕ) (x : A) (rest : List ℕ) → Bytes bytes → p bytes ≡ parsed x rest → bytes ≡ q x ++ rest)
      → (bytes : List ℕ)
      → (x : A)
      → (rest : List ℕ)
      → Bytes bytes
      → next (p bytes) (λ x. kept (rule x) (n x) x) ≡ parsed x rest
      → Written q (λ x. rule x ≡ true) bytes x rest
  ruled_parsed back bytes x rest b e = go (next_parsed (p bytes) (λ x. kept (rule x) (n x) x) e)
    where
      go : Steps (p bytes) (λ x. kept (rule x) (n x) x) x rest → Written q (λ x. rule x ≡ true) bytes x rest
      go s =
          let k = kept_parsed (rule s.value) (n s.value) s.value s.mid s.second in
          let f = back bytes s.value s.mid b s.first in
          record { same = cc (f, k.same, k.behind); good = ap rule (sym k.same) ∙ k.holds }

  pub ruled_stable : Stable p → Stable (λ bytes. next (p bytes) (λ x. kept (rule x) (n x) x))
  ruled_stable h = next_stable p (λ x. kept (rule x) (n x) x) h (λ x. kept_stable (rule x) (n x) x)
