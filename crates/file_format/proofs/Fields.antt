-- Words, fields and maps: reading undoes writing and writing undoes reading. Assumes nothing.
use Prim.Native.Nat.{ℕ, zero, suc, ◌+◌, ◌*◌, ◌/◌, ◌%◌, ◌^◌, ◌<◌, ◌≤◌}
use native.Mathlib.Nat.{pow-suc, mul_comm, mul_assoc, one-le-pow}
use native.Mathlib.Omega.{arith}
use native.Mathlib.Decide.{ℕ_discrete}
use mathlib.Core.Path.{◌≡◌, refl, sym, ap, ◌∙◌}
use mathlib.Core.Bool.{Bool, true, false, false≢true, cond, not}
use mathlib.Core.List.{List, [], ◌∷◌, ◌++◌, append_assoc}
use lib.ListN.{length, length-append}
use lib.Dec.{eqb}
use borrow.Author.Tests.{eq-eqb, ne_eqb}
use Rattle.file_format.specs.Bytes.{word_bytes, field_bytes, present, fields_bytes, map_of}
use Rattle.file_format.specs.Parse.{Parsed, parsed, next, kept, byte_read, word_read, field_read, fields_read}
use Rattle.file_format.proofs.Parse.{Bytes, bytes_behind, parsed_value, parsed_rest, refused_parsed, kept_parsed, kept_true, next_parsed, next_to, Stable, pure_stable, kept_stable, byte_stable, next_stable}

-- a byte that was read stands in front of what is left
pub byte_parsed : (bytes : List ℕ) {x : ℕ} {rest : List ℕ} → byte_read bytes ≡ parsed x rest → bytes ≡ x ∷ rest
unfolding byte_read
byte_parsed [] e = absurd (refused_parsed e)
byte_parsed (y ∷ bytes) e = cc

pub byte_reads : (x : ℕ) (rest : List ℕ) → byte_read (x ∷ rest) ≡ parsed x rest
unfolding byte_read
byte_reads x rest = refl

-- the bytes of x are read as x, and nothing else is: x is good, and its bytes stood there
pub record Written {A : Type 0} (q : A → List ℕ) (Good : A → Type 0) (bytes : List ℕ) (x : A) (rest : List ℕ) : Type 0 where
  pub same : bytes ≡ q x ++ rest
  pub good : Good x

abbrev pub Word : ℕ → Type 0
Word w = w < 65536

pub word_reads : (w : ℕ) (rest : List ℕ) → word_read (word_bytes w ++ rest) ≡ parsed w rest
unfolding word_read word_bytes next byte_read
word_reads w rest = ap {B = Parsed ℕ} (λ (z : ℕ). parsed z rest) (omega arith)

pub word_parsed : (bytes : List ℕ) {w : ℕ} {rest : List ℕ} → Bytes bytes → word_read bytes ≡ parsed w rest → Written word_bytes Word bytes w rest
unfolding word_read word_bytes next byte_read
word_parsed [] b e = absurd (refused_parsed e)
word_parsed (x ∷ []) b e = absurd (refused_parsed e)
word_parsed (x ∷ (y ∷ bytes)) {w} {rest} b e =
    let v : x + 256 * y ≡ w = parsed_value e in
    let l : x < 256 = b.0 in
    let h : y < 256 = b.1.0 in
    let p : x ≡ w % 256 = omega arith in
    let q : y ≡ w / 256 = omega arith in
    record { same = rw (parsed_rest e, ← p, ← q); good = omega arith }

pub word_stable : Stable word_read
unfolding word_read
word_stable =
    next_stable byte_read (λ low rest. next (byte_read rest) (λ high. parsed (low + 256 * high))) byte_stable
    (λ low. next_stable byte_read (λ high. parsed (low + 256 * high)) byte_stable (λ high. pure_stable (low + 256 * high)))

pub present_le : (default w : ℕ) → present default w ≤ 1
unfolding present
present_le default w = go (eqb w default)
  where
    go : (b : Bool) → cond b 0 1 ≤ 1
    go true = omega arith
    go false = omega arith

-- a field that is its default is not there, and any other is
pub record Absent (default w : ℕ) : Type 0 where
  pub bytes : field_bytes default w ≡ []
  pub bit : present default w ≡ 0

pub absent : (default w : ℕ) → w ≡ default → Absent default w
unfolding present field_bytes
absent default w e = record { bytes = rw (eq-eqb w default e) refl; bit = rw (eq-eqb w default e) refl }

pub record There (default w : ℕ) : Type 0 where
  pub bytes : field_bytes default w ≡ word_bytes w
  pub bit : present default w ≡ 1

pub there : (default w : ℕ) → (w ≡ default → ⊥) → There default w
unfolding present field_bytes
there default w ne = record { bytes = rw (ne_eqb w default ne) refl; bit = rw (ne_eqb w default ne) refl }

-- a field, by its bit
pub field_reads : (default w : ℕ) (rest : List ℕ) → field_read default (present default w) (field_bytes default w ++ rest) ≡ parsed w rest
unfolding field_read
field_reads default w rest = go (ℕ_discrete w default)
  where
    go : Dec (w ≡ default) → field_read default (present default w) (field_bytes default w ++ rest) ≡ parsed w rest
    go (yes e) =
        let a = absent default w e in
        rw (a.bit, a.bytes) (ap {B = Parsed ℕ} (λ (x : ℕ). parsed x rest) (sym e))
    go (no ne) =
        let t = there default w ne in
        let passes : not (eqb w default) ≡ true = ap not (ne_eqb w default ne) in
        rw (t.bit, t.bytes)
        (next_to (λ w. kept (not (eqb w default)) 3 w) (word_reads w rest) ∙ kept_true (not (eqb w default)) 3 w rest passes)

pub record Field (default bit : ℕ) (bytes : List ℕ) (w : ℕ) (rest : List ℕ) : Type 0 where
  pub same : bytes ≡ field_bytes default w ++ rest
  pub good : Word w
  pub by_bit : present default w ≡ bit

pub field_parsed :
    (default bit : ℕ) (bytes : List ℕ) {w : ℕ} {rest : List ℕ}
    → Word default
    → bit ≤ 1
    → Bytes bytes
    → field_read default bit bytes ≡ parsed w rest
    → Field default bit bytes w rest
unfolding field_read
field_parsed default zero bytes {w} {rest} small h b e =
    let z : default ≡ w = parsed_value e in
    let a = absent default w (sym z) in
    record { same = parsed_rest e ∙ sym (ap (λ (l : List ℕ). l ++ rest) a.bytes); good = omega arith; by_bit = a.bit }
field_parsed default (suc bit) bytes {w} {rest} small h b e =
    let s = next_parsed (word_read bytes) (λ w. kept (not (eqb w default)) 3 w) e in
    let k = kept_parsed (not (eqb s.value default)) 3 s.value s.mid s.second in
    let d = word_parsed bytes b s.first in
    let v : s.value ≡ w = k.same in
    let r : s.mid ≡ rest = k.behind in
    let other : s.value ≡ default → ⊥ =
    λ q. false≢true (sym (ap not (eq-eqb s.value default q)) ∙ k.holds) in
    let t = there default s.value other in
    let one : 1 ≡ suc bit = omega arith in
    record {
      same = cc (d.same, t.bytes);
      good = omega (arith, d.good);
      by_bit = ap (present default) (sym v) ∙ t.bit ∙ one;
    }

pub field_stable : (default bit : ℕ) → Stable (field_read default bit)
unfolding field_read
field_stable default zero = pure_stable default
field_stable default (suc bit) =
    next_stable word_read (λ w. kept (not (eqb w default)) 3 w) word_stable (λ w. kept_stable (not (eqb w default)) 3 w)

-- each is a word
abbrev pub Words : List ℕ → Type 0
Words [] = Unit {0}
Words (w ∷ ws) = Word w × Words ws

-- the lowest bits of m are the map of ws
abbrev pub Mapped : (defaults fields : List ℕ) → ℕ → Type 0
Mapped [] ws m = Unit {0}
Mapped (d ∷ ds) [] m = Unit {0}
Mapped (d ∷ ds) (w ∷ ws) m = (m % 2 ≡ present d w) × Mapped ds ws (m / 2)

pub double_pow : (n r : ℕ) → 2 ^ suc n * r ≡ 2 * (2 ^ n * r)
double_pow n r = rw pow-suc (simp (mul_comm (2 ^ n) 2, mul_assoc))

-- a map with anything above it
pub mapped : (ds ws : List ℕ) (r : ℕ) → Mapped ds ws (map_of ds ws + 2 ^ length ds * r)
unfolding map_of
mapped [] ws r = tt
mapped (d ∷ ds) [] r = tt
mapped (d ∷ ds) (w ∷ ws) r =
    let e = double_pow (length ds) r in
    let l = present_le d w in
    let rest : (present d w + 2 * map_of ds ws + 2 ^ suc (length ds) * r) / 2 ≡ map_of ds ws + 2 ^ length ds * r = omega arith in
    (omega arith, rw rest (mapped ds ws r))

-- and back: what stands above the map
pub above : (ds ws : List ℕ) (m : ℕ) → length ws ≡ length ds → Mapped ds ws m → (r : ℕ) × (m ≡ map_of ds ws + 2 ^ length ds * r)
unfolding map_of
above [] ws m size h = (m, omega arith)
above (d ∷ ds) [] m size h = absurd (omega arith)
above (d ∷ ds) (w ∷ ws) m size h =
    let i = above ds ws (m / 2) (omega arith) h.1 in
    let e = double_pow (length ds) i.0 in
    let f : m / 2 ≡ map_of ds ws + 2 ^ length ds * i.0 = i.1 in
    let b : m % 2 ≡ present d w = h.0 in
    (i.0, omega arith)

-- a map of n fields has n bits
pub map_lt : (ds ws : List ℕ) → map_of ds ws < 2 ^ length ds
unfolding map_of
map_lt [] ws = omega arith
map_lt (d ∷ ds) [] = omega (arith, one-le-pow (suc (length ds)) 2 (omega arith))
map_lt (d ∷ ds) (w ∷ ws) =
    let i = map_lt ds ws in
    let e = double_pow (length ds) 1 in
    omega (arith, present_le d w)

pub fields_reads :
    (ds ws : List ℕ) (m : ℕ) (rest : List ℕ)
    → length ws ≡ length ds
    → Mapped ds ws m
    → fields_read ds m (fields_bytes ds ws ++ rest) ≡ parsed ws rest
unfolding fields_read fields_bytes
fields_reads [] [] m rest size h = refl
fields_reads [] (w ∷ ws) m rest size h = absurd (omega arith)
fields_reads (d ∷ ds) [] m rest size h = absurd (omega arith)
fields_reads (d ∷ ds) (w ∷ ws) m rest size h =
    rw (append_assoc (field_bytes d w) (fields_bytes ds ws) rest, h.0)
    (next_to (λ w rest. next (fields_read ds (m / 2) rest) (λ ws. parsed (w ∷ ws))) (field_reads d w (fields_bytes ds ws ++ rest))
    ∙ next_to (λ ws. parsed (w ∷ ws)) (fields_reads ds ws (m / 2) rest (omega arith) h.1))

pub record Fields (ds : List ℕ) (m : ℕ) (bytes ws rest : List ℕ) : Type 0 where
  pub same : bytes ≡ fields_bytes ds ws ++ rest
  pub size : length ws ≡ length ds
  pub good : Words ws
  pub by_map : Mapped ds ws m

fields_same :
    {m : ℕ} {ds bytes ws ws' rest rest' : List ℕ} → ws ≡ ws' → rest ≡ rest' → Fields ds m bytes ws rest → Fields ds m bytes ws' rest'
fields_same p q f = rw (← p, ← q) f

pub fields_parsed :
    (ds : List ℕ) (m : ℕ) (bytes : List ℕ) {ws rest : List ℕ}
    → Words ds
    → Bytes bytes
    → fields_read ds m bytes ≡ parsed ws rest
    → Fields ds m bytes ws rest
unfolding fields_read fields_bytes
fields_parsed [] m bytes {ws} {rest} small b e =
    let z : [] ≡ ws = parsed_value e in
    fields_same {m = m} z (parsed_rest e) (record { same = refl; size = refl; good = tt; by_map = tt })
fields_parsed (d ∷ ds) m bytes {ws} {rest} small b e =
    let s = next_parsed (field_read d (m % 2) bytes) (λ w rest. next (fields_read ds (m / 2) rest) (λ ws. parsed (w ∷ ws))) e in
    let f = field_parsed d (m % 2) bytes small.0 (omega arith) b s.first in
    let t = next_parsed (fields_read ds (m / 2) s.mid) (λ ws. parsed (s.value ∷ ws)) s.second in
    let below : Bytes s.mid = bytes_behind (field_bytes d s.value) s.mid (rw f.same at b) in
    let g = fields_parsed ds (m / 2) s.mid small.1 below t.first in
    let v : s.value ∷ t.value ≡ ws = parsed_value t.second in
    let r : t.mid ≡ rest = parsed_rest t.second in
    fields_same v r
    (record {
      same =
          f.same
          ∙ ap (λ (l : List ℕ). field_bytes d s.value ++ l) g.same
          ∙ sym (append_assoc (field_bytes d s.value) (fields_bytes ds t.value) t.mid);
      size = ap suc g.size;
      good = (f.good, g.good);
      by_map = (sym f.by_bit, g.by_map);
    })

pub fields_stable : (ds : List ℕ) (m : ℕ) → Stable (fields_read ds m)
unfolding fields_read
fields_stable [] m = pure_stable []
fields_stable (d ∷ ds) m =
    next_stable (field_read d (m % 2)) (λ w rest. next (fields_read ds (m / 2) rest) (λ ws. parsed (w ∷ ws))) (field_stable d (m % 2))
    (λ w. next_stable (fields_read ds (m / 2)) (λ ws. parsed (w ∷ ws)) (fields_stable ds (m / 2)) (λ ws. pure_stable (w ∷ ws)))

-- fields behind fields
pub fields_append :
    (ds es ws vs : List ℕ) → length ws ≡ length ds → fields_bytes (ds ++ es) (ws ++ vs) ≡ fields_bytes ds ws ++ fields_bytes es vs
unfolding fields_bytes
fields_append [] es [] vs size = refl
fields_append [] es (w ∷ ws) vs size = absurd (omega arith)
fields_append (d ∷ ds) es [] vs size = absurd (omega arith)
fields_append (d ∷ ds) es (w ∷ ws) vs size =
    ap (λ (l : List ℕ). field_bytes d w ++ l) (fields_append ds es ws vs (omega arith))
    ∙ sym (append_assoc (field_bytes d w) (fields_bytes ds ws) (fields_bytes es vs))

-- a field has at most two bytes
pub field_length : (default w : ℕ) → length (field_bytes default w) ≤ 2
unfolding field_bytes word_bytes
field_length default w = go (eqb w default)
  where
    go : (b : Bool) → length (cond b [] (word_bytes w)) ≤ 2
    go true = omega arith
    go false = omega arith

pub fields_length : (ds ws : List ℕ) → length (fields_bytes ds ws) ≤ 2 * length ds
unfolding fields_bytes
fields_length [] ws = omega arith
fields_length (d ∷ ds) [] = omega arith
fields_length (d ∷ ds) (w ∷ ws) =
    omega (arith, field_length d w, fields_length ds ws, length-append (field_bytes d w) (fields_bytes ds ws))
