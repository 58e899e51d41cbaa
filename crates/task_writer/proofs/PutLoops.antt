-- Loops that put a table row by row. Assumes nothing.
use Prim.Native.Nat.{ℕ, zero, suc, ◌+◌, ◌-◌, ◌*◌, ◌/◌, ◌^◌, ◌<◌, ◌≤◌, min}
use native.Mathlib.Nat.{one-le-pow}
use native.Mathlib.Numerals.{add-one}
use native.Mathlib.Omega.{arith}
use mathlib.Core.Path.{◌≡◌, refl, sym, ap, ◌∙◌}
use mathlib.Core.Logic.{inl, inr}
use mathlib.Core.List.{List, [], ◌∷◌, ◌++◌, reverse, append-nil}
use lib.ListN.{length, get_or, take, drop, length-append, length-drop, drop_of_length-le}
use lib.Seq.{take-suc, drop-cons, drop-length, get_or-drop}
use Rattle.std.proofs.lemmas.Bool.{cases_lt}
use Rattle.std.proofs.lemmas.Grind.{get_or_default_zero}
use Rattle.std.proofs.lemmas.List.{get_or-reverse, length-reverse, take_all, take_at, drop_at, drop-drop, nil_from_length}
use Rattle.std.proofs.Math.ListN.{get_or-append}
use Rattle.task.specs.declared.Table.{Table}
use Rattle.task.specs.declared.TableRow.{TableRow}
use Rattle.task.specs.declared.Table.TheVariants.{Formulas, Effects, Operators}
use Rattle.task.specs.Bounded.{upto}
use Rattle.task.proofs.Bounded.{length_upto}
use Rattle.task.specs.Table.{row_at, operator_at}
use Rattle.task.specs.Words.{joined, operator_row_words}
use Rattle.task.proofs.Words.{joined_append}
use Rattle.task.specs.Inner.Tables.{words_at}
use Rattle.file_format.specs.Bytes.{number, word_bytes, row_defaults, operator_defaults, row_bytes, operator_bytes, packed, bytes_for}
use Rattle.task_writer.specs.Inner.Putting.{Put, rows_bytes, StateIn, bytes_of}
use Rattle.file_format.proofs.Fields.{fields_length, double_pow}
use Rattle.task_writer.proofs.Puts.{put_none, put_then, put_same}

-- what a loop has put after i rows or words
pub record PutDone (B : ℕ → List ℕ) (at : ℕ) (before out : List ℕ) (i place : ℕ) : Type 0 where
  pub done : Put (B i) at place before out
  pub small : place ≤ at + 9 * i

module _ (B : ℕ → List ℕ) (at : ℕ) (before : List ℕ) where
  pub put_begin : B 0 ≡ [] → PutDone B at before before 0 at
  put_begin e = record { done = put_same (sym e) (put_none at before); small = omega arith }

  pub put_row_more :
      (out : List ℕ) (i place : ℕ) {out' b : List ℕ} {r : ℕ}
      → PutDone B at before out i place
      → Put b place r out out'
      → length b ≤ 9
      → B (suc i) ≡ B i ++ b
      → PutDone B at before out' (i + 1) r
  put_row_more out i place d p l e =
      record { done = put_same (sym e ∙ ap B (sym (add-one i))) (put_then d.done p); small = omega (arith, p.next, d.small) }

-- one more row
snoc_bytes : {A : Type 0} (q : A → List ℕ) (f : ℕ → A) (i : ℕ) → joined q (upto (suc i) f) ≡ joined q (upto i f) ++ q (f i)
unfolding upto joined
snoc_bytes q f i = joined_append q (upto i f) (f i ∷ []) ∙ ap (λ (l : List ℕ). joined q (upto i f) ++ l) (append-nil (q (f i)))

pub rows_none_put : (table : Table) (words : List ℕ) → rows_bytes table words 0 ≡ []
unfolding upto joined
rows_none_put Formulas words = refl
rows_none_put Effects words = refl
rows_none_put Operators words = refl

pub rows_more_put :
    (table : Table) (words : List ℕ) (i : ℕ)
    → rows_bytes table words (suc i)
    ≡ rows_bytes table words i ++ bytes_of table (words_at table words i)
rows_more_put Formulas words i = snoc_bytes row_bytes (row_at words) i
rows_more_put Effects words i = snoc_bytes row_bytes (row_at words) i
rows_more_put Operators words i = snoc_bytes operator_bytes (operator_at words) i

pub row_bytes_length : (table : Table) (r : TableRow) → length (bytes_of table r) ≤ 9
unfolding row_bytes operator_bytes operator_row_words
row_bytes_length Formulas r = omega (arith, fields_length row_defaults (r.second ∷ r.third ∷ []))
row_bytes_length Effects r = omega (arith, fields_length row_defaults (r.second ∷ r.third ∷ []))
row_bytes_length Operators r = omega (arith, fields_length operator_defaults (r.first ∷ r.second ∷ r.third ∷ r.fourth ∷ []))

-- plain words
abbrev pub words_bytes : List ℕ → ℕ → List ℕ
words_bytes words k = joined word_bytes (take k words)

pub words_none_put : (words : List ℕ) → words_bytes words 0 ≡ []
unfolding joined
words_none_put words = refl

pub words_more_put : (words : List ℕ) (k : ℕ) → k < length words → words_bytes words (suc k) ≡ words_bytes words k ++ word_bytes (get_or words k 0)
unfolding joined
words_more_put words k h =
    ap (joined word_bytes) (take-suc words k 0 h)
    ∙ joined_append word_bytes (take k words) (get_or words k 0 ∷ [])
    ∙ ap (λ (l : List ℕ). joined word_bytes (take k words) ++ l) (append-nil (word_bytes (get_or words k 0)))

pub word_length : (w : ℕ) → length (word_bytes w) ≤ 9
unfolding word_bytes
word_length w = omega arith

-- bits as a number, from the last one to the first
pub bits_none : (bits : List ℕ) (v : ℕ) → v ≡ length bits → 0 ≡ number (drop v bits)
unfolding number
bits_none bits v e = rw (e, drop-length bits)

bits_more : (s : List ℕ) (v x : ℕ) → 0 < v → v ≤ length s → x ≡ number (drop v s) → 2 * x + get_or s (v - 1) 0 ≡ number (drop (v - 1) s)
unfolding number
bits_more s v x some h e =
    let q : suc (v - 1) ≡ v = omega arith in
    let d : number (drop (v - 1) s) ≡ get_or s (v - 1) 0 + 2 * number (drop (suc (v - 1)) s) = ap number (drop-cons s (v - 1) 0 (omega arith)) in
    let r : number (drop (suc (v - 1)) s) ≡ number (drop v s) = ap (λ (k : ℕ). number (drop k s)) q in
    omega arith

-- the bit that a walk from the end comes to behind k others
pub bits_turn :
    (s : List ℕ) (k x b : ℕ)
    → (k < length (reverse s)) × (b ≡ get_or (reverse s) k b)
    → x ≡ number (drop (length s - k) s)
    → 2 * x + b ≡ number (drop (length s - (k + 1)) s)
bits_turn s k x b h e =
    let l : k < length s = omega (arith, length-reverse s, h) in
    let here : length s - (k + 1) < length s = omega arith in
    let back : length s - 1 - k ≡ length s - (k + 1) = omega arith in
    let before : length s - k - 1 ≡ length s - (k + 1) = omega arith in
    let bit : b ≡ get_or s (length s - k - 1) 0 = h.1 ∙ get_or-reverse s k b l ∙ rw (back, before) (get_or_default_zero s (length s - (k + 1)) b here) in
    rw (bit, ← before) (bits_more s (length s - k) x (omega arith) (omega arith) e)

number_below : (bits : List ℕ) (n : ℕ) → ((k : ℕ) → k < length bits → get_or bits k 0 ≤ 1) → length bits ≤ n → number bits < 2 ^ n
unfolding number
number_below [] n b h = omega (arith, one-le-pow n 2 (omega arith))
number_below (x ∷ bits) zero b h = absurd (omega arith)
number_below (x ∷ bits) (suc n) b h =
    let i : number bits < 2 ^ n = number_below bits n (λ k l. b (suc k) (omega arith)) (omega arith) in
    let d = double_pow n 1 in
    omega (arith, b 0 (omega arith))

pub bits_fit : (bits : List ℕ) → StateIn bits → length bits ≤ 8 → (v : ℕ) → number (drop v bits) < 256
bits_fit bits s h v =
    number_below (drop v bits) 8
    (λ k l.
    let i : v + k < length bits = omega (arith, length-drop v bits) in
    rw (get_or-drop v bits k 0) (s.bits (v + k) i))
    (omega (arith, length-drop v bits))

-- the packed state
abbrev byte_number : List ℕ → ℕ → ℕ
byte_number state j = number (upto 8 (λ k. get_or state (8 * j + k) 0))

abbrev pub state_bytes : List ℕ → ℕ → List ℕ
state_bytes state n = upto n (byte_number state)

-- what is in front of eight places, as a number
number_front :
    (s : List ℕ)
    → number (take 8 s)
    ≡ get_or s 0 0 + 2 * get_or s 1 0 + 4 * get_or s 2 0 + 8 * get_or s 3 0
    + 16 * (get_or s 4 0 + 2 * get_or s 5 0 + 4 * get_or s 6 0 + 8 * get_or s 7 0)
unfolding number
number_front [] = refl
number_front (a ∷ []) = omega arith
number_front (a ∷ (b ∷ [])) = omega arith
number_front (a ∷ (b ∷ (c ∷ []))) = omega arith
number_front (a ∷ (b ∷ (c ∷ (d ∷ [])))) = omega arith
number_front (a ∷ (b ∷ (c ∷ (d ∷ (e ∷ []))))) = omega arith
number_front (a ∷ (b ∷ (c ∷ (d ∷ (e ∷ (f ∷ [])))))) = omega arith
number_front (a ∷ (b ∷ (c ∷ (d ∷ (e ∷ (f ∷ (g ∷ []))))))) = omega arith
number_front (a ∷ (b ∷ (c ∷ (d ∷ (e ∷ (f ∷ (g ∷ (h ∷ rest)))))))) = omega arith

number_of_eight : (s : List ℕ) (j : ℕ) → number (take 8 (drop (8 * j) s)) ≡ byte_number s j
unfolding number upto
number_of_eight s j =
    number_front (drop (8 * j) s) ∙ simp get_or-drop (omega arith)

-- the eights of a list, one by one
chunk_is :
    (rest chunk behind : List ℕ)
    → rest ≡ chunk ++ behind
    → length chunk ≡ min 8 (length rest)
    → (chunk ≡ take 8 rest) × (behind ≡ drop 8 rest)
chunk_is rest chunk behind e size = elim (cases_lt (length rest) 8) [
  | inl short ↦
      let sum = ap length e ∙ length-append chunk behind in
      let none : behind ≡ [] = nil_from_length behind (omega arith) in (
        sym (append-nil chunk) ∙ ap (λ (x : List ℕ). chunk ++ x) (sym none) ∙ sym e ∙ sym (take_all 8 rest (omega arith)),
        none ∙ sym (drop_of_length-le rest {i = 8} (omega arith)),
      )
  | inr long ↦
      let eight : length chunk ≡ 8 = omega arith in
      (sym (ap (take 8) e ∙ take_at chunk behind 8 eight), sym (ap (drop 8) e ∙ drop_at chunk behind 8 eight))
]

-- what a loop over the eights of a state has put after j bytes, with `rest` before it
pub record PackDone (state : List ℕ) (at : ℕ) (before out rest : List ℕ) (j place : ℕ) : Type 0 where
  pub left : rest ≡ drop (8 * j) state
  pub far : 8 * j ≤ length state + 7
  pub done : Put (state_bytes state j) at place before out

module _ (state : List ℕ) (at : ℕ) (before : List ℕ) where
  pub pack_begin : {rest : List ℕ} → rest ≡ state → PackDone state at before before rest 0 at
  unfolding upto
  pack_begin e = record { left = e; far = omega arith; done = put_none at before }

  pub pack_more :
      {out out' rest : List ℕ} (chunk behind : List ℕ) {j place r : ℕ}
      → PackDone state at before out rest j place
      → rest ≡ chunk ++ behind
      → length chunk ≡ min 8 (length rest)
      → 0 < length rest
      → Put (number chunk ∷ []) place r out out'
      → PackDone state at before out' behind (j + 1) r
  unfolding upto
  pack_more {rest = rest} chunk behind {j} d e size some p =
      let is = chunk_is rest chunk behind e size in
      let byte : number chunk ≡ byte_number state j = ap number (is.0 ∙ ap (take 8) d.left) ∙ number_of_eight state j in
      let more : 8 * j + 8 ≡ 8 * (j + 1) = omega arith in
      record {
        left = is.1 ∙ ap (drop 8) d.left ∙ drop-drop 8 (8 * j) state ∙ ap (λ (k : ℕ). drop k state) more;
        far = omega (arith, ap length d.left, length-drop (8 * j) state);
        done = put_same (ap (λ (x : ℕ). state_bytes state j ++ (x ∷ [])) byte ∙ ap (state_bytes state) (sym (add-one j))) (put_then d.done p);
      }

  pub pack_end : {out rest : List ℕ} {j place : ℕ} → PackDone state at before out rest j place → length rest ≡ 0 → Put (packed state) at place before out
  unfolding packed bytes_for
  pack_end {j = j} d e =
      let all : j ≡ (length state + 7) / 8 = omega (arith, d.far, ap length d.left, length-drop (8 * j) state) in
      put_same (ap (state_bytes state) all) d.done

-- how far it has come
pub pack_reach : {state before out rest : List ℕ} {at j place : ℕ} → PackDone state at before out rest j place → place ≤ at + length state + 7
pack_reach {state} {j = j} d = omega (arith, d.done.next, d.far, length_upto j (byte_number state))

-- the bits of an eight
pub chunk_bits :
    {state rest : List ℕ} (chunk behind : List ℕ) (j : ℕ)
    → StateIn state
    → rest ≡ drop (8 * j) state
    → rest ≡ chunk ++ behind
    → StateIn chunk
chunk_bits {state} {rest} chunk behind j s left e =
    record {
      bits = λ k h.
          let same : drop (8 * j) state ≡ chunk ++ behind = sym left ∙ e in
          let i : 8 * j + k < length state = omega (arith, ap length same, length-append chunk behind, length-drop (8 * j) state) in
          let here : get_or state (8 * j + k) 0 ≡ get_or chunk k 0 =
          sym (get_or-drop (8 * j) state k 0) ∙ ap (λ (l : List ℕ). get_or l k 0) same ∙ get_or-append chunk behind 0 k h
          in
          rw here at (s.bits (8 * j + k) i);
    }
