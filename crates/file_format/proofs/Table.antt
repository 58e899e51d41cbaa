-- Tables of rows: if each row is read as it is written, so is the table. Assumes nothing.
use Prim.Native.Nat.{ℕ, zero, suc, ◌<◌, ◌≤◌}
use native.Mathlib.Nat.{not-suc-le-zero}
use native.Mathlib.Numerals.{add-one}
use native.Mathlib.Decide.{dec_lt}
use native.Mathlib.Omega.{arith}
use mathlib.Core.Path.{◌≡◌, refl, sym, ap, ◌∙◌}
use mathlib.Core.List.{List, [], ◌∷◌, ◌++◌, append_assoc, append-nil}
use lib.ListN.{length, get_or, take, length-append, get_or-append}
use lib.Seq.{take-suc, take-append-le, take-length, take-append_seam, get_or-append_seam}
use Rattle.task.specs.Words.{joined}
use Rattle.task.proofs.Words.{joined_append}
use Rattle.file_format.specs.Parse.{Parsed, parsed, next, table_read}
use Rattle.file_format.proofs.Parse.{Bytes, bytes_behind, parsed_value, parsed_rest, next_parsed, next_to, Stable, pure_stable, next_stable}
use Rattle.file_format.proofs.Fields.{Written}

module _ {A : Type 0} (q : A → List ℕ) where
  -- one more row
  pub joined_more : (xs : List A) (x : A) (rest : List ℕ) → joined q (xs ++ (x ∷ [])) ++ rest ≡ joined q xs ++ (q x ++ rest)
  unfolding joined
  joined_more xs x rest =
      ap (λ (l : List ℕ). l ++ rest) (joined_append q xs (x ∷ []) ∙ ap (λ (l : List ℕ). joined q xs ++ l) (append-nil (q x)))
      ∙ append_assoc (joined q xs) (q x) rest

module _ {A : Type 0} (q : A → List ℕ) (row : ℕ → List A → List ℕ → Parsed A) (d : A) where
  -- the first n rows of a table
  reads_first :
      (rows : List A)
      → ((i : ℕ) → i < length rows → (rest : List ℕ) → row i (take i rows) (q (get_or rows i d) ++ rest) ≡ parsed (get_or rows i d) rest)
      → (n : ℕ)
      → n ≤ length rows
      → (rest : List ℕ)
      → table_read row n (joined q (take n rows) ++ rest) ≡ parsed (take n rows) rest
  unfolding table_read joined
  reads_first rows each zero h rest = refl
  reads_first rows each (suc n) h rest =
      let r = get_or rows n d in
      let more : List A → List ℕ → Parsed (List A) = λ done rest. next (row n done rest) (λ r. parsed (done ++ (r ∷ []))) in
      ap (λ (l : List A). table_read row (suc n) (joined q l ++ rest)) (take-suc rows n d h)
      ∙ ap (table_read row (suc n)) (joined_more q (take n rows) r rest)
      ∙ next_to more (reads_first rows each n (omega arith) (q r ++ rest))
      ∙ next_to (λ r. parsed (take n rows ++ (r ∷ []))) (each n h rest)
      ∙ ap {B = Parsed (List A)} (λ (l : List A). parsed l rest) (sym (take-suc rows n d h))

  pub table_reads :
      (rows : List A)
      → ((i : ℕ) → i < length rows → (rest : List ℕ) → row i (take i rows) (q (get_or rows i d) ++ rest) ≡ parsed (get_or rows i d) rest)
      → (rest : List ℕ)
      → table_read row (length rows) (joined q rows ++ rest) ≡ parsed rows rest
  table_reads rows each rest =
      rw take-length at (reads_first rows each (length rows) (omega arith) rest)

  -- a table that was read: its rows stood there, each as its rule (by its number and the rows before it) asks
  pub record Table (Rule : ℕ → List A → A → Type 0) (n : ℕ) (bytes : List ℕ) (rows : List A) (rest : List ℕ) : Type 0 where
    pub same : bytes ≡ joined q rows ++ rest
    pub size : length rows ≡ n
    pub each : (i : ℕ) → i < n → Rule i (take i rows) (get_or rows i d)

  table_same : {Rule : ℕ → List A → A → Type 0} {n : ℕ} {bytes : List ℕ} {rows rows' : List A} {rest rest' : List ℕ} → rows ≡ rows' → rest ≡ rest' → Table Rule n bytes rows rest → Table Rule n bytes rows' rest'
  table_same e f t = rw (← e, ← f) t

  each_more : (Rule : ℕ → List A → A → Type 0) (n : ℕ) (rows : List A) (r : A) → length rows ≡ n → ((i : ℕ) → i < n → Rule i (take i rows) (get_or rows i d)) → Rule n rows r → (i : ℕ) → i < suc n → Rule i (take i (rows ++ (r ∷ []))) (get_or (rows ++ (r ∷ [])) i d)
  each_more Rule n rows r size each last i h = go (dec_lt i n)
    where
      go : Dec (i < n) → Rule i (take i (rows ++ (r ∷ []))) (get_or (rows ++ (r ∷ [])) i d)
      go (yes l) =
          let l' : i < length rows = omega arith in
          let le : i ≤ length rows = omega arith in
          rw (take-append-le i rows (r ∷ []) le, get_or-append rows (r ∷ []) d i l') (each i l)
      go (no m) =
          let e : i ≡ length rows = omega arith in
          rw (e, take-append_seam rows (r ∷ []), get_or-append_seam rows r [] d, size) last

  pub table_parsed :
      (Rule : ℕ → List A → A → Type 0)
      → ((i : ℕ) (done : List A) (bytes : List ℕ) (x : A) (rest : List ℕ) → Bytes bytes → row i done bytes ≡ parsed x rest → Written q (Rule i done) bytes x rest)
      → (n : ℕ)
      → (bytes : List ℕ)
      → {rows : List A}
      → {rest : List ℕ}
      → Bytes bytes
      → table_read row n bytes ≡ parsed rows rest
      → Table Rule n bytes rows rest
  unfolding table_read joined
  table_parsed Rule one zero bytes {rows} {rest} b e =
      table_same (parsed_value e) (parsed_rest e) (record { same = refl; size = refl; each = λ i h. absurd (not-suc-le-zero h) })
  table_parsed Rule one (suc n) bytes {rows} {rest} b e =
      let s = next_parsed (table_read row n bytes) (λ done rest. next (row n done rest) (λ r. parsed (done ++ (r ∷ [])))) e in
      let t = table_parsed Rule one n bytes b s.first in
      let done = s.value in
      let u = next_parsed (row n done s.mid) (λ r. parsed (done ++ (r ∷ []))) s.second in
      let below : Bytes s.mid = bytes_behind (joined q done) s.mid (rw t.same at b) in
      let w = one n done s.mid u.value u.mid below u.first in
      let size : length (done ++ (u.value ∷ [])) ≡ suc n = length-append done (u.value ∷ []) ∙ add-one (length done) ∙ ap suc t.size in
      table_same (parsed_value u.second) (parsed_rest u.second)
      (record {
        same = t.same ∙ ap (λ (l : List ℕ). joined q done ++ l) w.same ∙ sym (joined_more q done u.value u.mid);
        size = size;
        each = each_more Rule n done u.value t.size t.each w.good;
      })

module _ {A : Type 0} (row : ℕ → List A → List ℕ → Parsed A) where
  pub table_stable : ((i : ℕ) (done : List A) → Stable (row i done)) → (n : ℕ) → Stable (table_read row n)
  unfolding table_read
  table_stable one zero = pure_stable []
  table_stable one (suc n) =
      next_stable (table_read row n) (λ done rest. next (row n done rest) (λ r. parsed (done ++ (r ∷ [])))) (table_stable one n)
      (λ done. next_stable (row n done) (λ r. parsed (done ++ (r ∷ []))) (one n done) (λ r. pure_stable (done ++ (r ∷ []))))
