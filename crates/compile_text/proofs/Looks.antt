-- How many bytes a parse looks at: on so many, it goes the same way whatever follows them. Assumes nothing.
use Prim.Native.Nat.{ℕ, zero, suc, ◌+◌, ◌*◌, ◌/◌, ◌%◌, ◌≤◌}
use native.Mathlib.Nat.{suc-mul}
use native.Mathlib.Omega.{arith}
use mathlib.Core.Path.{◌≡◌, refl, ◌∙◌}
use mathlib.Core.Bool.{Bool, true, false, not}
use mathlib.Core.List.{List, [], ◌∷◌, ◌++◌}
use lib.ListN.{length}
use lib.Dec.{eqb}
use Rattle.file_format.specs.Parse.{Parsed, parsed, unparsed, next, kept, byte_read, word_read, field_read, fields_read, mapped_read, table_read}
use Rattle.file_format.proofs.Parse.{next_to, next_refused}

-- the same refusal, or the same value with all that follows behind it; at most so many bytes are taken
pub data Same {A : Type 0} (p : List ℕ → Parsed A) (most : ℕ) (front more : List ℕ) : Type 0 where
  both_refused : (n : ℕ) → p front ≡ unparsed n → p (front ++ more) ≡ unparsed n → Same p most front more
  both_parsed : (x : A) (rest : List ℕ) → p front ≡ parsed x rest → p (front ++ more) ≡ parsed x (rest ++ more) → length front ≤ most + length rest → Same p most front more

abbrev pub Looks : {A : Type 0} → ℕ → (List ℕ → Parsed A) → Type 0
Looks {A} most p = (front more : List ℕ) → most ≤ length front → Same p most front more

module _ {A : Type 0} where
  pub wider : {p : List ℕ → Parsed A} (k m : ℕ) → k ≤ m → Looks k p → Looks m p
  wider {p} k m h looks front more long = go (looks front more (omega arith))
    where
      go : Same p k front more → Same p m front more
      go (both_refused n e f) = both_refused n e f
      go (both_parsed x rest e f b) = both_parsed x rest e f (omega arith)

  pub pure_looks : (x : A) → Looks 0 (parsed x)
  pure_looks x front more long = both_parsed x front refl refl (omega arith)

  pub kept_looks : (b : Bool) (n : ℕ) (x : A) → Looks 0 (kept b n x)
  unfolding kept
  kept_looks true n x front more long = both_parsed x front refl refl (omega arith)
  kept_looks false n x front more long = both_refused n refl refl

module _ {A B : Type 0} (p : List ℕ → Parsed A) (f : A → List ℕ → Parsed B) (k m : ℕ) where
  second :
      (front more : List ℕ) (x : A) (rest : List ℕ)
      → p front ≡ parsed x rest
      → p (front ++ more) ≡ parsed x (rest ++ more)
      → length front ≤ k + length rest
      → Same (f x) m rest more
      → Same (λ bytes. next (p bytes) f) (k + m) front more
  second front more x rest e g b (both_refused n q r) = both_refused n (next_to f e ∙ q) (next_to f g ∙ r)
  second front more x rest e g b (both_parsed y last q r c) = both_parsed y last (next_to f e ∙ q) (next_to f g ∙ r) (omega arith)

  pub next_looks : Looks k p → ((x : A) → Looks m (f x)) → Looks (k + m) (λ bytes. next (p bytes) f)
  next_looks first then front more long = go (first front more (omega arith))
    where
      go : Same p k front more → Same (λ bytes. next (p bytes) f) (k + m) front more
      go (both_refused n e g) = both_refused n (next_refused f e) (next_refused f g)
      go (both_parsed x rest e g b) = second front more x rest e g b (then x rest more (omega arith))

pub byte_looks : Looks 1 byte_read
unfolding byte_read
byte_looks [] more long = absurd (omega arith)
byte_looks (y ∷ front) more long = both_parsed y front refl refl (omega arith)

pub word_looks : Looks 2 word_read
unfolding word_read
word_looks =
    next_looks byte_read (λ low rest. next (byte_read rest) (λ high. parsed (low + 256 * high))) 1 1 byte_looks
    (λ low. next_looks byte_read (λ high. parsed (low + 256 * high)) 1 0 byte_looks (λ high. pure_looks (low + 256 * high)))

pub field_looks : (default bit : ℕ) → Looks 2 (field_read default bit)
unfolding field_read
field_looks default zero = wider 0 2 (omega arith) (pure_looks default)
field_looks default (suc bit) =
    next_looks word_read (λ w. kept (not (eqb w default)) 3 w) 2 0 word_looks (λ w. kept_looks (not (eqb w default)) 3 w)

pub fields_looks : (ds : List ℕ) (m : ℕ) → Looks (length ds * 2) (fields_read ds m)
unfolding fields_read
fields_looks [] m = pure_looks []
fields_looks (d ∷ ds) m =
    wider (2 + (length ds * 2 + 0)) (suc (length ds) * 2) (omega arith)
    (next_looks (field_read d (m % 2)) (λ w rest. next (fields_read ds (m / 2) rest) (λ ws. parsed (w ∷ ws))) 2 (length ds * 2 + 0) (field_looks d (m % 2))
    (λ w. next_looks (fields_read ds (m / 2)) (λ ws. parsed (w ∷ ws)) (length ds * 2) 0 (fields_looks ds (m / 2)) (λ ws. pure_looks (w ∷ ws))))

module _ {A : Type 0} where
  pub mapped_looks : (ds : List ℕ) (clear : ℕ → Bool) (made : ℕ → List ℕ → A) → Looks (1 + length ds * 2) (mapped_read ds clear made)
  unfolding mapped_read
  mapped_looks ds clear made =
      wider (1 + (0 + (length ds * 2 + 0))) (1 + length ds * 2) (omega arith)
      (next_looks byte_read (λ m rest. next (kept (clear m) 2 m rest) (λ m rest. next (fields_read ds m rest) (λ ws. parsed (made m ws)))) 1 (0 + (length ds * 2 + 0)) byte_looks
      (λ b. next_looks (kept (clear b) 2 b) (λ m rest. next (fields_read ds m rest) (λ ws. parsed (made m ws))) 0 (length ds * 2 + 0) (kept_looks (clear b) 2 b)
      (λ m. next_looks (fields_read ds m) (λ ws. parsed (made m ws)) (length ds * 2) 0 (fields_looks ds m) (λ ws. pure_looks (made m ws)))))

  pub table_looks : (k : ℕ) (row : ℕ → List A → List ℕ → Parsed A) → ((i : ℕ) (done : List A) → Looks k (row i done)) → (n : ℕ) → Looks (n * k) (table_read row n)
  unfolding table_read
  table_looks k row each zero = wider 0 (0 * k) (omega arith) (pure_looks [])
  table_looks k row each (suc i) =
      wider (i * k + (k + 0)) (suc i * k) (omega (arith, suc-mul i k))
      (next_looks (table_read row i) (λ done rest. next (row i done rest) (λ r. parsed (done ++ (r ∷ [])))) (i * k) (k + 0) (table_looks k row each i)
      (λ done. next_looks (row i done) (λ r. parsed (done ++ (r ∷ []))) k 0 (each i done) (λ r. pure_looks (done ++ (r ∷ [])))))
