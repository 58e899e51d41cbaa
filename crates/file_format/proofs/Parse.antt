-- Laws of taking values from the front of bytes: what a success says of its parts, and that a parse of a file cut short either
-- goes as before or is refused by 1. Assumes nothing.
use Prim.Native.Nat.{ℕ, ◌<◌}
use native.Mathlib.Omega.{arith}
use mathlib.Core.Path.{◌≡◌, refl, sym, ap, ◌∙◌}
use mathlib.Core.Bool.{Bool, true, false}
use mathlib.Core.List.{List, [], ◌∷◌, ◌++◌}
use Rattle.file_format.specs.Parse.{Parsed, parsed, unparsed, next, kept, byte_read}

-- each is a byte
abbrev pub Bytes : List ℕ → Type 0
Bytes [] = Unit {0}
Bytes (x ∷ xs) = (x < 256) × Bytes xs

pub bytes_behind : (front rest : List ℕ) → Bytes (front ++ rest) → Bytes rest
bytes_behind [] rest h = h
bytes_behind (x ∷ front) rest h = bytes_behind front rest h.1

pub bytes_front : (front rest : List ℕ) → Bytes (front ++ rest) → Bytes front
bytes_front [] rest h = tt
bytes_front (x ∷ front) rest h = (h.0, bytes_front front rest h.1)

module _ {A : Type 0} where
  pub parsed_value : {x y : A} {a b : List ℕ} → parsed x a ≡ parsed y b → x ≡ y
  parsed_value e = cc

  pub parsed_rest : {x y : A} {a b : List ℕ} → parsed x a ≡ parsed y b → a ≡ b
  parsed_rest e = cc

  pub refused_parsed : {n : ℕ} {x : A} {a : List ℕ} → unparsed n ≡ parsed x a → ⊥
  refused_parsed e = let z : ◌≡◌ {A = ℕ} 0 1 = cc in omega arith

  -- a value that was kept
  pub record Kept (b : Bool) (x : A) (rest : List ℕ) (y : A) (r : List ℕ) : Type 0 where
    pub holds : b ≡ true
    pub same : x ≡ y
    pub behind : rest ≡ r

  pub kept_parsed : (b : Bool) (n : ℕ) (x : A) (rest : List ℕ) {y : A} {r : List ℕ} → kept b n x rest ≡ parsed y r → Kept b x rest y r
  unfolding kept
  kept_parsed true n x rest e = record { holds = refl; same = parsed_value e; behind = parsed_rest e }
  kept_parsed false n x rest e = absurd (refused_parsed e)

  pub kept_true : (b : Bool) (n : ℕ) (x : A) (rest : List ℕ) → b ≡ true → kept b n x rest ≡ parsed x rest
  unfolding kept
  kept_true true n x rest e = refl
  kept_true false n x rest e = absurd (let z : ◌≡◌ {A = ℕ} 0 1 = cc in omega arith)

module _ {A B : Type 0} where
  -- the two steps of a success
  pub record Steps (o : Parsed A) (more : A → List ℕ → Parsed B) (y : B) (rest : List ℕ) : Type 0 where
    pub value : A
    pub mid : List ℕ
    pub first : o ≡ parsed value mid
    pub second : more value mid ≡ parsed y rest

  pub next_parsed : (o : Parsed A) (more : A → List ℕ → Parsed B) {y : B} {rest : List ℕ} → next o more ≡ parsed y rest → Steps o more y rest
  unfolding next
  next_parsed (parsed x mid) more e = record { value = x; mid = mid; first = refl; second = e }
  next_parsed (unparsed n) more e = absurd (refused_parsed e)

  pub next_to : {o : Parsed A} {x : A} {mid : List ℕ} (more : A → List ℕ → Parsed B) → o ≡ parsed x mid → next o more ≡ more x mid
  unfolding next
  next_to more e = rw e

  pub next_refused : {o : Parsed A} {n : ℕ} (more : A → List ℕ → Parsed B) → o ≡ unparsed n → next o more ≡ unparsed n
  unfolding next
  next_refused more e = rw e

-- What a parse that succeeds on front ++ more does on front alone: it is refused by 1, or it leaves what it left without more.
pub data Cut {A : Type 0} (p : List ℕ → Parsed A) (front more : List ℕ) (x : A) (rest : List ℕ) : Type 0 where
  short : p front ≡ unparsed 1 → Cut p front more x rest
  whole : (mid : List ℕ) → p front ≡ parsed x mid → rest ≡ mid ++ more → Cut p front more x rest

abbrev pub Stable : {A : Type 0} → (List ℕ → Parsed A) → Type 0
Stable {A} p = (front more : List ℕ) (x : A) (rest : List ℕ) → p (front ++ more) ≡ parsed x rest → Cut p front more x rest

module _ {A : Type 0} where
  pub pure_stable : (y : A) → Stable (parsed y)
  pure_stable y front more x rest e =
      whole front (ap {B = Parsed A} (λ (z : A). parsed z front) (parsed_value e)) (sym (parsed_rest e))

  pub kept_stable : (b : Bool) (n : ℕ) (y : A) → Stable (kept b n y)
  unfolding kept
  kept_stable true n y front more x rest e =
      whole front (ap {B = Parsed A} (λ (z : A). parsed z front) (parsed_value e)) (sym (parsed_rest e))
  kept_stable false n y front more x rest e = absurd (refused_parsed e)

pub byte_stable : Stable byte_read
unfolding byte_read
byte_stable [] more x rest e = short refl
byte_stable (y ∷ front) more x rest e =
    whole front (ap {B = Parsed ℕ} (λ (z : ℕ). parsed z front) (parsed_value e)) (sym (parsed_rest e))

module _ {A B : Type 0} (p : List ℕ → Parsed A) (f : A → List ℕ → Parsed B) where
  after_first : (front more mid : List ℕ) (x : A) (y : B) (rest : List ℕ) → p front ≡ parsed x mid → Cut (f x) mid more y rest → Cut (λ bytes. next (p bytes) f) front more y rest
  after_first front more mid x y rest e (short s) = short (next_to f e ∙ s)
  after_first front more mid x y rest e (whole m s q) = whole m (next_to f e ∙ s) q

  pub next_stable : Stable p → ((x : A) → Stable (f x)) → Stable (λ bytes. next (p bytes) f)
  next_stable sp sf front more y rest e = go (sp front more s.value s.mid s.first)
    where
      s : Steps (p (front ++ more)) f y rest
      s = next_parsed (p (front ++ more)) f e

      go : Cut p front more s.value s.mid → Cut (λ bytes. next (p bytes) f) front more y rest
      go (short r) = short (next_refused f r)
      go (whole m r q) = after_first front more m s.value y rest r (sf s.value m more y rest (ap (f s.value) (sym q) ∙ s.second))
