-- Find or append: what is looked for stands at the place that is answered, and it is appended only where nothing is the same.
use Prim.Native.Nat.{ℕ, zero, suc, ◌<◌}
use native.Mathlib.Nat.{not-suc-le-zero}
use native.Mathlib.Omega.{arith}
use native.Mathlib.Decide.{dec_lt}
use mathlib.Core.Path.{◌≡◌, refl, sym, ap, subst, ◌∙◌}
use mathlib.Core.Bool.{Bool, true, false, cond, ◌&&◌, false≢true}
use mathlib.Core.List.{List, [], ◌∷◌, ◌++◌}
use lib.ListN.{length, get_or, length-append, get_or-append}
use lib.Seq.{get_or_at}
use lib.Dec.{eqb}
use borrow.Author.Tests.{eqb-true, eq-eqb}
use Rattle.task.specs.Table.{Row}
use Rattle.task.proofs.Bounded.{and_left, and_right}
use Rattle.normal_form.specs.Builder.{place, including, same_row}

-- what each element keeps, one more keeps too
pub one_more :
    {A : Type 0} (P : ℕ → A → Type 0) (d : A) (l : List A) (x : A)
    → ((i : ℕ) → i < length l → P i (get_or l i d))
    → P (length l) x
    → (i : ℕ)
    → i < length (l ++ (x ∷ []))
    → P i (get_or (l ++ (x ∷ [])) i d)
one_more P d l x each last i h = go (dec_lt i (length l))
  where
    go : Dec (i < length l) → P i (get_or (l ++ (x ∷ [])) i d)
    go (yes b) = rw (get_or-append l (x ∷ []) d i b) (each i b)
    go (no m) =
        let e : length l ≡ i = omega (arith, length-append l (x ∷ [])) in
        rw (get_or_at l x [] d i e) (subst (λ (k : ℕ). P k x) e last)

-- The two ways that finding or appending x comes out.
pub data Placed {A : Type 0} (same : A → A → Bool) (x : A) (l : List A) : Type 0 where
  found : place same x l < length l → including same x l ≡ l → Placed same x l
  added :
      place same x l ≡ length l
      → including same x l ≡ l ++ (x ∷ [])
      → ((d : A) (j : ℕ) → j < length l → same (get_or l j d) x ≡ false)
      → Placed same x l

module _ {A : Type 0} (same : A → A → Bool) (x : A) where
  pub placed : (l : List A) → Placed same x l
  unfolding place including
  placed [] = added refl refl (λ d j h. absurd (not-suc-le-zero h))
  placed (y ∷ ys) = go (same y x) refl (placed ys)
    where
      none : same y x ≡ false
          → ((d : A) (j : ℕ) → j < length ys → same (get_or ys j d) x ≡ false)
          → (d : A) (j : ℕ) → j < length (y ∷ ys) → same (get_or (y ∷ ys) j d) x ≡ false
      none e f d zero h = e
      none e f d (suc j) h = f d j (omega arith)

      go : (b : Bool) → same y x ≡ b → Placed same x ys → Placed same x (y ∷ ys)
      go true e p = found (rw e (omega arith)) (rw e)
      go false e (found h k) = found (rw e (omega arith)) (rw (e, k))
      go false e (added h k f) = added (rw (e, h)) (rw (e, k)) (none e f)

  pub place_below : (l : List A) → place same x l < length (including same x l)
  place_below l = go (placed l)
    where
      go : Placed same x l → place same x l < length (including same x l)
      go (found h k) = rw k h
      go (added h k f) = rw (k, h) (omega (arith, length-append l (x ∷ [])))

  -- with a test that only the same pass
  pub place_has : ((y : A) → same y x ≡ true → y ≡ x) → (d : A) (l : List A) → get_or (including same x l) (place same x l) d ≡ x
  unfolding place including
  place_has alike d [] = refl
  place_has alike d (y ∷ ys) = go (same y x) refl (place_has alike d ys)
    where
      go :
          (b : Bool)
          → same y x ≡ b
          → get_or (including same x ys) (place same x ys) d ≡ x
          → get_or (cond b (y ∷ ys) (y ∷ including same x ys)) (cond b 0 (suc (place same x ys))) d ≡ x
      go true e h = alike y e
      go false e h = h

-- what a search from the front finds: the first that is the same, or none
module _ {A : Type 0} (same : A → A → Bool) (x d : A) where
  pub place_first :
      (l : List A) (i : ℕ)
      → i < length l
      → ((j : ℕ) → j < i → same (get_or l j d) x ≡ false)
      → same (get_or l i d) x ≡ true
      → place same x l ≡ i
  unfolding place
  place_first [] i h before e = absurd (not-suc-le-zero h)
  place_first (y ∷ ys) zero h before e = rw e
  place_first (y ∷ ys) (suc i) h before e =
      let here : same y x ≡ false = before 0 (omega arith) in
      rw here (ap suc (place_first ys i (omega arith) (λ j k. before (suc j) (omega arith)) e))

  pub place_none :
      (l : List A) → ((j : ℕ) → j < length l → same (get_or l j d) x ≡ false) → place same x l ≡ length l
  unfolding place
  place_none [] none = refl
  place_none (y ∷ ys) none =
      let here : same y x ≡ false = none 0 (omega arith) in
      rw here (ap suc (place_none ys (λ j k. none (suc j) (omega arith))))

-- a number that a list has stands there where it is looked for
pub place_found : (x : ℕ) (l : List ℕ) → place eqb x l < length l → get_or l (place eqb x l) 0 ≡ x
place_found x l h = go (placed eqb x l)
  where
    go : Placed eqb x l → get_or l (place eqb x l) 0 ≡ x
    go (found b k) = rw k at (place_has eqb x (λ y. eqb-true y x) 0 l)
    go (added b k f) = absurd (omega arith)

pub place_here : (l : List ℕ) (j : ℕ) → j < length l → place eqb (get_or l j 0) l < length l
place_here l j h = go (placed eqb (get_or l j 0) l)
  where
    go : Placed eqb (get_or l j 0) l → place eqb (get_or l j 0) l < length l
    go (found b k) = b
    go (added b k f) = absurd (false≢true (sym (f 0 j h) ∙ eq-eqb (get_or l j 0) (get_or l j 0) refl))

pub same_row_alike : (r q : Row) → same_row r q ≡ true → r ≡ q
unfolding same_row
same_row_alike r q e =
    let rest : Bool = eqb r.a q.a && eqb r.b q.b in
    let k : r.kind ≡ q.kind = eqb-true r.kind q.kind (and_left (eqb r.kind q.kind) rest e) in
    let m = and_right (eqb r.kind q.kind) rest e in
    let a : r.a ≡ q.a = eqb-true r.a q.a (and_left (eqb r.a q.a) (eqb r.b q.b) m) in
    let b : r.b ≡ q.b = eqb-true r.b q.b (and_right (eqb r.a q.a) (eqb r.b q.b) m) in
    λ i. record { kind = k i; a = a i; b = b i }
