-- What a search from the front finds is the place of find-or-append. Assumes nothing.
use Prim.Native.Nat.{ℕ, suc, ◌≤◌, ◌<◌}
use native.Mathlib.Nat.{not-suc-le-zero}
use native.Mathlib.Omega.{arith}
use mathlib.Core.Path.{◌≡◌, refl, sym, ap, ◌∙◌}
use mathlib.Core.Bool.{Bool, true, false, cond, ◌&&◌}
use mathlib.Core.List.{List, [], ◌∷◌, ◌++◌}
use lib.ListN.{length, get_or}
use lib.Dec.{eqb}
use borrow.Author.Tests.{eq-eqb, ne_eqb}
use Rattle.task.specs.Bounded.{upto}
use Rattle.task.specs.Table.{Row}
use Rattle.task.proofs.Bounded.{length_upto, getD_upto}
use Rattle.normal_form.specs.Builder.{place, including, same_row}
use Rattle.normal_form.proofs.Place.{place_first, place_none}

module _ {A : Type 0} (same : A → A → Bool) (x : A) where
  pub kept_found : (l : List A) → place same x l < length l → including same x l ≡ l
  unfolding place including
  kept_found [] h = absurd (not-suc-le-zero h)
  kept_found (y ∷ ys) h = go (same y x) h (kept_found ys)
    where
      go :
          (b : Bool)
          → cond b 0 (suc (place same x ys)) < suc (length ys)
          → (place same x ys < length ys → including same x ys ≡ ys)
          → cond b (y ∷ ys) (y ∷ including same x ys) ≡ y ∷ ys
      go true h again = refl
      go false h again = ap {B = List A} (λ l. y ∷ l) (again (omega arith))

  pub kept_none : (l : List A) → length l ≤ place same x l → including same x l ≡ l ++ (x ∷ [])
  unfolding place including
  kept_none [] h = refl
  kept_none (y ∷ ys) h = go (same y x) h (kept_none ys)
    where
      go :
          (b : Bool)
          → suc (length ys) ≤ cond b 0 (suc (place same x ys))
          → (length ys ≤ place same x ys → including same x ys ≡ ys ++ (x ∷ []))
          → cond b (y ∷ ys) (y ∷ including same x ys) ≡ (y ∷ ys) ++ (x ∷ [])
      go true h again = absurd (not-suc-le-zero h)
      go false h again = ap {B = List A} (λ l. y ∷ l) (again (omega arith))

-- A loop that looks at g 0, g 1 .. up to n, which are the elements of l.
module _ {A : Type 0} (same : A → A → Bool) (x d : A) (l : List A) (n : ℕ) (g : ℕ → A) (long : length l ≡ n) (at : (j : ℕ) → j < n → get_or l j d ≡ g j) where
  pub scan_found :
      (i : ℕ) → i < n → ((j : ℕ) → j < i → same (g j) x ≡ false) → same (g i) x ≡ true → i ≡ place same x l
  scan_found i h before e =
      sym
      (place_first same x d l i (omega arith) (λ j k. ap (λ (y : A). same y x) (at j (omega arith)) ∙ before j k)
      (ap (λ (y : A). same y x) (at i h) ∙ e))

  pub scan_none : ((j : ℕ) → j < n → same (g j) x ≡ false) → n ≡ place same x l
  scan_none none =
      sym
      (place_none same x d l (λ j h. ap (λ (y : A). same y x) (at j (omega arith)) ∙ none j (omega arith)) ∙ long)

-- of n rows
module _ (r d : Row) (n : ℕ) (g : ℕ → Row) where
  pub row_found :
      (i : ℕ)
      → i < n
      → ((j : ℕ) → j < i → same_row (g j) r ≡ false)
      → same_row (g i) r ≡ true
      → i ≡ place same_row r (upto n g)
  row_found = scan_found same_row r d (upto n g) n g (length_upto n g) (λ j h. getD_upto n g j d h)

  pub row_none : ((j : ℕ) → j < n → same_row (g j) r ≡ false) → n ≡ place same_row r (upto n g)
  row_none = scan_none same_row r d (upto n g) n g (length_upto n g) (λ j h. getD_upto n g j d h)

-- A row is compared word by word.
module _ (t r : Row) where
  pub other_a : (t.a ≡ r.a → ⊥) → false ≡ same_row t r
  unfolding same_row
  other_a h = go (eqb t.kind r.kind)
    where
      go : (k : Bool) → false ≡ (k && (eqb t.a r.a && eqb t.b r.b))
      go true = rw (ne_eqb t.a r.a h)
      go false = refl

  pub other_b : (t.b ≡ r.b → ⊥) → false ≡ same_row t r
  unfolding same_row
  other_b h = go (eqb t.kind r.kind) (eqb t.a r.a)
    where
      go : (k a : Bool) → false ≡ (k && (a && eqb t.b r.b))
      go true true = rw (ne_eqb t.b r.b h)
      go true false = refl
      go false a = refl

  pub by_kind : t.b ≡ r.b → t.a ≡ r.a → eqb t.kind r.kind ≡ same_row t r
  unfolding same_row
  by_kind f e = rw (eq-eqb t.a r.a e, eq-eqb t.b r.b f) (go (eqb t.kind r.kind))
    where
      go : (k : Bool) → k ≡ (k && true)
      go true = refl
      go false = refl
