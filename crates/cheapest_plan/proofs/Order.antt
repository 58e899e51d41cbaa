-- Laws of 02's order of plans: it is total and transitive, no list comes before itself, and it is kept by one more number behind both.
-- Assumes nothing.
use Prim.Native.Nat.{ℕ, zero, suc, ◌+◌, ◌<◌}
use native.Mathlib.Nat.{lt_trans}
use native.Mathlib.Omega.{arith}
use native.Mathlib.Decide.{dec_lt}
use mathlib.Core.Path.{◌≡◌, refl, sym, ap, ◌∙◌}
use mathlib.Core.List.{List, [], ◌∷◌, ◌++◌}
use lib.ListN.{length, length-append}
use Rattle.cheapest_plan.specs.Order.{FirstByNumbers, differ, agree, Before, cheaper, shorter, earlier}
use Rattle.cheapest_plan.specs.Inner.Search.{NoLater, equal, before}

-- which of two stands first
pub data Compared (same first second : Type 0) : Type 0 where
  sooner : first → Compared same first second
  alike : same → Compared same first second
  later : second → Compared same first second

pub by_numbers_length : {p q : List ℕ} → FirstByNumbers p q → length p ≡ length q
by_numbers_length (differ l e) = ap suc e
by_numbers_length (agree e f) = ap suc (by_numbers_length f)

pub by_numbers_irreflexive : {p : List ℕ} → FirstByNumbers p p → ⊥
by_numbers_irreflexive (differ l e) = omega arith
by_numbers_irreflexive (agree e f) = by_numbers_irreflexive f

pub by_numbers_transitive : {p q r : List ℕ} → FirstByNumbers p q → FirstByNumbers q r → FirstByNumbers p r
by_numbers_transitive (differ l e) (differ m f) = differ (lt_trans l m) (e ∙ f)
by_numbers_transitive (differ l e) (agree m f) = differ (rw m at l) (e ∙ by_numbers_length f)
by_numbers_transitive (agree l e) (differ m f) = differ (rw (← l) at m) (by_numbers_length e ∙ f)
by_numbers_transitive (agree l e) (agree m f) = agree (l ∙ m) (by_numbers_transitive e f)

-- two lists of one length: one comes first by its numbers, or they are the same
pub by_numbers_total :
    (p q : List ℕ) → length p ≡ length q → Compared (p ≡ q) (FirstByNumbers p q) (FirstByNumbers q p)
by_numbers_total [] [] e = alike refl
by_numbers_total [] (b ∷ q) e = absurd (omega arith)
by_numbers_total (a ∷ p) [] e = absurd (omega arith)
by_numbers_total (a ∷ p) (b ∷ q) e =
    let rest : length p ≡ length q = omega arith in
    go rest (dec_lt a b) (dec_lt b a) (by_numbers_total p q rest)
  where
    go :
        length p ≡ length q
        → Dec (a < b)
        → Dec (b < a)
        → Compared (p ≡ q) (FirstByNumbers p q) (FirstByNumbers q p)
        → Compared (a ∷ p ≡ b ∷ q) (FirstByNumbers (a ∷ p) (b ∷ q)) (FirstByNumbers (b ∷ q) (a ∷ p))
    go r (yes l) m s = sooner (differ l r)
    go r (no l) (yes m) s = later (differ m (sym r))
    go r (no l) (no m) (sooner f) = let x : a ≡ b = omega arith in sooner (agree x f)
    go r (no l) (no m) (later f) = let x : b ≡ a = omega arith in later (agree x f)
    go r (no l) (no m) (alike f) = let x : a ≡ b = omega arith in alike (cc)

-- one more number behind both; behind the same list the numbers decide
pub by_numbers_behind :
    {p q : List ℕ} → FirstByNumbers p q → (a b : ℕ) → FirstByNumbers (p ++ (a ∷ [])) (q ++ (b ∷ []))
by_numbers_behind (differ {p = p} {q = q} l e) a b =
    let lengths : length (p ++ (a ∷ [])) ≡ length (q ++ (b ∷ [])) =
    omega (arith, length-append p (a ∷ []), length-append q (b ∷ [])) in
    differ l lengths
by_numbers_behind (agree e f) a b = agree e (by_numbers_behind f a b)

pub by_numbers_last : (p : List ℕ) {a b : ℕ} → a < b → FirstByNumbers (p ++ (a ∷ [])) (p ++ (b ∷ []))
by_numbers_last [] l = differ l refl
by_numbers_last (o ∷ p) l = agree refl (by_numbers_last p l)

-- The order itself.
pub before_irreflexive : {c : ℕ} {p : List ℕ} → Before c p c p → ⊥
before_irreflexive (cheaper l) = omega arith
before_irreflexive (shorter e l) = omega arith
before_irreflexive (earlier e f) = by_numbers_irreflexive f

pub before_transitive :
    {c d e : ℕ} {p q r : List ℕ} → Before c p d q → Before d q e r → Before c p e r
before_transitive (cheaper l) (cheaper m) = cheaper (lt_trans l m)
before_transitive (cheaper l) (shorter e m) = cheaper (rw e at l)
before_transitive (cheaper l) (earlier e m) = cheaper (rw e at l)
before_transitive (shorter e l) (cheaper m) = cheaper (rw (← e) at m)
before_transitive (shorter e l) (shorter f m) = shorter (e ∙ f) (lt_trans l m)
before_transitive (shorter e l) (earlier f m) = shorter (e ∙ f) (rw (by_numbers_length m) at l)
before_transitive (earlier e l) (cheaper m) = cheaper (rw (← e) at m)
before_transitive (earlier e l) (shorter f m) = shorter (e ∙ f) (rw (← by_numbers_length l) at m)
before_transitive (earlier e l) (earlier f m) = earlier (e ∙ f) (by_numbers_transitive l m)

pub before_total :
    (c : ℕ) (p : List ℕ) (d : ℕ) (q : List ℕ)
    → Compared ((c ≡ d) × (p ≡ q)) (Before c p d q) (Before d q c p)
before_total c p d q = costs (dec_lt c d) (dec_lt d c)
  where
    numbers :
        c ≡ d
        → Compared (p ≡ q) (FirstByNumbers p q) (FirstByNumbers q p)
        → Compared ((c ≡ d) × (p ≡ q)) (Before c p d q) (Before d q c p)
    numbers e (sooner f) = sooner (earlier e f)
    numbers e (alike f) = alike (e, f)
    numbers e (later f) = later (earlier (sym e) f)

    lengths :
        c ≡ d
        → Dec (length p < length q)
        → Dec (length q < length p)
        → Compared ((c ≡ d) × (p ≡ q)) (Before c p d q) (Before d q c p)
    lengths e (yes l) m = sooner (shorter e l)
    lengths e (no l) (yes m) = later (shorter (sym e) m)
    lengths e (no l) (no m) = numbers e (by_numbers_total p q (omega arith))

    costs : Dec (c < d) → Dec (d < c) → Compared ((c ≡ d) × (p ≡ q)) (Before c p d q) (Before d q c p)
    costs (yes l) m = sooner (cheaper l)
    costs (no l) (yes m) = later (cheaper m)
    costs (no l) (no m) = lengths (omega arith) (dec_lt (length p) (length q)) (dec_lt (length q) (length p))

-- kept by one more number behind both, charged the same: lists that lead to the same state are charged the same for it
pub before_behind :
    {c d : ℕ} {p q : List ℕ} → Before c p d q → (o e : ℕ) → Before (c + e) (p ++ (o ∷ [])) (d + e) (q ++ (o ∷ []))
before_behind (cheaper l) o e = cheaper (omega arith)
before_behind {p = p} {q = q} (shorter x l) o e =
    shorter (omega arith) (omega (arith, length-append p (o ∷ []), length-append q (o ∷ [])))
before_behind (earlier x l) o e = earlier (omega arith) (by_numbers_behind l o o)

-- a list comes before itself with one more number behind it, whatever that is charged
pub before_longer : (c e : ℕ) (p : List ℕ) (o : ℕ) → Before c p (c + e) (p ++ (o ∷ []))
before_longer c zero p o = shorter (omega arith) (omega (arith, length-append p (o ∷ [])))
before_longer c (suc e) p o = cheaper (omega arith)

-- no later than
pub no_later_transitive :
    {c d e : ℕ} {p q r : List ℕ} → NoLater c p d q → NoLater d q e r → NoLater c p e r
no_later_transitive (equal x y) (equal z w) = equal (x ∙ z) (y ∙ w)
no_later_transitive (equal x y) (before z) = before (rw (x, y) z)
no_later_transitive (before z) (equal x y) = before (rw (← x, ← y) z)
no_later_transitive (before x) (before y) = before (before_transitive x y)

pub no_later_not_before : {c d : ℕ} {p q : List ℕ} → NoLater c p d q → Before d q c p → ⊥
no_later_not_before (equal x y) b = before_irreflexive (rw (x, y) at b)
no_later_not_before (before a) b = before_irreflexive (before_transitive a b)
