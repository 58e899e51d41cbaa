-- Laws of `every`, `upto` and `first_number`: what a loop over the numbers below a bound needs. Assumes nothing.
use Prim.Native.Nat.{ℕ, zero, suc, ◌+◌, ◌<◌, ◌≤◌}
use native.Mathlib.Nat.{not-suc-le-zero, suc-ne-zero}
use native.Mathlib.Numerals.{add-one}
use native.Mathlib.Omega.{arith}
use mathlib.Core.Path.{◌≡◌, refl, sym, ap, ◌∙◌}
use mathlib.Core.Bool.{Bool, true, false, ◌&&◌, false≢true}
use mathlib.Core.List.{List, [], ◌∷◌, ◌++◌}
use native.Mathlib.Decide.{dec_lt}
use lib.ListN.{length, get_or, take, length-append, get_or-append}
use lib.Seq.{get_or_at, get_or-take, length-take-le}
use Rattle.task.specs.Bounded.{every, upto, or_else, first_number}

-- the two halves of a conjunction
pub and_left : (a b : Bool) → (a && b) ≡ true → a ≡ true
and_left true b e = refl
and_left false b e = e

pub and_right : (a b : Bool) → (a && b) ≡ true → b ≡ true
and_right true b e = e
and_right false b e = absurd (false≢true e)

pub and_both : {a b : Bool} → a ≡ true → b ≡ true → (a && b) ≡ true
and_both {a} {b} p q = rw (p, q)

-- a number below n + 1 is below n, or n
below_suc : (k n : ℕ) (P : Type 0) → k < suc n → (k < n → P) → (k ≡ n → P) → P
below_suc k n P h less same = go (dec_lt k n)
  where
    go : Dec (k < n) → P
    go (yes l) = less l
    go (no m) = same (omega arith)

pub every_none : (test : ℕ → Bool) → every 0 test ≡ true
unfolding every
every_none test = refl

-- one more, for a loop that counts by `+ 1`
pub every_more : (n : ℕ) (test : ℕ → Bool) → every n test ≡ true → test n ≡ true → every (n + 1) test ≡ true
unfolding every
every_more n test p q = rw (add-one n) (and_both p q)

pub every_at : (n : ℕ) (test : ℕ → Bool) → every n test ≡ true → (k : ℕ) → k < n → test k ≡ true
unfolding every
every_at zero test e k h = absurd (not-suc-le-zero h)
every_at (suc n) test e k h =
    below_suc k n (test k ≡ true) h (every_at n test (and_left (every n test) (test n) e) k)
    (λ q. rw q (and_right (every n test) (test n) e))

pub every_from : (n : ℕ) (test : ℕ → Bool) → ((k : ℕ) → k < n → test k ≡ true) → every n test ≡ true
unfolding every
every_from zero test h = refl
every_from (suc n) test h = and_both (every_from n test (λ k l. h k (omega arith))) (h n (omega arith))

-- one that fails, fails all
pub every_fails : (n : ℕ) (test : ℕ → Bool) (k : ℕ) → k < n → test k ≡ false → every n test ≡ false
every_fails n test k h e = go (every n test) refl
  where
    go : (b : Bool) → every n test ≡ b → every n test ≡ false
    go false p = p
    go true p = absurd (false≢true (sym e ∙ every_at n test p k h))

-- tests that agree on each number below n
pub every_same : (n : ℕ) (f g : ℕ → Bool) → ((j : ℕ) → j < n → f j ≡ g j) → every n f ≡ every n g
unfolding every
every_same zero f g h = refl
every_same (suc n) f g h = rw (every_same n f g (λ j l. h j (omega arith)), h n (omega arith))

-- a test of each number of the part 0 .. n of a list
pub every_first :
    (test : ℕ → Bool) (n : ℕ) (l : List ℕ)
    → n ≤ length l
    → every (length (take n l)) (λ v. test (get_or (take n l) v 0)) ≡ every n (λ v. test (get_or l v 0))
every_first test n l h =
    rw (length-take-le n l h)
    (every_same n (λ (v : ℕ). test (get_or (take n l) v 0)) (λ (v : ℕ). test (get_or l v 0)) (λ j b. ap test (get_or-take n l j 0 b)))

-- how a loop leaves: at a number that fails, or at the bound
pub every_stops : (n : ℕ) (test : ℕ → Bool) (k : ℕ) → k < n → test k ≡ false → false ≡ every n test
every_stops n test k h e = sym (every_fails n test k h e)

pub every_ends : (n : ℕ) (test : ℕ → Bool) (k : ℕ) → k ≤ n → n ≤ k → every k test ≡ true → true ≡ every n test
every_ends n test k p q e =
    let same : k ≡ n = omega arith in
    sym (rw same at e)

-- the first number that is not 0
first_left : (a b : ℕ) → or_else a b ≡ 0 → a ≡ 0
unfolding or_else
first_left zero b e = refl
first_left (suc a) b e = e

first_right : (a b : ℕ) → or_else a b ≡ 0 → b ≡ 0
unfolding or_else
first_right zero b e = e
first_right (suc a) b e = absurd (suc-ne-zero a e)

first_given : (a b : ℕ) → (a ≡ 0 → ⊥) → or_else a b ≡ a
unfolding or_else
first_given zero b some = absurd (some refl)
first_given (suc a) b some = refl

pub first_none : (f : ℕ → ℕ) → first_number 0 f ≡ 0
unfolding first_number
first_none f = refl

pub first_more : (n : ℕ) (f : ℕ → ℕ) → first_number n f ≡ 0 → f n ≡ 0 → first_number (n + 1) f ≡ 0
unfolding first_number or_else
first_more n f p q = rw (add-one n, p) q

pub first_at : (n : ℕ) (f : ℕ → ℕ) → first_number n f ≡ 0 → (k : ℕ) → k < n → f k ≡ 0
unfolding first_number
first_at zero f e k h = absurd (not-suc-le-zero h)
first_at (suc n) f e k h =
    below_suc k n (f k ≡ 0) h (first_at n f (first_left (first_number n f) (f n) e) k)
    (λ q. rw q (first_right (first_number n f) (f n) e))

pub first_from : (n : ℕ) (f : ℕ → ℕ) → ((k : ℕ) → k < n → f k ≡ 0) → first_number n f ≡ 0
unfolding first_number or_else
first_from zero f h = refl
first_from (suc n) f h = rw (first_from n f (λ k l. h k (omega arith))) (h n (omega arith))

-- where a loop leaves: at a number that is not 0, or at the bound
pub first_stops :
    (n : ℕ) (f : ℕ → ℕ) (k number : ℕ) → first_number k f ≡ 0 → k < n → f k ≡ number → (number ≡ 0 → ⊥) → number ≡ first_number n f
unfolding first_number or_else
first_stops zero f k number e h at some = absurd (not-suc-le-zero h)
first_stops (suc n) f k number e h at some =
    below_suc k n (number ≡ first_number (suc n) f) h
    (λ l.
    let before = first_stops n f k number e l at some in
    before ∙ sym (first_given (first_number n f) (f n) (λ z. some (before ∙ z))))
    (λ q.
    let none : first_number n f ≡ 0 = rw q at e in
    let here : f n ≡ number = rw q at at in
    sym (rw none here))

pub first_ends : (n : ℕ) (f : ℕ → ℕ) (k : ℕ) → k ≤ n → n ≤ k → first_number k f ≡ 0 → 0 ≡ first_number n f
first_ends n f k p q e =
    let same : k ≡ n = omega arith in
    sym (rw same at e)

module _ {A : Type 0} where
  pub length_upto : (n : ℕ) (f : ℕ → A) → length (upto n f) ≡ n
  unfolding upto
  length_upto zero f = refl
  length_upto (suc n) f = length-append (upto n f) (f n ∷ []) ∙ rw (length_upto n f) (add-one n)

  pub getD_upto : (n : ℕ) (f : ℕ → A) (k : ℕ) (d : A) → k < n → get_or (upto n f) k d ≡ f k
  unfolding upto
  getD_upto zero f k d h = absurd (not-suc-le-zero h)
  getD_upto (suc n) f k d h =
      below_suc k n (get_or (upto n f ++ (f n ∷ [])) k d ≡ f k) h
      (λ l. get_or-append (upto n f) (f n ∷ []) d k (rw (length_upto n f) l) ∙ getD_upto n f k d l)
      (λ q. get_or_at (upto n f) (f n) [] d k (length_upto n f ∙ sym q) ∙ ap f (sym q))
