-- Laws of lists by their last steps: two lists of one length are walked back until they have the same front, and the steps there decide. Assumes
-- nothing.
use Prim.Native.Nat.{ℕ, ◌+◌, ◌-◌, ◌*◌, ◌/◌, ◌≤◌, ◌<◌}
use native.Mathlib.Omega.{arith}
use native.Mathlib.Decide.{dec_lt, ℕ_discrete}
use mathlib.Core.Path.{◌≡◌, refl, ap, ◌∙◌}
use mathlib.Core.Logic.{◌⊎◌, inl, inr}
use Rattle.std.specs.Prelude.{Option, Some, None}
use mathlib.Core.Bool.{Bool, true, false, cond}
use mathlib.Core.List.{List, [], ◌∷◌, ◌++◌}
use lib.Dec.{ltb}
use lib.ListN.{length, get_or, set, replicate, length-append, length-set, length-replicate, get_or-replicate}
use lib.Seq.{get_or-set_same, get_or-set_other}
use borrow.Author.Tests.{lt-ltb, le-ltb}
use Rattle.cheapest_plan.specs.Order.{FirstByNumbers}
use Rattle.cheapest_plan.specs.Inner.States.{state_of}
use Rattle.cheapest_plan.specs.Inner.Search.{Status, taken, stands}
use Rattle.cheapest_plan.specs.Inner.Tables.{Ends, at_start, by_step, Says, says_taken, Holds, Comparable, Compares, Verdict, comes_first, not_first, Noted, Pairs}
use Rattle.cheapest_plan.proofs.Order.{Compared, sooner, alike, later, by_numbers_irreflexive, by_numbers_transitive, by_numbers_total, by_numbers_behind, by_numbers_last}
use Rattle.cheapest_plan.proofs.Search.{has_one}

-- the last number decides only behind the same list
pub not_last : (p : List ℕ) {a b : ℕ} → b ≤ a → FirstByNumbers (p ++ (a ∷ [])) (p ++ (b ∷ [])) → ⊥
not_last p {a} {b} le f = go (dec_lt b a)
  where
    go : Dec (b < a) → ⊥
    go (yes l) = by_numbers_irreflexive (by_numbers_transitive f (by_numbers_last p l))
    go (no l) =
        let same : a ≡ b = omega arith in
        by_numbers_irreflexive (rw same at f)

pub front_decides :
    (p q : List ℕ) (a b : ℕ)
    → length p ≡ length q
    → FirstByNumbers (p ++ (a ∷ [])) (q ++ (b ∷ []))
    → FirstByNumbers p q ⊎ (p ≡ q)
front_decides p q a b e f = go (by_numbers_total p q e)
  where
    go : Compared (p ≡ q) (FirstByNumbers p q) (FirstByNumbers q p) → FirstByNumbers p q ⊎ (p ≡ q)
    go (sooner g) = inl g
    go (alike g) = inr g
    go (later g) = absurd (by_numbers_irreflexive (by_numbers_transitive f (by_numbers_behind g b a)))

-- the words of a state that was taken
pub record TakenSays (v n : ℕ) (status : List ℕ → Status) (words : List ℕ) (s : ℕ) (p : List ℕ) : Type 0 where
  pub word : get_or words s 0 ≡ 0
  pub steps : get_or words (n + s) 0 ≡ length p
  pub ends : Ends v n status p (get_or words (2 * n + s) 0)

taken_from :
    {v n : ℕ} {status : List ℕ → Status} {words : List ℕ} {s : ℕ} {p : List ℕ} {c : ℕ}
    → Says v n status words s (taken p c)
    → TakenSays v n status words s p
taken_from (says_taken w l e) = record { word = w; steps = l; ends = e }

pub taken_says :
    {v n : ℕ} {status : List ℕ → Status} {words : List ℕ}
    → Holds v n status words
    → (s : ℕ) (p : List ℕ) (c : ℕ)
    → s < n
    → status (state_of v s) ≡ taken p c
    → TakenSays v n status words s p
taken_says holds s p c l e = taken_from (rw e at (holds.at s l))

-- how many steps a list has that ends with step x
unfoldable pub steps_to : List ℕ → ℕ → ℕ → ℕ
steps_to words n x = cond (ltb x 256) 0 (get_or words (n + (x / 256 - 1)) 0 + 1)

pub ends_steps :
    {v n : ℕ} {status : List ℕ → Status} {words : List ℕ}
    → Holds v n status words
    → (p : List ℕ) (x : ℕ)
    → Ends v n status p x
    → steps_to words n x ≡ length p
unfolding steps_to
ends_steps holds p x (at_start e z) = rw (e, z) refl
ends_steps {n = n} {words = words} holds p x (by_step parent o front c l m is z e) =
    let long : 256 ≤ x = omega arith in
    let place : x / 256 - 1 ≡ parent = omega arith in
    rw (le-ltb x 256 long, place, e)
    (omega (arith, (taken_says holds parent front c l is).steps, length-append front (o ∷ [])))

-- what is decided of two lists is decided of them with one number more
pub behind :
    (p q : List ℕ) (o u : ℕ)
    → length p ≡ length q
    → (p ≡ q → ⊥)
    → (r : Bool)
    → Verdict p q r
    → Verdict (p ++ (o ∷ [])) (q ++ (u ∷ [])) r
behind p q o u e ne true (comes_first f) = comes_first (by_numbers_behind f o u)
behind p q o u e ne false (not_first f) = not_first (λ g. go (front_decides p q o u e g))
  where
    go : FirstByNumbers p q ⊎ (p ≡ q) → ⊥
    go (inl g) = f g
    go (inr g) = ne g

module _ {n : ℕ} {words : List ℕ} {x₀ y₀ : ℕ} (h : Comparable n words x₀ y₀) where
  -- the loop: what is found of these steps is found of the lists
  pub record Parted (x y : ℕ) : Type 0 where
    pub p : List ℕ
    pub q : List ℕ
    pub p_ends : Ends h.v n h.status p x
    pub q_ends : Ends h.v n h.status q y
    pub same : length p ≡ length q
    pub back : (r : Bool) → Verdict p q r → Verdict h.first h.second r

  pub parted_begin : Parted x₀ y₀
  parted_begin =
      record {
        p = h.first;
        q = h.second;
        p_ends = h.first_ends;
        q_ends = h.second_ends;
        same = h.alike;
        back = λ r w. w;
      }

  -- both lists have a last number, behind lists of different states
  pub record Apart (x y : ℕ) : Type 0 where
    pub a : ℕ
    pub b : ℕ
    pub a_state : a < n
    pub b_state : b < n
    pub a_is : x / 256 ≡ a + 1
    pub b_is : y / 256 ≡ b + 1
    pub p : List ℕ
    pub q : List ℕ
    pub a_says : TakenSays h.v n h.status words a p
    pub b_says : TakenSays h.v n h.status words b q
    pub longer : steps_to words n x ≡ length p + 1
    pub same : length p ≡ length q
    pub back : (r : Bool) → Verdict p q r → Verdict h.first h.second r

  pub apart : {x y : ℕ} → Parted x y → (x / 256 ≡ y / 256 → ⊥) → Apart x y
  apart {x} {y} w ne = go w.p_ends w.q_ends
    where
      go : Ends h.v n h.status w.p x → Ends h.v n h.status w.q y → Apart x y
      go (at_start e z) (at_start f k) = absurd (ne (rw (z, k) refl))
      go (at_start e z) (by_step b u q d l m is k f) =
          absurd (let sum = w.same in omega (arith, ap length e, ap length f, length-append q (u ∷ [])))
      go (by_step a o p c l m is z e) (at_start f k) =
          absurd (let sum = w.same in omega (arith, ap length e, ap length f, length-append p (o ∷ [])))
      go (by_step a o p c l m is z e) (by_step b u q d l' m' is' k f) =
          let size : length p ≡ length q =
          omega (arith, w.same, ap length e, ap length f, length-append p (o ∷ []), length-append q (u ∷ [])) in
          let other : p ≡ q → ⊥ =
          λ g. ne (let place = h.alone a b p c d l l' is (is' ∙ rw g) in omega arith) in
          record {
            a = a;
            b = b;
            a_state = l;
            b_state = l';
            a_is = omega arith;
            b_is = omega arith;
            p = p;
            q = q;
            a_says = taken_says h.holds a p c l is;
            b_says = taken_says h.holds b q d l' is';
            longer = omega (arith, ends_steps h.holds w.p x w.p_ends, ap length e, length-append p (o ∷ []));
            same = size;
            back = λ r g. w.back r (rw (e, f) (behind p q o u size other r g));
          }

  -- one turn of the loop
  module _ {x y a b : ℕ} (w : Apart x y) (a_is : a ≡ x / 256 - 1) (b_is : b ≡ y / 256 - 1) where
    pub a_below : a < n
    a_below = omega (arith, w.a_is, w.a_state)

    pub b_below : b < n
    b_below = omega (arith, w.b_is, w.b_state)

    a_ends : Ends h.v n h.status w.p (get_or words (2 * n + a) 0)
    a_ends =
        let same : a ≡ w.a = omega (arith, w.a_is) in
        rw same w.a_says.ends

    b_ends : Ends h.v n h.status w.q (get_or words (2 * n + b) 0)
    b_ends =
        let same : b ≡ w.b = omega (arith, w.b_is) in
        rw same w.b_says.ends

    pub parted_on : Parted (get_or words (2 * n + a) 0) (get_or words (2 * n + b) 0)
    parted_on =
        record { p = w.p; q = w.q; p_ends = a_ends; q_ends = b_ends; same = w.same; back = w.back }

    pub parted_less : steps_to words n (get_or words (2 * n + a) 0) < steps_to words n x
    parted_less = omega (arith, w.longer, ends_steps h.holds w.p (get_or words (2 * n + a) 0) a_ends)

  -- the fronts are the same
  pub parted_end : {x y : ℕ} → Parted x y → x / 256 ≡ y / 256 → Verdict h.first h.second (ltb x y)
  parted_end {x} {y} w e = w.back (ltb x y) (go w.p_ends w.q_ends (dec_lt x y))
    where
      go : Ends h.v n h.status w.p x → Ends h.v n h.status w.q y → Dec (x < y) → Verdict w.p w.q (ltb x y)
      go (at_start f z) (at_start g k) d =
          rw (f, g, z, k) (not_first by_numbers_irreflexive)
      go (at_start f z) (by_step b u q c l m is k g) d = absurd (omega arith)
      go (by_step a o p c l m is z f) (at_start g k) d = absurd (omega arith)
      go (by_step a o p c l m is z f) (by_step b u q c' l' m' is' k g) d =
          let place : a ≡ b = omega arith in
          let one : p ≡ q = cc in
          rw (f, g, ← one) (last o u (λ l. omega arith) (λ l. omega arith) p d)
        where
          last :
              (o u : ℕ)
              → (x < y → o < u)
              → (y ≤ x → u ≤ o)
              → (p : List ℕ)
              → Dec (x < y)
              → Verdict (p ++ (o ∷ [])) (p ++ (u ∷ [])) (ltb x y)
          last o u up down p (yes l) = rw (lt-ltb x y l) (comes_first (by_numbers_last p (up l)))
          last o u up down p (no l) =
              let le : y ≤ x = omega arith in
              rw (le-ltb x y le) (not_first (not_last p (down le)))

-- What is noted of comparisons.
abbrev pub own_note : (k a : ℕ) → List (Option Bool)
own_note k a = set (replicate k None) a (Some false)

pub noted_own :
    {v n : ℕ} {status : List ℕ → Status} {p : List ℕ} {c : ℕ} (k a : ℕ)
    → n ≤ k
    → a < n
    → status (state_of v a) ≡ taken p c
    → Noted v n status p (own_note k a)
noted_own {v} {n} {status} {p} {c} k a room there own =
    record {
      room = simp (length-set, length-replicate) room;
      told = λ b q d r l some is size. go b q d r l some is (ℕ_discrete b a);
    }
  where
    go :
        (b : ℕ) (q : List ℕ) (d : ℕ) (r : Bool)
        → b < n
        → get_or (own_note k a) b None ≡ Some r
        → status (state_of v b) ≡ taken q d
        → Dec (b ≡ a)
        → Verdict p q r
    go b q d r l some is (yes e) =
        let one = (has_one (stands own) (stands (rw e at is))).0 in
        let kept : get_or (own_note k a) a None ≡ Some false =
        get_or-set_same (replicate {A = Option Bool} k None) a (Some false) None (simp length-replicate (omega arith)) in
        let told : r ≡ false = let found = rw e at some in cc in
        rw (told, ← one) (not_first by_numbers_irreflexive)
    go b q d r l some is (no e) =
        let none : get_or (own_note k a) b None ≡ None =
        get_or-set_other (replicate {A = Option Bool} k None) a b (Some false) None e ∙ get_or-replicate {A = Option Bool} k b None None (omega arith) in
        absurd cc

module _ {n : ℕ} {words : List ℕ} {a b : ℕ} {notes : List (Option Bool)} (h : Pairs n words a b notes) where
  -- it was noted before
  pub noted_before : {r : Bool} → get_or notes b None ≡ Some r → Verdict h.p h.q r
  noted_before {r} some = h.noted.told b h.q h.d r h.b_there some h.b_is h.alike

  unfoldable pub pair_comparable : Comparable n words (get_or words (2 * n + a) 0) (get_or words (2 * n + b) 0)
  pair_comparable =
      record {
        v = h.v;
        status = h.status;
        holds = h.holds;
        alone = h.alone;
        first = h.p;
        second = h.q;
        first_ends = (taken_says h.holds a h.p h.c h.a_there h.a_is).ends;
        second_ends = (taken_says h.holds b h.q h.d h.b_there h.b_is).ends;
        alike = h.alike;
      }

  pub pair_verdict : {r : Bool} → Compares n words (get_or words (2 * n + a) 0) (get_or words (2 * n + b) 0) r → Verdict h.p h.q r
  unfolding pair_comparable
  pair_verdict c = c.told pair_comparable

  -- it is noted now
  pub noted_now : (r : Bool) → Verdict h.p h.q r → Noted h.v n h.status h.p (set notes b (Some r))
  noted_now r found =
      record {
        room = rw (length-set notes b (Some r)) h.noted.room;
        told = λ x q d t l some is size. go x q d t l some is size (ℕ_discrete x b);
      }
    where
      go :
          (x : ℕ) (q : List ℕ) (d : ℕ) (t : Bool)
          → x < n
          → get_or (set notes b (Some r)) x None ≡ Some t
          → h.status (state_of h.v x) ≡ taken q d
          → length h.p ≡ length q
          → Dec (x ≡ b)
          → Verdict h.p q t
      go x q d t l some is size (yes e) =
          let one = (has_one (stands h.b_is) (stands (rw e at is))).0 in
          let kept : get_or (set notes b (Some r)) b None ≡ Some r =
          get_or-set_same notes b (Some r) None (omega (arith, h.b_there, h.noted.room)) in
          let told : t ≡ r = let found = rw e at some in cc in
          rw (told, ← one) found
      go x q d t l some is size (no e) =
          let kept : get_or (set notes b (Some r)) x None ≡ get_or notes x None = get_or-set_other notes b x (Some r) None e in
          h.noted.told x q d t l (rw kept at some) is size
