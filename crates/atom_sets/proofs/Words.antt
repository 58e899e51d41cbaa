-- Words of bits: what a union lacks, a word of one bit, and words that are written one after the other, or four at once. Assumes nothing.
use Prim.Native.Nat.{ℕ, ◌+◌, ◌-◌, ◌*◌, ◌/◌, ◌%◌, ◌^◌, ◌≤◌, ◌<◌, max}
use native.Mathlib.Omega.{arith}
use native.Mathlib.Decide.{dec_lt}
use native.Mathlib.Nat.{one-mul}
use mathlib.Core.Path.{◌≡◌, refl, sym, ap, ap₂, ◌∙◌}
use mathlib.Core.List.{List}
use lib.Bits.{bit_or, or_shr, or_step}
use lib.Pow.{shl_exact, shl-shr}
use lib.ListN.{length, get_or, set, length-set}
use lib.Seq.{get_or-set_same, get_or-set_other}
use Rattle.atom_sets.specs.Inner.Finds.{united, copied, Room, Written}

lowest : (o p q r : ℕ) → o ≡ r * 2 + max (p % 2) (q % 2) → o % 2 ≡ 0 → (p % 2 ≡ 0) × (q % 2 ≡ 0)
lowest o p q r e h = (omega arith, omega arith)

-- a bit that a union lacks, both lack
pub or_lacks : (x y k : ℕ) → bit_or x y / 2 ^ k % 2 ≡ 0 → (x / 2 ^ k % 2 ≡ 0) × (y / 2 ^ k % 2 ≡ 0)
or_lacks x y k h =
    lowest (bit_or x y / 2 ^ k) (x / 2 ^ k) (y / 2 ^ k) (bit_or (x / 2 ^ k / 2) (y / 2 ^ k / 2))
    (or_shr x y k ∙ or_step (x / 2 ^ k) (y / 2 ^ k))
    h

-- the code's shift of 1 by k bits
pub one_shifted : (k : ℕ) → k < 16 → 1 * 2 ^ k % 65536 ≡ 2 ^ k
one_shifted k h = shl_exact {a = 1} 1 k 16 (omega arith) (omega arith) ∙ one-mul (2 ^ k)

-- a word of bit k alone does not lack it
pub one_stands : (k : ℕ) → 2 ^ k / 2 ^ k % 2 ≡ 0 → ⊥
one_stands k h =
    let e : 2 ^ k / 2 ^ k ≡ 1 = ap (λ (x : ℕ). x / 2 ^ k) (sym (one-mul (2 ^ k))) ∙ shl-shr 1 k in
    omega arith

pub written_none : (i : ℕ) (word : ℕ → ℕ) (notes : List ℕ) → Written 0 i word notes notes
written_none i word notes =
    record { here = λ k h. absurd (omega arith); ahead = λ j h. refl; behind = λ j h. refl }

-- one word more
written_more :
    {k i to : ℕ} {word : ℕ → ℕ} {before notes : List ℕ} (x : ℕ)
    → to ≡ i + k
    → to < length notes
    → x ≡ word k
    → Written k i word before notes
    → Written (k + 1) i word before (set notes to x)
written_more {k} {i} {to} {word} {before} {notes} x p room e w =
    record {
      here = λ j h. go j h (dec_lt j k);
      ahead = λ j h. get_or-set_other notes to j x 0 (λ z. omega arith) ∙ w.ahead j h;
      behind = λ j h. get_or-set_other notes to j x 0 (λ z. omega arith) ∙ w.behind j (omega arith);
    }
  where
    go : (j : ℕ) → j < k + 1 → Dec (j < k) → get_or (set notes to x) (i + j) 0 ≡ word j
    go j h (yes l) = get_or-set_other notes to (i + j) x 0 (λ z. omega arith) ∙ w.here j l
    go j h (no l) =
        let q : j ≡ k = omega arith in
        rw (q, ← p) (get_or-set_same notes to x 0 room ∙ e)

-- four words
written_four :
    {i : ℕ} {word : ℕ → ℕ} {before : List ℕ} (p q r s : ℕ)
    → i + 4 ≤ length before
    → p ≡ word 0
    → q ≡ word 1
    → r ≡ word 2
    → s ≡ word 3
    → Written 4 i word before (set (set (set (set before i p) (i + 1) q) (i + 2) r) (i + 3) s)
written_four {i} {word} {before} p q r s room a b c d =
    written_more s (omega arith) (simp length-set (omega arith)) d
    (written_more r (omega arith) (simp length-set (omega arith)) c
    (written_more q (omega arith) (simp length-set (omega arith)) b
    (written_more p (omega arith) (omega arith) a (written_none i word before))))

-- four words more
written_on :
    {k i : ℕ} {word four : ℕ → ℕ} {before notes after : List ℕ}
    → ((j : ℕ) → j < 4 → four j ≡ word (k + j))
    → Written k i word before notes
    → Written 4 (i + k) four notes after
    → Written (k + 4) i word before after
written_on {k} {i} {word} {four} {before} {notes} {after} e w f =
    record {
      here = λ j h. go j h (dec_lt j k);
      ahead = λ j h. f.ahead j (omega arith) ∙ w.ahead j h;
      behind = λ j h. f.behind j (omega arith) ∙ w.behind j (omega arith);
    }
  where
    go : (j : ℕ) → j < k + 4 → Dec (j < k) → get_or after (i + j) 0 ≡ word j
    go j h (yes l) = f.ahead (i + j) (omega arith) ∙ w.here j l
    go j h (no l) =
        let p : i + j ≡ i + k + (j - k) = omega arith in
        let q : k + (j - k) ≡ j = omega arith in
        ap (λ x. get_or after x 0) p ∙ f.here (j - k) (omega arith) ∙ e (j - k) (omega arith) ∙ ap word q

-- all words
pub written_all :
    {k n i : ℕ} {word : ℕ → ℕ} {before notes : List ℕ}
    → k ≤ n
    → n ≤ k
    → Written k i word before notes
    → Written n i word before notes
written_all h g w =
    record {
      here = λ j l. w.here j (omega arith);
      ahead = w.ahead;
      behind = λ j l. w.behind j (omega arith);
    }

-- the word at a is the first of those from a on
at_first : (a : ℕ) (notes : List ℕ) → get_or notes a 0 ≡ get_or notes (a + 0) 0
at_first a notes =
    let e : a ≡ a + 0 = omega arith in
    ap (λ x. get_or notes x 0) e

-- Four words of a union, and of a copy.
module _ {a i : ℕ} {before : List ℕ} (s : Room 4 a i before) where
  pub united_four :
      (b : ℕ)
      → Written 4 i (united before a b) before
      (set
      (set
      (set (set before i (bit_or (get_or before a 0) (get_or before b 0))) (i + 1) (bit_or (get_or before (a + 1) 0) (get_or before (b + 1) 0)))
      (i + 2)
      (bit_or (get_or before (a + 2) 0) (get_or before (b + 2) 0)))
      (i + 3)
      (bit_or (get_or before (a + 3) 0) (get_or before (b + 3) 0)))
  unfolding united
  united_four b = written_four _ _ _ _ s.room (ap₂ bit_or (at_first a before) (at_first b before)) refl refl refl

  pub copied_four :
      Written 4 i (copied before a) before
      (set (set (set (set before i (get_or before a 0)) (i + 1) (get_or before (a + 1) 0)) (i + 2) (get_or before (a + 2) 0)) (i + 3) (get_or before (a + 3) 0))
  unfolding copied
  copied_four = written_four _ _ _ _ s.room (at_first a before) refl refl refl

-- The next four words of n, from word k on.
module _ {n a i : ℕ} {before notes : List ℕ} (k : ℕ) (s : Room n a i before) (h : k + 4 ≤ n) where
  pub room_four : length notes ≡ length before → Room 4 (a + k) (i + k) notes
  room_four long = record { apart = omega (arith, s.apart); room = omega (arith, s.room) }

  -- those that are read are as they were
  as_before : {word : ℕ → ℕ} (j : ℕ) → j < 4 → Written k i word before notes → get_or notes (a + k + j) 0 ≡ get_or before (a + (k + j)) 0
  as_before j l w =
      let e : a + k + j ≡ a + (k + j) = omega arith in
      w.ahead (a + k + j) (omega (arith, s.apart)) ∙ ap (λ x. get_or before x 0) e

  pub copied_more :
      {after : List ℕ}
      → Written k i (copied before a) before notes
      → Written 4 (i + k) (copied notes (a + k)) notes after
      → Written (k + 4) i (copied before a) before after
  unfolding copied
  copied_more w f = written_on (λ j l. as_before j l w) w f

pub united_more :
    {n a b i k : ℕ} {before notes after : List ℕ}
    → Room n a i before
    → Room n b i before
    → k + 4 ≤ n
    → Written k i (united before a b) before notes
    → Written 4 (i + k) (united notes (a + k) (b + k)) notes after
    → Written (k + 4) i (united before a b) before after
unfolding united
united_more {k = k} s t h w f = written_on (λ j l. ap₂ bit_or (as_before k s h j l w) (as_before k t h j l w)) w f
