-- The index: a row stored behind n rows and named where its walk ends is in it, and what a walk finds is the place of find-or-append. Assumes nothing.
use Prim.Native.Nat.{ℕ, zero, suc, ◌+◌, ◌-◌, ◌*◌, ◌/◌, ◌%◌, ◌≤◌, ◌<◌}
use native.Mathlib.Nat.{not-suc-le-zero, mul-lt-mul_of_pos_right}
use native.Mathlib.Omega.{arith}
use native.Mathlib.Decide.{ℕ_discrete}
use mathlib.Core.Path.{◌≡◌, refl, sym, ap, ◌∙◌}
use mathlib.Core.Bool.{Bool, true, false, true≢false}
use mathlib.Core.List.{List, [], ◌∷◌, ◌++◌}
use lib.ListN.{length, get_or, set, length-set}
use lib.Seq.{get_or-set_same, get_or-set_other}
use Rattle.task.specs.Bounded.{upto}
use Rattle.task.specs.Table.{Row, row_at}
use Rattle.task.specs.Rules.{no_row}
use Rattle.normal_form.specs.Builder.{place, same_row, start}
use Rattle.normal_form.proofs.Growth.{same_row_itself}
use Rattle.normal_form.proofs.Place.{same_row_alike}
use Rattle.formula_builder.specs.Inner.Index.{key_of, head_of, head_word, link_word, Leads, here, onward, Comes, Reached, Trees, Indexed, Searchable, Found, three, appended, Empty, FirstTwo}
use Rattle.formula_builder.proofs.Found.{row_found, row_none}
use Rattle.formula_builder.proofs.Stored.{length_three, three_other, three_before, three_at, upto_same, upto_more}

-- the hash times the heads' number; and a head
pub hash_small : (most key : ℕ) → 0 < most → key * 2654435769 % 4294967296 * (4 * most) < 4294967296 * (4 * most)
hash_small most key h = mul-lt-mul_of_pos_right (omega arith) (omega arith)

head_small : (most key : ℕ) → 0 < most → head_of most key < 4 * most
unfolding head_of
head_small most key h = omega (arith, hash_small most key h)

-- an empty table
none_indexed : {most : ℕ} {t : List ℕ} → Empty most t → Indexed most 0 t
none_indexed {most} e =
    record {
      trees =
          record {
            within = λ w i _ q. absurd (omega (arith, e.blank w));
            later = λ i b j _ _ q. absurd (omega (arith, e.blank (3 * most + 2 * i + b)));
          };
      reached = λ i k. absurd (not-suc-le-zero k);
      apart = λ i j _ k. absurd (not-suc-le-zero k);
    }

pub searchable :
    {most n : ℕ} {t : List ℕ} → 0 < most → most ≤ 4096 → 9 * most ≤ length t → n ≤ most → Indexed most n t → Searchable most t
searchable some limit room few x =
    record {
      some = some;
      limit = limit;
      room = room;
      trees = record { within = λ w i h q. omega (arith, x.trees.within w i h q); later = x.trees.later };
    }

-- a walk in the index stays there, and comes to a head or to a link of one of the n rows
module _ {most n : ℕ} {t : List ℕ} (x : Trees most n t) (p : ℕ) where
  leads_low : (w bits : ℕ) → Leads most t p w bits → 3 * most ≤ w → 3 * most ≤ p
  leads_low w bits (here _ _ e) h = omega arith
  leads_low w bits (onward _ _ i e l) h = leads_low (link_word most i bits) (bits / 2) l (omega arith)

  leads_own :
      (w bits : ℕ)
      → Leads most t p w bits
      → 3 * most ≤ w
      → (w < 5 * most → w < 3 * most + 2 * n)
      → p < 5 * most
      → p < 3 * most + 2 * n
  leads_own w bits (here _ _ e) h own k = omega (arith, own (omega arith))
  leads_own w bits (onward _ _ i e l) h own k =
      leads_own (link_word most i bits) (bits / 2) l (omega arith) (λ _. omega (arith, x.within w i h e)) k

-- Row r stored behind n rows, and named by word p, where its walk ended.
module _ (most n : ℕ) (t : List ℕ) (r : Row) (p : ℕ) (few : n < most) (room : 9 * most ≤ length t) (f : Found most t r p) where
  pub length_appended : length (appended t n r p) ≡ length t
  length_appended = length-set (three t n r) p (n + 1) ∙ length_three t n r

  row_kept : (k : ℕ) → k ≤ n → row_at (appended t n r p) k ≡ row_at (three t n r) k
  unfolding row_at
  row_kept k h =
      λ i.
      record {
        kind = get_or-set_other (three t n r) p (3 * k) (n + 1) 0 (omega (arith, f.low)) i;
        a = get_or-set_other (three t n r) p (3 * k + 1) (n + 1) 0 (omega (arith, f.low)) i;
        b = get_or-set_other (three t n r) p (3 * k + 2) (n + 1) 0 (omega (arith, f.low)) i;
      }

  pub before : (k : ℕ) → k < n → row_at (appended t n r p) k ≡ row_at t k
  before k h = row_kept k (omega arith) ∙ three_before t n r k h

  at_end : row_at (appended t n r p) n ≡ r
  at_end = row_kept n (omega arith) ∙ three_at t n r (omega arith)

  pub appended_rows : upto (n + 1) (row_at (appended t n r p)) ≡ upto n (row_at t) ++ (r ∷ [])
  appended_rows =
      upto_more n (row_at (appended t n r p))
      ∙ rw (upto_same n (row_at (appended t n r p)) (row_at t) before, at_end)

  -- the words of the index
  own : get_or (appended t n r p) p 0 ≡ n + 1
  own = get_or-set_same (three t n r) p (n + 1) 0 (omega (arith, f.high, length_three t n r))

  pub other : (w : ℕ) → 3 * most ≤ w → (w ≡ p → ⊥) → get_or (appended t n r p) w 0 ≡ get_or t w 0
  other w h d =
      get_or-set_other (three t n r) p w (n + 1) 0 d
      ∙ three_other t n r w (omega arith) (omega arith) (omega arith)

  module _ (free : get_or t p 0 ≡ 0) where
    -- a word that named a row names it still
    still : (w i : ℕ) → 3 * most ≤ w → get_or t w 0 ≡ suc i → get_or (appended t n r p) w 0 ≡ suc i
    still w i h e = other w h (λ q. let same : get_or t w 0 ≡ 0 = ap (λ (v : ℕ). get_or t v 0) q ∙ free in omega arith) ∙ e

    leads_still : (q w bits : ℕ) → 3 * most ≤ w → Leads most t q w bits → Leads most (appended t n r p) q w bits
    leads_still q w bits h (here _ _ e) = here w bits e
    leads_still q w bits h (onward _ _ i e l) =
        onward w bits i (still w i h e) (leads_still q (link_word most i bits) (bits / 2) (omega arith) l)

    module _ (x : Indexed most n t) where
      its-trees : Trees most (n + 1) (appended t n r p)
      its-trees =
          record {
            within = λ w i h e. within w i h e (ℕ_discrete w p);
            later = λ i b j h k e. later i b j h k e (ℕ_discrete (3 * most + 2 * i + b) p);
          }
        where
          within : (w i : ℕ) → 3 * most ≤ w → get_or (appended t n r p) w 0 ≡ suc i → Dec (w ≡ p) → i < n + 1
          within w i h e (yes q) = omega (arith, sym e ∙ ap (λ (v : ℕ). get_or (appended t n r p) v 0) q ∙ own)
          within w i h e (no d) = omega (arith, x.trees.within w i h (sym (other w h d) ∙ e))

          later :
              (i b j : ℕ)
              → i < most
              → b < 2
              → get_or (appended t n r p) (3 * most + 2 * i + b) 0 ≡ suc j
              → Dec (3 * most + 2 * i + b ≡ p)
              → i < j
          later i b j h k e (yes q) =
              let last = sym e ∙ ap (λ (v : ℕ). get_or (appended t n r p) v 0) q ∙ own in
              let mine = leads_own x.trees p (head_word most r) (key_of r) f.leads (omega arith) (λ z. absurd (omega arith)) (omega arith) in
              omega (arith, last, mine)
          later i b j h k e (no d) = x.trees.later i b j h k (sym (other (3 * most + 2 * i + b) (omega arith) d) ∙ e)

      its-reached : (i : ℕ) → i < n + 1 → Reached most (appended t n r p) i
      its-reached i k = go (ℕ_discrete i n)
        where
          go : Dec (i ≡ n) → Reached most (appended t n r p) i
          go (yes e) =
              rw (e, at_end)
              (record {
                word = p;
                leads = leads_still p (head_word most r) (key_of r) (omega arith) f.leads;
                names = omega (arith, own);
              })
          go (no e) =
              let old = x.reached i (omega arith) in
              rw (before i (omega arith))
              (record {
                word = old.word;
                leads = leads_still old.word (head_word most (row_at t i)) (key_of (row_at t i)) (omega arith) old.leads;
                names =
                    still old.word i
                    (leads_low x.trees old.word (head_word most (row_at t i)) (key_of (row_at t i)) old.leads (omega arith))
                    old.names;
              })

      its-apart : (i j : ℕ) → i < j → j < n + 1 → row_at (appended t n r p) i ≡ row_at (appended t n r p) j → ⊥
      its-apart i j h k same = go (ℕ_discrete j n)
        where
          go : Dec (j ≡ n) → ⊥
          go (yes e) =
              f.missing free i (x.reached i (omega arith))
              (sym (before i (omega arith)) ∙ same ∙ ap (row_at (appended t n r p)) e ∙ at_end)
          go (no e) =
              x.apart i j h (omega arith) (sym (before i (omega arith)) ∙ same ∙ before j (omega arith))

      pub appended-indexed : Indexed most (n + 1) (appended t n r p)
      appended-indexed = record { trees = its-trees; reached = its-reached; apart = its-apart }

-- A word behind the index, set to name one of the n rows: rows and index are as they were.
module _ {most n : ℕ} {t : List ℕ} (x : Indexed most n t) (some : 0 < most) (few : n ≤ most) (p k : ℕ) (far : 9 * most ≤ p) where
  aside : (w : ℕ) → w < 9 * most → get_or (set t p (k + 1)) w 0 ≡ get_or t w 0
  aside w h = get_or-set_other t p w (k + 1) 0 (omega arith)

  pub row_aside : (i : ℕ) → i < n → row_at (set t p (k + 1)) i ≡ row_at t i
  unfolding row_at
  row_aside i h =
      λ j.
      record {
        kind = aside (3 * i) (omega arith) j;
        a = aside (3 * i + 1) (omega arith) j;
        b = aside (3 * i + 2) (omega arith) j;
      }

  leads_high : (q w bits : ℕ) → 3 * most ≤ w → w < 9 * most → Leads most t q w bits → q < 9 * most
  leads_high q w bits l h (here _ _ e) = omega arith
  leads_high q w bits l h (onward _ _ i e m) =
      let below = x.trees.within w i l e in
      leads_high q (link_word most i bits) (bits / 2) (omega arith) (omega arith) m

  leads_aside : (q w bits : ℕ) → 3 * most ≤ w → w < 9 * most → Leads most t q w bits → Leads most (set t p (k + 1)) q w bits
  leads_aside q w bits l h (here _ _ e) = here w bits e
  leads_aside q w bits l h (onward _ _ i e m) =
      let below = x.trees.within w i l e in
      onward w bits i (aside w h ∙ e) (leads_aside q (link_word most i bits) (bits / 2) (omega arith) (omega arith) m)

  module _ (room : p < length t) (stands : k < n) where
    aside_reached : (i : ℕ) → i < n → Reached most (set t p (k + 1)) i
    aside_reached i h =
        let old = x.reached i h in
        let low = head_small most (key_of (row_at t i)) some in
        rw (row_aside i h)
        (record {
          word = old.word;
          leads = leads_aside old.word (head_word most (row_at t i)) (key_of (row_at t i)) (omega arith) (omega arith) old.leads;
          names =
              aside old.word
              (leads_high old.word (head_word most (row_at t i)) (key_of (row_at t i)) (omega arith) (omega arith) old.leads)
              ∙ old.names;
        })

    pub aside_indexed : Indexed most n (set t p (k + 1))
    aside_indexed =
        record {
          trees =
              record {
                within = λ w i h e. within w i h e (ℕ_discrete w p);
                later = λ i b j h l e. x.trees.later i b j h l (sym (aside (3 * most + 2 * i + b) (omega arith)) ∙ e);
              };
          reached = aside_reached;
          apart = λ i j h l e.
              x.apart i j h l (sym (row_aside i (omega arith)) ∙ e ∙ row_aside j (omega arith));
        }
      where
        within : (w i : ℕ) → 3 * most ≤ w → get_or (set t p (k + 1)) w 0 ≡ suc i → Dec (w ≡ p) → i < n
        within w i h e (yes q) =
            omega (arith, sym e ∙ ap (λ (v : ℕ). get_or (set t p (k + 1)) v 0) q ∙ get_or-set_same t p (k + 1) 0 room)
        within w i h e (no d) = x.trees.within w i h (sym (get_or-set_other t p w (k + 1) 0 d) ∙ e)

-- The walk for r is at word p, which names s, with these bits left: what it comes to from there, it comes to from the head, and a row that is r
-- and is reached is still ahead.
pub record Walks (most : ℕ) (t : List ℕ) (r : Row) (p bits s : ℕ) : Type 0 where
  pub low : 3 * most ≤ p
  pub high : p < 9 * most
  pub names : get_or t p 0 ≡ s
  pub leads : (q : ℕ) → Leads most t q p bits → Leads most t q (head_word most r) (key_of r)
  pub ahead : (i : ℕ) → Reached most t i → row_at t i ≡ r → Comes most t p bits i

-- how many rows may follow one that is named so
unfoldable pub remaining : ℕ → ℕ → ℕ
remaining most zero = 0
remaining most (suc i) = most - i

-- where the walk stands is where it comes to, or it goes on
comes_split :
    {most : ℕ} {t : List ℕ} {w bits s i : ℕ}
    → get_or t w 0 ≡ s
    → (s ≡ suc i → ⊥)
    → Comes most t w bits i
    → (P : Type 0)
    → ((j : ℕ) → s ≡ suc j → Comes most t (link_word most j bits) (bits / 2) i → P)
    → P
comes_split {most} {t} {w} {bits} {s} {i} e d c P goes = go c.leads
  where
    go : Leads most t c.word w bits → P
    go (here _ _ q) = absurd (d (sym e ∙ ap (λ (v : ℕ). get_or t v 0) q ∙ c.names))
    go (onward _ _ j q l) = goes j (sym e ∙ q) (record { word = c.word; leads = l; names = c.names })

module _ (most : ℕ) (t : List ℕ) (r : Row) (x : Searchable most t) where
  pub walk_begins : Walks most t r (head_word most r) (key_of r) (get_or t (head_word most r) 0)
  walk_begins =
      record {
        low = omega arith;
        high = omega (arith, head_small most (key_of r) x.some);
        names = refl;
        leads = λ q l. l;
        ahead = λ i c e. rw e at c;
      }

  module _ {p bits s : ℕ} (w : Walks most t r p bits s) where
    module _ {i : ℕ} (at : s ≡ suc i) where
      pub walk-below : i < most
      walk-below = x.trees.within p i w.low (w.names ∙ at)

      pub walk-less : remaining most (get_or t (link_word most i bits) 0) < remaining most s
      walk-less = rw at (go (get_or t (link_word most i bits) 0) refl)
        where
          go : (k : ℕ) → get_or t (link_word most i bits) 0 ≡ k → remaining most k < remaining most (suc i)
          go zero e = unfold remaining in omega (arith, walk-below)
          go (suc j) e =
              let after = x.trees.later i (bits % 2) j walk-below (omega arith) e in
              unfold remaining in omega (arith, after, walk-below)

      pub walk-goes-on :
          same_row (row_at t i) r ≡ false → Walks most t r (link_word most i bits) (bits / 2) (get_or t (link_word most i bits) 0)
      walk-goes-on differs =
          record {
            low = omega arith;
            high = omega (arith, walk-below);
            names = refl;
            leads = λ q l. w.leads q (onward p bits i (w.names ∙ at) l);
            ahead = λ j c e.
                comes_split w.names (not-it j e) (w.ahead j c e) (Comes most t (link_word most i bits) (bits / 2) j)
                (λ k q l. let same : k ≡ i = omega (arith, q) in rw same at l);
          }
        where
          not-it : (j : ℕ) → row_at t j ≡ r → s ≡ suc j → ⊥
          not-it j e q =
              let same : i ≡ j = omega (arith, q) in
              true≢false (sym (same_row_itself r) ∙ ap (λ (k : Row). same_row k r) (sym e ∙ ap (row_at t) (sym same)) ∙ differs)

      pub walk-finds : same_row (row_at t i) r ≡ true → Found most t r p
      walk-finds e =
          record {
            low = w.low;
            high = w.high;
            leads = w.leads p (here p bits refl);
            stands = λ j q. let same : j ≡ i = omega (arith, w.names) in ap (row_at t) same ∙ same_row_alike (row_at t i) r e;
            missing = λ q. absurd (omega (arith, w.names));
          }

    pub walk_ends : s ≡ 0 → Found most t r p
    walk_ends e =
        record {
          low = w.low;
          high = w.high;
          leads = w.leads p (here p bits refl);
          stands = λ j q. absurd (omega (arith, w.names));
          missing = λ q i c same. comes_split w.names (λ k. omega arith) (w.ahead i c same) ⊥ (λ j k _. omega arith);
        }

-- A row that stands is at the place of find-or-append.
pub stands_place :
    {most n : ℕ} {t : List ℕ} (x : Indexed most n t) (r : Row) (i : ℕ)
    → i < n
    → row_at t i ≡ r
    → i ≡ place same_row r (upto n (row_at t))
stands_place {most} {n} {t} x r i below e =
    row_found r no_row n (row_at t) i below (λ j h. first j h (same_row (row_at t j) r) refl)
    (ap (λ (k : Row). same_row k r) e ∙ same_row_itself r)
  where
    first : (j : ℕ) → j < i → (b : Bool) → same_row (row_at t j) r ≡ b → same_row (row_at t j) r ≡ false
    first j h false q = q
    first j h true q = absurd (x.apart j i h below (same_row_alike (row_at t j) r q ∙ sym e))

-- What is found stands; what is not found has its place behind the rows.
module _ {most n : ℕ} {t : List ℕ} {r : Row} {p : ℕ} (x : Indexed most n t) (f : Found most t r p) where
  pub found_below : (i : ℕ) → get_or t p 0 ≡ suc i → i < n
  found_below i e = x.trees.within p i f.low e

  pub missing_place : get_or t p 0 ≡ 0 → n ≡ place same_row r (upto n (row_at t))
  missing_place e = row_none r no_row n (row_at t) (λ j h. none j h (same_row (row_at t j) r) refl)
    where
      none : (j : ℕ) → j < n → (b : Bool) → same_row (row_at t j) r ≡ b → same_row (row_at t j) r ≡ false
      none j h false q = q
      none j h true q = absurd (f.missing e j (x.reached j h) (same_row_alike (row_at t j) r q))

-- The first two rows, in an empty table.
abbrev pub false_row : Row
false_row = record { kind = 0; a = 0; b = 0 }

abbrev pub true_row : Row
true_row = record { kind = 1; a = 0; b = 0 }

module _ {most : ℕ} {t : List ℕ} (e : Empty most t) where
  pub first_searchable : Searchable most t
  first_searchable =
      let two = e.two in
      searchable (omega arith) e.limit e.room (omega arith) (none_indexed e)

  module _ {p : ℕ} (f : Found most t false_row p) where
    few : 0 < most
    few = omega (arith, e.two)

    one_room : 9 * most ≤ length (appended t 0 false_row p)
    one_room = omega (arith, e.room, length_appended most 0 t false_row p few e.room f)

    one_indexed : Indexed most 1 (appended t 0 false_row p)
    one_indexed = appended-indexed most 0 t false_row p few e.room f (e.blank p) (none_indexed e)

    pub second_searchable : Searchable most (appended t 0 false_row p)
    second_searchable = searchable few e.limit one_room few one_indexed

    module _ {q : ℕ} (g : Found most (appended t 0 false_row p) true_row q) where
      -- the only row is not the second
      free : get_or (appended t 0 false_row p) q 0 ≡ 0
      free = go (get_or (appended t 0 false_row p) q 0) refl
        where
          go : (s : ℕ) → get_or (appended t 0 false_row p) q 0 ≡ s → s ≡ 0
          go zero d = refl
          go (suc i) d =
              let first : i ≡ 0 = omega (arith, found_below one_indexed g i d) in
              let both = sym (at_end most 0 t false_row p few e.room f) ∙ ap (row_at (appended t 0 false_row p)) (sym first) ∙ g.stands i d in
              let same : ◌≡◌ {A = ℕ} 0 1 = ap (λ (r : Row). r.kind) both in
              absurd (omega arith)

      pub first_two : FirstTwo most t (appended (appended t 0 false_row p) 1 true_row q)
      first_two =
          record {
            long =
                length_appended most 1 (appended t 0 false_row p) true_row q e.two one_room g
                ∙ length_appended most 0 t false_row p few e.room f;
            rows = stand;
            index = appended-indexed most 1 (appended t 0 false_row p) true_row q e.two one_room g free one_indexed;
            past = λ j h.
                other most 1 (appended t 0 false_row p) true_row q e.two one_room g j (omega arith) (omega (arith, g.high))
                ∙ other most 0 t false_row p few e.room f j (omega arith) (omega (arith, f.high))
                ∙ e.blank j;
          }
        where
          none : upto 0 (row_at t) ++ (false_row ∷ []) ≡ false_row ∷ []
          none = unfold upto in refl

          stand : upto 2 (row_at (appended (appended t 0 false_row p) 1 true_row q)) ≡ start.rows
          stand =
              unfold start in
              (appended_rows most 1 (appended t 0 false_row p) true_row q e.two one_room g
              ∙ ap (λ (l : List Row). l ++ (true_row ∷ [])) (appended_rows most 0 t false_row p few e.room f ∙ none))
