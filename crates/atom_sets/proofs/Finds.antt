-- The set of a row by its kind, and one more row in the pass. Assumes nothing.
use Prim.Native.Nat.{ℕ, ◌+◌, ◌*◌, ◌/◌, ◌%◌, ◌^◌, ◌≤◌, ◌<◌}
use native.Mathlib.Omega.{arith}
use native.Mathlib.Decide.{dec_lt}
use mathlib.Core.Path.{◌≡◌, refl, sym, ap, ◌∙◌}
use mathlib.Core.Bool.{Bool, true, false, cond}
use mathlib.Core.List.{List}
use lib.ListN.{length, get_or, set}
use lib.Seq.{get_or-set_same, get_or-set_other}
use borrow.Author.Tests.{eqb-true, eq-eqb}
use Rattle.task.specs.Table.{row_at}
use Rattle.formula_builder.specs.declared.Words.{Words}
use Rattle.formula_builder.specs.declared.Frame.{Frame}
use Rattle.formula_builder.specs.Inner.Held.{row_of}
use Rattle.atom_sets.specs.Inner.Sets.{set_words, set_place, sets_end, atom_bit, lacks, InSet}
use Rattle.atom_sets.specs.Inner.Finds.{set_start, united, copied, Room, Written, Within, FindsSets, FindsSet, SetOf, FoundSet, FoundSets}
use Rattle.atom_sets.proofs.Places.{row_more, place_within, word_within}
use Rattle.atom_sets.proofs.Words.{or_lacks, one_shifted, one_stands}

-- Where sets begin and end.
module _ (frame : Frame) where
  pub start_is : (e s : ℕ) → s ≡ set_words frame → 4 * frame.effects + s * e ≡ set_start frame e
  unfolding set_start
  start_is e s q = rw q

  -- the set of a lower row ends where this one begins, or before
  start_order : (d e : ℕ) → d < e → set_start frame d + set_words frame ≤ set_start frame e
  unfolding set_start
  start_order d e h = omega (arith, row_more (set_words frame) d e h)

  start_next : (e : ℕ) → set_start frame (e + 1) ≡ set_start frame e + set_words frame
  unfolding set_start
  start_next e = omega arith

  start_end : set_start frame frame.effects ≡ sets_end frame
  unfolding set_start sets_end
  start_end = refl

  start_first : (e : ℕ) → 4 * frame.effects ≤ set_start frame e
  unfolding set_start
  start_first e = omega arith

  place_start : (v e : ℕ) → set_place frame v e ≡ set_start frame e + v / 8
  unfolding set_start set_place
  place_start v e = omega arith

  -- the word of an atom, and whether its bit stands
  of_lacks :
      (notes : List ℕ) (clear : Bool) (v e x : ℕ)
      → get_or notes (set_start frame e + v / 8) 0 ≡ x
      → lacks frame notes clear v e ≡ true
      → x / 2 ^ atom_bit clear v % 2 ≡ 0
  unfolding lacks
  of_lacks notes clear v e x q h =
      rw (← q, ← place_start v e) (eqb-true (get_or notes (set_place frame v e) 0 / 2 ^ atom_bit clear v % 2) 0 h)

  lacks_of :
      (notes : List ℕ) (clear : Bool) (v e x : ℕ)
      → get_or notes (set_start frame e + v / 8) 0 ≡ x
      → x / 2 ^ atom_bit clear v % 2 ≡ 0
      → lacks frame notes clear v e ≡ true
  unfolding lacks
  lacks_of notes clear v e x q h =
      rw (place_start v e, q) (eq-eqb (x / 2 ^ atom_bit clear v % 2) 0 h)

-- the code's word of one bit is the definition's
pub put_by :
    (frame : Frame) (notes : List ℕ) (clear : Bool) (v e k bit : ℕ)
    → k ≡ set_place frame v e
    → bit ≡ atom_bit clear v
    → bit < 16
    → set notes k (1 * 2 ^ bit % 65536) ≡ set notes (set_place frame v e) (2 ^ atom_bit clear v)
put_by frame notes clear v e k bit q r h = rw (one_shifted bit h, r, q)

-- the kinds of atoms
atom_kind : (clear : Bool) → (0 < cond clear 2 1) × (cond clear 2 1 < 3)
atom_kind true = (omega arith, omega arith)
atom_kind false = (omega arith, omega arith)

same_kind : (clear other : Bool) → cond {A = ℕ} clear 2 1 ≡ cond other 2 1 → clear ≡ other
same_kind true true e = refl
same_kind true false e = absurd (omega arith)
same_kind false true e = absurd (omega arith)
same_kind false false e = refl

-- Row i with the words w.
module _ {frame : Frame} {effects before : List ℕ} {i : ℕ} (f : FindsSet frame effects before i) (w : Words) (q : row_of w ≡ row_at effects i) where
  kind_is : (row_at effects i).kind ≡ w.kind
  kind_is = ap (λ r. r.kind) (sym q)

  a_is : (row_at effects i).a ≡ w.a
  a_is = ap (λ r. r.a) (sym q)

  b_is : (row_at effects i).b ≡ w.b
  b_is = ap (λ r. r.b) (sym q)

  pub both_lower : w.kind ≡ 3 → (w.a < i) × (w.b < i)
  both_lower k =
      let x = f.finds.both i f.effect (kind_is ∙ k) in
      (omega (arith, x, a_is), omega (arith, x, b_is))

  pub under_lower : w.kind ≡ 4 → w.b < i
  under_lower k = omega (arith, f.finds.under i f.effect (kind_is ∙ k), b_is)

  pub row_within : (e : ℕ) → e ≤ i → Within frame e
  row_within e h = record { variables = f.finds.variables; limit = f.finds.limit; effect = omega (arith, f.effect) }

  pub kind_known : w.kind ≤ 4
  kind_known = omega (arith, f.finds.known i f.effect, kind_is)

  pub atom_within : (clear : Bool) → w.kind ≡ cond clear 2 1 → InSet frame w.a i
  atom_within clear k =
      record {
        variables = f.finds.variables;
        limit = f.finds.limit;
        variable =
            omega (arith, f.finds.atom i f.effect (λ z. omega (arith, kind_is, atom_kind clear)) (omega (arith, kind_is, atom_kind clear)), a_is);
        effect = f.effect;
      }

  -- The set of row i begins at `to`, and takes n words.
  module _ {n to : ℕ} (m : n ≡ set_words frame) (t : to ≡ set_start frame i) where
    -- that of a lower row e begins at a
    pub row_room : {a : ℕ} (e : ℕ) → e < i → a ≡ set_start frame e → Room n a to before
    row_room {a} e h p =
        record {
          apart = omega (arith, start_order frame e i h, m, t, p);
          room = omega (arith, start_order frame i frame.effects f.effect, start_end frame, m, t, f.finds.room);
        }

    -- only row i's set was written
    written_around :
        {word : ℕ → ℕ} {after : List ℕ}
        → Written n to word before after
        → SetOf frame effects after i
        → FoundSet frame effects i before after
    written_around x s =
        record {
          set = s;
          ahead = λ j h. x.ahead j (omega (arith, t));
          behind = λ j h. x.behind j (omega (arith, m, t, start_next frame i));
        }

    -- what a lower row's set lacks now, if it did before
    lower_lacks :
        {word : ℕ → ℕ} {after : List ℕ} (clear : Bool) (v e a : ℕ)
        → v < frame.variables
        → e < i
        → a ≡ set_start frame e
        → Written n to word before after
        → get_or before (a + v / 8) 0 / 2 ^ atom_bit clear v % 2 ≡ 0
        → lacks frame after clear v e ≡ true
    lower_lacks {after = after} clear v e a h l p x z =
        lacks_of frame after clear v e (get_or before (a + v / 8) 0) (rw (← p) (x.ahead (a + v / 8) (omega (arith, start_order frame e i l, word_within frame v h, t, p)))) z

    -- what row i's set lacks
    row_lacks :
        {word : ℕ → ℕ} {after : List ℕ} (clear : Bool) (v : ℕ)
        → v < frame.variables
        → Written n to word before after
        → lacks frame after clear v i ≡ true
        → word (v / 8) / 2 ^ atom_bit clear v % 2 ≡ 0
    row_lacks {word} {after} clear v h x z =
        of_lacks frame after clear v i (word (v / 8)) (rw (← t) (x.here (v / 8) (omega (arith, word_within frame v h, m)))) z

    pub found_both :
        {after : List ℕ} {a b : ℕ}
        → w.kind ≡ 3
        → a ≡ set_start frame w.a
        → b ≡ set_start frame w.b
        → Written n to (united before a b) before after
        → FoundSet frame effects i before after
    unfolding united
    found_both {after} {a} {b} k p r x =
        written_around x
        (record {
          both = λ clear v h _ z.
              let low = both_lower k in
              let y = or_lacks (get_or before (a + v / 8) 0) (get_or before (b + v / 8) 0) (atom_bit clear v) (row_lacks clear v h x z) in (
                rw a_is (lower_lacks clear v w.a a h low.0 p x y.0),
                rw b_is (lower_lacks clear v w.b b h low.1 r x y.1),
              );
          under = λ clear v h z _. absurd (omega (arith, kind_is));
          atom = λ clear z _. omega (arith, kind_is, atom_kind clear);
        })

    pub found_under :
        {after : List ℕ} {b : ℕ}
        → w.kind ≡ 4
        → b ≡ set_start frame w.b
        → Written n to (copied before b) before after
        → FoundSet frame effects i before after
    unfolding copied
    found_under {after} {b} k r x =
        written_around x
        (record {
          both = λ clear v h z _. absurd (omega (arith, kind_is));
          under = λ clear v h _ z.
              rw b_is (lower_lacks clear v w.b b h (under_lower k) r x (row_lacks clear v h x z));
          atom = λ clear z _. omega (arith, kind_is, atom_kind clear);
        })

  pub found_empty : w.kind ≡ 0 → FoundSet frame effects i before before
  found_empty k =
      record {
        set =
            record {
              both = λ clear v h z _. absurd (omega (arith, kind_is));
              under = λ clear v h z _. absurd (omega (arith, kind_is));
              atom = λ clear z _. omega (arith, kind_is, atom_kind clear);
            };
        ahead = λ j h. refl;
        behind = λ j h. refl;
      }

  pub found_atom :
      {after : List ℕ} (clear : Bool)
      → w.kind ≡ cond clear 2 1
      → after ≡ set before (set_place frame w.a i) (2 ^ atom_bit clear w.a)
      → FoundSet frame effects i before after
  found_atom {after} clear k e =
      record {
        set =
            record {
              both = λ other v h z _. absurd (omega (arith, kind_is, atom_kind clear));
              under = λ other v h z _. absurd (omega (arith, kind_is, atom_kind clear));
              atom = λ other z l. stands other (same_kind clear other (sym k ∙ sym kind_is ∙ z)) (rw a_is at l);
            };
        ahead = λ j h. elsewhere j (λ z. omega (arith, place_start frame w.a i));
        behind = λ j h. elsewhere j (λ z. omega (arith, place_start frame w.a i, start_next frame i, word_within frame w.a within.variable));
      }
    where
      within : InSet frame w.a i
      within = atom_within clear k

      elsewhere : (j : ℕ) → (j ≡ set_place frame w.a i → ⊥) → get_or after j 0 ≡ get_or before j 0
      elsewhere j h = rw e (get_or-set_other before (set_place frame w.a i) j (2 ^ atom_bit clear w.a) 0 h)

      stands : (other : Bool) → clear ≡ other → lacks frame after other w.a i ≡ true → ⊥
      stands other same l =
          one_stands (atom_bit other w.a)
          (of_lacks frame after other w.a i (2 ^ atom_bit other w.a)
          (rw (e, ← place_start frame w.a i, same)
          (get_or-set_same before (set_place frame w.a i) (2 ^ atom_bit other w.a) 0 (omega (arith, place_within within, f.finds.room))))
          l)

-- The loop's invariant: the rows below i have their sets.
pub record Finding (frame : Frame) (effects first : List ℕ) (i : ℕ) (notes : List ℕ) : Type 0 where
  pub bound : i ≤ frame.effects
  pub ahead : (j : ℕ) → j < 4 * frame.effects → get_or notes j 0 ≡ get_or first j 0
  pub behind : (j : ℕ) → sets_end frame ≤ j → get_or notes j 0 ≡ get_or first j 0
  pub found : (d : ℕ) → d < i → SetOf frame effects notes d

pub finding_none : (frame : Frame) (effects notes : List ℕ) → Finding frame effects notes 0 notes
finding_none frame effects notes =
    record { bound = omega arith; ahead = λ j h. refl; behind = λ j h. refl; found = λ d h. absurd (omega arith) }

pub finding_asks :
    {frame : Frame} {effects first notes : List ℕ} {i : ℕ}
    → FindsSets frame effects first
    → length notes ≡ length first
    → i < frame.effects
    → FindsSet frame effects notes i
finding_asks a long h =
    record {
      finds =
          record {
            words = a.words;
            limit = a.limit;
            variables = a.variables;
            room = omega (arith, a.room);
            both = a.both;
            under = a.under;
            atom = a.atom;
            known = a.known;
          };
      effect = h;
    }

-- what is written for row i leaves the sets of the rows below
same_lacks :
    {frame : Frame} {effects notes after : List ℕ} {i : ℕ} (clear : Bool) (v e : ℕ)
    → v < frame.variables
    → e < i
    → FoundSet frame effects i notes after
    → lacks frame after clear v e ≡ lacks frame notes clear v e
unfolding lacks
same_lacks {frame} {i = i} clear v e h l o =
    rw (o.ahead (set_place frame v e) (omega (arith, place_start frame v e, word_within frame v h, start_order frame e i l)))

pub finding_more :
    {frame : Frame} {effects first notes after : List ℕ} {i : ℕ}
    → FindsSets frame effects first
    → i < frame.effects
    → Finding frame effects first i notes
    → FoundSet frame effects i notes after
    → Finding frame effects first (i + 1) after
finding_more {frame} {effects} {first} {notes} {after} {i} a h x o =
    record {
      bound = omega arith;
      ahead = λ j l. o.ahead j (omega (arith, start_first frame i)) ∙ x.ahead j l;
      behind = λ j l. o.behind j (omega (arith, start_next frame i, start_order frame i frame.effects h, start_end frame)) ∙ x.behind j l;
      found = λ d l. go d l (dec_lt d i);
    }
  where
    keep : (clear : Bool) (v e : ℕ) → v < frame.variables → e < i → lacks frame notes clear v e ≡ true → lacks frame after clear v e ≡ true
    keep clear v e b l z = same_lacks clear v e b l o ∙ z

    back : (clear : Bool) (v e : ℕ) → v < frame.variables → e < i → lacks frame after clear v e ≡ true → lacks frame notes clear v e ≡ true
    back clear v e b l z = sym (same_lacks clear v e b l o) ∙ z

    lower : (d : ℕ) → d < i → SetOf frame effects notes d → SetOf frame effects after d
    lower d l s =
        record {
          both = λ clear v b k z.
              let low = a.both d (omega arith) k in
              let y = s.both clear v b k (back clear v d b l z) in (
                keep clear v (row_at effects d).a b (omega (arith, low)) y.0,
                keep clear v (row_at effects d).b b (omega (arith, low)) y.1,
              );
          under = λ clear v b k z.
              keep clear v (row_at effects d).b b (omega (arith, a.under d (omega arith) k)) (s.under clear v b k (back clear v d b l z));
          atom = λ clear k z.
              let low = a.atom d (omega arith) (λ y. omega (arith, atom_kind clear)) (omega (arith, atom_kind clear)) in
              s.atom clear k (back clear (row_at effects d).a d low l z);
        }

    go : (d : ℕ) → d < i + 1 → Dec (d < i) → SetOf frame effects after d
    go d b (yes l) = lower d l (x.found d l)
    go d b (no l) =
        let e : d ≡ i = omega arith in
        rw e o.set

-- all rows have theirs
pub finding_all :
    {frame : Frame} {effects first notes : List ℕ} {i : ℕ}
    → FindsSets frame effects first
    → length notes ≡ length first
    → Finding frame effects first i notes
    → frame.effects ≤ i
    → FoundSets frame effects first notes
finding_all a long x h =
    record {
      sets =
          record {
            words = omega (arith, a.room);
            both = λ clear v i b l. (x.found i (omega arith)).both clear v b;
            under = λ clear v i b l. (x.found i (omega arith)).under clear v b;
            atom = λ clear i l. (x.found i (omega arith)).atom clear;
          };
      ahead = x.ahead;
      behind = x.behind;
    }
