-- Columns stay apart while rows get the next ones; what is behind them stays. Assumes nothing.
use Prim.Native.Nat.{ℕ, ◌+◌, ◌-◌, ◌*◌, ◌≤◌, ◌<◌}
use native.Mathlib.Omega.{arith}
use native.Mathlib.Decide.{ℕ_discrete}
use mathlib.Core.Path.{◌≡◌, refl, sym, ap, ◌∙◌}
use mathlib.Core.List.{List, ◌++◌}
use lib.ListN.{length, take, drop, get_or, set, replicate, length-replicate, length-append, length-drop, get_or-append}
use lib.Seq.{get_or-set_same, get_or-set_other, length-take-le, get_or-append_right}
use Rattle.std.proofs.lemmas.List.{get_or-replicate, get_or-drop}
use Rattle.task.specs.Table.{operator_at}
use Rattle.normal_form.specs.Builder.{St}
use Rattle.formula_builder.specs.declared.Frame.{Frame}
use Rattle.atom_sets.specs.Inner.Sets.{sets_end}
use Rattle.atom_sets.proofs.Places.{sets_behind}
use Rattle.conditions.specs.declared.Target.{Target}
use Rattle.conditions.specs.Inner.Conditions.{column, part, width, kept_place, Noted}
use Rattle.conditions.proofs.Notes.{sets_stay, joins_stay}
use Rattle.effect_batches.specs.Inner.Firsts.{Roots, Names}
use Rattle.effect_batches.specs.Inner.Numbers.{Numbers, Numbered, NamesRow, NamesBelow, NamesRoots, Room, Renumbered, Forgets, Forgot, Lists, BeginsBatch}
use Rattle.effect_batches.proofs.Firsts.{row_kept}

-- Rows get the next columns.
pub numbered_none : (n most last : ℕ) (notes : List ℕ) → Numbered n most last notes notes last
numbered_none n most last notes = record { numbers = λ n. n; once = omega arith; behind = λ j h. refl }

pub numbered_next :
    (n : ℕ) {last e : ℕ} {notes : List ℕ}
    → e < length notes
    → e < n
    → Numbered n 1 last notes (set notes e (last + 1)) (last + 1)
unfolding column
numbered_next n {last} {e} {notes} there effect =
    record {
      numbers = λ x.
          record {
            within = λ d h. most x d h (ℕ_discrete d e);
            apart = λ c d g h p q. same x c d g h p q (ℕ_discrete c e) (ℕ_discrete d e);
          };
      once = omega arith;
      behind = λ j h. get_or-set_other notes e j (last + 1) 0 (λ q. omega (arith, q));
    }
  where
    here : get_or (set notes e (last + 1)) e 0 ≡ last + 1
    here = get_or-set_same notes e (last + 1) 0 there

    other : (d : ℕ) → (d ≡ e → ⊥) → get_or (set notes e (last + 1)) d 0 ≡ get_or notes d 0
    other d q = get_or-set_other notes e d (last + 1) 0 q

    most : Numbers n notes last → (d : ℕ) → d < n → Dec (d ≡ e) → get_or (set notes e (last + 1)) d 0 ≤ last + 1
    most x d h (yes q) = rw (q, here) (omega arith)
    most x d h (no q) = omega (arith, other d q, x.within d h)

    same :
        Numbers n notes last
        → (c d : ℕ)
        → c < n
        → d < n
        → 0 < get_or (set notes e (last + 1)) d 0
        → get_or (set notes e (last + 1)) c 0 ≡ get_or (set notes e (last + 1)) d 0
        → Dec (c ≡ e)
        → Dec (d ≡ e)
        → c ≡ d
    same x c d g h p q (yes z) (yes y) = z ∙ sym y
    same x c d g h p q (yes z) (no y) =
        absurd (omega (arith, rw z at q, here, other d y, x.within d h))
    same x c d g h p q (no z) (yes y) =
        absurd (omega (arith, rw y at q, here, other c z, x.within c g))
    same x c d g h p q (no z) (no y) =
        x.apart c d g h (rw (other d y) at p) (sym (other c z) ∙ q ∙ other d y)

-- one pass after another
pub numbered_then :
    {rows m n more last mid r : ℕ} {a b c : List ℕ}
    → m + n ≤ more
    → Numbered rows m last a b mid
    → Numbered rows n mid b c r
    → Numbered rows more last a c r
numbered_then few x y =
    record {
      numbers = λ n. y.numbers (x.numbers n);
      once = omega (arith, x.once, y.once);
      behind = λ j h. y.behind j h ∙ x.behind j h;
    }

pub numbered_more : {rows m more last r : ℕ} {a b : List ℕ} → m ≤ more → Numbered rows m last a b r → Numbered rows more last a b r
numbered_more few x = record { numbers = x.numbers; once = omega (arith, x.once); behind = x.behind }

-- all anew: the columns are cleared, so none has one
pub cleared_front :
    (notes : List ℕ) {n : ℕ} {front : List ℕ}
    → n ≤ length notes
    → front ≡ replicate (length (take n notes)) 0
    → (length (front ++ drop n notes) ≡ length notes) × Renumbered n notes (front ++ drop n notes) 0
unfolding column
cleared_front notes {n} {front} room zeros = (
  long,
  record {
    numbers =
        record {
          within = λ e h. omega (arith, none e h);
          apart = λ d e g h c q. absurd (omega (arith, none e h, c));
        };
    behind = behind;
  },
)
  where
    short : length front ≡ n
    short = ap length zeros ∙ length-replicate (length (take n notes)) 0 ∙ length-take-le n notes room

    long : length (front ++ drop n notes) ≡ length notes
    long = omega (arith, length-append front (drop n notes), length-drop n notes, short)

    none : (e : ℕ) → e < n → get_or (front ++ drop n notes) e 0 ≡ 0
    none e h =
        get_or-append front (drop n notes) 0 e (omega (arith, short))
        ∙ rw zeros (get_or-replicate (length (take n notes)) e 0 0 (omega (arith, length-take-le n notes room)))

    behind : (j : ℕ) → n ≤ j → get_or (front ++ drop n notes) j 0 ≡ get_or notes j 0
    behind j h =
        let there : n + (j - length front) ≡ j = omega (arith, short) in
        get_or-append_right front (drop n notes) j 0 (omega (arith, short)) ∙ get_or-drop n notes (j - length front) 0
        ∙ ap (λ (i : ℕ). get_or notes i 0) there

pub renumbered_then :
    {rows more last r : ℕ} {a b c : List ℕ} → Renumbered rows a b last → Numbered rows more last b c r → Renumbered rows a c r
renumbered_then x y = record { numbers = y.numbers x.numbers; behind = λ j h. y.behind j h ∙ x.behind j h }

-- the words of columns are among the notes
pub column_room : {frame : Frame} {effects first notes : List ℕ} → Room frame effects first notes → frame.effects ≤ length notes
column_room {frame} r = omega (arith, r.behind, sets_behind frame)

-- what the rows of operators ask
pub roots_room :
    {frame : Frame} {effects operators first notes : List ℕ} {count : ℕ}
    → Room frame effects first notes
    → Roots frame.effects operators count
    → NamesRoots frame.effects effects operators first notes count
roots_room r k =
    record { words = r.rows.words; effect = r.words; within = column_room r; roots = k }

-- a kept condition stands behind the sets
ahead : (a b : ℕ) → a ≤ a + b
ahead a b = omega arith

place_behind : (frame : Frame) (c : ℕ) (t : Target) → sets_end frame ≤ kept_place frame c t
unfolding kept_place
place_behind frame c t =
    ahead (sets_end frame) (c * (width frame.variables * frame.variables) + (width frame.variables * t.variable + part t))

-- The notes are right with new columns, in which nothing is kept.
module _ (frame : Frame) {a b c : List ℕ} {last : ℕ} (first : length b ≡ length a) (second : length c ≡ length b)
    (x : Renumbered frame.effects a b last) (y : Forgot (sets_end frame) b c) where
  long : length c ≡ length a
  long = second ∙ first

  low : (j : ℕ) → frame.effects ≤ j → j < sets_end frame → get_or c j 0 ≡ get_or a j 0
  low j g h = y.ahead j h ∙ x.behind j g

  given : (e : ℕ) → e < frame.effects → column c e ≡ column b e
  unfolding column
  given e h = y.ahead e (omega (arith, h, sets_behind frame))

  pub noted_anew : {effects : List ℕ} (formulas : List ℕ) (s : St) → Noted frame formulas effects a s → Noted frame formulas effects c s
  noted_anew formulas s n =
      record {
        sets = sets_stay long (λ j g h. low j (omega (arith, g)) h) n.sets;
        columns =
            record {
              words = rw long n.columns.words;
              apart = λ d e g h p q. x.numbers.apart d e g h (rw (given e h) at p) (sym (given d g) ∙ q ∙ given e h);
            };
        kept =
            record {
              known = λ t e r h v p k i w.
                  absurd (omega (arith, y.blank (kept_place frame (column c e) t) (place_behind frame (column c e) t), w));
            };
        joins = joins_stay (λ j g h. low j g (omega (arith, h, sets_behind frame))) n.joins;
      }

-- What a row that row i names asks, and what row i asks.
pub names_row :
    {effects first notes notes' : List ℕ} {i e last last' : ℕ}
    → NamesBelow effects first notes i last
    → Names effects i e
    → length notes' ≡ length notes
    → last' < 65535
    → NamesRow effects first notes' e last'
names_row {e = e} a n long few =
    let low = a.row.lower e n in
    record {
      words = omega (arith, a.row.words, low);
      effect = omega (arith, a.effect, low);
      within = omega (arith, a.within, low, long);
      few = few;
    }

pub below_asks :
    {frame : Frame} {effects first notes notes' : List ℕ} {i last : ℕ}
    → Room frame effects first notes
    → length notes' ≡ length notes
    → i < frame.effects
    → last < 65534
    → NamesBelow effects first notes' i last
below_asks {i = i} r long h few =
    record {
      row = row_kept r.rows i h;
      effect = omega (arith, r.words);
      within = omega (arith, column_room r, long);
      few = few;
    }

-- the effect of operator k is one of the rows
pub root_below : {n : ℕ} {operators : List ℕ} {count : ℕ} (k e : ℕ) → Roots n operators count → k < count → e ≡ (operator_at operators k).effect → e < n
root_below k e a h q = omega (arith, a.effect k h, q)

-- What forgetting and listing ask, once the columns are given.
pub forgets :
    {frame : Frame} {effects operators first a b list : List ℕ} {from count last k : ℕ}
    → BeginsBatch frame effects operators from count first a list
    → k ≡ sets_end frame
    → length b ≡ length a
    → Renumbered frame.effects a b last
    → Forgets from k b
forgets {frame} x same long r =
    record {
      room = omega (arith, same, long, x.sizes.room.behind);
      blank = λ z j h. r.behind j (omega (arith, same, h, sets_behind frame)) ∙ x.blank z j (omega (arith, same, h));
    }

pub lists :
    {frame : Frame} {effects operators first a b list : List ℕ} {from count : ℕ}
    → BeginsBatch frame effects operators from count first a list
    → length b ≡ length a
    → Lists frame.effects first b list
lists x long =
    record {
      limit = x.sizes.room.rows.limit;
      words = x.sizes.room.words;
      columns = omega (arith, column_room x.sizes.room, long);
      entries = x.entries;
    }
