-- Steps of the code are steps of the definitions. Assumes nothing.
use Prim.Native.Nat.{ℕ, ◌+◌, ◌≤◌, ◌<◌}
use native.Mathlib.Omega.{arith}
use mathlib.Core.Path.{◌≡◌, refl, sym, ap, ap₂, ◌∙◌}
use mathlib.Core.Bool.{true, false, true≢false, false≢true}
use mathlib.Core.Logic.{◌⊎◌, inl, inr}
use mathlib.Core.List.{List, [], ◌∷◌, ◌++◌}
use lib.ListN.{length, get_or, take, length-append}
use Rattle.task.specs.Bounded.{upto}
use Rattle.task.specs.Table.{Row, row_at}
use Rattle.task.proofs.Bounded.{length_upto}
use Rattle.normal_form.specs.Builder.{St, Got, Build, give, bind, place, including, same_row, row, Polarity, plain, negated, image_of_false, image_of_true, join_kind, choice, join_as, join}
use Rattle.normal_form.specs.Growth.{Prefix, Grows, Steady}
use borrow.Author.Tests.{eq-eqb, ne_eqb}
use Rattle.formula_builder.specs.declared.Frame.{Frame}
use Rattle.std.specs.Prelude.{Result, Ok, Err}
use Rattle.std.specs.Result.{IsErr}
use Rattle.formula_builder.specs.declared.Builder.{Builder}
use Rattle.formula_builder.specs.declared.NoRoom.{NoRoom}
use Rattle.formula_builder.specs.Inner.Index.{Searchable, Found, appended}
use Rattle.formula_builder.specs.Inner.Held.{Size, Step, Store, store, held, size_of, done_step, full_step, size_in, step_by, full_by, RowsReady, twin_word, Ready, Within, Done, Builds, Same}
use Rattle.formula_builder.proofs.Found.{kept_found, kept_none}
use Rattle.formula_builder.proofs.Indexing.{searchable, length_appended, before, other, appended_rows, appended-indexed, stands_place, missing_place}

-- Done, or over, is all that there is to a step.
module _ {m : Build ℕ} {frame : Frame} {at : Size} {before after : Store} {r : Step} where
  pub builds_done : r.full ≡ false → Done m frame at before after r → Builds m frame at before after r
  builds_done e d = record { done = λ _. d; over = λ f. absurd (true≢false (sym f ∙ e)); still = λ _. d.ready }

  pub builds_over :
      r.full ≡ true
      → Ready frame (size_of r) after
      → (Within frame (m (held at before)).st → ⊥)
      → Builds m frame at before after r
  builds_over e ready d = record { done = λ f. absurd (true≢false (sym e ∙ f)); over = λ _. d; still = λ _. ready }

  -- a step that comes to the same as another one from what stands
  pub builds_from :
      {m' : Build ℕ} {at' : Size} {before' : Store}
      → m (held at before) ≡ m' (held at' before')
      → at.rows ≤ at'.rows
      → Builds m' frame at' before' after r
      → Builds m frame at before after r
  builds_from same grew b =
      record {
        done = λ e.
            let d = b.done e in
            record {
              value = ap (λ (g : Got ℕ). g.value) same ∙ d.value;
              state = ap (λ (g : Got ℕ). g.st) same ∙ d.state;
              ready = d.ready;
              below = d.below;
              grew = omega (arith, d.grew);
            };
        over = λ e w. b.over e (rw (ap (λ (g : Got ℕ). g.st) same) at w);
        still = b.still;
      }

pub prefix_length : {A : Type 0} {l m : List A} → Prefix l m → length l ≤ length m
prefix_length {A} {l} p = rw (p.whole, length-append l p.rest) (omega arith)

-- what is within the frame was within it before
pub within_before : {frame : Frame} {s t : St} → Grows s t → Within frame t → Within frame s
within_before g w =
    record {
      rows = omega (arith, prefix_length g.rows, w.rows);
      twins = omega (arith, prefix_length g.twins, w.twins);
    }

-- A step and what follows from its value.
module _ {A : Type 0} {m : Build ℕ} {frame : Frame} {at : Size} {before mid : Store} {l : Step} where
  pub bind_done :
      (f : ℕ → Build A) → Done m frame at before mid l → bind m f (held at before) ≡ f l.row (held (size_of l) mid)
  unfolding bind
  bind_done f d = ap₂ f d.value d.state

pub bind_over :
    {A : Type 0} (m : Build ℕ) (f : ℕ → Build A) (frame : Frame) (s : St)
    → ((x : ℕ) → Steady (f x))
    → (Within frame (m s).st → ⊥)
    → Within frame (bind m f s).st
    → ⊥
unfolding bind
bind_over m f frame s steady over w =
    let g = m s in
    over (within_before ((steady g.value).grow g.st) w)

module _ {m : Build ℕ} {frame : Frame} {at : Size} {before mid after : Store} {l r : Step} where
  -- the first is done: the second goes on
  pub builds_bind :
      (f : ℕ → Build ℕ)
      → Builds m frame at before mid l
      → l.full ≡ false
      → Builds (f l.row) frame (size_of l) mid after r
      → Builds (bind m f) frame at before after r
  builds_bind f b e c =
      let d = b.done e in
      builds_from (bind_done f d) d.grew c

-- there was no room for the first
pub builds_stop :
    {m : Build ℕ} {frame : Frame} {at : Size} {before after : Store} {l : Step} (f : ℕ → Build ℕ)
    → ((x : ℕ) → Steady (f x))
    → Builds m frame at before after l
    → l.full ≡ true
    → Builds (bind m f) frame at before after l
builds_stop {m} {frame} {at} {before} f steady b e =
    builds_over e (b.still e) (bind_over m f frame (held at before) steady (b.over e))

pub rows_searchable : {most stand : ℕ} {table : List ℕ} → RowsReady most stand table → Searchable most table
rows_searchable ready = searchable ready.some ready.limit ready.room ready.within ready.index

-- A row that stands.
pub row_stands :
    (frame : Frame) (at : Size) (table o : List ℕ) (ready : Ready frame at (store table o)) (r : Row) (i : ℕ)
    → i < at.rows
    → row_at table i ≡ r
    → Builds (row r) frame at (store table o) (store table o) (done_step at i)
unfolding row held
row_stands frame at table o ready r i h e =
    let l = upto at.rows (row_at table) in
    let its = stands_place ready.rows.index r i h e in
    let found : including same_row r l ≡ l =
    kept_found same_row r l (omega (arith, length_upto at.rows (row_at table), h, its)) in
    builds_done refl
    (record {
      value = sym its;
      state = λ j. record { rows = found j; twins = take at.twins o };
      ready = ready;
      below = h;
      grew = omega arith;
    })

-- A row: p is the word where the walk for it ends.
module _ (frame : Frame) (at : Size) (table o : List ℕ) (ready : Ready frame at (store table o)) (r : Row) (p : ℕ) (f : Found frame.rows table r p) where
  module _ (free : get_or table p 0 ≡ 0) where
    its_place : at.rows ≡ place same_row r (upto at.rows (row_at table))
    its_place = missing_place ready.rows.index f free

    added : including same_row r (upto at.rows (row_at table)) ≡ upto at.rows (row_at table) ++ (r ∷ [])
    added =
        kept_none same_row r (upto at.rows (row_at table)) (omega (arith, length_upto at.rows (row_at table), its_place))

    pub row_full : at.rows ≡ frame.rows → Builds (row r) frame at (store table o) (store table o) (full_step at)
    unfolding row held
    row_full full =
        let l = upto at.rows (row_at table) in
        builds_over refl ready (λ w.
        omega
        (arith, w.rows, ap (λ (x : List Row). length x) added, length-append l (r ∷ []), length_upto at.rows (row_at table)))

    pub row_appended :
        (at.rows ≡ frame.rows → ⊥)
        → Builds (row r) frame at (store table o) (store (appended table at.rows r p) o)
        (record { rows = at.rows + 1; twins = at.twins; row = at.rows; full = false })
    unfolding row held
    row_appended room =
        let l = upto at.rows (row_at table) in
        let x = ready.rows in
        let few : at.rows < frame.rows = omega arith in
        let long = length_appended frame.rows at.rows table r p few x.room f in
        let word : (v : ℕ) → get_or (appended table at.rows r p) (twin_word frame v) 0 ≡ get_or table (twin_word frame v) 0 =
        λ v. other frame.rows at.rows table r p few x.room f (twin_word frame v) (omega arith) (omega (arith, f.high)) in
        let whole : including same_row r l ≡ upto (at.rows + 1) (row_at (appended table at.rows r p)) =
        added ∙ sym (appended_rows frame.rows at.rows table r p few x.room f) in
        builds_done refl
        (record {
          value = sym its_place;
          state = λ j. record { rows = whole j; twins = take at.twins o };
          ready =
              record {
                rows =
                    record {
                      within = omega arith;
                      some = x.some;
                      limit = x.limit;
                      room = omega (arith, x.room, long);
                      index = appended-indexed frame.rows at.rows table r p few x.room f free x.index;
                    };
                two = omega (arith, ready.two);
                twins = ready.twins;
                originals = ready.originals;
                variables = ready.variables;
                past_twins = ready.past_twins;
                named =
                    record {
                      room = omega (arith, ready.named.room, long);
                      stands = λ v i h e.
                          let named = ready.named.stands v i h (sym (word v) ∙ e) in
                          let below = x.index.trees.within (twin_word frame v) i (omega arith) (sym (word v) ∙ e) in
                          (named.0, before frame.rows at.rows table r p few x.room f i below ∙ named.1);
                      missing = λ v h e. ready.named.missing v h (sym (word v) ∙ e);
                    };
              };
          below = omega arith;
          grew = omega arith;
        })

-- a row that stands is answered
pub builds_stands :
    {frame : Frame} {at : Size} {s : Store} (x : ℕ)
    → Ready frame at s
    → x < at.rows
    → Builds (give x) frame at s s (done_step at x)
unfolding give
builds_stands x ready h =
    builds_done refl (record { value = refl; state = refl; ready = ready; below = h; grew = omega arith })

-- How a join comes out.
module _ (p : Polarity) (a b : ℕ) where
  pub join_false :
      (a ≡ image_of_false p) ⊎ ((a ≡ image_of_false p → ⊥) × (b ≡ image_of_false p)) → join p a b ≡ give (image_of_false p)
  unfolding join choice join_as
  join_false (inl e) = rw (eq-eqb a (image_of_false p) e)
  join_false (inr (h, e)) = rw (ne_eqb a (image_of_false p) h, eq-eqb b (image_of_false p) e)

  module _ (h : a ≡ image_of_false p → ⊥) (g : b ≡ image_of_false p → ⊥) where
    pub join_left_true : a ≡ image_of_true p → join p a b ≡ give b
    unfolding join choice join_as
    join_left_true e = rw (ne_eqb a (image_of_false p) h, ne_eqb b (image_of_false p) g, eq-eqb a (image_of_true p) e)

    pub join_right_true : (a ≡ image_of_true p → ⊥) → b ≡ image_of_true p → join p a b ≡ give a
    unfolding join choice join_as
    join_right_true k e =
        rw (ne_eqb a (image_of_false p) h, ne_eqb b (image_of_false p) g, ne_eqb a (image_of_true p) k, eq-eqb b (image_of_true p) e)

    pub join_fresh :
        (a ≡ image_of_true p → ⊥) → (b ≡ image_of_true p → ⊥) → join p a b ≡ row (record { kind = join_kind p; a = a; b = b })
    unfolding join choice join_as
    join_fresh k i =
        rw (ne_eqb a (image_of_false p) h, ne_eqb b (image_of_false p) g, ne_eqb a (image_of_true p) k, ne_eqb b (image_of_true p) i)

pub falsity_small : (p : Polarity) → image_of_false p < 2
falsity_small plain = omega arith
falsity_small negated = omega arith

pub truth_small : (p : Polarity) → image_of_true p < 2
truth_small plain = omega arith
truth_small negated = omega arith

-- a step that is another one
pub builds_as :
    {m m' : Build ℕ} {frame : Frame} {at : Size} {before after : Store} {r : Step}
    → m ≡ m'
    → Builds m' frame at before after r
    → Builds m frame at before after r
builds_as {at = at} {before = before} e b = builds_from (ap (λ (m : Build ℕ). m (held at before)) e) (omega arith) b

-- a builder stays as it is
pub same_itself : (b : Builder) → Same b b
same_itself b =
    record { frame = refl; table = refl; table_length = refl; originals = refl; originals_length = refl }

pub same_twice : {b c d : Builder} → Same b c → Same c d → Same b d
same_twice x y =
    record {
      frame = y.frame ∙ x.frame;
      table = y.table ∙ x.table;
      table_length = y.table_length ∙ x.table_length;
      originals = y.originals ∙ x.originals;
      originals_length = y.originals_length ∙ x.originals_length;
    }

-- what `?` returns onward says that there was no room
pub step_failed : (b : Builder) (r : Result ℕ NoRoom) → IsErr r → step_by b r ≡ full_step (size_in b)
step_failed b (Ok x) h = absurd (false≢true h)
step_failed b (Err e) h = refl

pub full_failed : {A : Type 0} (r : Result A NoRoom) → IsErr r → full_by r ≡ true
full_failed (Ok x) h = absurd (false≢true h)
full_failed (Err e) h = refl
