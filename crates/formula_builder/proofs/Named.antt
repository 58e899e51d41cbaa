-- The row of a variable's twin is the one that the variable's word names; a new twin's row is put, and named there. Assumes nothing.
use Prim.Native.Nat.{ℕ, suc, ◌+◌, ◌*◌, ◌≤◌, ◌<◌}
use native.Mathlib.Omega.{arith}
use native.Mathlib.Decide.{ℕ_discrete}
use mathlib.Core.Path.{◌≡◌, refl, sym, ap, ◌∙◌}
use mathlib.Core.Bool.{false}
use mathlib.Core.List.{List, [], ◌∷◌, ◌++◌}
use lib.ListN.{length, get_or, take, set, length-append, length-set}
use lib.Seq.{length-take-le, get_or-set_same, get_or-set_other}
use lib.Dec.{eqb}
use borrow.Author.Tests.{ne_eqb}
use Rattle.task.specs.Bounded.{upto}
use Rattle.task.specs.Table.{Row, row_at}
use Rattle.task.specs.Rules.{no_row}
use Rattle.task.proofs.Bounded.{getD_upto}
use Rattle.normal_form.specs.Builder.{St, bind, place, including, same_row, row, twin, variable_row, twin_row}
use Rattle.normal_form.proofs.Growth.{steady_variable_row, eqb_itself, place_within, prefix_refl}
use Rattle.normal_form.proofs.Place.{Placed, found, added, placed, place_has, place_none, one_more as each_more, same_row_alike}
use Rattle.formula_builder.specs.declared.Frame.{Frame}
use Rattle.formula_builder.specs.Inner.Held.{Size, Store, store, held, sized, done_step, full_step, variable_of, twin_word, TwinsNamed, Ready, Done, Builds}
use Rattle.formula_builder.proofs.Found.{kept_found, kept_none}
use Rattle.formula_builder.proofs.Stored.{one_more, one_past, upto_same}
use Rattle.formula_builder.proofs.Indexing.{row_aside, aside_indexed}
use Rattle.formula_builder.proofs.Steps.{builds_done, builds_over, builds_from, bind_over, row_stands}

-- One number more at the end of a list.
module _ (u v : ℕ) (l : List ℕ) where
  -- what stood stands where it did
  place_before : place eqb u l < length l → place eqb u (l ++ (v ∷ [])) ≡ place eqb u l
  place_before h =
      let same = kept_found eqb u l h in
      place_within eqb eqb_itself u l (rw same (record { rest = v ∷ []; whole = refl }))

  -- what did not stand and is not the new one does not stand
  place_behind : place eqb u l ≡ length l → (u ≡ v → ⊥) → place eqb u (l ++ (v ∷ [])) ≡ length l + 1
  place_behind e d = go (placed eqb u l)
    where
      go : Placed eqb u l → place eqb u (l ++ (v ∷ [])) ≡ length l + 1
      go (found h k) = absurd (omega arith)
      go (added h k none) =
          place_none eqb u 0 (l ++ (v ∷ []))
          (each_more (λ (i x : ℕ). eqb x u ≡ false) 0 l v (none 0) (ne_eqb v u (λ q. d (sym q))))
          ∙ length-append l (v ∷ [])

-- and the new one stands there
place_last : (v : ℕ) (l : List ℕ) → place eqb v l ≡ length l → place eqb v (l ++ (v ∷ [])) ≡ length l
place_last v l e =
    let same = kept_none eqb v l (omega arith) in
    place_within eqb eqb_itself v l (rw same (prefix_refl (l ++ (v ∷ [])))) ∙ e

module _ (frame : Frame) (n w : ℕ) (table o : List ℕ) (ready : Ready frame (sized n w) (store table o)) (v : ℕ) (low : v < frame.variables) where
  long : length (take w o) ≡ w
  long = length-take-le w o (omega (arith, ready.twins, ready.originals))

  -- a twin that stands
  pub twin_known :
      (r : ℕ)
      → get_or table (twin_word frame v) 0 ≡ suc r
      → Builds (twin_row frame.variables v) frame (sized n w) (store table o) (store table o) (done_step (sized n w) r)
  unfolding twin_row bind twin held variable_row
  twin_known r e =
      let x = ready.rows in
      let named = ready.named.stands v r low e in
      let below = x.index.trees.within (twin_word frame v) r (omega arith) e in
      let l = take w o in
      let same : including eqb v l ≡ l = kept_found eqb v l (omega (arith, long, named.0)) in
      builds_from
      (λ j. variable_row (frame.variables + place eqb v l) (record { rows = upto n (row_at table); twins = same j }))
      (omega arith)
      (row_stands frame (sized n w) table o ready (variable_of (frame.variables + place eqb v l)) r below named.1)

  -- A twin that is new.
  module _ (none : get_or table (twin_word frame v) 0 ≡ 0) where
    its_place : place eqb v (take w o) ≡ w
    its_place = ready.named.missing v low none

    met : including eqb v (take w o) ≡ take w o ++ (v ∷ [])
    met = kept_none eqb v (take w o) (omega (arith, long, its_place))

    pub twin_full :
        w ≡ frame.twins
        → Builds (twin_row frame.variables v) frame (sized n w) (store table o) (store table o) (full_step (sized n w))
    unfolding twin_row twin held
    twin_full full =
        let l = take w o in
        builds_over refl ready
        (bind_over (twin v) (λ k. variable_row (frame.variables + k)) frame (held (sized n w) (store table o))
        (λ x. steady_variable_row (frame.variables + x))
        (λ x. omega (arith, x.twins, ap (λ (x : List ℕ). length x) met, length-append l (v ∷ []), long)))

    -- there is no room for its row
    pub twin-over :
        {after : Store} {at : Size}
        → Builds (variable_row (frame.variables + w)) frame (sized n w) (store table o) after (full_step at)
        → Builds (twin_row frame.variables v) frame (sized n w) (store table o) after (full_step at)
    unfolding twin_row bind twin held variable_row row
    twin-over b =
        builds_over refl (b.still refl)
        (λ x.
        b.over refl
        (record {
          rows = rw its_place at x.rows;
          twins = omega (arith, long, ready.twins);
        }))

    module _ {after : List ℕ} {m k : ℕ}
        (b : Builds (variable_row (frame.variables + w)) frame (sized n w) (store table o) (store after o) (done_step (sized m w) k)) where
      module _ (room : w ≡ frame.twins → ⊥) where
        put : Done (variable_row (frame.variables + w)) frame (sized n w) (store table o) (store after o) (done_step (sized m w) k)
        put = b.done refl

        -- the tables with the twin
        abbrev rows' : List ℕ
        rows' = set after (twin_word frame v) (k + 1)

        abbrev originals' : List ℕ
        originals' = set o w v

        twins-now : take (w + 1) originals' ≡ take w o ++ (v ∷ [])
        twins-now =
            let t = ready.twins in
            one_more o w v (omega (arith, ready.originals))

        -- its row stands
        rows-put : including same_row (variable_of (frame.variables + w)) (upto n (row_at table)) ≡ upto m (row_at after)
        unfolding held variable_row row
        rows-put = ap (λ (s : St). s.rows) put.state

        place-put : place same_row (variable_of (frame.variables + w)) (upto n (row_at table)) ≡ k
        unfolding held variable_row row
        place-put = put.value

        its-row : row_at after k ≡ variable_of (frame.variables + w)
        its-row =
            let r = variable_of (frame.variables + w) in
            sym (getD_upto m (row_at after) k no_row put.below)
            ∙ ap (λ (l : List Row). get_or l k no_row) (sym rows-put)
            ∙ ap (λ (i : ℕ). get_or (including same_row r (upto n (row_at table))) i no_row) (sym place-put)
            ∙ place_has same_row r (λ y. same_row_alike y r) no_row (upto n (row_at table))

        row-still : (i : ℕ) → i < m → row_at rows' i ≡ row_at after i
        row-still =
            let x = put.ready.rows in
            row_aside x.index x.some x.within (twin_word frame v) k (omega arith)

        word-still : (u : ℕ) → (u ≡ v → ⊥) → get_or rows' (twin_word frame u) 0 ≡ get_or after (twin_word frame u) 0
        word-still u h = get_or-set_other after (twin_word frame v) (twin_word frame u) (k + 1) 0 (omega arith)

        word_room : twin_word frame v < length after
        word_room = omega (arith, put.ready.named.room)

        word-own : get_or rows' (twin_word frame v) 0 ≡ k + 1
        word-own = get_or-set_same after (twin_word frame v) (k + 1) 0 word_room

        named-own :
            (r : ℕ)
            → get_or rows' (twin_word frame v) 0 ≡ suc r
            → (place eqb v (take (w + 1) originals') < w + 1)
            × (row_at rows' r ≡ variable_of (frame.variables + place eqb v (take (w + 1) originals')))
        named-own r e =
            let its : r ≡ k = omega (arith, word-own) in
            let last : place eqb v (take (w + 1) originals') ≡ w =
            ap (place eqb v) twins-now ∙ place_last v (take w o) (its_place ∙ sym long) ∙ long in
            rw (last, its) (omega arith, row-still k put.below ∙ its-row)

        named_other :
            (u r : ℕ)
            → u < frame.variables
            → (u ≡ v → ⊥)
            → get_or rows' (twin_word frame u) 0 ≡ suc r
            → (place eqb u (take (w + 1) originals') < w + 1)
            × (row_at rows' r ≡ variable_of (frame.variables + place eqb u (take (w + 1) originals')))
        named_other u r h q e =
            let x = put.ready in
            let old = x.named.stands u r h (sym (word-still u q) ∙ e) in
            let below = x.rows.index.trees.within (twin_word frame u) r (omega arith) (sym (word-still u q) ∙ e) in
            let same : place eqb u (take (w + 1) originals') ≡ place eqb u (take w o) =
            ap (place eqb u) twins-now ∙ place_before u v (take w o) (omega (arith, long, old.0)) in
            rw same (omega (arith, old.0), row-still r below ∙ old.1)

        named_now : TwinsNamed frame (sized m (w + 1)) (store rows' originals')
        named_now =
            record {
              room = long_enough;
              stands = λ u r h e. stands u r h e (ℕ_discrete u v);
              missing = λ u h e. missing u h e (ℕ_discrete u v);
            }
          where
            long_enough : 9 * frame.rows + frame.variables ≤ length rows'
            long_enough = omega (arith, put.ready.named.room, length-set after (twin_word frame v) (k + 1))

            stands :
                (u r : ℕ)
                → u < frame.variables
                → get_or rows' (twin_word frame u) 0 ≡ suc r
                → Dec (u ≡ v)
                → (place eqb u (take (w + 1) originals') < w + 1)
                × (row_at rows' r ≡ variable_of (frame.variables + place eqb u (take (w + 1) originals')))
            stands u r h e (yes q) = rw q (named-own r (rw q at e))
            stands u r h e (no q) = named_other u r h q e

            missing :
                (u : ℕ)
                → u < frame.variables
                → get_or rows' (twin_word frame u) 0 ≡ 0
                → Dec (u ≡ v)
                → place eqb u (take (w + 1) originals') ≡ w + 1
            missing u h e (yes q) =
                let same = ap (λ (x : ℕ). get_or rows' (twin_word frame x) 0) q in
                absurd (omega (arith, same, word-own, e))
            missing u h e (no q) =
                let old = put.ready.named.missing u h (sym (word-still u q) ∙ e) in
                ap (place eqb u) twins-now ∙ place_behind u v (take w o) (old ∙ sym long) q ∙ ap (λ (x : ℕ). x + 1) long

        ready-now : Ready frame (sized m (w + 1)) (store rows' originals')
        ready-now =
            let x = put.ready in
            let r = x.rows in
            record {
              rows =
                  record {
                    within = r.within;
                    some = r.some;
                    limit = r.limit;
                    room = omega (arith, r.room, length-set after (twin_word frame v) (k + 1));
                    index =
                        aside_indexed r.index r.some r.within (twin_word frame v) k (omega arith) word_room put.below;
                  };
              two = x.two;
              twins = omega (arith, ready.twins, room);
              originals = omega (arith, length-set o w v, ready.originals);
              variables = x.variables;
              past_twins = one_past o w v ready.past_twins;
              named = named_now;
            }

        pub twin-put :
            Builds (twin_row frame.variables v) frame (sized n w) (store table o)
            (store (set after (twin_word frame v) (k + 1)) (set o w v))
            (done_step (sized m (w + 1)) k)
        unfolding twin_row bind twin held variable_row row
        twin-put =
            let back = its_place in
            let stand : upto m (row_at after) ≡ upto m (row_at rows') = sym (upto_same m (row_at rows') (row_at after) row-still) in
            builds_done refl
            (record {
              value =
                  ap (λ (x : ℕ). place same_row (variable_of (frame.variables + x)) (upto n (row_at table))) its_place ∙ place-put;
              state =
                  let whole : including same_row (variable_of (frame.variables + place eqb v (take w o))) (upto n (row_at table)) ≡ upto m (row_at rows') =
                  ap (λ (x : ℕ). including same_row (variable_of (frame.variables + x)) (upto n (row_at table))) its_place ∙ rows-put ∙ stand in
                  let more : including eqb v (take w o) ≡ take (w + 1) originals' = met ∙ sym twins-now in
                  λ j. record { rows = whole j; twins = more j };
              ready = ready-now;
              below = put.below;
              grew = put.grew;
            })

    -- the same, where the twins are known to be as they were
    pub twin_added :
        {after o' : List ℕ} {m w' k : ℕ}
        → w' ≡ w
        → o' ≡ o
        → (w ≡ frame.twins → ⊥)
        → Builds (variable_row (frame.variables + w)) frame (sized n w) (store table o) (store after o') (done_step (sized m w') k)
        → Builds (twin_row frame.variables v) frame (sized n w) (store table o) (store (set after (twin_word frame v) (k + 1)) (set o' w v))
        (done_step (sized m (w + 1)) k)
    twin_added same kept room b = rw kept (twin-put (rw (same, kept) at b) room)
