-- The memo of images stays right while the state grows, and steps with a memo are put together. Assumes nothing.
use Prim.Native.Nat.{ℕ, ◌+◌, ◌-◌, ◌*◌, ◌≤◌, ◌<◌}
use native.Mathlib.Omega.{arith}
use native.Mathlib.Decide.{ℕ_discrete}
use mathlib.Core.Path.{◌≡◌, refl, sym, ap, ◌∙◌}
use mathlib.Core.Bool.{Bool, true, false, true≢false}
use mathlib.Core.List.{List}
use lib.ListN.{length, get_or, set}
use lib.Seq.{get_or-set_same, get_or-set_other}
use Rattle.task.specs.Table.{row_at}
use Rattle.task.proofs.Bounded.{length_upto}
use Rattle.normal_form.specs.Builder.{St, Got, Build, bind, join, pair, Polarity, plain, negated}
use Rattle.normal_form.specs.Growth.{Grows, Steady}
use Rattle.normal_form.proofs.Growth.{grows_refl, steady_bind, steady_join, steady_pair}
use Rattle.normal_form.proofs.Steady.{steady_image}
use Rattle.formula_builder.specs.declared.Frame.{Frame}
use Rattle.formula_builder.specs.Inner.Held.{Size, Step, Store, held, size_of, side, done_step, Done, Builds}
use Rattle.formula_builder.proofs.Steps.{builds_done, builds_as, builds_bind, builds_stop, prefix_length}
use Rattle.images.specs.Inner.Images.{tree, image_at, pair_at, memo_place, Known, Memo, Asks, Images}

pub steady_image_at : (frame : Frame) (formulas : List ℕ) (p : Polarity) (i : ℕ) → Steady (image_at frame formulas p i)
unfolding image_at
steady_image_at frame formulas p i = steady_image frame.variables p (tree frame formulas i)

pub steady_pair_at :
    (frame : Frame) (formulas : List ℕ) (i : ℕ) (left right or : Bool) → Steady (pair_at frame formulas i left right or)
unfolding pair_at
steady_pair_at frame formulas i left right or =
    steady_pair (side or) (steady_image_at frame formulas (side left) (row_at formulas i).a)
    (steady_image_at frame formulas (side right) (row_at formulas i).b)

-- what is known stays known
pub known_grows : {m : Build ℕ} {s t : St} {r : ℕ} → Steady m → Grows s t → Known m s r → Known m t r
known_grows {m} {s} {t} {r} steady g k =
    let here : (m s).st ≡ s = ap (λ (x : Got ℕ). x.st) k.again in
    let value : (m s).value ≡ r = ap (λ (x : Got ℕ). x.value) k.again in
    let g' : Grows (m s).st t = rw here g in
    record {
      again = steady.again s t g' ∙ rw value;
      below = omega (arith, prefix_length g.rows, k.below);
    }

pub memo_grows :
    {frame : Frame} {formulas scratch : List ℕ} {s t : St}
    → Grows s t
    → Memo frame formulas scratch s
    → Memo frame formulas scratch t
memo_grows {frame} {formulas} g m =
    record { known = λ p i r h e. known_grows (steady_image_at frame formulas p i) g (m.known p i r h e) }

-- a step that is done grows the state that the tables hold
pub done_grows :
    {m : Build ℕ} {frame : Frame} {at : Size} {before after : Store} {r : Step}
    → Steady m
    → Done m frame at before after r
    → Grows (held at before) (held (size_of r) after)
done_grows {at = at} {before = before} steady d = rw d.state at (steady.grow (held at before))

-- and what it built is known from then on
pub done_known :
    {m : Build ℕ} {frame : Frame} {at : Size} {before after : Store} {r : Step}
    → Steady m
    → Done m frame at before after r
    → Known m (held (size_of r) after) r.row
unfolding held
done_known {m} {at = at} {before = before} {after = after} {r = r} steady d =
    let s = held at before in
    let t = held (size_of r) after in
    let stays : Grows (m s).st t = rw d.state (grows_refl t) in
    record {
      again = steady.again s t stays ∙ rw d.value;
      below = rw (length_upto r.rows (row_at after.table)) d.below;
    }

-- two places of the memo are the same only for the same row and polarity
place_once :
    (frame : Frame) (P : Polarity → ℕ → Type 0) (p q : Polarity) (i j : ℕ)
    → i < frame.formulas
    → j < frame.formulas
    → memo_place frame q j ≡ memo_place frame p i
    → P p i
    → P q j
place_once frame P plain plain i j h g e x = rw e x
place_once frame P plain negated i j h g e x = absurd (omega arith)
place_once frame P negated plain i j h g e x = absurd (omega arith)
place_once frame P negated negated i j h g e x = let d : j ≡ i = omega arith in rw d x

pub place_within :
    (frame : Frame) (p : Polarity) (i : ℕ) → i < frame.formulas → memo_place frame p i < 2 * frame.formulas
place_within frame plain i h = omega arith
place_within frame negated i h = omega arith

memo_noted :
    (frame : Frame) (formulas scratch : List ℕ) (s : St) (p : Polarity) (i r : ℕ)
    → i < frame.formulas
    → 2 * frame.formulas ≤ length scratch
    → Known (image_at frame formulas p i) s r
    → Memo frame formulas scratch s
    → Memo frame formulas (set scratch (memo_place frame p i) (r + 1)) s
memo_noted frame formulas scratch s p i r h room k m = record { known = known }
  where
    known :
        (q : Polarity) (j x : ℕ)
        → j < frame.formulas
        → get_or (set scratch (memo_place frame p i) (r + 1)) (memo_place frame q j) 0 ≡ x + 1
        → Known (image_at frame formulas q j) s x
    known q j x g e = go (ℕ_discrete (memo_place frame q j) (memo_place frame p i))
      where
        go : Dec (memo_place frame q j ≡ memo_place frame p i) → Known (image_at frame formulas q j) s x
        go (yes same) =
            let now : get_or (set scratch (memo_place frame p i) (r + 1)) (memo_place frame q j) 0 ≡ r + 1 =
            rw same
            (get_or-set_same scratch (memo_place frame p i) (r + 1) 0 (omega (arith, place_within frame p i h))) in
            let d : x ≡ r = omega (arith, now, e) in
            rw d (place_once frame (λ q j. Known (image_at frame formulas q j) s r) p q i j h g same k)
        go (no other) =
            m.known q j x g
            (sym (get_or-set_other scratch (memo_place frame p i) (memo_place frame q j) (r + 1) 0 other) ∙ e)

module _ {m : Build ℕ} {frame : Frame} {formulas : List ℕ} {at : Size} {before after : Store} {scratch scratch' : List ℕ} {r : Step} where
  pub images_as :
      {m' : Build ℕ}
      → m ≡ m'
      → Images m' frame formulas at before after scratch scratch' r
      → Images m frame formulas at before after scratch scratch' r
  images_as e x = record { builds = builds_as e x.builds; memo = x.memo; rest = x.rest }

  -- the next step finds all that it asks
  pub asks_next :
      {i : ℕ} (j : ℕ)
      → Asks frame formulas at before scratch i
      → Images m frame formulas at before after scratch scratch' r
      → r.full ≡ false
      → length scratch' ≡ length scratch
      → j < frame.formulas
      → Asks frame formulas (size_of r) after scratch' j
  asks_next j a x e long h =
      record {
        source =
            record {
              words = a.source.words;
              memo = omega (arith, a.source.memo, long);
              limit = a.source.limit;
              down = a.source.down;
            };
        ready = (x.builds.done e).ready;
        memo = x.memo e;
        formula = h;
      }

-- a step that has no memo
pub images_leaf :
    {m : Build ℕ} {frame : Frame} {formulas : List ℕ} {at : Size} {before after : Store} {scratch : List ℕ} {r : Step}
    → Steady m
    → Memo frame formulas scratch (held at before)
    → Builds m frame at before after r
    → Images m frame formulas at before after scratch scratch r
images_leaf steady memo b =
    record { builds = b; memo = λ e. memo_grows (done_grows steady (b.done e)) memo; rest = λ j h. refl }

images_bind :
    {m : Build ℕ} {frame : Frame} {formulas : List ℕ} {at : Size} {before mid after : Store} {s1 s2 s3 : List ℕ} {l r : Step}
    (f : ℕ → Build ℕ)
    → Images m frame formulas at before mid s1 s2 l
    → l.full ≡ false
    → Images (f l.row) frame formulas (size_of l) mid after s2 s3 r
    → Images (bind m f) frame formulas at before after s1 s3 r
images_bind f x e y =
    record {
      builds = builds_bind f x.builds e y.builds;
      memo = y.memo;
      rest = λ j h. y.rest j h ∙ x.rest j h;
    }

images_stop :
    {m : Build ℕ} {frame : Frame} {formulas : List ℕ} {at : Size} {before after : Store} {s1 s2 : List ℕ} {l : Step}
    (f : ℕ → Build ℕ)
    → ((x : ℕ) → Steady (f x))
    → Images m frame formulas at before after s1 s2 l
    → l.full ≡ true
    → Images (bind m f) frame formulas at before after s1 s2 l
images_stop f steady x e =
    record {
      builds = builds_stop f steady x.builds e;
      memo = λ g. absurd (true≢false (sym e ∙ g));
      rest = x.rest;
    }

-- A step m that builds left, right, then their join.
pub record Joins (p : Polarity) (m left right : Build ℕ) : Type 0 where
  pub is : m ≡ pair p left right
  pub steady : Steady right

module _ {p : Polarity} {m left right : Build ℕ} {frame : Frame} {formulas : List ℕ} {at : Size} {before mid : Store} {s1 s2 : List ℕ} {l : Step}
    (j : Joins p m left right) (x : Images left frame formulas at before mid s1 s2 l) where
  pub left_full : l.full ≡ true → Images m frame formulas at before mid s1 s2 l
  unfolding pair
  left_full e =
      images_as j.is
      (images_stop (λ a. bind right (λ b. join p a b)) (λ a. steady_bind j.steady (λ b. steady_join p a b)) x e)

  module _ {after : Store} {s3 : List ℕ} {r : Step} (e : l.full ≡ false) (y : Images right frame formulas (size_of l) mid after s2 s3 r) where
    pub right_full : r.full ≡ true → Images m frame formulas at before after s1 s3 r
    unfolding pair
    right_full g =
        images_as j.is
        (images_bind (λ a. bind right (λ b. join p a b)) x e
        (images_stop (λ b. join p l.row b) (λ b. steady_join p l.row b) y g))

    pub joined :
        {last : Store} {z : Step}
        → r.full ≡ false
        → Builds (join p l.row r.row) frame (size_of r) after last z
        → Images m frame formulas at before last s1 s3 z
    unfolding pair
    joined g b =
        images_as j.is
        (images_bind (λ a. bind right (λ b. join p a b)) x e
        (images_bind (λ b. join p l.row b) y g
        (images_leaf (steady_join p l.row r.row) (y.memo g) b)))

-- The memo has formula i, in word k.
pub images_known :
    {frame : Frame} {formulas : List ℕ} {at : Size} {before : Store} {scratch : List ℕ} {i k : ℕ} (p : Polarity)
    → Asks frame formulas at before scratch i
    → k ≡ memo_place frame p i
    → (get_or scratch k 0 ≡ 0 → ⊥)
    → Images (image_at frame formulas p i) frame formulas at before before scratch scratch
    (done_step at (get_or scratch k 0 - 1))
unfolding held
images_known {frame} {at = at} {before = before} {scratch} {i} {k} p a e some =
    let w = get_or scratch k 0 in
    let here : w ≡ w - 1 + 1 = omega arith in
    let k = a.memo.known p i (w - 1) a.formula (ap (λ x. get_or scratch x 0) (sym e) ∙ here) in
    let b : w - 1 < at.rows = rw (length_upto at.rows (row_at before.table)) at k.below in
    record {
      builds =
          builds_done refl
          (record {
            value = ap (λ (g : Got ℕ). g.value) k.again;
            state = ap (λ (g : Got ℕ). g.st) k.again;
            ready = a.ready;
            below = b;
            grew = omega arith;
          });
      memo = λ _. a.memo;
      rest = λ j g. refl;
    }

-- Formula i was built and is noted.
pub images_noted :
    {frame : Frame} {formulas : List ℕ} {at : Size} {before after : Store} {scratch scratch' : List ℕ} {i : ℕ} {r : Step} (p : Polarity)
    → i < frame.formulas
    → 2 * frame.formulas ≤ length scratch'
    → Images (image_at frame formulas p i) frame formulas at before after scratch scratch' r
    → r.full ≡ false
    → Images (image_at frame formulas p i) frame formulas at before after scratch (set scratch' (memo_place frame p i) (r.row + 1)) r
images_noted {frame} {formulas} {after = after} {scratch' = scratch'} {i} {r} p h room x e =
    record {
      builds = x.builds;
      memo = λ _.
          memo_noted frame formulas scratch' (held (size_of r) after) p i r.row h room
          (done_known (steady_image_at frame formulas p i) (x.builds.done e)) (x.memo e);
      rest = λ j g.
          get_or-set_other scratch' (memo_place frame p i) j (r.row + 1) 0 (λ q. omega (arith, place_within frame p i h, q))
          ∙ x.rest j g;
    }
