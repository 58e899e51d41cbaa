-- What the steps of the code of images ask and answer. Assumes nothing.
use Prim.Native.Nat.{ℕ, ◌-◌, ◌≤◌, ◌<◌}
use native.Mathlib.Omega.{arith}
use mathlib.Core.Path.{◌≡◌, refl, ap, ◌∙◌}
use mathlib.Core.Bool.{Bool, true, false, not}
use mathlib.Core.List.{List}
use lib.ListN.{length, get_or}
use Rattle.task.specs.Table.{Row, row_at}
use Rattle.std.specs.Prelude.{Result, Ok, Err}
use Rattle.std.specs.Result.{IsErr}
use Rattle.normal_form.specs.Builder.{Build, give, join, Polarity, negated}
use Rattle.formula_builder.specs.declared.Words.{Words}
use Rattle.formula_builder.specs.declared.Frame.{Frame}
use Rattle.formula_builder.specs.declared.NoRoom.{NoRoom}
use Rattle.formula_builder.specs.declared.Builder.{Builder}
use Rattle.formula_builder.specs.Inner.Held.{Size, Step, Store, row_of, side, size_of, JoinReady, BuilderReady, Built}
use Rattle.formula_builder.proofs.Steps.{builds_as, builds_stands, step_failed, same_itself, same_twice}
use Rattle.images.specs.declared.ImageBuilder.{ImageBuilder}
use Rattle.images.specs.Inner.Images.{image_at, pair_at, equivalent_at, memo_place, Asks, AsksPair, Images, image_by, AsksThere, AsksImage, SameImages, Later, Imaged}
use Rattle.images.proofs.Rows.{operands, negated_operand, pair_words}
use Rattle.images.proofs.Memos.{steady_image_at, steady_pair_at, asks_next, images_as, images_leaf, images_known, left_full, right_full, joined, Joins}

-- the two pairs of an equivalence
pub equivalent_joins :
    (frame : Frame) (formulas : List ℕ) (i : ℕ) (b : Bool)
    → Joins negated (equivalent_at frame formulas i b) (pair_at frame formulas i false b false) (pair_at frame formulas i true (not b) false)
unfolding equivalent_at
equivalent_joins frame formulas i b =
    record { is = refl; steady = steady_pair_at frame formulas i true (not b) false }

-- a lower row
asks_lower :
    {frame : Frame} {formulas : List ℕ} {at : Size} {before : Store} {scratch : List ℕ} {i j : ℕ}
    → Asks frame formulas at before scratch i
    → j < i
    → Asks frame formulas at before scratch j
asks_lower a h = record { source = a.source; ready = a.ready; memo = a.memo; formula = omega (arith, a.formula) }

-- Row i with the words w.
module _ {frame : Frame} {formulas : List ℕ} {at : Size} {before : Store} {scratch : List ℕ} {i : ℕ} (a : Asks frame formulas at before scratch i)
    (w : Words) (e : row_of w ≡ row_at formulas i) where
  pub asks_negated : w.kind ≡ 3 → Asks frame formulas at before scratch w.a
  asks_negated k = asks_lower a (negated_operand a w e k)

  pub asks_pair : 4 ≤ w.kind → AsksPair frame formulas at before scratch i
  asks_pair l =
      let o = operands a w e l in
      record {
        asks = a;
        left = omega (arith, ap (λ (r : Row). r.a) e, o.0);
        right = omega (arith, ap (λ (r : Row). r.b) e, o.1);
      }

-- Its operands.
module _ {frame : Frame} {formulas : List ℕ} {at : Size} {before : Store} {scratch : List ℕ} {i : ℕ}
    (a : AsksPair frame formulas at before scratch i) (w : Words) (e : row_of w ≡ row_at formulas i) where
  pub left_lower : w.a < i
  left_lower = omega (arith, ap (λ (r : Row). r.a) e, a.left)

  pub right_lower : w.b < i
  right_lower = omega (arith, ap (λ (r : Row). r.b) e, a.right)

  pub asks_left : Asks frame formulas at before scratch w.a
  asks_left = asks_lower a.asks left_lower

  -- after the left
  pub asks_right :
      {m : Build ℕ} {after : Store} {scratch' : List ℕ} {r : Step}
      → Images m frame formulas at before after scratch scratch' r
      → r.full ≡ false
      → length scratch' ≡ length scratch
      → Asks frame formulas (size_of r) after scratch' w.b
  asks_right x g long = asks_next w.b a.asks x g long (omega (arith, right_lower, a.asks.formula))

  pub pair_joins :
      (left right or : Bool)
      → Joins (side or) (pair_at frame formulas i left right or) (image_at frame formulas (side left) w.a)
      (image_at frame formulas (side right) w.b)
  pair_joins left right or =
      record { is = pair_words frame formulas i w e left right or; steady = steady_image_at frame formulas (side right) w.b }

-- after the first pair
pub asks_second :
    {frame : Frame} {formulas : List ℕ} {at : Size} {before : Store} {scratch : List ℕ} {i : ℕ} {m : Build ℕ} {after : Store} {scratch' : List ℕ} {r : Step}
    → AsksPair frame formulas at before scratch i
    → Images m frame formulas at before after scratch scratch' r
    → r.full ≡ false
    → length scratch' ≡ length scratch
    → AsksPair frame formulas (size_of r) after scratch' i
asks_second {i = i} a x g long =
    record { asks = asks_next i a.asks x g long a.asks.formula; left = a.left; right = a.right }

-- A builder of images stays the same one.
pub same_images_itself : (b : ImageBuilder) → SameImages b b
same_images_itself b = record { builder = same_itself b.builder; formulas = refl; scratch = refl; scratch_length = refl }

pub same_images_twice : {b c d : ImageBuilder} → SameImages b c → SameImages c d → SameImages b d
same_images_twice x y =
    record {
      builder = same_twice x.builder y.builder;
      formulas = y.formulas ∙ x.formulas;
      scratch = y.scratch ∙ x.scratch;
      scratch_length = y.scratch_length ∙ x.scratch_length;
    }

-- Where it goes on from c, which stands where it came to from b.
module _ {b c : ImageBuilder} (s : SameImages b c) where
  pub asks_here : {i : ℕ} → AsksThere b c i → AsksImage c i
  asks_here a = rw (s.builder.frame, s.formulas) a

  pub later :
      {d : ImageBuilder} {r : Result ℕ NoRoom} (p : Polarity) (i : ℕ) → Imaged (image_by c p i) c d r → Later (image_by b p i) b c d r
  later p i x = record { images = rw (← s.builder.frame, ← s.formulas) x.images; same = same_images_twice s x.same }

-- A step that is another one.
pub later_as :
    {m m' : Build ℕ} {b c d : ImageBuilder} {r : Result ℕ NoRoom} → m ≡ m' → Later m' b c d r → Later m b c d r
later_as e x = record { images = images_as e x.images; same = x.same }

-- A step of the tables alone.
pub imaged_built :
    {m : Build ℕ} {b : ImageBuilder} {c : Builder} {i : ℕ} {r : Result ℕ NoRoom} (p : Polarity)
    → AsksImage b i
    → image_by b p i ≡ m
    → Built m b.builder c r
    → Imaged (image_by b p i) b (record b { builder = c }) r
imaged_built {b = b} {i = i} p a e x =
    record {
      images = images_leaf (steady_image_at b.builder.frame b.formulas.now p i) a.memo (builds_as e x.builds);
      same = record { builder = x.same; formulas = refl; scratch = refl; scratch_length = refl };
    }

-- A row that stands.
pub imaged_stands :
    {b : ImageBuilder} {i : ℕ} (p : Polarity) (x : ℕ)
    → AsksImage b i
    → image_by b p i ≡ give x
    → x < 2
    → Imaged (image_by b p i) b b (Ok x)
imaged_stands {b = b} p x a e small =
    imaged_built p a e
    (record { builds = builds_stands x a.ready (omega (arith, small, a.ready.two)); same = same_itself b.builder })

-- The memo has it, in word k.
pub imaged_known :
    {b : ImageBuilder} {i k x : ℕ} (p : Polarity)
    → AsksImage b i
    → k ≡ memo_place b.builder.frame p i
    → (1 ≤ get_or b.scratch.now k 0) × (x ≡ get_or b.scratch.now k 0 - 1)
    → Imaged (image_by b p i) b b (Ok x)
imaged_known {b = b} p a e known =
    rw known.1 (record { images = images_known p a e (λ z. omega (arith, known.0)); same = same_images_itself b })

-- A step for which there was no room, told onward by `?`.
pub failed :
    {m : Build ℕ} {b c d : ImageBuilder} {e : NoRoom} {r : Result ℕ NoRoom} → Later m b c d (Err e) → IsErr r → Later m b c d r
failed {d = d} {r = r} x is = record { images = rw (step_failed d.builder r is) x.images; same = x.same }

-- The left of a join, the right, then the join.
module _ {p : Polarity} {m left right : Build ℕ} (j : Joins p m left right) {b c d : ImageBuilder} where
  pub left_stops : {e : NoRoom} → Later left b c d (Err e) → Later m b c d (Err e)
  left_stops x = record { images = left_full j x.images refl; same = x.same }

  module _ {x : ℕ} (l : Later left b c d (Ok x)) {f : ImageBuilder} where
    pub right_stops : {e : NoRoom} → Later right b d f (Err e) → Later m b c f (Err e)
    right_stops y = record { images = right_full j l.images refl y.images refl; same = y.same }

    module _ {y : ℕ} (r : Later right b d f (Ok y)) where
      ready_there : BuilderReady f.builder
      ready_there = rw r.same.builder.frame (r.images.builds.done refl).ready

      -- The builder is ready there, and its rows to be joined.
      pub join_asks : BuilderReady f.builder × JoinReady f.builder.frame.rows f.builder.rows f.builder.table.now x y
      join_asks =
          let k = l.images.builds.done refl in
          let n = r.images.builds.done refl in (
            ready_there,
            record {
              rows = ready_there.rows;
              two = ready_there.two;
              left = omega (arith, k.below, n.grew);
              right = n.below;
            },
          )

      pub joined_later :
          {g : Builder} {z : Result ℕ NoRoom}
          → (BuilderReady f.builder → Built (join p x y) f.builder g z)
          → Later m b c (record f { builder = g }) z
      joined_later step =
          let z = step ready_there in
          record {
            images = joined j l.images refl r.images refl (rw (← r.same.builder.frame) z.builds);
            same =
                same_images_twice r.same (record { builder = z.same; formulas = refl; scratch = refl; scratch_length = refl });
          }
