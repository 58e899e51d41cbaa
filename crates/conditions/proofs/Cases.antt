-- What the code answers for an effect row, in each case. Assumes nothing.
use Prim.Native.Nat.{ℕ, ◌<◌}
use native.Mathlib.Omega.{arith}
use mathlib.Core.Path.{◌≡◌, refl, sym, ap, ◌∙◌}
use mathlib.Core.Bool.{Bool, true, false, cond, not}
use mathlib.Core.List.{List}
use lib.ListN.{length}
use lib.Dec.{eqb}
use borrow.Author.Tests.{eq-eqb, ne_eqb}
use Rattle.task.specs.declared.kinds.EffectKind.{EffectKind}
use Rattle.task.specs.declared.kinds.EffectKind.TheVariants.{Empty, Set, Clear, Both, Under}
use Rattle.task.specs.Kinds.{effect_number}
use Rattle.task.specs.Table.{Row, row_at}
use Rattle.task.proofs.Bounded.{length_upto}
use Rattle.normal_form.specs.Builder.{Build, give, bind, join, pair, opposite, image_of_false, image_of_true}
use Rattle.normal_form.specs.Conditions.{guarded}
use Rattle.normal_form.proofs.Growth.{steady_give, steady_bind, steady_join}
use Rattle.normal_form.proofs.Steady.{steady_guarded}
use Rattle.formula_builder.specs.declared.Words.{Words}
use Rattle.formula_builder.specs.declared.Frame.{Frame}
use Rattle.formula_builder.specs.Inner.Held.{Size, Step, Store, row_of, held, size_of, done_step, side}
use Rattle.formula_builder.proofs.Steps.{builds_done, falsity_small, truth_small}
use Rattle.images.specs.Inner.Images.{tree, image_at, Images, Asks as AsksImage}
use Rattle.images.proofs.Memos.{steady_image_at}
use Rattle.atom_sets.specs.Inner.Sets.{lacks, InSet}
use Rattle.conditions.specs.declared.Target.{Target}
use Rattle.conditions.specs.Inner.Conditions.{atom_of, acts, atom_row, condition_at, AsksKept, Recalls, Asks, Conditions}
use Rattle.conditions.specs.Inner.Joins.{AsksJoin, Joined}
use Rattle.conditions.proofs.Rows.{join_with_left, join_with_right, both_lower, under_lower, kind_known, of_atom, of_both, of_under}
use Rattle.conditions.proofs.Notes.{steady_condition_at, looks}
use Rattle.conditions.proofs.Memos.{conditions_as, asks_next, conditions_of_images, conditions_leaf, conditions_bind, conditions_stop, conditions_known}
use Rattle.conditions.proofs.Joins.{conditions_joined}

-- false or true, on either side
pub atom_small : (t : Target) (w : Row) → atom_row t w < 2
unfolding atom_row
atom_small t w = go (acts (atom_of t) _ w.a)
  where
    go : (b : Bool) → cond b (image_of_true (side t.negated)) (image_of_false (side t.negated)) < 2
    go true = truth_small (side t.negated)
    go false = falsity_small (side t.negated)

side_not : (b : Bool) → opposite (side b) ≡ side (not b)
side_not true = refl
side_not false = refl

-- what folds away in the join of "both"
false_not : (b : Bool) → image_of_false (side b) ≡ image_of_true (side (not b))
false_not true = refl
false_not false = refl

-- a row that stands is the answer, after a step
answers_standing :
    {m : Build ℕ} {frame : Frame} {formulas effects notes : List ℕ} {at : Size} {before after : Store} {scratch : List ℕ} {r : Step}
    (v : ℕ) {full : Bool}
    → Conditions m frame formulas effects notes at before after scratch r
    → r.full ≡ false
    → full ≡ false
    → v < r.rows
    → Conditions (give v) frame formulas effects notes (size_of r) after after scratch
    (record { rows = r.rows; twins = r.twins; row = v; full = full })
unfolding give
answers_standing v x g f h =
    conditions_leaf (steady_give v) (x.noted g) (x.memo g) (x.effect_memo g)
    (builds_done f (record { value = refl; state = refl; ready = (x.builds.done g).ready; below = h; grew = omega arith }))

-- Row e, with what its condition asks.
module _ {frame : Frame} {formulas effects notes : List ℕ} {t : Target} {at : Size} {before : Store} {scratch : List ℕ} {e : ℕ}
    (a : Asks frame formulas effects notes t at before scratch e) where
  pub kept_asks : AsksKept frame notes scratch t e
  kept_asks = record { looks = looks a a.noted.columns; variable = a.variable; formulas = a.source.limit; memo = a.effect_source.memo }

  pub in_set : InSet frame t.variable e
  in_set =
      record {
        variables = omega (arith, a.ready.variables);
        limit = a.effect_source.limit;
        variable = a.variable;
        effect = a.effect;
      }

  -- a lower row
  lower_asks : (i : ℕ) → i < e → Asks frame formulas effects notes t at before scratch i
  lower_asks i h =
      record {
        source = a.source;
        effect_source = a.effect_source;
        ready = a.ready;
        noted = a.noted;
        memo = a.memo;
        effect_memo = a.effect_memo;
        variable = a.variable;
        effect = omega (arith, a.effect, h);
      }

  pub answers_known :
      {row : ℕ}
      → Recalls frame notes scratch t e row
      → Conditions (condition_at frame formulas effects t e) frame formulas effects notes at before before scratch (done_step at row)
  answers_known r = conditions_known a (r.known formulas effects (held at before) a.noted a.effect_memo)

  -- a constant
  constant :
      (x : ℕ)
      → x < 2
      → condition_at frame formulas effects t e ≡ give x
      → Conditions (condition_at frame formulas effects t e) frame formulas effects notes at before before scratch (done_step at x)
  unfolding held give
  constant x h q =
      conditions_known a
      (record {
        again = ap (λ (m : Build ℕ). m (held at before)) q;
        below = rw (length_upto at.rows (row_at before.table)) (omega (arith, h, a.ready.two));
      })

  pub answers_lacking :
      {x : ℕ}
      → true ≡ lacks frame notes t.clear t.variable e
      → x ≡ image_of_false (side t.negated)
      → Conditions (condition_at frame formulas effects t e) frame formulas effects notes at before before scratch (done_step at x)
  answers_lacking h q =
      let idle = (a.noted.sets.alone formulas t.clear t.variable e a.variable a.effect (sym h)).idle t refl refl in
      rw q (constant (image_of_false (side t.negated)) (falsity_small (side t.negated)) idle)

  -- by its words
  module _ (w : Words) (q : row_of w ≡ row_at effects e) where
    kind_read : w.kind ≡ (row_at effects e).kind
    kind_read = ap (λ (r : Row). r.kind) q

    pub answers_atom :
        {x : ℕ}
        → w.kind < 3
        → x ≡ atom_row t (row_of w)
        → Conditions (condition_at frame formulas effects t e) frame formulas effects notes at before before scratch (done_step at x)
    answers_atom low h =
        rw (h, q)
        (constant (atom_row t (row_at effects e)) (atom_small t (row_at effects e))
        (of_atom frame formulas effects scratch a.effect_source e a.effect t (λ k. omega (arith, kind_read, low, k))
        (λ k. omega (arith, kind_read, low, k))))

    pub kind_few : w.kind < 5
    kind_few = omega (arith, kind_read, kind_known frame formulas effects scratch a.effect_source e a.effect)

    pub is_kind : {k : ℕ} → k ≡ w.kind → (row_at effects e).kind ≡ k
    is_kind k = sym kind_read ∙ sym k

-- an effect's row that is neither both nor under a formula
pub names_none : (k : EffectKind) → (k ≡ Both → ⊥) → (k ≡ Under → ⊥) → effect_number k < 3
names_none Empty b u = omega arith
names_none Set b u = omega arith
names_none Clear b u = omega arith
names_none Both b u = absurd (b refl)
names_none Under b u = absurd (u refl)

-- Row e is both, with the words w.
module _ {frame : Frame} {formulas effects notes : List ℕ} {t : Target} {at : Size} {before : Store} {scratch : List ℕ} {e : ℕ}
    (a : Asks frame formulas effects notes t at before scratch e) (three : (row_at effects e).kind ≡ 3) (w : Words) (q : row_of w ≡ row_at effects e)
  where
    abbrev join_both : ℕ → ℕ → Build ℕ
    join_both l r = join (side (not t.negated)) l r

    abbrev right_of : ℕ → Build ℕ
    right_of l = bind (condition_at frame formulas effects t w.b) (λ r. join_both l r)

    pub effects_lower : (w.a < e) × (w.b < e)
    effects_lower =
        let l = both_lower frame formulas effects scratch a.effect_source e a.effect three in
        (omega (arith, l.0, ap (λ (r : Row). r.a) q), omega (arith, l.1, ap (λ (r : Row). r.b) q))

    pub left_asks : Asks frame formulas effects notes t at before scratch w.a
    left_asks = lower_asks a w.a effects_lower.0

    both_reads : condition_at frame formulas effects t e ≡ bind (condition_at frame formulas effects t w.a) (λ l. right_of l)
    unfolding pair
    both_reads = rw (← (side_not t.negated), ap (λ (r : Row). r.a) q, ap (λ (r : Row). r.b) q) (of_both frame formulas effects scratch a.effect_source e a.effect t three)

    -- the left effect's condition is built
    module _ {notes₁ : List ℕ} {mid : Store} {s1 : List ℕ} {l : Step}
        (x : Conditions (condition_at frame formulas effects t w.a) frame formulas effects notes₁ at before mid s1 l) where
      pub left_full :
          l.full ≡ true → Conditions (condition_at frame formulas effects t e) frame formulas effects notes₁ at before mid s1 l
      left_full g =
          conditions_as both_reads
          (conditions_stop (λ l. right_of l)
          (λ l. steady_bind (steady_condition_at frame formulas effects t w.b) (λ r. steady_join (side (not t.negated)) l r)) x g)

      module _ (g : l.full ≡ false) where
        pub right-asks : length s1 ≡ length scratch → Asks frame formulas effects notes₁ t (size_of l) mid s1 w.b
        right-asks long = asks_next w.b a x g long (omega (arith, effects_lower.1, a.effect))

        -- and the right one's
        module _ {notes₂ : List ℕ} {after : Store} {s2 : List ℕ} {r : Step}
            (y : Conditions (condition_at frame formulas effects t w.b) frame formulas effects notes₂ (size_of l) mid after s2 r) where
          pub right_full :
              r.full ≡ true → Conditions (condition_at frame formulas effects t e) frame formulas effects notes₂ at before after s2 r
          right_full k =
              conditions_as both_reads
              (conditions_bind (λ l. right_of l) x g
              (conditions_stop (λ r. join_both l.row r) (λ r. steady_join (side (not t.negated)) l.row r) y k))

          module _ (k : r.full ≡ false) where
            -- the join gives the whole
            on_both :
                {notes₃ : List ℕ} {last : Store} {s3 : List ℕ} {z : Step}
                → Conditions (join_both l.row r.row) frame formulas effects notes₃ (size_of r) after last s3 z
                → Conditions (condition_at frame formulas effects t e) frame formulas effects notes₃ at before last s3 z
            on_both j = conditions_as both_reads (conditions_bind (λ l. right_of l) x g (conditions_bind (λ r. join_both l.row r) y k j))

            left-stands : l.row < r.rows
            left-stands = omega (arith, (x.builds.done g).below, (y.builds.done k).grew)

            pub left_false :
                l.row ≡ image_of_false (side t.negated)
                → Conditions (condition_at frame formulas effects t e) frame formulas effects notes₂ at before after s2 r
            left_false h =
                on_both
                (conditions_as (rw (h, false_not t.negated) (join_with_left (side (not t.negated)) r.row))
                (answers_standing r.row y k k (y.builds.done k).below))

            pub right_false :
                r.row ≡ image_of_false (side t.negated)
                → Conditions (condition_at frame formulas effects t e) frame formulas effects notes₂ at before after s2
                (record { rows = r.rows; twins = r.twins; row = l.row; full = l.full })
            right_false h =
                on_both
                (conditions_as (rw (h, false_not t.negated) (join_with_right (side (not t.negated)) l.row))
                (answers_standing l.row y k g left-stands))

            pub both-join-asks : AsksJoin frame notes₂ e (size_of r) after l.row r.row
            both-join-asks =
                let m = y.builds.done k in
                record { looks = looks a (y.noted k).columns; ready = m.ready; left = left-stands; right = m.below }

            pub both-done :
                {notes₃ : List ℕ} {last : Store} {z : Step}
                → Joined frame notes₂ notes₃ t e (not t.negated) (size_of r) l.row r.row after last z
                → Conditions (condition_at frame formulas effects t e) frame formulas effects notes₃ at before last s2 z
            both-done j =
                let flag : t.negated ≡ false → eqb (row_at effects e).kind 3 ≡ not t.negated =
                λ p. eq-eqb (row_at effects e).kind 3 three ∙ ap (λ b. not b) (sym p) in
                on_both
                (conditions_joined (record { ready = (y.builds.done k).ready; noted = y.noted k; flag = flag }) (y.memo k) (y.effect_memo k) j)

-- Row e is a formula over an effect, with the words w.
module _ {frame : Frame} {formulas effects notes : List ℕ} {t : Target} {at : Size} {before : Store} {scratch : List ℕ} {e : ℕ}
    (a : Asks frame formulas effects notes t at before scratch e) (four : (row_at effects e).kind ≡ 4) (w : Words) (q : row_of w ≡ row_at effects e)
  where
    abbrev over : ℕ → Build ℕ
    over c = guarded frame.variables (side t.negated) (tree frame formulas w.a) c

    pub inner_lower : (w.a < frame.formulas) × (w.b < e)
    inner_lower =
        let l = under_lower frame formulas effects scratch a.effect_source e a.effect four in
        (omega (arith, l.0, ap (λ (r : Row). r.a) q), omega (arith, l.1, ap (λ (r : Row). r.b) q))

    pub inner_asks : Asks frame formulas effects notes t at before scratch w.b
    inner_asks = lower_asks a w.b inner_lower.1

    under_reads : condition_at frame formulas effects t e ≡ bind (condition_at frame formulas effects t w.b) (λ c. over c)
    under_reads = rw (ap (λ (r : Row). r.a) q, ap (λ (r : Row). r.b) q) (of_under frame formulas effects scratch a.effect_source e a.effect t four)

    -- the inner effect's condition is built
    module _ {notes₁ : List ℕ} {mid : Store} {s1 : List ℕ} {s : Step}
        (x : Conditions (condition_at frame formulas effects t w.b) frame formulas effects notes₁ at before mid s1 s) where
      pub inner-full :
          s.full ≡ true → Conditions (condition_at frame formulas effects t e) frame formulas effects notes₁ at before mid s1 s
      inner-full g =
          conditions_as under_reads
          (conditions_stop (λ c. over c) (λ c. steady_guarded frame.variables (side t.negated) (tree frame formulas w.a) c) x g)

      module _ (g : s.full ≡ false) where
        -- what is left gives the whole
        on :
            {notes₂ : List ℕ} {last : Store} {s2 : List ℕ} {z : Step}
            → Conditions (over s.row) frame formulas effects notes₂ (size_of s) mid last s2 z
            → Conditions (condition_at frame formulas effects t e) frame formulas effects notes₂ at before last s2 z
        on y = conditions_as under_reads (conditions_bind (λ c. over c) x g y)

        pub inner-false :
            s.row ≡ image_of_false (side t.negated)
            → Conditions (condition_at frame formulas effects t e) frame formulas effects notes₁ at before mid s1 s
        unfolding guarded give
        inner-false h =
            on
            (conditions_as (rw (eq-eqb s.row (image_of_false (side t.negated)) h))
            (answers_standing s.row x g g (x.builds.done g).below))

        pub image-asks : length s1 ≡ length scratch → AsksImage frame formulas (size_of s) mid s1 w.a
        image-asks long =
            let n = asks_next e a x g long a.effect in
            record { source = n.source; ready = n.ready; memo = n.memo; formula = inner_lower.0 }

        -- it is not false, and the formula's image is built
        module _ (h : s.row ≡ image_of_false (side t.negated) → ⊥) {after : Store} {s2 : List ℕ} {f : Step}
            (y : Images (image_at frame formulas (side t.negated) w.a) frame formulas (size_of s) mid after s1 s2 f) where
          joins : over s.row ≡ bind (image_at frame formulas (side t.negated) w.a) (λ z. join (side t.negated) z s.row)
          unfolding guarded image_at
          joins = rw (ne_eqb s.row (image_of_false (side t.negated)) h)

          image : Conditions (image_at frame formulas (side t.negated) w.a) frame formulas effects notes₁ (size_of s) mid after s2 f
          image = conditions_of_images (steady_image_at frame formulas (side t.negated) w.a) (x.noted g) (x.effect_memo g) y

          pub image-full :
              f.full ≡ true → Conditions (condition_at frame formulas effects t e) frame formulas effects notes₁ at before after s2 f
          image-full k =
              on
              (conditions_as joins
              (conditions_stop (λ z. join (side t.negated) z s.row) (λ z. steady_join (side t.negated) z s.row) image k))

          module _ (k : f.full ≡ false) where
            pub under-join-asks : AsksJoin frame notes₁ e (size_of f) after f.row s.row
            under-join-asks =
                let m = y.builds.done k in
                record {
                  looks = looks a (x.noted g).columns;
                  ready = m.ready;
                  left = m.below;
                  right = omega (arith, (x.builds.done g).below, m.grew);
                }

            pub under-done :
                {notes₂ : List ℕ} {last : Store} {z : Step}
                → Joined frame notes₁ notes₂ t e t.negated (size_of f) f.row s.row after last z
                → Conditions (condition_at frame formulas effects t e) frame formulas effects notes₂ at before last s2 z
            under-done j =
                let flag : t.negated ≡ false → eqb (row_at effects e).kind 3 ≡ t.negated =
                λ p. ne_eqb (row_at effects e).kind 3 (λ z. omega (arith, z, four)) ∙ sym p in
                on
                (conditions_as joins
                (conditions_bind (λ z. join (side t.negated) z s.row) image k
                (conditions_joined (record { ready = (y.builds.done k).ready; noted = image.noted k; flag = flag }) (image.memo k)
                (image.effect_memo k) j)))
