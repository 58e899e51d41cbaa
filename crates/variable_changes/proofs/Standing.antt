-- Steps from where building stands, put together. Assumes nothing.
use Prim.Native.Nat.{ℕ, ◌<◌}
use native.Mathlib.Omega.{arith}
use mathlib.Core.Path.{◌≡◌, refl, ap, ap₂, ◌∙◌}
use Rattle.std.specs.Prelude.{Result, Ok}
use Rattle.formula_builder.specs.declared.NoRoom.{NoRoom}
use Rattle.conditions.specs.declared.ConditionBuilder.{ConditionBuilder}
use Rattle.conditions.proofs.Steps.{same_conditions_twice}
use mathlib.Core.Bool.{Bool, true, false, true≢false}
use mathlib.Core.Logic.{◌⊎◌, inl, inr}
use mathlib.Core.List.{List}
use lib.ListN.{length}
use borrow.Author.Tests.{eq-eqb, ne_eqb}
use Rattle.normal_form.specs.Builder.{Got, Build, give, bind, join, plain, negated}
use Rattle.normal_form.specs.Growth.{Steady}
use Rattle.normal_form.specs.Conditions.{condition}
use Rattle.normal_form.specs.Operators.{Changes, deletes_of, changes_of}
use Rattle.normal_form.proofs.Growth.{steady_give, steady_bind, steady_join}
use Rattle.normal_form.proofs.Steady.{steady_deletes, steady_condition}
use Rattle.task.specs.Semantics.{Effect, sets, clears}
use Rattle.formula_builder.specs.declared.Frame.{Frame}
use Rattle.formula_builder.specs.Inner.Held.{Size, Step, Store, held, size_of, done_step, Ready, JoinReady, Builds}
use Rattle.formula_builder.proofs.Steps.{builds_stands, within_before}
use Rattle.images.specs.Inner.Images.{Memo, Images}
use Rattle.images.proofs.Memos.{done_grows}
use Rattle.conditions.specs.declared.Target.{Target}
use Rattle.conditions.specs.Inner.Conditions.{effect_tree, EffectMemo, Noted, Asks, Conditions, SameConditions, Later, Conditioned}
use Rattle.conditions.proofs.Memos.{effect_memo_grows, conditions_as, conditions_leaf, conditions_bind, conditions_stop}
use Rattle.variable_changes.specs.Inner.Stands.{Stands, StandsAt, Leaves, Reaches, Makes, StandsThere, StandsBy, deletes_by}

-- what a condition asks
pub asks_condition :
    {frame : Frame} {formulas effects notes : List ℕ} {at : Size} {s : Store} {scratch : List ℕ} {e : ℕ} (t : Target)
    → StandsAt frame formulas effects notes at s scratch e
    → t.variable < frame.variables
    → Asks frame formulas effects notes t at s scratch e
asks_condition t a h =
    record {
      source = a.stands.source;
      effect_source = a.stands.effect_source;
      ready = a.stands.ready;
      noted = a.noted;
      memo = a.stands.memo;
      effect_memo = a.stands.effect_memo;
      variable = h;
      effect = a.effect;
    }

-- a row that stands there is given
given_row :
    {frame : Frame} {formulas effects notes : List ℕ} {at : Size} {s : Store} {scratch : List ℕ} {e : ℕ} (x : ℕ)
    → StandsAt frame formulas effects notes at s scratch e
    → x < at.rows
    → Conditions (give x) frame formulas effects notes at s s scratch (done_step at x)
given_row x a h =
    conditions_leaf (steady_give x) a.noted a.stands.memo a.stands.effect_memo (builds_stands x a.stands.ready h)

-- where building stands after a step
pub stands_next :
    {A : Type 0} {m : Build A} {frame : Frame} {formulas effects : List ℕ} {at : Size} {before after : Store} {s1 s2 : List ℕ} {full : Bool} {next : Size}
    → Stands frame formulas effects at before s1
    → Reaches m frame formulas effects at before after s2 full next
    → full ≡ false
    → length s2 ≡ length s1
    → Stands frame formulas effects next after s2
stands_next a x q long =
    let d = x.done q in
    record {
      source =
          record {
            words = a.source.words;
            memo = omega (arith, a.source.memo, long);
            limit = a.source.limit;
            down = a.source.down;
          };
      effect_source =
          record {
            words = a.effect_source.words;
            memo = omega (arith, a.effect_source.memo, long);
            limit = a.effect_source.limit;
            down = a.effect_source.down;
          };
      ready = d.ready;
      memo = d.memo;
      effect_memo = d.effect_memo;
    }

-- a step that builds a row
makes_built :
    {m : Build ℕ} {frame : Frame} {formulas effects : List ℕ} {at : Size} {before after : Store} {s2 : List ℕ} {r : Step}
    → Builds m frame at before after r
    → (r.full ≡ false → Memo frame formulas s2 (held (size_of r) after))
    → (r.full ≡ false → EffectMemo frame formulas effects s2 (held (size_of r) after))
    → Makes m frame formulas effects at before after s2 r.full (size_of r) r.row
makes_built b memo effect_memo =
    record {
      reaches =
          record {
            done = λ q. record { state = (b.done q).state; ready = (b.done q).ready; memo = memo q; effect_memo = effect_memo q };
            over = b.over;
          };
      value = λ q. (b.done q).value;
    }

makes_row :
    {m : Build ℕ} {frame : Frame} {formulas effects notes : List ℕ} {at : Size} {before after : Store} {s2 : List ℕ} {r : Step}
    → Conditions m frame formulas effects notes at before after s2 r
    → Makes m frame formulas effects at before after s2 r.full (size_of r) r.row
makes_row x = makes_built x.builds x.memo x.effect_memo

-- one that leaves the memo of effects
pub makes_image :
    {m : Build ℕ} {frame : Frame} {formulas effects : List ℕ} {at : Size} {before after : Store} {s1 s2 : List ℕ} {r : Step}
    → Steady m
    → EffectMemo frame formulas effects s1 (held at before)
    → Images m frame formulas at before after s1 s2 r
    → Makes m frame formulas effects at before after s2 r.full (size_of r) r.row
makes_image steady memo x =
    makes_built x.builds x.memo (λ q. effect_memo_grows (done_grows steady (x.builds.done q)) x.rest memo)

module _ {A B : Type 0} {m : Build A} {frame : Frame} {formulas effects : List ℕ} {at : Size} {before mid : Store} {s2 : List ℕ} {full : Bool}
    {next : Size} {a : A} (f : A → Build B) (x : Makes m frame formulas effects at before mid s2 full next a) where
  makes_bind :
      {after : Store} {s3 : List ℕ} {full' : Bool} {last : Size} {b : B}
      → full ≡ false
      → Makes (f a) frame formulas effects next mid after s3 full' last b
      → Makes (bind m f) frame formulas effects at before after s3 full' last b
  unfolding bind
  makes_bind {after} {s3} {full'} {last} {b} q y =
      let same : f (m (held at before)).value (m (held at before)).st ≡ f a (held next mid) =
      ap₂ f (x.value q) (x.reaches.done q).state in
      record {
        reaches =
            record {
              done = λ g.
                  let d = y.reaches.done g in
                  record { state = ap (λ (z : Got B). z.st) same ∙ d.state; ready = d.ready; memo = d.memo; effect_memo = d.effect_memo };
              over = λ g w. y.reaches.over g (rw (ap (λ (z : Got B). z.st) same) at w);
            };
        value = λ g. ap (λ (z : Got B). z.value) same ∙ y.value g;
      }

  makes_stop :
      {last : Size} {b : B}
      → ((a : A) → Steady (f a))
      → full ≡ true
      → Makes (bind m f) frame formulas effects at before mid s2 true last b
  unfolding bind
  makes_stop steady q =
      let g = m (held at before) in
      record {
        reaches =
            record {
              done = λ e. absurd (true≢false e);
              over = λ _ w. x.reaches.over q (within_before ((steady g.value).grow g.st) w);
            };
        value = λ e. absurd (true≢false e);
      }

-- without room any value does
pub makes_any :
    {A : Type 0} {m : Build A} {frame : Frame} {formulas effects : List ℕ} {at : Size} {before after : Store} {s2 : List ℕ} {next : Size} {a b : A}
    → Makes m frame formulas effects at before after s2 true next a
    → Makes m frame formulas effects at before after s2 true next b
makes_any x = record { reaches = x.reaches; value = λ e. absurd (true≢false e) }

-- only the value changes
makes_map :
    {A B : Type 0} {m : Build A} {frame : Frame} {formulas effects : List ℕ} {at : Size} {before after : Store} {s2 : List ℕ} {full : Bool} {next : Size} {a : A}
    (g : A → B)
    → Makes m frame formulas effects at before after s2 full next a
    → Makes (bind m (λ x. give (g x))) frame formulas effects at before after s2 full next (g a)
unfolding bind give
makes_map g x = record { reaches = record { done = x.reaches.done; over = x.reaches.over }; value = λ q. ap g (x.value q) }

-- where the next step for the same effect stands
pub stands_at_next :
    {m : Build ℕ} {frame : Frame} {formulas effects notes notes' : List ℕ} {at : Size} {before after : Store} {s1 s2 : List ℕ} {r : Step} {e : ℕ}
    → StandsAt frame formulas effects notes at before s1 e
    → Conditions m frame formulas effects notes' at before after s2 r
    → r.full ≡ false
    → length s2 ≡ length s1
    → StandsAt frame formulas effects notes' (size_of r) after s2 e
stands_at_next a x q long =
    record { stands = stands_next a.stands (makes_row x).reaches q long; noted = x.noted q; effect = a.effect }

-- The notes, when they are right, and when there was no room.
pub leaves_same :
    {full : Bool} {frame : Frame} {formulas effects notes : List ℕ} {at : Size} {s : Store}
    → Noted frame formulas effects notes (held at s)
    → Leaves full frame formulas effects notes at s
leaves_same n = record { noted = λ q. n }

pub leaves_full :
    {frame : Frame} {formulas effects notes : List ℕ} {at : Size} {s : Store} → Leaves true frame formulas effects notes at s
leaves_full = record { noted = λ q. absurd (true≢false q) }

-- D, freed of conflict with A.
module _ {notes : List ℕ} (frame : Frame) (formulas effects : List ℕ) (at : Size) (before : Store) (scratch : List ℕ) (e v a d : ℕ)
    (s : StandsAt frame formulas effects notes at before scratch e) (row : d < at.rows) where
  tree : Effect
  tree = effect_tree frame formulas effects e

  stays :
      deletes_of frame.variables tree v a d ≡ give d
      → Conditions (deletes_of frame.variables tree v a d) frame formulas effects notes at before before scratch (done_step at d)
  stays q = conditions_as q (given_row d s row)

  pub conflict_none :
      (a ≡ 0) ⊎ ((a ≡ 0 → ⊥) × (d ≡ 0))
      → Conditions (deletes_of frame.variables (effect_tree frame formulas effects e) v a d) frame formulas effects notes at before before scratch (done_step at d)
  unfolding deletes_of tree
  conflict_none (inl h) = stays (rw (eq-eqb a 0 h))
  conflict_none (inr (g, h)) = stays (rw (ne_eqb a 0 g, eq-eqb d 0 h))

  module _ (g : a ≡ 0 → ⊥) (h : d ≡ 0 → ⊥) {notes' : List ℕ} {after : Store} {s2 : List ℕ} {n : Step}
      (x : Conditions (condition frame.variables negated (sets v) (effect_tree frame formulas effects e)) frame formulas effects notes' at before after s2 n)
    where
      freed :
          deletes_of frame.variables tree v a d
          ≡ bind (condition frame.variables negated (sets v) (effect_tree frame formulas effects e)) (λ c. join plain d c)
      unfolding deletes_of tree
      freed = rw (ne_eqb a 0 g, ne_eqb d 0 h)

      pub negated-full :
          n.full ≡ true
          → Conditions (deletes_of frame.variables (effect_tree frame formulas effects e) v a d) frame formulas effects notes' at before after s2 n
      unfolding tree
      negated-full q = conditions_as freed (conditions_stop (λ c. join plain d c) (λ c. steady_join plain d c) x q)

      -- Both tables are ready there, and the rows to be joined.
      pub negated-join-asks : n.full ≡ false → Ready frame (size_of n) after × JoinReady frame.rows n.rows after.table d n.row
      negated-join-asks q =
          let k = x.builds.done q in
          (k.ready, record { rows = k.ready.rows; two = k.ready.two; left = omega (arith, k.grew, row); right = k.below })

      pub negated-joined :
          {last : Store} {z : Step}
          → n.full ≡ false
          → Builds (join plain d n.row) frame (size_of n) after last z
          → Conditions (deletes_of frame.variables (effect_tree frame formulas effects e) v a d) frame formulas effects notes' at before last s2 z
      unfolding tree
      negated-joined q b =
          conditions_as freed
          (conditions_bind (λ c. join plain d c) x q
          (conditions_leaf (steady_join plain d n.row) (x.noted q) (x.memo q) (x.effect_memo q) b))

-- A, D, N.
module _ (n v : ℕ) (effect : Effect) where
  last_of : ℕ → ℕ → Build Changes
  last_of a d =
      bind (deletes_of n effect v a d) (λ k. give (record { variable = v; adds = a; deletes = k }))

  steady_last : (a d : ℕ) → Steady (last_of a d)
  unfolding last_of
  steady_last a d = steady_bind (steady_deletes n effect v a d) (λ k. steady_give _)

  after_set : ℕ → Build Changes
  after_set a = bind (condition n plain (clears v) effect) (λ d. last_of a d)

  steady_after : (a : ℕ) → Steady (after_set a)
  unfolding after_set
  steady_after a = steady_bind (steady_condition n plain (clears v) effect) (λ d. steady_last a d)

  module _ {frame : Frame} {formulas effects notes : List ℕ} {at : Size} {before mid : Store} {s2 : List ℕ} {a : Step}
      (x : Conditions (condition n plain (sets v) effect) frame formulas effects notes at before mid s2 a) where
    pub set_full :
        {last : Size} {c : Changes}
        → a.full ≡ true
        → Makes (changes_of n effect v) frame formulas effects at before mid s2 true last c
    unfolding changes_of after_set last_of
    set_full q = makes_stop after_set (makes_row x) steady_after q

    module _ (q : a.full ≡ false) {notes' : List ℕ} {after : Store} {s3 : List ℕ} {d : Step}
        (y : Conditions (condition n plain (clears v) effect) frame formulas effects notes' (size_of a) mid after s3 d) where
      pub clear-full :
          {last : Size} {c : Changes}
          → d.full ≡ true
          → Makes (changes_of n effect v) frame formulas effects at before after s3 true last c
      unfolding changes_of after_set last_of
      clear-full g = makes_bind after_set (makes_row x) q (makes_stop (last_of a.row) (makes_row y) (steady_last a.row) g)

      pub change_made :
          {notes'' : List ℕ} {last : Store} {s4 : List ℕ} {k : Step}
          → d.full ≡ false
          → Conditions (deletes_of n effect v a.row d.row) frame formulas effects notes'' (size_of d) after last s4 k
          → Makes (changes_of n effect v) frame formulas effects at before last s4 k.full (size_of k)
          (record { variable = v; adds = a.row; deletes = k.row })
      unfolding changes_of after_set last_of
      change_made g z =
          makes_bind after_set (makes_row x) q
          (makes_bind (last_of a.row) (makes_row y) g
          (makes_map {B = Changes} (λ k. record { variable = v; adds = a.row; deletes = k }) (makes_row z)))

-- Where a builder goes on from c, which stands where it came to from b.
pub stands_here : {b c : ConditionBuilder} {e : ℕ} → SameConditions b c → StandsThere b c e → StandsBy c e
stands_here s a = rw (s.images.builder.frame, s.images.formulas, s.effects) a

-- what is freed of conflict there
pub freed_here :
    {b c d : ConditionBuilder} (e v x y : ℕ) {r : Result ℕ NoRoom}
    → SameConditions b c
    → Conditioned (deletes_by c e v x y) c d r
    → Later (deletes_by b e v x y) b c d r
freed_here e v a k s x =
    record {
      conditions = rw (← s.images.builder.frame, ← s.images.formulas, ← s.effects) x.conditions;
      same = same_conditions_twice s x.same;
    }

-- where it stands after a step
pub stands_later :
    {m : Build ℕ} {b c d : ConditionBuilder} {x e : ℕ}
    → StandsThere b c e
    → Later m b c d (Ok x)
    → length d.images.scratch.now ≡ length c.images.scratch.now
    → StandsThere b d e
stands_later a x long = stands_at_next a x.conditions refl long
