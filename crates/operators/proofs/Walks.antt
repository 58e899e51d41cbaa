-- Walking over the variables of an operator. Assumes nothing.
use Prim.Native.Nat.{ℕ, ◌+◌, ◌≤◌, ◌<◌}
use native.Mathlib.Omega.{arith}
use native.Mathlib.Numerals.{add-one}
use mathlib.Core.Path.{◌≡◌, refl, sym, ap, ◌∙◌}
use mathlib.Core.Bool.{Bool, true, false, true≢false, false≢true}
use mathlib.Core.List.{List, [], ◌∷◌, ◌++◌}
use lib.ListN.{length}
use Rattle.std.specs.Prelude.{Result, Ok, Err}
use Rattle.std.specs.Result.{IsErr}
use Rattle.formula_builder.specs.declared.NoRoom.{NoRoom}
use Rattle.operators.specs.declared.Tally.{Tally as Answer}
use Rattle.normal_form.specs.Builder.{St, give, bind, each, plain}
use Rattle.normal_form.proofs.ShapeSizes.{each_grows}
use Rattle.normal_form.specs.Operators.{Changes, changes_of}
use Rattle.normal_form.proofs.Growth.{steady_each}
use Rattle.normal_form.proofs.Steady.{steady_changes}
use Rattle.formula_builder.specs.declared.Frame.{Frame}
use Rattle.formula_builder.specs.Inner.Held.{Size, Step, Store, held, size_of, size_in, store_in}
use Rattle.formula_builder.proofs.Steps.{within_before}
use Rattle.images.specs.Inner.Images.{image_at, Images}
use Rattle.images.proofs.Memos.{steady_image_at}
use Rattle.conditions.specs.declared.ConditionBuilder.{ConditionBuilder}
use Rattle.conditions.specs.Inner.Conditions.{effect_tree, Noted, SameConditions}
use Rattle.variable_changes.specs.Inner.Stands.{Stands, StandsAt, Reaches, Makes, MakesBy, LeavesBy, changes_by}
use Rattle.conditions.proofs.Memos.{conditions_of_images}
use Rattle.variable_changes.proofs.Standing.{stands_next, stands_at_next}
use Rattle.atom_sets.specs.Inner.Sets.{InSet}
use Rattle.change_records.specs.Inner.Recorded.{Keeps, Opens, Recorded}
use Rattle.change_records.proofs.Keeping.{recorded_none, recorded_few, recorded_more}
use Rattle.operators.specs.Inner.Operator.{all_changes, operator_built, LooksOn, NextTouched, BuildsOperator, Tally, size_behind, Walked, OperatorWalked, WalkedBy, changes_of_all, tally_at, tally_by, tally_of}
use Rattle.operators.proofs.Passing.{stretch_passed, reaches_alike, recorded_alike}

-- nothing is built
makes_give :
    {A : Type 0} {frame : Frame} {formulas effects : List ℕ} {at : Size} {s : Store} {scratch : List ℕ} (x : A)
    → Stands frame formulas effects at s scratch
    → Makes (give x) frame formulas effects at s s scratch false at x
unfolding give
makes_give x a =
    record {
      reaches =
          record {
            done = λ _. record { state = refl; ready = a.ready; memo = a.memo; effect_memo = a.effect_memo };
            over = λ e w. absurd (true≢false (sym e));
          };
      value = λ _. refl;
    }

as_recorded :
    {cs ds : List Changes} {from to : ℕ} {l n : List ℕ} → cs ≡ ds → Recorded ds from l n to → Recorded cs from l n to
as_recorded e r = rw e r

-- The loop over the variables.
module _ (frame : Frame) (formulas effects : List ℕ) (e : ℕ) where
  changes_none :
      {at : Size} {s : Store} {scratch : List ℕ}
      → Stands frame formulas effects at s scratch
      → Reaches (all_changes frame formulas effects e 0) frame formulas effects at s s scratch false at
  unfolding all_changes each
  changes_none a = (makes_give [] a).reaches

  -- none is recorded
  none_recorded :
      (at : Size) (s : Store) (from : ℕ) (l : List ℕ)
      → Recorded (all_changes frame formulas effects e 0 (held at s)).value from l l from
  unfolding all_changes each give
  none_recorded at s from l = recorded_none from l

  module _ {at : Size} {before mid : Store} {s2 : List ℕ} {here : Size} (v : ℕ)
      (x : Reaches (all_changes frame formulas effects e v) frame formulas effects at before mid s2 false here) where
    changes_more :
        {after : Store} {s3 : List ℕ} {full : Bool} {next : Size}
        → Reaches (changes_of frame.variables (effect_tree frame formulas effects e) v) frame formulas effects here mid after s3 full next
        → Reaches (all_changes frame formulas effects e (v + 1)) frame formulas effects at before after s3 full next
    unfolding all_changes each bind give
    changes_more y =
        let step : St → St = λ t. (changes_of frame.variables (effect_tree frame formulas effects e) v t).st in
        let same = ap step (x.done refl).state in
        rw (add-one v)
        (record {
          done = λ q.
              let d = y.done q in
              record { state = same ∙ d.state; ready = d.ready; memo = d.memo; effect_memo = d.effect_memo };
          over = λ q w. y.over q (rw same at w);
        })

    more_recorded :
        {after : Store} {s3 : List ℕ} {full : Bool} {next : Size} {from k to : ℕ} {l m n : List ℕ} (d : Changes)
        → Recorded (all_changes frame formulas effects e v (held at before)).value from l m k
        → Makes (changes_of frame.variables (effect_tree frame formulas effects e) v) frame formulas effects here mid after s3 full next d
        → full ≡ false
        → Recorded (d ∷ []) k m n to
        → Recorded (all_changes frame formulas effects e (v + 1) (held at before)).value from l n to
    unfolding all_changes each bind give
    more_recorded {from = from} {to = to} {l = l} {n = n} d r y q z =
        let all = each v (changes_of frame.variables (effect_tree frame formulas effects e)) (held at before) in
        let step : St → Changes = λ t. (changes_of frame.variables (effect_tree frame formulas effects e) v t).value in
        let last : step all.st ≡ d = ap step (x.done refl).state ∙ y.value q in
        let same = ap (λ (x : Changes). all.value ++ (x ∷ [])) last in
        rw (add-one v) (as_recorded same (recorded_more r z))

  -- no room for a part is no room for all
  changes_stop :
      {at : Size} {before after : Store} {s2 : List ℕ} {next last : Size} (v n : ℕ)
      → v ≤ n
      → Reaches (all_changes frame formulas effects e v) frame formulas effects at before after s2 true next
      → Reaches (all_changes frame formulas effects e n) frame formulas effects at before after s2 true last
  unfolding all_changes
  changes_stop {at} {before} v n h x =
      record {
        done = λ q. absurd (true≢false q);
        over = λ q w.
            x.over refl
            (within_before
            (each_grows (changes_of frame.variables (effect_tree frame formulas effects e)) (held at before)
            (λ k. steady_changes frame.variables (effect_tree frame formulas effects e) k) v n h)
            w);
      }

  all_walked :
      {at : Size} {before after : Store} {s2 : List ℕ} {from : ℕ} {l m : List ℕ} (r : Tally) (v n : ℕ)
      → v ≡ n
      → Reaches (all_changes frame formulas effects e v) frame formulas effects at before after s2 r.full (size_behind r)
      → Recorded (all_changes frame formulas effects e v (held at before)).value from l m r.records
      → Walked (all_changes frame formulas effects e n) frame formulas effects at before after s2 from l m r
  all_walked r v n same x y = rw (sym same) (record { reaches = x; recorded = λ _. y })

-- The loop's invariant: the changes of the variables below v are built and recorded.
pub record Walking (frame : Frame) (formulas effects : List ℕ) (e : ℕ) (at : Size) (before mid : Store) (s2 : List ℕ) (from : ℕ) (l m : List ℕ) (here : Size) (k v : ℕ) : Type 0 where
  pub below : v ≤ frame.variables
  pub reaches : Reaches (all_changes frame formulas effects e v) frame formulas effects at before mid s2 false here
  pub recorded : Recorded (all_changes frame formulas effects e v (held at before)).value from l m k
  pub few : k ≤ from + v

-- what looking for the next variable asks
pub looks_on :
    {frame : Frame} {formulas effects notes₀ notes : List ℕ} {at : Size} {s : Store} {scratch : List ℕ} {t : St} {e from : ℕ}
    → StandsAt frame formulas effects notes₀ at s scratch e
    → Noted frame formulas effects notes t
    → from ≤ frame.variables
    → LooksOn frame notes e from
looks_on a n h =
    record {
      variables = omega (arith, a.stands.ready.variables);
      limit = a.stands.effect_source.limit;
      effect = a.effect;
      words = n.sets.words;
      from_most = h;
    }

-- and at one that is there
pub looks_at : {frame : Frame} {notes : List ℕ} {e from v : ℕ} → LooksOn frame notes e from → v < frame.variables → InSet frame v e
looks_at l h = record { variables = l.variables; limit = l.limit; variable = h; effect = l.effect }

module _ {frame : Frame} {formulas effects notes : List ℕ} {e : ℕ} {at : Size} {before : Store} {s1 : List ℕ}
    (a : StandsAt frame formulas effects notes at before s1 e) where
  -- on to the next variable of which an atom is named
  walking_on :
      {mid : Store} {s2 : List ℕ} {from : ℕ} {l m : List ℕ} {here : Size} {k v next : ℕ} {notes' : List ℕ} {t : St}
      → Walking frame formulas effects e at before mid s2 from l m here k v
      → Noted frame formulas effects notes' t
      → NextTouched frame notes' e v next
      → Walking frame formulas effects e at before mid s2 from l m here k next
  walking_on {v = v} {next = next} w noted n =
      let same =
      stretch_passed frame formulas effects e v next n.above
      (λ j p q clear.
      noted.sets.alone formulas clear j e (omega (arith, q, n.below)) a.effect (n.passed clear j p q)) in
      record {
        below = n.below;
        reaches = reaches_alike same w.reaches;
        recorded = recorded_alike same (held at before) w.recorded;
        few = omega (arith, w.few, n.above);
      }

  pub walking_begins :
      {from : ℕ} {l : List ℕ} {next : ℕ}
      → NextTouched frame notes e 0 next
      → Walking frame formulas effects e at before before s1 from l l at from next
  walking_begins {from} {l} n =
      walking_on
      (record {
        below = omega arith;
        reaches = changes_none frame formulas effects e a.stands;
        recorded = none_recorded frame formulas effects e at before from l;
        few = omega arith;
      })
      a.noted n

  module _ {mid : Store} {s2 : List ℕ} {from : ℕ} {l m : List ℕ} {here : Size} {k v : ℕ}
      (w : Walking frame formulas effects e at before mid s2 from l m here k v) where
    -- what the change of variable v asks, and what recording it asks
    pub walking_asks :
        {notes' : List ℕ}
        → Noted frame formulas effects notes' (held here mid)
        → length s2 ≡ length s1
        → v < frame.variables
        → StandsAt frame formulas effects notes' here mid s2 e × (v < frame.variables)
    walking_asks noted long h =
        (record { stands = stands_next a.stands w.reaches refl long; noted = noted; effect = a.effect }, h)

    pub walking_keeps : Opens from l → length m ≡ length l → Keeps k m
    walking_keeps o long =
        record {
          room = omega (arith, o.room, long);
          limit = omega (arith, o.limit, w.few, w.below, a.stands.ready.variables);
        }

    module _ {after : Store} {s3 : List ℕ} {there : Size} {full : Bool} {d : Changes}
        (y : Makes (changes_of frame.variables (effect_tree frame formulas effects e) v) frame formulas effects here mid after s3 full there d)
      where
        pub walking-stops :
            {n : List ℕ} {r : Tally}
            → v < frame.variables
            → full ≡ true
            → r.full ≡ true
            → Walked (all_changes frame formulas effects e frame.variables) frame formulas effects at before after s3 from l n r
        walking-stops h q over =
            record {
              reaches =
                  rw over
                  (changes_stop frame formulas effects e (v + 1) frame.variables (omega arith)
                  (rw q at (changes_more frame formulas effects e v w.reaches y.reaches)));
              recorded = λ z. absurd (true≢false (sym over ∙ z));
            }

        pub walking-more :
            {n notes' : List ℕ} {to next : ℕ}
            → full ≡ false
            → Recorded (d ∷ []) k m n to
            → Noted frame formulas effects notes' (held there after)
            → NextTouched frame notes' e (v + 1) next
            → Walking frame formulas effects e at before after s3 from l n there to next
        walking-more q z noted n =
            walking_on
            (record {
              below = omega (arith, n.above, n.below);
              reaches = rw q at (changes_more frame formulas effects e v w.reaches y.reaches);
              recorded = more_recorded frame formulas effects e v w.reaches d w.recorded y q z;
              few = omega (arith, recorded_few z, w.few);
            })
            noted n

    pub walking_ends :
        frame.variables ≤ v
        → Walked (all_changes frame formulas effects e frame.variables) frame formulas effects at before mid s2 from l m
        (record { rows = here.rows; twins = here.twins; row = 0; records = k; full = false })
    walking_ends h = all_walked frame formulas effects e _ v frame.variables (omega (arith, w.below)) w.reaches w.recorded

-- The precondition, then all changes.
module _ (frame : Frame) (formulas effects : List ℕ) (p e : ℕ) {at : Size} {before mid : Store} {s1 s2 : List ℕ} {f : Step}
    (x : Images (image_at frame formulas plain p) frame formulas at before mid s1 s2 f) where
  precondition_over :
      f.full ≡ true
      → Reaches (operator_built frame formulas effects p e) frame formulas effects at before mid s2 true (size_of f)
  unfolding operator_built all_changes bind
  precondition_over q =
      let g = image_at frame formulas plain p (held at before) in
      record {
        done = λ z. absurd (true≢false z);
        over = λ _ w.
            x.builds.over q
            (within_before
            ((steady_each frame.variables
            (λ k. steady_changes frame.variables (effect_tree frame formulas effects e) k)).grow g.st)
            w);
      }

  pub precondition_full :
      {from : ℕ} {l m : List ℕ}
      → f.full ≡ true
      → OperatorWalked frame formulas effects p e at before mid s2 from l m
      (record { rows = f.rows; twins = f.twins; row = 0; records = 0; full = true })
  precondition_full q =
      record {
        walked = record { reaches = precondition_over q; recorded = λ z. absurd (true≢false z) };
        precondition = λ z. absurd (true≢false z);
      }

  operator_done :
      {after : Store} {s3 : List ℕ} {full : Bool} {next : Size}
      → f.full ≡ false
      → Reaches (all_changes frame formulas effects e frame.variables) frame formulas effects (size_of f) mid after s3 full next
      → Reaches (operator_built frame formulas effects p e) frame formulas effects at before after s3 full next
  unfolding operator_built bind
  operator_done q y =
      let step : St → St = λ t. (all_changes frame formulas effects e frame.variables t).st in
      let same = ap step (x.builds.done q).state in
      record {
        done = λ z.
            let d = y.done z in
            record { state = same ∙ d.state; ready = d.ready; memo = d.memo; effect_memo = d.effect_memo };
        over = λ z w. y.over z (rw same at w);
      }

-- where building stands behind it
pub stands_behind :
    {frame : Frame} {formulas effects notes : List ℕ} {at : Size} {before after : Store} {s1 s2 : List ℕ} {p e : ℕ} {f : Step}
    → BuildsOperator frame formulas effects notes at before s1 p e
    → Images (image_at frame formulas plain p) frame formulas at before after s1 s2 f
    → f.full ≡ false
    → length s2 ≡ length s1
    → StandsAt frame formulas effects notes (size_of f) after s2 e
stands_behind {frame} {formulas} {p = p} a x q long =
    stands_at_next a.stands
    (conditions_of_images (steady_image_at frame formulas plain p) a.stands.noted a.stands.stands.effect_memo x) q long

-- Walked: the precondition, then all changes.
module _ (frame : Frame) (formulas effects : List ℕ) (p e : ℕ) {at : Size} {before mid after : Store} {s1 s2 s3 : List ℕ} {f : Step} {from : ℕ}
    {l m : List ℕ} {w : Tally} (x : Images (image_at frame formulas plain p) frame formulas at before mid s1 s2 f) (q : f.full ≡ false)
    (y : Walked (all_changes frame formulas effects e frame.variables) frame formulas effects (size_of f) mid after s3 from l m w) where
  value_is :
      (operator_built frame formulas effects p e (held at before)).value
      ≡ (all_changes frame formulas effects e frame.variables (held (size_of f) mid)).value
  unfolding operator_built bind
  value_is = ap (λ (t : St). (all_changes frame formulas effects e frame.variables t).value) (x.builds.done q).state

  pub operator_walked :
      OperatorWalked frame formulas effects p e at before after s3 from l m
      (record { rows = w.rows; twins = w.twins; row = f.row; records = w.records; full = w.full })
  operator_walked =
      record {
        walked =
            record {
              reaches = operator_done frame formulas effects p e x q y.reaches;
              recorded = λ z. as_recorded value_is (y.recorded z);
            };
        precondition = λ _. (x.builds.done q).value;
      }

-- without room it is left open which row that is
pub operator_full :
    {frame : Frame} {formulas effects : List ℕ} {p e : ℕ} {at : Size} {before after : Store} {scratch : List ℕ} {from : ℕ} {l m : List ℕ} {r s : Tally}
    → OperatorWalked frame formulas effects p e at before after scratch from l m r
    → r.full ≡ true
    → s.full ≡ true
    → size_behind s ≡ size_behind r
    → OperatorWalked frame formulas effects p e at before after scratch from l m s
operator_full {r = r} x q g same =
    record {
      walked =
          record {
            reaches = rw (g, same) (rw q at x.walked.reaches);
            recorded = λ z. absurd (true≢false (sym g ∙ z));
          };
      precondition = λ z. absurd (true≢false (sym g ∙ z));
    }

-- Where the loop of a builder of conditions stands.
pub record WalkingBy (b c : ConditionBuilder) (e from : ℕ) (l m : List ℕ) (k v : ℕ) : Type 0 where
  pub same : SameConditions b c
  pub walking :
      Walking b.images.builder.frame b.images.formulas.now b.effects.now e (size_in b.images.builder) (store_in b.images.builder)
      (store_in c.images.builder) c.images.scratch.now from l m (size_in c.images.builder) k v
  pub noted :
      Noted b.images.builder.frame b.images.formulas.now b.effects.now c.notes.now (held (size_in c.images.builder) (store_in c.images.builder))
  pub long : length m ≡ length l

-- what is looked for there, and what one variable's change leaves
module _ {b c : ConditionBuilder} (s : SameConditions b c) where
  pub looks_here : {e from : ℕ} → LooksOn b.images.builder.frame c.notes.now e from → LooksOn c.images.builder.frame c.notes.now e from
  looks_here x = rw s.images.builder.frame x

  pub touched_here :
      {e from next : ℕ} → NextTouched c.images.builder.frame c.notes.now e from next → NextTouched b.images.builder.frame c.notes.now e from next
  touched_here x = rw (← s.images.builder.frame) x

  module _ (d : ConditionBuilder) where
    pub change_here :
        {full : Bool} {x : Changes} (e v : ℕ)
        → MakesBy (changes_by c e v) c d full x
        → Makes (changes_by b e v) b.images.builder.frame b.images.formulas.now b.effects.now (size_in c.images.builder)
        (store_in c.images.builder) (store_in d.images.builder) d.images.scratch.now full (size_in d.images.builder) x
    change_here e v x = rw (← s.images.builder.frame, ← s.images.formulas, ← s.effects) x

    pub leaves_here : {full : Bool} → LeavesBy c d full → LeavesBy b d full
    leaves_here x = rw (← s.images.builder.frame, ← s.images.formulas, ← s.effects) x

    pub walked_here :
        {from : ℕ} {l n : List ℕ} {r : Tally} (e : ℕ)
        → WalkedBy (changes_of_all c e) c d from l n r
        → Walked (changes_of_all b e) b.images.builder.frame b.images.formulas.now b.effects.now (size_in c.images.builder)
        (store_in c.images.builder) (store_in d.images.builder) d.images.scratch.now from l n r
    walked_here e x = rw (← s.images.builder.frame, ← s.images.formulas, ← s.effects) x

-- what `?` returns onward says that there was no room
pub tally_failed : (b : ConditionBuilder) (r : Result ℕ NoRoom) → IsErr r → tally_by b r ≡ tally_at b 0 0 true
tally_failed b (Ok x) h = absurd (false≢true h)
tally_failed b (Err e) h = refl

pub tally_of_failed : (b : ConditionBuilder) (r : Result Answer NoRoom) → IsErr r → tally_of b r ≡ tally_at b 0 0 true
tally_of_failed b (Ok x) h = absurd (false≢true h)
tally_of_failed b (Err e) h = refl
