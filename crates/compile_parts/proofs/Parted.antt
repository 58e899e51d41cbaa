-- Building from the start, between its parts. Assumes nothing.
use Prim.Native.Nat.{ℕ, ◌≤◌, ◌<◌}
use native.Mathlib.Omega.{arith}
use mathlib.Core.Path.{◌≡◌, refl, ◌∙◌}
use mathlib.Core.Bool.{true, false≢true}
use mathlib.Core.List.{List}
use lib.ListN.{length, get_or}
use Rattle.std.specs.Prelude.{Result, Ok, Err}
use Rattle.std.specs.Result.{IsErr}
use Rattle.normal_form.specs.Builder.{plain}
use Rattle.formula_builder.specs.declared.NoRoom.{NoRoom}
use Rattle.formula_builder.specs.declared.Builder.{Builder}
use Rattle.formula_builder.specs.Inner.Held.{Store, held, size_in, store_in, step_by}
use Rattle.atom_sets.specs.Inner.Sets.{sets_end}
use Rattle.atom_sets.specs.Inner.Finds.{FoundSets}
use Rattle.images.specs.declared.ImageBuilder.{ImageBuilder}
use Rattle.images.specs.Inner.Images.{image_by, Imaged}
use Rattle.conditions.specs.declared.ConditionBuilder.{ConditionBuilder}
use Rattle.conditions.specs.Inner.Conditions.{Noted, SameConditions}
use Rattle.conditions.proofs.Steps.{same_conditions_twice}
use Rattle.building.specs.declared.Progress.{Progress as Answer}
use Rattle.building.specs.Inner.Taken.{progress_at, stopped, Begun, FromStart}
use Rattle.building.proofs.Begun.{goal_built, goal_over}
use Rattle.compile_parts.specs.Inner.Batches.{Known, TakenBy, TakesBatch, TookBatch}
use Rattle.compile_parts.specs.Inner.Builds.{BuildsBy}
use Rattle.compile_parts.proofs.Asked.{noted, none_kept, first_taken}

-- Where a builder stands at c that began as b, between two batches.
pub record BuildingBy (b c : ConditionBuilder) (operators : List ℕ) (count : ℕ) (before records : List ℕ) (x : Answer) : Type 0 where
  pub same : SameConditions b c
  pub some : x.operators ≤ count
  pub taken : TakenBy b c operators records (progress_at c.images.builder x)
  pub noted :
      Noted b.images.builder.frame b.images.formulas.now b.effects.now c.notes.now
      (held (size_in c.images.builder) (store_in c.images.builder))
  pub blank : x.operators ≡ 0 → (j : ℕ) → sets_end b.images.builder.frame ≤ j → get_or c.notes.now j 0 ≡ 0
  pub long : length records ≡ length before

-- what is answered without room
failed_full : (d : Builder) (r : Result ℕ NoRoom) → IsErr r → (step_by d r).full ≡ true
failed_full d (Ok x) is = absurd (false≢true is)
failed_full d (Err e) is = refl

module _ (b : ConditionBuilder) {operators : List ℕ} {count goal : ℕ} {before : List ℕ} (a : BuildsBy b count goal operators before) where
  -- no room to begin
  pub begins_over :
      {s2 : Store} {table after memo records : List ℕ} (d : Builder) (r : Result ℕ NoRoom)
      → IsErr r
      → Begun b.images.builder.frame table after (stopped 0)
      → FromStart b.images.builder.frame b.images.formulas.now b.effects.now operators count goal s2 memo records (step_by d r)
  begins_over {records = records} d r is g =
      goal_over b.images.builder.frame b.images.formulas.now b.effects.now operators count (omega arith)
      (first_taken a {records = records} g) refl goal (failed_full d r is)

  -- it has begun, with the sets in the notes
  pub building_begins :
      {c : ConditionBuilder} {table : List ℕ} {x : Answer}
      → SameConditions b c
      → FoundSets b.images.builder.frame b.effects.now b.notes.now c.notes.now
      → Begun b.images.builder.frame table c.images.builder.table.now (progress_at c.images.builder x)
      → c.images.builder.originals.now ≡ b.images.builder.originals.now
      → c.images.scratch.now ≡ b.images.scratch.now
      → BuildingBy b c operators count before before x
  building_begins same sets g originals scratch =
      record {
        same = same;
        some = omega (arith, g.none);
        taken = rw (originals, scratch) (first_taken a g);
        noted = noted a sets same.notes_length _;
        blank = λ _. none_kept a sets same.notes_length;
        long = refl;
      }

  module _ {c : ConditionBuilder} {records : List ℕ} {x : Answer} (i : BuildingBy b c operators count before records x) where
    pub batch_takes :
        {first : List ℕ}
        → Known b.images.builder.frame b.effects.now operators count first
        → x.operators < count
        → TakesBatch c operators count first records x
    batch_takes k h =
        rw (i.same.images.builder.frame, i.same.images.formulas, i.same.effects)
        (record {
          known = k;
          next = h;
          taken = i.taken;
          noted = i.noted;
          notes_space = omega (arith, a.notes_space, i.same.notes_length);
          blank = i.blank;
          space = omega (arith, a.space, i.long);
        })

    module _ {d : ConditionBuilder} {after : List ℕ} where
      here : {r : Result Answer NoRoom} → TookBatch c d operators count after x r → TookBatch b d operators count after x r
      here t =
          record {
            stop = t.stop;
            more = t.more;
            most = t.most;
            taken = rw (← i.same.images.builder.frame, ← i.same.images.formulas, ← i.same.effects) t.taken;
            leaves = rw (← i.same.images.builder.frame, ← i.same.images.formulas, ← i.same.effects) t.leaves;
            same = same_conditions_twice i.same t.same;
          }

      pub building_next : {y : Answer} → TookBatch c d operators count after x (Ok y) → length after ≡ length records → BuildingBy b d operators count before after y
      building_next t long =
          let h = here t in
          record {
            same = h.same;
            some = h.most;
            taken = h.taken;
            noted = h.leaves.noted refl;
            blank = λ z. absurd (omega (arith, h.more, z));
            long = long ∙ i.long;
          }

      pub building_over :
          {e : NoRoom} (r : Result ℕ NoRoom)
          → IsErr r
          → TookBatch c d operators count after x (Err e)
          → FromStart b.images.builder.frame b.images.formulas.now b.effects.now operators count goal (store_in d.images.builder) d.images.scratch.now after (step_by d.images.builder r)
      building_over r is t =
          let h = here t in
          goal_over b.images.builder.frame b.images.formulas.now b.effects.now operators count h.most h.taken refl goal (failed_full d.images.builder r is)

    -- behind all operators
    pub all_built :
        {d : ImageBuilder} {r : Result ℕ NoRoom}
        → x.operators ≡ count
        → Imaged (image_by c.images plain goal) c.images d r
        → FromStart b.images.builder.frame b.images.formulas.now b.effects.now operators count goal (store_in d.builder) d.scratch.now records (step_by d.builder r)
    all_built all y =
        goal_built b.images.builder.frame b.images.formulas.now b.effects.now operators count goal all i.taken y.same.scratch_length refl
        (rw (← i.same.images.builder.frame, ← i.same.images.formulas) y.images)
