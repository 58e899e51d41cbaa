-- What one builder of conditions asks and leaves, where its steps follow each other. Assumes nothing.
use Prim.Native.Nat.{ℕ}
use mathlib.Core.Path.{◌≡◌, refl, ◌∙◌}
use mathlib.Core.Bool.{Bool}
use mathlib.Core.List.{List}
use Rattle.std.specs.Prelude.{Result, Ok, Err}
use Rattle.std.specs.Result.{IsErr}
use Rattle.normal_form.specs.Builder.{Build}
use Rattle.formula_builder.specs.declared.NoRoom.{NoRoom}
use Rattle.formula_builder.specs.Inner.Held.{Step, Store, size_in, store_in}
use Rattle.formula_builder.proofs.Steps.{step_failed}
use Rattle.images.proofs.Steps.{same_images_itself, same_images_twice}
use Rattle.conditions.specs.Inner.Joins.{Joined}
use Rattle.conditions.proofs.Memos.{conditions_kept}
use Rattle.conditions.specs.declared.Target.{Target}
use Rattle.conditions.specs.declared.ConditionBuilder.{ConditionBuilder}
use Rattle.conditions.specs.Inner.Conditions.{Keeps, condition_by, AsksThere, AsksCondition, SameConditions, Later, Conditioned}

pub same_conditions_itself : (b : ConditionBuilder) → SameConditions b b
same_conditions_itself b =
    record { images = same_images_itself b.images; effects = refl; notes = refl; notes_length = refl }

pub same_conditions_twice : {b c d : ConditionBuilder} → SameConditions b c → SameConditions c d → SameConditions b d
same_conditions_twice x y =
    record {
      images = same_images_twice x.images y.images;
      effects = y.effects ∙ x.effects;
      notes = y.notes ∙ x.notes;
      notes_length = y.notes_length ∙ x.notes_length;
    }

-- Where it goes on from c, which stands where it came to from b.
module _ {b c : ConditionBuilder} (s : SameConditions b c) where
  pub asks_here : {t : Target} {e : ℕ} → AsksThere b c t e → AsksCondition c t e
  asks_here a = rw (s.images.builder.frame, s.images.formulas, s.effects) a

  pub later :
      {d : ConditionBuilder} {r : Result ℕ NoRoom} (t : Target) (e : ℕ) → Conditioned (condition_by c t e) c d r → Later (condition_by b t e) b c d r
  later t e x =
      record {
        conditions = rw (← s.images.builder.frame, ← s.images.formulas, ← s.effects) x.conditions;
        same = same_conditions_twice s x.same;
      }

-- A step for which there was no room, told onward by `?`.
pub failed :
    {m : Build ℕ} {b c d : ConditionBuilder} {e : NoRoom} {r : Result ℕ NoRoom} → Later m b c d (Err e) → IsErr r → Later m b c d r
failed {d = d} {r = r} x is =
    record { conditions = rw (step_failed d.images.builder r is) x.conditions; same = x.same }

-- The condition of effect e is built, and kept.
pub kept_later :
    {b c d : ConditionBuilder} {t : Target} {e row : ℕ}
    → Conditioned (condition_by b t e) b c (Ok row)
    → Keeps c.images.builder.frame c.notes.now d.notes.now c.images.scratch.now d.images.scratch.now t e row
    → SameConditions c d
    → d.images.builder ≡ c.images.builder
    → Conditioned (condition_by b t e) b d (Ok row)
kept_later x keeps same builder =
    record {
      conditions = rw builder (conditions_kept x.conditions (rw x.same.images.builder.frame at keeps));
      same = same_conditions_twice x.same same;
    }

-- The join of rows l and r for row e, of what b began, where c stands.
pub joined_here :
    {b c : ConditionBuilder} {t : Target} {e l r : ℕ} {or : Bool} {notes : List ℕ} {after : Store} {x : Step}
    → SameConditions b c
    → Joined c.images.builder.frame c.notes.now notes t e or (size_in c.images.builder) l r (store_in c.images.builder) after x
    → Joined b.images.builder.frame c.notes.now notes t e or (size_in c.images.builder) l r (store_in c.images.builder) after x
joined_here s j = rw (← s.images.builder.frame) j
