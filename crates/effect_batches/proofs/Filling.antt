-- Filling adds nothing: each condition that is called for was built. Assumes nothing.
use Prim.Native.Nat.{ℕ}
use native.Mathlib.Omega.{arith}
use mathlib.Core.Path.{◌≡◌, refl, sym, ap, ap₂, ◌∙◌}
use mathlib.Core.Bool.{Bool, true, false, true≢false}
use mathlib.Core.List.{List}
use lib.ListN.{length}
use lib.Seq.{length-take-le}
use Rattle.task.specs.Table.{row_at}
use Rattle.task.proofs.Bounded.{length_upto}
use Rattle.normal_form.specs.Builder.{St}
use Rattle.formula_builder.specs.declared.Frame.{Frame}
use Rattle.std.specs.Prelude.{Result, Ok, Err, get_or, ◌<◌}
use Rattle.formula_builder.specs.declared.NoRoom.{NoRoom}
use Rattle.formula_builder.specs.Inner.Held.{Size, Step, Store, held, size_of, size_in, store_in, Ready, Within}
use Rattle.conditions.specs.declared.Target.{Target}
use Rattle.conditions.specs.declared.ConditionBuilder.{ConditionBuilder}
use Rattle.conditions.specs.Inner.Conditions.{condition_at, condition_by, Conditions, Conditioned}
use Rattle.conditions.proofs.Steps.{same_conditions_itself, same_conditions_twice}
use Rattle.images.proofs.Steps.{same_images_itself}
use Rattle.effect_batches.specs.Inner.Filling.{Covered, FillsRow, FillsRowBy, FillsAtomBy, FillsBy, Stands, Filled, FilledBy}

-- What is held has so many rows and twins, which are within the frame.
module _ {frame : Frame} {at : Size} {s : Store} (r : Ready frame at s) where
  held_rows : length (held at s).rows ≡ at.rows
  unfolding held
  held_rows = length_upto at.rows (row_at s.table)

  held_twins : length (held at s).twins ≡ at.twins
  unfolding held
  held_twins = length-take-le at.twins s.originals (omega (arith, r.twins, r.originals))

  held_within : Within frame (held at s)
  held_within =
      record { rows = omega (arith, held_rows, r.rows.within); twins = omega (arith, held_twins, r.twins) }

made : ℕ → ℕ → Size
made n w = record { rows = n; twins = w }

-- two stores that hold the same state have the same counts
same_size :
    {frame : Frame} {a b : Size} {s t : Store} → Ready frame a s → Ready frame b t → held a s ≡ held b t → a ≡ b
unfolding made
same_size x y q =
    ap₂ made (sym (held_rows x) ∙ ap (λ (z : St). length z.rows) q ∙ held_rows y)
    (sym (held_twins x) ∙ ap (λ (z : St). length z.twins) q ∙ held_twins y)

-- what a condition asks, and the test of a set
module _ {frame : Frame} {formulas effects notes : List ℕ} {t : Target} {at : Size} {s : Store} {scratch : List ℕ} {e : ℕ}
    (a : FillsRow frame formulas effects notes t at s scratch e) where
  -- the step is done, and leaves the state as it was
  module _ {notes' : List ℕ} {after : Store} {scratch' : List ℕ} {r : Step} (long : length scratch' ≡ length scratch)
      (x : Conditions (condition_at frame formulas effects t e) frame formulas effects notes' at s after scratch' r) where
    same : (condition_at frame formulas effects t e (held at s)).st ≡ held at s
    same = a.covered.again t a.plain a.variable

    pub done : r.full ≡ false
    done = go r.full refl
      where
        go : (b : Bool) → r.full ≡ b → r.full ≡ false
        go false q = q
        go true q = absurd (x.builds.over q (rw same (held_within a.stands.ready)))

    kept : held (size_of r) after ≡ held at s
    kept = sym (x.builds.done done).state ∙ same

    pub sizes : size_of r ≡ at
    sizes = same_size (x.builds.done done).ready a.stands.ready kept

    pub row_filled : Filled frame formulas effects notes' at s after scratch'
    row_filled =
        record {
          state = rw sizes at kept;
          stands =
              record {
                source =
                    record {
                      words = a.stands.source.words;
                      memo = omega (arith, a.stands.source.memo, long);
                      limit = a.stands.source.limit;
                      down = a.stands.source.down;
                    };
                effect_source =
                    record {
                      words = a.stands.effect_source.words;
                      memo = omega (arith, a.stands.effect_source.memo, long);
                      limit = a.stands.effect_source.limit;
                      down = a.stands.effect_source.down;
                    };
                ready = rw sizes at (x.builds.done done).ready;
                noted = rw sizes at (x.noted done);
                memo = rw sizes at (x.memo done);
                effect_memo = rw sizes at (x.effect_memo done);
              };
        }

-- The same of a builder of conditions: nothing is done, one row is filled, and more behind it.
pub filled_none : (b : ConditionBuilder) → Stands b.images.builder.frame b.images.formulas.now b.effects.now b.notes.now (size_in b.images.builder) (store_in b.images.builder) b.images.scratch.now → FilledBy b b
filled_none b a = record { filled = record { state = refl; stands = a }; size = refl; same = same_conditions_itself b }

pub filled_row :
    {b : ConditionBuilder} {t : Target} {e : ℕ} (d : ConditionBuilder) (r : Result ℕ NoRoom)
    → FillsRowBy b t e
    → Conditioned (condition_by b t e) b d r
    → FilledBy b d
filled_row d (Ok x) a y =
    record {
      filled = row_filled a y.same.images.scratch_length y.conditions;
      size = sizes a y.same.images.scratch_length y.conditions;
      same = y.same;
    }
filled_row d (Err x) a y = absurd (true≢false (done a y.same.images.scratch_length y.conditions))

module _ {b c : ConditionBuilder} (f : FilledBy b c) where
  here : Stands c.images.builder.frame c.images.formulas.now c.effects.now c.notes.now (size_in c.images.builder) (store_in c.images.builder) c.images.scratch.now
  here = rw (f.same.images.builder.frame, f.same.images.formulas, f.same.effects, f.size) f.filled.stands

  held_here : held (size_in c.images.builder) (store_in c.images.builder) ≡ held (size_in b.images.builder) (store_in b.images.builder)
  held_here = rw f.size f.filled.state

  pub filled_on : {d : ConditionBuilder} → FilledBy c d → FilledBy b d
  filled_on {d} g =
      record {
        filled =
            record {
              state = rw f.size at g.filled.state ∙ f.filled.state;
              stands = rw (← f.same.images.builder.frame, ← f.same.images.formulas, ← f.same.effects, ← f.size) g.filled.stands;
            };
        size = g.size ∙ f.size;
        same = same_conditions_twice f.same g.same;
      }

  covered_here :
      {e : ℕ}
      → Covered b.images.builder.frame b.images.formulas.now b.effects.now (held (size_in b.images.builder) (store_in b.images.builder)) e
      → Covered c.images.builder.frame c.images.formulas.now c.effects.now (held (size_in c.images.builder) (store_in c.images.builder)) e
  covered_here a = rw (f.same.images.builder.frame, f.same.images.formulas, f.same.effects, held_here) a

  pub asks_row : {list : List ℕ} {t : Target} (j : ℕ) → FillsAtomBy b list t → j < length list → FillsRowBy c t (get_or list j 0)
  asks_row j a h =
      record {
        stands = here;
        plain = a.plain;
        variable = rw f.same.images.builder.frame a.variable;
        covered = covered_here (a.fills.covered j h);
      }

  pub asks_atom : {list : List ℕ} (t : Target) → FillsBy b list → t.negated ≡ false → t.variable < b.images.builder.frame.variables → FillsAtomBy c list t
  asks_atom t a plain h =
      record {
        fills = record { stands = here; covered = λ j l. covered_here (a.covered j l) };
        plain = plain;
        variable = rw f.same.images.builder.frame h;
      }

-- more behind a step that writes only notes, and leaves them right
pub filled_notes :
    {b c d : ConditionBuilder}
    → c.images ≡ b.images
    → c.effects ≡ b.effects
    → c.notes.ghost_name ≡ b.notes.ghost_name
    → length c.notes.now ≡ length b.notes.now
    → Stands b.images.builder.frame b.images.formulas.now b.effects.now c.notes.now (size_in b.images.builder) (store_in b.images.builder) b.images.scratch.now
    → FilledBy c d
    → FilledBy b d
filled_notes {b} {c} images effects notes long a f =
    filled_on
    (record {
      filled = rw images (record { state = refl; stands = a });
      size = rw images refl;
      same =
          record {
            images = rw images (same_images_itself b.images);
            effects = rw effects refl;
            notes = notes;
            notes_length = long;
          };
    })
    f
