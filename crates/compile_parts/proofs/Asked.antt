-- What the parts of building ask. Assumes nothing.
use Prim.Native.Nat.{ℕ, zero, suc, ◌≤◌, ◌<◌}
use native.Mathlib.Omega.{arith}
use native.Mathlib.Decide.{ℕ_discrete}
use mathlib.Core.Path.{◌≡◌, refl, ◌∙◌}
use mathlib.Core.List.{List}
use lib.ListN.{length, get_or, replicate, length-replicate}
use Rattle.task.specs.Table.{row_at}
use Rattle.normal_form.specs.Builder.{St}
use Rattle.formula_builder.specs.declared.Frame.{Frame}
use Rattle.formula_builder.specs.Inner.Held.{store}
use Rattle.atom_sets.specs.Inner.Sets.{sets_end}
use Rattle.atom_sets.specs.Inner.Finds.{FindsSets, FoundSets}
use Rattle.conditions.specs.Inner.Conditions.{column, EffectSource, Columns, Noted}
use Rattle.conditions.proofs.Rows.{both_lower, under_lower, known_kind}
use Rattle.conditions.proofs.Alone.{atom_within, sets_right}
use Rattle.conditions.proofs.Notes.{noted_blank}
use Rattle.effect_batches.specs.Inner.Firsts.{First, FindsFirst}
use Rattle.building.specs.Inner.Taken.{Progress, Begun, Taken}
use Rattle.building.proofs.Begun.{taken_none}
use Rattle.compile_parts.specs.Inner.Batches.{Known}
use Rattle.compile_parts.specs.Inner.Builds.{Builds}

-- every word of a table that is all 0
pub zero_at : (n j : ℕ) → ◌≡◌ {A = ℕ} (get_or (replicate n 0) j 0) 0
zero_at zero j = refl
zero_at (suc n) zero = refl
zero_at (suc n) (suc j) = zero_at n j

module _ {frame : Frame} {count goal : ℕ} {formulas effects operators originals scratch notes built records : List ℕ}
    (b : Builds frame count goal formulas effects operators originals scratch notes built records) where
  rules : EffectSource frame effects scratch
  rules = b.blank.effect_source

  kind_most : (i : ℕ) → i < frame.effects → (row_at effects i).kind ≤ 4
  kind_most i h = go (ℕ_discrete (row_at effects i).kind 4)
    where
      go : Dec ((row_at effects i).kind ≡ 4) → (row_at effects i).kind ≤ 4
      go (yes k) = omega (arith, k)
      go (no k) = omega (arith, known_kind frame formulas effects scratch rules i h k)

  pub finds : FindsSets frame effects notes
  finds =
      record {
        words = rules.words;
        limit = rules.limit;
        variables = omega (arith, b.blank.variables);
        room = b.notes_space;
        both = λ i h k. both_lower frame formulas effects scratch rules i h k;
        under = λ i h k. (under_lower frame formulas effects scratch rules i h k).1;
        atom = λ i h some low.
            atom_within frame effects scratch rules i h
            (record { kind = (row_at effects i).kind; a = (row_at effects i).a; b = (row_at effects i).b }) refl some
            (λ z. omega (arith, z, low)) (λ z. omega (arith, z, low));
        known = kind_most;
      }

  pub finds_first : FindsFirst frame effects operators count (replicate 4096 0)
  finds_first =
      record {
        rows =
            record {
              words = rules.words;
              limit = rules.limit;
              variables = omega (arith, b.blank.variables);
              down = rules.down;
            };
        roots = record { limit = b.limit; words = b.words; effect = b.effect };
        words = omega (arith, rules.limit, length-replicate {A = ℕ} 4096 0);
        blank = zero_at 4096;
      }

  -- `first` is found, and has as many words as before
  pub known :
      {first : List ℕ}
      → First effects operators count first
      → length first ≡ length (replicate {A = ℕ} 4096 0)
      → Known frame effects operators count first
  known f long =
      record {
        roots = finds_first.roots;
        precondition = b.precondition;
        words = omega (arith, rules.limit, long, length-replicate {A = ℕ} 4096 0);
        comes = f;
      }

  -- The notes of the pass over sets are right at any state, since no row has a column and nothing is kept yet.
  module _ {named : List ℕ} (s : FoundSets frame effects notes named) (same : length named ≡ length notes) where
    pub none_kept : (j : ℕ) → sets_end frame ≤ j → get_or named j 0 ≡ 0
    none_kept j h = s.behind j h ∙ b.blank_notes j

    pub notes_room : sets_end frame ≤ length named
    notes_room = omega (arith, b.notes_space, same)

    no_columns : Columns frame named
    unfolding column
    no_columns =
        record {
          words = notes_room;
          apart = λ d e _ h some _. absurd (omega (arith, some, s.ahead e (omega (arith, h)) ∙ b.blank_notes e));
        }

    pub noted : (t : St) → Noted frame formulas effects named t
    noted t =
        noted_blank formulas t (sets_right frame effects scratch named rules s.sets) no_columns
        (λ j _ h. s.ahead j h ∙ b.blank_notes j) none_kept

  pub first_taken :
      {before table records : List ℕ} {p : Progress}
      → Begun frame before table p
      → Taken frame formulas effects operators (store table originals) scratch records p
  first_taken g = taken_none frame formulas effects operators b.blank g
