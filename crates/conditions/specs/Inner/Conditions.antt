-- What the memo of effect conditions and the notes hold, and what the code that builds conditions asks and answers.
use Rattle.std.specs.Prelude.{ℕ, ◌+◌, ◌*◌, ◌≤◌, ◌<◌, ◌≡◌, Bool, true, false, cond, List, eqb, leb, length, get_or, Result}
use Rattle.task.specs.Bounded.{upto}
use Rattle.task.specs.Table.{Row, row_at, EffectKind, empty_kind, set_kind, clear_kind, both_kind, under_kind, unknown_effect, effect_kind}
use Rattle.task.specs.Semantics.{Atom, sets, clears, same_atom, Effect}
use Rattle.task.specs.Tree.{effect_of}
use Rattle.task.specs.Inner.Rows.{EffectsDown}
use Rattle.normal_form.specs.Builder.{St, Build, give, join, image_of_false, image_of_true}
use Rattle.normal_form.specs.Conditions.{condition}
use Rattle.formula_builder.specs.declared.Frame.{Frame}
use Rattle.formula_builder.specs.declared.NoRoom.{NoRoom}
use Rattle.formula_builder.specs.Inner.Held.{Size, Step, Store, held, size_of, side, size_in, store_in, step_by, Ready, Builds}
use Rattle.images.specs.Inner.Images.{source_rows, Known, Memo, Source, SameImages}
use Rattle.atom_sets.specs.Inner.Sets.{sets_end, lacks}
use Rattle.conditions.specs.declared.Target.{Target}
use Rattle.conditions.specs.declared.ConditionBuilder.{ConditionBuilder}

abbrev pub atom_by : Bool → ℕ → Atom
atom_by false v = sets v
atom_by true v = clears v

-- the atom whose condition is built
abbrev pub atom_of : Target → Atom
atom_of t = atom_by t.clear t.variable

-- whether an effect of a kind, with word a, is the atom itself
unfoldable pub acts : Atom → EffectKind → ℕ → Bool
acts l empty_kind a = false
acts l set_kind a = same_atom l (sets a)
acts l clear_kind a = same_atom l (clears a)
acts l both_kind a = false
acts l under_kind a = false
acts l unknown_effect a = false

-- the condition of a row that names no effect: true for the atom itself, else false; negated, the other way round
unfoldable pub atom_row : Target → Row → ℕ
atom_row t w =
    cond (acts (atom_of t) (effect_kind w.kind) w.a) (image_of_true (side t.negated)) (image_of_false (side t.negated))

-- the source's effect rows
unfoldable pub effect_rows : Frame → List ℕ → List Row
effect_rows frame effects = upto frame.effects (row_at effects)

-- the effect of row e
unfoldable pub effect_tree : Frame → List ℕ → List ℕ → ℕ → Effect
effect_tree frame formulas effects e = effect_of (source_rows frame formulas) (effect_rows frame effects) e

-- the condition of effect e
unfoldable pub condition_at : Frame → List ℕ → List ℕ → Target → ℕ → Build ℕ
condition_at frame formulas effects t e =
    condition frame.variables (side t.negated) (atom_of t) (effect_tree frame formulas effects e)

-- the tag of a target
unfoldable pub tag : Target → ℕ
tag t = 2 * (2 * t.variable + cond t.clear 1 0) + cond t.negated 1 0 + 1

-- where the memo has effect e: the row, and behind all of these the tag of the target for which it was built
abbrev pub effect_place : Frame → ℕ → ℕ
effect_place frame e = 2 * frame.formulas + e

abbrev pub tag_place : Frame → ℕ → ℕ
tag_place frame e = 2 * frame.formulas + e + frame.effects

-- Each word of the memo that is not 0 is the row that building gives now for the target with the word's tag, plus 1.
pub record EffectMemo (frame : Frame) (formulas effects scratch : List ℕ) (s : St) : Type 0 where
  pub known :
      (t : Target) (e r : ℕ)
      → e < frame.effects
      → get_or scratch (tag_place frame e) 0 ≡ tag t
      → get_or scratch (effect_place frame e) 0 ≡ r + 1
      → Known (condition_at frame formulas effects t e) s r

-- The source keeps the rules of effects, and the scratch has two words for each behind the formulas'.
pub record EffectSource (frame : Frame) (effects scratch : List ℕ) : Type 0 where
  pub words : 3 * frame.effects ≤ length effects
  pub memo : 2 * frame.formulas + 2 * frame.effects ≤ length scratch
  pub limit : frame.effects ≤ 4096
  pub down : EffectsDown frame.variables frame.formulas (effect_rows frame effects)

-- Effect e does not name one atom, clear v or set v: its condition is false (dually true), and nothing is built.
pub record Unnamed (frame : Frame) (formulas effects : List ℕ) (clear : Bool) (v e : ℕ) : Type 0 where
  pub idle :
      (t : Target)
      → t.clear ≡ clear
      → t.variable ≡ v
      → condition_at frame formulas effects t e ≡ give (image_of_false (side t.negated))

-- Each row has a set of atoms, and does not name those that its set lacks.
pub record AtomSets (frame : Frame) (effects notes : List ℕ) : Type 0 where
  pub words : sets_end frame ≤ length notes
  pub alone :
      (formulas : List ℕ) (clear : Bool) (v e : ℕ)
      → v < frame.variables
      → e < frame.effects
      → lacks frame notes clear v e ≡ true
      → Unnamed frame formulas effects clear v e

-- the column of effect row e, 0 for none: its first word
unfoldable pub column : List ℕ → ℕ → ℕ
column notes e = get_or notes e 0

-- which of its variable's words in a column is a target's: set, clear, or the dual of set; the dual of clear, which is never built, has none
unfoldable pub part : Target → ℕ
part t = cond t.clear 1 0 + 2 * cond t.negated 1 0

-- how many words each of so many variables has in a column: none is for duals where there are many
unfoldable pub width : ℕ → ℕ
width variables = cond (leb variables 256) 3 2

-- where the condition of target t is kept in column c: behind the sets, so many words for each variable
unfoldable pub kept_place : Frame → ℕ → Target → ℕ
kept_place frame c t = sets_end frame + (c * (width frame.variables * frame.variables) + (width frame.variables * t.variable + part t))

-- Each row has a word for its column; no two rows have the same column.
pub record Columns (frame : Frame) (notes : List ℕ) : Type 0 where
  pub words : sets_end frame ≤ length notes
  pub apart :
      (d e : ℕ)
      → d < frame.effects
      → e < frame.effects
      → 0 < column notes e
      → column notes d ≡ column notes e
      → d ≡ e

-- Each condition that is kept, for whatever operator, is the row that building gives now, plus 1.
pub record Kept (frame : Frame) (formulas effects notes : List ℕ) (s : St) : Type 0 where
  pub known :
      (t : Target) (e r : ℕ)
      → e < frame.effects
      → t.variable < frame.variables
      → part t < width frame.variables
      → 0 < column notes e
      → kept_place frame (column notes e) t < length notes
      → get_or notes (kept_place frame (column notes e) t) 0 ≡ r + 1
      → Known (condition_at frame formulas effects t e) s r

-- where the last join of row e is kept: behind the columns, three words for each row
abbrev pub join_place : Frame → ℕ → ℕ
join_place frame e = frame.effects + 3 * e

-- the join of row e, for a plain target: "or" where e is both, "and" where it is a formula over an effect
abbrev pub join_of : List ℕ → ℕ → ℕ → ℕ → Build ℕ
join_of effects e l r = join (side (eqb (row_at effects e).kind 3)) l r

-- Behind the two rows that were joined last for row e stands the row that joining them gives now, plus 1; or 0.
pub record Joins (frame : Frame) (effects notes : List ℕ) (s : St) : Type 0 where
  pub known :
      (e r : ℕ)
      → e < frame.effects
      → get_or notes (join_place frame e + 2) 0 ≡ r + 1
      → Known (join_of effects e (get_or notes (join_place frame e) 0) (get_or notes (join_place frame e + 1) 0)) s r

-- The notes: sets of atoms, columns, the conditions that are kept, and the last joins.
pub record Noted (frame : Frame) (formulas effects notes : List ℕ) (s : St) : Type 0 where
  pub sets : AtomSets frame effects notes
  pub columns : Columns frame notes
  pub kept : Kept frame formulas effects notes s
  pub joins : Joins frame effects notes s

-- What looking into row e's column asks.
pub record Looks (frame : Frame) (notes : List ℕ) (e : ℕ) : Type 0 where
  pub words : sets_end frame ≤ length notes
  pub limit : frame.effects ≤ 4096
  pub variables : frame.variables ≤ 512
  pub effect : e < frame.effects

-- The condition of target t and row e is kept in word k.
pub record KeptAt (frame : Frame) (notes : List ℕ) (t : Target) (e k : ℕ) : Type 0 where
  pub one : part t < width frame.variables
  pub variable : t.variable < frame.variables
  pub has_column : 0 < column notes e
  pub place : k ≡ kept_place frame (column notes e) t
  pub within : k < length notes

-- What looking for the condition of target t and row e asks, and what keeping it asks.
pub record AsksKept (frame : Frame) (notes scratch : List ℕ) (t : Target) (e : ℕ) : Type 0 where
  pub looks : Looks frame notes e
  pub variable : t.variable < frame.variables
  pub formulas : frame.formulas ≤ 4096
  pub memo : 2 * frame.formulas + 2 * frame.effects ≤ length scratch

-- The row is what the notes have of target t and row e.
pub record RecallsNoted (frame : Frame) (notes : List ℕ) (t : Target) (e row : ℕ) : Type 0 where
  pub known :
      (formulas effects : List ℕ) (s : St)
      → Noted frame formulas effects notes s
      → Known (condition_at frame formulas effects t e) s row

-- The row is what memo or notes have of target t and row e.
pub record Recalls (frame : Frame) (notes scratch : List ℕ) (t : Target) (e row : ℕ) : Type 0 where
  pub known :
      (formulas effects : List ℕ) (s : St)
      → Noted frame formulas effects notes s
      → EffectMemo frame formulas effects scratch s
      → Known (condition_at frame formulas effects t e) s row

-- The notes stay right if the row is known as the condition of target t and row e.
pub record KeepsNoted (frame : Frame) (notes notes' : List ℕ) (t : Target) (e row : ℕ) : Type 0 where
  pub noted :
      (formulas effects : List ℕ) (s : St)
      → Known (condition_at frame formulas effects t e) s row
      → Noted frame formulas effects notes s
      → Noted frame formulas effects notes' s

-- So does the memo; that of images stays as it is.
pub record Keeps (frame : Frame) (notes notes' scratch scratch' : List ℕ) (t : Target) (e row : ℕ) : Type 0 where
  pub keeps_noted : KeepsNoted frame notes notes' t e row
  pub images : (j : ℕ) → j < 2 * frame.formulas → get_or scratch' j 0 ≡ get_or scratch j 0
  pub effect_memo :
      (formulas effects : List ℕ) (s : St)
      → Known (condition_at frame formulas effects t e) s row
      → EffectMemo frame formulas effects scratch s
      → EffectMemo frame formulas effects scratch' s

pub record Asks (frame : Frame) (formulas effects notes : List ℕ) (t : Target) (at : Size) (before : Store) (scratch : List ℕ) (e : ℕ) : Type 0 where
  pub source : Source frame formulas scratch
  pub effect_source : EffectSource frame effects scratch
  pub ready : Ready frame at before
  pub noted : Noted frame formulas effects notes (held at before)
  pub memo : Memo frame formulas scratch (held at before)
  pub effect_memo : EffectMemo frame formulas effects scratch (held at before)
  pub variable : t.variable < frame.variables
  pub effect : e < frame.effects

-- A step with both memos and the notes. Which words these have is left open, if they are right (`Memo`, `EffectMemo`, `Noted`): they change no answer.
-- Once there is no room nothing is said of them. Scratch behind the memos is left open too: `compile` clears it (`compiling`).
pub record Conditions (m : Build ℕ) (frame : Frame) (formulas effects notes' : List ℕ) (at : Size) (before after : Store) (scratch' : List ℕ) (r : Step) : Type 0 where
  pub builds : Builds m frame at before after r
  pub noted : r.full ≡ false → Noted frame formulas effects notes' (held (size_of r) after)
  pub memo : r.full ≡ false → Memo frame formulas scratch' (held (size_of r) after)
  pub effect_memo : r.full ≡ false → EffectMemo frame formulas effects scratch' (held (size_of r) after)

-- what a builder of conditions builds
abbrev pub condition_by : ConditionBuilder → Target → ℕ → Build ℕ
condition_by b t e = condition_at b.images.builder.frame b.images.formulas.now b.effects.now t e

-- what it asks: of what one began, where another stands
abbrev pub AsksThere : ConditionBuilder → ConditionBuilder → Target → ℕ → Type 0
AsksThere b c t e =
    Asks b.images.builder.frame b.images.formulas.now b.effects.now c.notes.now t (size_in c.images.builder) (store_in c.images.builder)
    c.images.scratch.now e

abbrev pub AsksCondition : ConditionBuilder → Target → ℕ → Type 0
AsksCondition b t e = AsksThere b b t e

-- A builder of conditions stays the same one: its effects, and which notes, scratch and tables it has.
pub record SameConditions (b c : ConditionBuilder) : Type 0 where
  pub images : SameImages b.images c.images
  pub effects : c.effects.now ≡ b.effects.now
  pub notes : c.notes.ghost_name ≡ b.notes.ghost_name
  pub notes_length : length c.notes.now ≡ length b.notes.now

-- A step, of what b began, from c to d.
pub record Later (m : Build ℕ) (b c d : ConditionBuilder) (r : Result ℕ NoRoom) : Type 0 where
  pub conditions :
      Conditions m b.images.builder.frame b.images.formulas.now b.effects.now d.notes.now (size_in c.images.builder)
      (store_in c.images.builder) (store_in d.images.builder) d.images.scratch.now (step_by d.images.builder r)
  pub same : SameConditions b d

-- A step of a builder of conditions, and what it answers.
abbrev pub Conditioned : Build ℕ → (b c : ConditionBuilder) → Result ℕ NoRoom → Type 0
Conditioned m b c r = Later m b b c r
