-- What the memo of images holds, and what the code that builds images asks and answers.
use Rattle.std.specs.Prelude.{ℕ, ◌+◌, ◌*◌, ◌≤◌, ◌<◌, ◌≡◌, Bool, true, false, not, List, length, get_or, Result}
use Rattle.task.specs.Bounded.{upto}
use Rattle.task.specs.Table.{Row, row_at}
use Rattle.task.specs.Semantics.{Formula}
use Rattle.task.specs.Tree.{formula_of}
use Rattle.task.specs.Inner.Rows.{FormulasDown}
use Rattle.normal_form.specs.Builder.{St, Build, Polarity, plain, negated, pair}
use Rattle.normal_form.specs.Image.{image}
use Rattle.formula_builder.specs.declared.Frame.{Frame}
use Rattle.formula_builder.specs.declared.NoRoom.{NoRoom}
use Rattle.formula_builder.specs.Inner.Held.{Size, Step, Store, held, size_of, side, size_in, store_in, step_by, Ready, Builds, Same}
use Rattle.images.specs.declared.ImageBuilder.{ImageBuilder}

-- the source's formula rows
unfoldable pub source_rows : Frame → List ℕ → List Row
source_rows frame formulas = upto frame.formulas (row_at formulas)

-- the formula of row i
unfoldable pub tree : Frame → List ℕ → ℕ → Formula
tree frame formulas i = formula_of (source_rows frame formulas) i

-- the image of formula i; negated, its negated image
unfoldable pub image_at : Frame → List ℕ → Polarity → ℕ → Build ℕ
image_at frame formulas p i = image frame.variables p (tree frame formulas i)

-- row i's operands, each on its side, and their join, "and" or "or"
unfoldable pub pair_at : Frame → List ℕ → ℕ → Bool → Bool → Bool → Build ℕ
pair_at frame formulas i left right or =
    pair (side or) (image_at frame formulas (side left) (row_at formulas i).a)
    (image_at frame formulas (side right) (row_at formulas i).b)

-- row i as (a and b) or (not a and not b); negated, (a and not b) or (not a and b)
unfoldable pub equivalent_at : Frame → List ℕ → ℕ → Bool → Build ℕ
equivalent_at frame formulas i b =
    pair negated (pair_at frame formulas i false b false) (pair_at frame formulas i true (not b) false)

-- where the memo has formula i
abbrev pub memo_place : Frame → Polarity → ℕ → ℕ
memo_place frame plain i = i
memo_place frame negated i = frame.formulas + i

-- A row that building gives now, adding nothing.
pub record Known (m : Build ℕ) (s : St) (r : ℕ) : Type 0 where
  pub again : m s ≡ record { value = r; st = s }
  pub below : r < length s.rows

-- Each word of the memo that is not 0 is the row that building gives now, plus 1.
pub record Memo (frame : Frame) (formulas scratch : List ℕ) (s : St) : Type 0 where
  pub known :
      (p : Polarity) (i r : ℕ)
      → i < frame.formulas
      → get_or scratch (memo_place frame p i) 0 ≡ r + 1
      → Known (image_at frame formulas p i) s r

-- The source keeps the rules of formulas, and the scratch has two words for each.
pub record Source (frame : Frame) (formulas scratch : List ℕ) : Type 0 where
  pub words : 3 * frame.formulas ≤ length formulas
  pub memo : 2 * frame.formulas ≤ length scratch
  pub limit : frame.formulas ≤ 4096
  pub down : FormulasDown frame.variables (source_rows frame formulas)

pub record Asks (frame : Frame) (formulas : List ℕ) (at : Size) (before : Store) (scratch : List ℕ) (i : ℕ) : Type 0 where
  pub source : Source frame formulas scratch
  pub ready : Ready frame at before
  pub memo : Memo frame formulas scratch (held at before)
  pub formula : i < frame.formulas

-- for a row whose two words name formulas
pub record AsksPair (frame : Frame) (formulas : List ℕ) (at : Size) (before : Store) (scratch : List ℕ) (i : ℕ) : Type 0 where
  pub asks : Asks frame formulas at before scratch i
  pub left : (row_at formulas i).a < i
  pub right : (row_at formulas i).b < i

-- A step with its memo: what lies behind the memo stays as it is. Which words the memo has is left open, if they are right (`Memo`): they change no
-- answer. Once there is no room nothing is said of them.
pub record Images (m : Build ℕ) (frame : Frame) (formulas : List ℕ) (at : Size) (before after : Store) (scratch scratch' : List ℕ) (r : Step) : Type 0 where
  pub builds : Builds m frame at before after r
  pub memo : r.full ≡ false → Memo frame formulas scratch' (held (size_of r) after)
  pub rest : (j : ℕ) → 2 * frame.formulas ≤ j → get_or scratch' j 0 ≡ get_or scratch j 0

-- what a builder of images builds
abbrev pub image_by : ImageBuilder → Polarity → ℕ → Build ℕ
image_by b p i = image_at b.builder.frame b.formulas.now p i

abbrev pub pair_by : ImageBuilder → ℕ → Bool → Bool → Bool → Build ℕ
pair_by b i left right or = pair_at b.builder.frame b.formulas.now i left right or

abbrev pub equivalent_by : ImageBuilder → ℕ → Bool → Build ℕ
equivalent_by b i not = equivalent_at b.builder.frame b.formulas.now i not

-- what it asks: of what one began, where another stands
abbrev pub AsksThere : ImageBuilder → ImageBuilder → ℕ → Type 0
AsksThere b c i = Asks b.builder.frame b.formulas.now (size_in c.builder) (store_in c.builder) c.scratch.now i

abbrev pub AsksImage : ImageBuilder → ℕ → Type 0
AsksImage b i = AsksThere b b i

abbrev pub AsksOperands : ImageBuilder → ℕ → Type 0
AsksOperands b i = AsksPair b.builder.frame b.formulas.now (size_in b.builder) (store_in b.builder) b.scratch.now i

-- A builder of images stays the same one: its formulas, and which scratch and tables it has.
pub record SameImages (b c : ImageBuilder) : Type 0 where
  pub builder : Same b.builder c.builder
  pub formulas : c.formulas.now ≡ b.formulas.now
  pub scratch : c.scratch.ghost_name ≡ b.scratch.ghost_name
  pub scratch_length : length c.scratch.now ≡ length b.scratch.now

-- A step, of what b began, from c to d.
pub record Later (m : Build ℕ) (b c d : ImageBuilder) (r : Result ℕ NoRoom) : Type 0 where
  pub images :
      Images m b.builder.frame b.formulas.now (size_in c.builder) (store_in c.builder) (store_in d.builder) c.scratch.now d.scratch.now
      (step_by d.builder r)
  pub same : SameImages b d

-- A step of a builder of images, and what it answers.
abbrev pub Imaged : Build ℕ → (b c : ImageBuilder) → Result ℕ NoRoom → Type 0
Imaged m b c r = Later m b b c r
