-- The last join of each effect row, which the notes keep: what the code that joins asks and answers.
use Rattle.std.specs.Prelude.{ℕ, ◌<◌, ◌≡◌, Bool, false, List, eqb}
use Rattle.task.specs.Table.{row_at}
use Rattle.normal_form.specs.Builder.{St, join}
use Rattle.formula_builder.specs.declared.Frame.{Frame}
use Rattle.formula_builder.specs.Inner.Held.{Size, Step, Store, held, size_of, side, Ready, Builds}
use Rattle.images.specs.Inner.Images.{Known}
use Rattle.conditions.specs.declared.Target.{Target}
use Rattle.conditions.specs.Inner.Conditions.{join_of, Noted, Looks}

-- The target is plain, and row x is what the notes keep of rows l and r for row e.
pub record Rejoins (frame : Frame) (notes : List ℕ) (t : Target) (e l r x : ℕ) : Type 0 where
  pub plain : t.negated ≡ false
  pub known :
      (formulas effects : List ℕ) (s : St)
      → Noted frame formulas effects notes s
      → Known (join_of effects e l r) s x

-- The notes stay right if the target is negated, or row x is known as the join of rows l and r for row e.
pub record KeepsJoin (frame : Frame) (notes notes' : List ℕ) (t : Target) (e l r x : ℕ) : Type 0 where
  pub noted :
      (formulas effects : List ℕ) (s : St)
      → (t.negated ≡ false → Known (join_of effects e l r) s x)
      → Noted frame formulas effects notes s
      → Noted frame formulas effects notes' s

-- What joining rows l and r for row e asks.
pub record AsksJoin (frame : Frame) (notes : List ℕ) (e : ℕ) (at : Size) (before : Store) (l r : ℕ) : Type 0 where
  pub looks : Looks frame notes e
  pub ready : Ready frame at before
  pub left : l < at.rows
  pub right : r < at.rows

-- The notes are right, and a plain target's flag is that of row e's join.
pub record JoinsAs (frame : Frame) (formulas effects notes : List ℕ) (t : Target) (e : ℕ) (or : Bool) (at : Size) (before : Store) : Type 0 where
  pub ready : Ready frame at before
  pub noted : Noted frame formulas effects notes (held at before)
  pub flag : t.negated ≡ false → eqb (row_at effects e).kind 3 ≡ or

-- Rows l and r are joined, and the notes stay right.
pub record Joined (frame : Frame) (notes notes' : List ℕ) (t : Target) (e : ℕ) (or : Bool) (at : Size) (l r : ℕ) (before after : Store) (x : Step) : Type 0 where
  pub builds :
      (formulas effects : List ℕ) → JoinsAs frame formulas effects notes t e or at before → Builds (join (side or) l r) frame at before after x
  pub noted :
      (formulas effects : List ℕ)
      → JoinsAs frame formulas effects notes t e or at before
      → x.full ≡ false
      → Noted frame formulas effects notes' (held (size_of x) after)
