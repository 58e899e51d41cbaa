-- The sets of atoms, set v and clear v, that stand in effect rows: where their bits are, and what the bits say.
use Rattle.std.specs.Prelude.{ℕ, ◌+◌, ◌*◌, ◌/◌, ◌%◌, ◌^◌, ◌≤◌, ◌<◌, ◌≡◌, Bool, true, cond, List, eqb, length, get_or}
use Rattle.task.specs.Table.{row_at}
use Rattle.formula_builder.specs.declared.Frame.{Frame}

-- how many words a set takes: eight variables a word, and whole fours of words, since four are taken at once
unfoldable pub set_words : Frame → ℕ
set_words frame = (frame.variables + 31) / 32 * 4

-- where the word of variable v in the set of row e stands: behind four other words for each row
unfoldable pub set_place : Frame → ℕ → ℕ → ℕ
set_place frame v e = 4 * frame.effects + (set_words frame * e + v / 8)

-- where the sets end
unfoldable pub sets_end : Frame → ℕ
sets_end frame = 4 * frame.effects + set_words frame * frame.effects

-- the bit of an atom in its word: that of set v, behind it that of clear v
unfoldable pub atom_bit : Bool → ℕ → ℕ
atom_bit clear v = 2 * (v % 8) + cond clear 1 0

-- whether the set of row e lacks set v, or clear v
unfoldable pub lacks : Frame → List ℕ → Bool → ℕ → ℕ → Bool
lacks frame notes clear v e = eqb (get_or notes (set_place frame v e) 0 / 2 ^ atom_bit clear v % 2) 0

-- the word of variable v in the set of row e, without the bits of the variables below v
unfoldable pub set_from : Frame → List ℕ → ℕ → ℕ → ℕ
set_from frame notes v e = get_or notes (set_place frame v e) 0 / 2 ^ (2 * (v % 8))

-- Variable v and row e are within the limits.
pub record InSet (frame : Frame) (v e : ℕ) : Type 0 where
  pub variables : frame.variables ≤ 512
  pub limit : frame.effects ≤ 4096
  pub variable : v < frame.variables
  pub effect : e < frame.effects

-- An atom that a row's set lacks stands neither in the row nor in the sets of the rows that it names.
pub record Sets (frame : Frame) (effects notes : List ℕ) : Type 0 where
  pub words : sets_end frame ≤ length notes
  pub both :
      (clear : Bool) (v i : ℕ)
      → v < frame.variables
      → i < frame.effects
      → (row_at effects i).kind ≡ 3
      → lacks frame notes clear v i ≡ true
      → (lacks frame notes clear v (row_at effects i).a ≡ true) × (lacks frame notes clear v (row_at effects i).b ≡ true)
  pub under :
      (clear : Bool) (v i : ℕ)
      → v < frame.variables
      → i < frame.effects
      → (row_at effects i).kind ≡ 4
      → lacks frame notes clear v i ≡ true
      → lacks frame notes clear v (row_at effects i).b ≡ true
  pub atom :
      (clear : Bool) (i : ℕ)
      → i < frame.effects
      → (row_at effects i).kind ≡ cond clear 2 1
      → lacks frame notes clear (row_at effects i).a i ≡ true
      → ⊥
