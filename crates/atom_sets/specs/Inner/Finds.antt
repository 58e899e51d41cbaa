-- The sets of atoms, while they are being found.
use Rattle.std.specs.Prelude.{ℕ, ◌+◌, ◌*◌, ◌≤◌, ◌<◌, ◌≡◌, Bool, true, cond, List, length, get_or}
use Rattle.std.specs.Int.Bits.{bit_or}
use Rattle.task.specs.Table.{row_at}
use Rattle.formula_builder.specs.declared.Frame.{Frame}
use Rattle.atom_sets.specs.Inner.Sets.{set_words, sets_end, lacks, Sets}

-- where the set of row e begins
unfoldable pub set_start : Frame → ℕ → ℕ
set_start frame e = 4 * frame.effects + set_words frame * e

-- word k of those at a and those at b together
unfoldable pub united : List ℕ → ℕ → ℕ → ℕ → ℕ
united notes a b k = bit_or (get_or notes (a + k) 0) (get_or notes (b + k) 0)

-- word k of those at a
unfoldable pub copied : List ℕ → ℕ → ℕ → ℕ
copied notes a k = get_or notes (a + k) 0

-- The n words at i lie behind the n words at a.
pub record Room (n a i : ℕ) (notes : List ℕ) : Type 0 where
  pub apart : a + n ≤ i
  pub room : i + n ≤ length notes

-- The n words at i are now those that word gives, and all others are as they were.
pub record Written (n i : ℕ) (word : ℕ → ℕ) (before after : List ℕ) : Type 0 where
  pub here : (k : ℕ) → k < n → get_or after (i + k) 0 ≡ word k
  pub ahead : (j : ℕ) → j < i → get_or after j 0 ≡ get_or before j 0
  pub behind : (j : ℕ) → i + n ≤ j → get_or after j 0 ≡ get_or before j 0

-- Row e is within the limits.
pub record Within (frame : Frame) (e : ℕ) : Type 0 where
  pub variables : frame.variables ≤ 512
  pub limit : frame.effects ≤ 4096
  pub effect : e < frame.effects

-- There is room for the sets, and the rows keep the rules: of a known kind, they name lower rows and variables of the frame.
pub record FindsSets (frame : Frame) (effects notes : List ℕ) : Type 0 where
  pub words : 3 * frame.effects ≤ length effects
  pub limit : frame.effects ≤ 4096
  pub variables : frame.variables ≤ 512
  pub room : sets_end frame ≤ length notes
  pub both :
      (i : ℕ)
      → i < frame.effects
      → (row_at effects i).kind ≡ 3
      → ((row_at effects i).a < i) × ((row_at effects i).b < i)
  pub under : (i : ℕ) → i < frame.effects → (row_at effects i).kind ≡ 4 → (row_at effects i).b < i
  pub atom :
      (i : ℕ)
      → i < frame.effects
      → ((row_at effects i).kind ≡ 0 → ⊥)
      → (row_at effects i).kind < 3
      → (row_at effects i).a < frame.variables
  pub known : (i : ℕ) → i < frame.effects → (row_at effects i).kind ≤ 4

-- The same, for the set of row i.
pub record FindsSet (frame : Frame) (effects notes : List ℕ) (i : ℕ) : Type 0 where
  pub finds : FindsSets frame effects notes
  pub effect : i < frame.effects

-- What the set of row i lacks stands neither in the row nor in the sets of the rows that it names.
pub record SetOf (frame : Frame) (effects notes : List ℕ) (i : ℕ) : Type 0 where
  pub both :
      (clear : Bool) (v : ℕ)
      → v < frame.variables
      → (row_at effects i).kind ≡ 3
      → lacks frame notes clear v i ≡ true
      → (lacks frame notes clear v (row_at effects i).a ≡ true) × (lacks frame notes clear v (row_at effects i).b ≡ true)
  pub under :
      (clear : Bool) (v : ℕ)
      → v < frame.variables
      → (row_at effects i).kind ≡ 4
      → lacks frame notes clear v i ≡ true
      → lacks frame notes clear v (row_at effects i).b ≡ true
  pub atom :
      (clear : Bool)
      → (row_at effects i).kind ≡ cond clear 2 1
      → lacks frame notes clear (row_at effects i).a i ≡ true
      → ⊥

-- Row i has its set, and the words around it are as they were.
pub record FoundSet (frame : Frame) (effects : List ℕ) (i : ℕ) (before after : List ℕ) : Type 0 where
  pub set : SetOf frame effects after i
  pub ahead : (j : ℕ) → j < set_start frame i → get_or after j 0 ≡ get_or before j 0
  pub behind : (j : ℕ) → set_start frame (i + 1) ≤ j → get_or after j 0 ≡ get_or before j 0

-- All rows have their sets, and the words around them are as they were. Whether a set holds more atoms than stand in its row is left open: only what
-- it lacks is built upon (`Sets`), and the rest costs time alone.
pub record FoundSets (frame : Frame) (effects before after : List ℕ) : Type 0 where
  pub sets : Sets frame effects after
  pub ahead : (j : ℕ) → j < 4 * frame.effects → get_or after j 0 ≡ get_or before j 0
  pub behind : (j : ℕ) → sets_end frame ≤ j → get_or after j 0 ≡ get_or before j 0
