-- The columns of a batch of operators: what giving them asks and leaves.
use Rattle.std.specs.Prelude.{ℕ, ◌+◌, ◌*◌, ◌≤◌, ◌<◌, ◌≡◌, List, length, get_or}
use Rattle.normal_form.specs.Builder.{St}
use Rattle.formula_builder.specs.declared.Frame.{Frame}
use Rattle.atom_sets.specs.Inner.Sets.{sets_end}
use Rattle.conditions.specs.Inner.Conditions.{column, Noted}
use Rattle.effect_batches.specs.declared.Batch.{Batch}
use Rattle.effect_batches.specs.Inner.Firsts.{Rows, Roots, RowKept}

-- Of n rows no two have the same column, and none has a later one than the last.
pub record Numbers (n : ℕ) (notes : List ℕ) (last : ℕ) : Type 0 where
  pub within : (e : ℕ) → e < n → column notes e ≤ last
  pub apart : (d e : ℕ) → d < n → e < n → 0 < column notes e → column notes d ≡ column notes e → d ≡ e

-- At most so many of n rows got a column; the last is r now. The words behind the columns are as they were.
pub record Numbered (n most last : ℕ) (notes notes' : List ℕ) (r : ℕ) : Type 0 where
  pub numbers : Numbers n notes last → Numbers n notes' r
  pub once : r ≤ last + most
  pub behind : (j : ℕ) → n ≤ j → get_or notes' j 0 ≡ get_or notes j 0

-- Row e has its words, and the next column fits a word.
pub record NamesRow (effects first notes : List ℕ) (e last : ℕ) : Type 0 where
  pub words : 3 * e + 3 ≤ length effects
  pub effect : e < length first
  pub within : e < length notes
  pub few : last < 65535

-- So has row i, which keeps the rules, and the next two columns fit.
pub record NamesBelow (effects first notes : List ℕ) (i last : ℕ) : Type 0 where
  pub row : RowKept effects i
  pub effect : i < length first
  pub within : i < length notes
  pub few : last < 65534

-- So have n rows, among them each operator's effect.
pub record NamesRoots (n : ℕ) (effects operators first notes : List ℕ) (count : ℕ) : Type 0 where
  pub words : 3 * n ≤ length effects
  pub effect : n ≤ length first
  pub within : n ≤ length notes
  pub roots : Roots n operators count

-- The rows keep the rules, and have their words; so the notes have the sets of atoms.
pub record Room (frame : Frame) (effects first notes : List ℕ) : Type 0 where
  pub rows : Rows frame effects
  pub words : frame.effects ≤ length first
  pub behind : sets_end frame ≤ length notes

-- All columns are given anew, the last is r. The words behind the columns are as they were.
pub record Renumbered (n : ℕ) (notes notes' : List ℕ) (r : ℕ) : Type 0 where
  pub numbers : Numbers n notes' r
  pub behind : (j : ℕ) → n ≤ j → get_or notes' j 0 ≡ get_or notes j 0

-- There is a next operator.
pub record Sizes (frame : Frame) (effects operators first notes : List ℕ) (from count : ℕ) : Type 0 where
  pub room : Room frame effects first notes
  pub roots : Roots frame.effects operators count
  pub next : from < count

-- There are m operators in the batch, at least the next one, and its columns are given.
pub record Sized (n from count : ℕ) (notes notes' : List ℕ) (m : ℕ) : Type 0 where
  pub some : 0 < m
  pub most : from + m ≤ count
  pub last : ℕ
  pub renumbered : Renumbered n notes notes' last

-- Before the first batch all words from word k on are 0.
pub record Forgets (from k : ℕ) (notes : List ℕ) : Type 0 where
  pub room : k ≤ length notes
  pub blank : from ≡ 0 → (j : ℕ) → k ≤ j → get_or notes j 0 ≡ 0

-- Now they are, and all others are as they were.
pub record Forgot (k : ℕ) (notes notes' : List ℕ) : Type 0 where
  pub blank : (j : ℕ) → k ≤ j → get_or notes' j 0 ≡ 0
  pub ahead : (j : ℕ) → j < k → get_or notes' j 0 ≡ get_or notes j 0

-- Row e is one of n, and an operator before operator `from` came to it.
pub record Before (n : ℕ) (first : List ℕ) (from e : ℕ) : Type 0 where
  pub effect : e < n
  pub some : 0 < get_or first e 0
  pub earlier : get_or first e 0 ≤ from

-- The first k words of the list are such rows.
pub record Listed (n : ℕ) (first : List ℕ) (from : ℕ) (list : List ℕ) (k : ℕ) : Type 0 where
  pub room : k ≤ length list
  pub each : (j : ℕ) → j < k → Before n first from (get_or list j 0)

-- The list has a word for each of n rows.
pub record Lists (n : ℕ) (first notes list : List ℕ) : Type 0 where
  pub limit : n ≤ 4096
  pub words : n ≤ length first
  pub columns : n ≤ length notes
  pub entries : n ≤ length list

-- Row e is next, and no more rows than are before it are listed.
pub record ListsRow (first notes : List ℕ) (e k : ℕ) (list : List ℕ) : Type 0 where
  pub lists : Lists (e + 1) first notes list
  pub few : k ≤ e

-- It is listed, or the list is as it was.
pub record ListedRow (n : ℕ) (first : List ℕ) (from k : ℕ) (list list' : List ℕ) (r : ℕ) : Type 0 where
  pub once : r ≤ k + 1
  pub listed : Listed n first from list k → Listed n first from list' r

-- There is a next operator, the list has a word for each row, and before the first batch nothing is kept.
pub record BeginsBatch (frame : Frame) (effects operators : List ℕ) (from count : ℕ) (first notes list : List ℕ) : Type 0 where
  pub sizes : Sizes frame effects operators first notes from count
  pub entries : frame.effects ≤ length list
  pub blank : from ≡ 0 → (j : ℕ) → sets_end frame ≤ j → get_or notes j 0 ≡ 0

-- A batch has begun: the notes stay right, with other columns, in which nothing is kept. Which rows have one, and how many operators the batch has, is
-- left open: it tells what is kept for later operators, and changes no answer.
pub record BeganBatch (frame : Frame) (effects : List ℕ) (from count : ℕ) (first notes notes' list' : List ℕ) (b : Batch) : Type 0 where
  pub more : from < b.end
  pub most : b.end ≤ count
  pub noted : (formulas : List ℕ) (s : St) → Noted frame formulas effects notes s → Noted frame formulas effects notes' s
  pub listed : Listed frame.effects first from list' b.rows
