-- What a private step of printing asks and answers.
use Rattle.std.specs.Prelude.{ℕ, ◌+◌, ◌-◌, ◌*◌, ◌≤◌, ◌<◌, ◌≡◌, List, [], ◌∷◌, ◌++◌, length, get_or, take}
use Rattle.std.proofs.lemmas.List.Edits.{sets}
use Rattle.task.specs.declared.Head.{Head}
use Rattle.task.specs.Bounded.{upto}
use Rattle.task.specs.Table.{operator_width}
use Rattle.task.specs.declared.Table.{Table}
use Rattle.task.specs.declared.Table.TheVariants.{Formulas, Effects, Operators}
use Rattle.task.specs.Inner.Tables.{width, words_at, listed}
use Rattle.printing.specs.Lines.{line, numbered, initial_line}

-- A text of at most `most` bytes was put at a place: byte by byte, nothing past the buffer's end; the next place counts on all the same.
pub record Put (before : List ℕ) (at : ℕ) (text : List ℕ) (most : ℕ) (after : List ℕ) (next : ℕ) : Type 0 where
  pub stored : after ≡ sets before at text
  pub counted : next ≡ at + length text
  pub short : length text ≤ most

-- the numbers of line t
abbrev pub counts_of : Head → List ℕ
counts_of h = h.variables ∷ h.twins ∷ h.formulas ∷ h.effects ∷ h.operators ∷ h.goal ∷ []

-- the words of row i of a table
abbrev pub listed_at : Table → List ℕ → ℕ → List ℕ
listed_at table words i = listed table (words_at table words i)

-- the word of twin row k
abbrev pub original_at : List ℕ → ℕ → List ℕ
original_at twins k = get_or twins k 0 ∷ []

-- the lines t, i and w of lent tables
unfoldable pub front_text : Head → (initial twins : List ℕ) → List ℕ
front_text h initial twins =
    line 116 (counts_of h)
    ++ (initial_line (take h.variables initial)
    ++ numbered 119 (h.variables - h.twins) (upto h.twins (original_at twins)))

-- the lines f, e and o
unfoldable pub tables_text : Head → (formulas effects operators : List ℕ) → List ℕ
tables_text h formulas effects operators =
    numbered 102 0 (upto h.formulas (listed_at Formulas formulas))
    ++ (numbered 101 0 (upto h.effects (listed_at Effects effects))
    ++ numbered 111 0 (upto h.operators (listed_at Operators operators)))

-- What the digits of these bytes ask at a place.
pub record BitsReady (at : ℕ) (initial : List ℕ) : Type 0 where
  pub room : at + length initial ≤ 1000000
  pub bits : (v : ℕ) → v < length initial → get_or initial v 0 ≤ 1

-- What lines w ask.
pub record TwinsReady (at first : ℕ) (twins : List ℕ) : Type 0 where
  pub room : at + 14 * length twins ≤ 1000000
  pub below : first + length twins ≤ 512

-- What the lines of a table of rows ask.
pub record RowsReady (table : Table) (at count : ℕ) (words : List ℕ) : Type 0 where
  pub room : at + 32 * count ≤ 1000000
  pub long : width table * count ≤ length words
  pub few : count ≤ 4096

-- What lines t, i and w ask together.
pub record FrontReady (head : Head) (initial twins : List ℕ) : Type 0 where
  pub variables : head.variables ≤ 512
  pub twin_count : head.twins + head.twins ≤ head.variables
  pub initial_long : head.variables ≤ length initial
  pub twins_long : head.twins ≤ length twins
  pub bits : (v : ℕ) → v < head.variables → get_or initial v 0 ≤ 1

-- What lines f, e and o ask together.
pub record TablesReady (at : ℕ) (head : Head) (formulas effects operators : List ℕ) : Type 0 where
  pub place : at ≤ 5000
  pub formula_count : head.formulas ≤ 4096
  pub effect_count : head.effects ≤ 4096
  pub operator_count : head.operators ≤ 256
  pub formulas_long : 3 * head.formulas ≤ length formulas
  pub effects_long : 3 * head.effects ≤ length effects
  pub operators_long : operator_width * head.operators ≤ length operators
