-- Putting bytes into an output from a place on: what does not fit is only counted.
use Rattle.std.specs.Prelude.{ℕ, ◌+◌, ◌*◌, ◌^◌, ◌≤◌, ◌<◌, ◌≡◌, List, length, get_or}
use Rattle.std.proofs.lemmas.List.Edits.{sets}
use Rattle.task.specs.declared.Table.{Table}
use Rattle.task.specs.declared.Table.TheVariants.{Formulas, Effects, Operators}
use Rattle.task.specs.Bounded.{upto}
use Rattle.task.specs.Table.{row_at, operator_at, Lent, operator}
use Rattle.task.specs.Words.{joined}
use Rattle.file_format.specs.Bytes.{row_bytes, operator_bytes}
use Rattle.task.specs.Rules.{LongEnough}
use Rattle.task.specs.declared.TableRow.{TableRow}
use Rattle.task.specs.Inner.Tables.{width, words_at}

-- bytes stored one after the other from `at` on, and the place behind them
pub record Put (bytes : List ℕ) (at r : ℕ) (out out' : List ℕ) : Type 0 where
  pub wrote : out' ≡ sets out at bytes
  pub next : r ≡ at + length bytes

-- a kind that fits the map byte
abbrev pub MapFits : Table → ℕ → Type 0
MapFits Formulas kind = kind < 16
MapFits Effects kind = kind < 16
MapFits Operators kind = Unit {0}

-- the bytes of a row, by its words
abbrev pub kind_bytes : (kind a b : ℕ) → List ℕ
kind_bytes kind a b = row_bytes (record { kind = kind; a = a; b = b })

abbrev pub bytes_of : Table → TableRow → List ℕ
bytes_of Formulas r = kind_bytes r.first r.second r.third
bytes_of Effects r = kind_bytes r.first r.second r.third
bytes_of Operators r = operator_bytes (operator r.first r.second r.third r.fourth)

-- the bytes of the first n rows of a table
abbrev pub rows_bytes : Table → List ℕ → ℕ → List ℕ
rows_bytes Formulas words n = joined row_bytes (upto n (row_at words))
rows_bytes Effects words n = joined row_bytes (upto n (row_at words))
rows_bytes Operators words n = joined operator_bytes (upto n (operator_at words))

-- a table whose rows can be put at a place
pub record RowsIn (table : Table) (words : List ℕ) (count at : ℕ) : Type 0 where
  pub fit : width table * count ≤ length words
  pub room : at + 9 * count ≤ 1000000
  pub maps : (i : ℕ) → i < count → MapFits table (words_at table words i).first

-- a state of bits
pub record StateIn (state : List ℕ) : Type 0 where
  pub bits : (v : ℕ) → v < length state → get_or state v 0 ≤ 1

-- fields with a default each, no more than a byte has bits for
pub record FieldsIn (defaults fields : List ℕ) : Type 0 where
  pub same : length fields ≡ length defaults
  pub few : length fields ≤ 6

-- fields whose map fits a byte, with `high` above it
pub record MappedIn (defaults fields : List ℕ) (at high : ℕ) : Type 0 where
  pub place : at ≤ 1600000
  pub each : FieldsIn defaults fields
  pub fits : high + 2 ^ length defaults ≤ 256

-- what tables that pass the check bring to the writer
pub record WriteIn (l : Lent) : Type 0 where
  pub long : LongEnough l
  pub variables : l.head.variables ≤ 512
  pub twins : l.head.twins ≤ 512
  pub formulas : l.head.formulas ≤ 4096
  pub effects : l.head.effects ≤ 4096
  pub operators : l.head.operators ≤ 256
  pub bits : (v : ℕ) → v < l.head.variables → get_or l.initial v 0 ≤ 1
  pub formula_maps : (i : ℕ) → i < l.head.formulas → MapFits Formulas (row_at l.formulas i).kind
  pub effect_maps : (i : ℕ) → i < l.head.effects → MapFits Effects (row_at l.effects i).kind
