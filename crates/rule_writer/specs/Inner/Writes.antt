-- What writing rules asks of the effect table, and what it leaves there: the rows of the definition, or that they do not fit.
use Rattle.std.specs.Prelude.{ℕ, ◌+◌, ◌*◌, ◌≤◌, ◌<◌, ◌≡◌, Bool, true, false, not, cond, List, [], ◌∷◌, ◌++◌, length, get_or, ltb, Result, MatchResult}
use Rattle.task.specs.Semantics.{Atom, sets, clears}
use Rattle.task.specs.Words.{words_of, padded}
use Rattle.task.specs.Inner.Stored.{three}
use Rattle.normal_form.specs.Operators.{Changes}
use Rattle.normal_form.specs.Assembly.{Rule, rule, Written, write_rules}
use Rattle.rule_writer.specs.declared.Frame.{Frame}
use Rattle.rule_writer.specs.declared.Chain.{Chain}
use Rattle.rule_writer.specs.declared.Rule.{Rule as CodeRule}
use Rattle.rule_writer.specs.declared.Changes.{Changes as CodeChanges}

-- the atom, and its effect kind
abbrev pub atom_of : Bool → ℕ → Atom
atom_of true v = sets v
atom_of false v = clears v

abbrev pub kind_of : Bool → ℕ
kind_of true = 1
kind_of false = 2

-- what the code's structs stand for
abbrev pub changes_in : CodeChanges → Changes
changes_in c = record { variable = c.variable; adds = c.adds; deletes = c.deletes }

-- a rule whose condition is not row 0
abbrev pub alone : CodeRule → List Rule
alone r = record { condition = r.condition; atom = atom_of r.sets r.variable } ∷ []

abbrev pub rule_in : CodeRule → List Rule
rule_in r = rule r.condition (atom_of r.sets r.variable)

-- the opposite rule for the twin at place k, if there is one
abbrev pub twin_rule_in : Frame → ℕ → CodeRule → List Rule
twin_rule_in frame k r =
    cond (ltb k frame.twins) (rule r.condition (atom_of (not r.sets) (frame.variables + k))) []

abbrev pub opposed_in : Frame → ℕ → CodeRule → List Rule
opposed_in frame k r = rule_in r ++ twin_rule_in frame k r

-- for the variable and its twin at place k: set and cleared under A, then cleared and set under D
abbrev pub all_in : Frame → ℕ → CodeChanges → List Rule
all_in frame k c =
    opposed_in frame k (record { sets = true; variable = c.variable; condition = c.adds })
    ++ opposed_in frame k (record { sets = false; variable = c.variable; condition = c.deletes })

-- a rule's two rows stored as rows n and n + 1
abbrev pub two_rows : List ℕ → ℕ → CodeRule → List ℕ
two_rows t n r = three (three t n (kind_of r.sets) r.variable 0) (n + 1) 4 r.condition n

-- The table holds what is written, and 0 in all past it.
pub record Holds (w : Written) (at : Chain) (table : List ℕ) : Type 0 where
  pub rows : length w.rows ≡ at.rows
  pub stands : w.stands ≡ at.stands
  pub words : table ≡ padded (length table) (words_of w.rows)

-- The table has room for as many rows as are said.
pub record Ready (room : ℕ) (at : Chain) (table : List ℕ) : Type 0 where
  pub within : at.rows ≤ room
  pub space : 3 * room ≤ length table
  pub limit : room ≤ 4096

pub record FrameReady (frame : Frame) (at : Chain) (table : List ℕ) : Type 0 where
  pub rows : Ready frame.room at table
  pub variables : frame.variables + frame.twins ≤ 512

-- an operator's first rule, and a further one
pub record First (room : ℕ) (at : Chain) (table : List ℕ) : Type 0 where
  pub ready : Ready room at table
  pub none : at.stands ≡ 0

pub record Next (room : ℕ) (at : Chain) (table : List ℕ) : Type 0 where
  pub ready : Ready room at table
  pub some : at.stands ≡ 0 → ⊥

-- These rules are written behind whatever stands.
pub record Wrote (rs : List Rule) (room : ℕ) (at : Chain) (before after : List ℕ) (r : Chain) : Type 0 where
  pub ready : Ready room r after
  pub done : (w : Written) → Holds w at before → Holds (write_rules w rs) r after

-- There is no room for them.
pub record Overfull (rs : List Rule) (room : ℕ) (at : Chain) (before : List ℕ) : Type 0 where
  pub over : (w : Written) → Holds w at before → length (write_rules w rs).rows ≤ room → ⊥

-- Rules are written behind whatever stands; or there is no room, and then what the definition gives does not fit. Left open: the table when there
-- is no room, since each caller then says so in its turn, up to `compile`, which leaves all tables 0 (`compiling`); and a table that holds nothing
-- written before, since the first rules go behind the empty effect (`Assembles`).
abbrev pub Writes : {E : Type 0} → List Rule → ℕ → Chain → (before after : List ℕ) → Result Chain E → Type 0
Writes rs room at before after r =
    MatchResult r (λ chain. Wrote rs room at before after chain) (λ _. Overfull rs room at before)

-- The initial values of v source variables and of w twins have room, and each twin's original is a source variable of value 0 or 1.
pub record InitialReady (source originals out : List ℕ) (v w : ℕ) : Type 0 where
  pub values : v ≤ length source
  pub twins : w ≤ length originals
  pub space : v + w ≤ length out
  pub below : (k : ℕ) → k < w → get_or originals k 0 < v
  pub bits : (i : ℕ) → i < v → get_or source i 0 ≤ 1
