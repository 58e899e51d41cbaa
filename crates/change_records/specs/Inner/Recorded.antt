-- The changes that bring rules, kept in records of three words behind those of 256 operators.
use Rattle.std.specs.Prelude.{ℕ, ◌+◌, ◌≤◌, ◌<◌, ◌≡◌, Bool, cond, ◌&&◌, List, [], ◌∷◌, length, eqb}
use Rattle.task.specs.Bounded.{upto}
use Rattle.task.specs.Table.{row_at}
use Rattle.normal_form.specs.Operators.{Changes}

-- neither set nor cleared: no rule
unfoldable pub idle : Changes → Bool
idle c = eqb c.adds 0 && eqb c.deletes 0

-- those that bring rules
unfoldable pub acting : List Changes → List Changes
acting [] = []
acting (c ∷ cs) = cond (idle c) (acting cs) (c ∷ acting cs)

-- change k of the records
unfoldable pub change_at : List ℕ → ℕ → Changes
change_at records k =
    record {
      variable = (row_at records (256 + k)).kind;
      adds = (row_at records (256 + k)).a;
      deletes = (row_at records (256 + k)).b;
    }

-- n changes from one on
unfoldable pub changes_from : List ℕ → ℕ → ℕ → List Changes
changes_from records from n = upto n (λ i. change_at records (from + i))

-- There is room for all records, and a number of changes that is far from a word's limit.
pub record Keeps (k : ℕ) (records : List ℕ) : Type 0 where
  pub room : 6912 ≤ length records
  pub limit : k ≤ 4096

-- The same before an operator's first change.
pub record Opens (k : ℕ) (records : List ℕ) : Type 0 where
  pub room : 6912 ≤ length records
  pub limit : k ≤ 2048

-- Behind so many changes stand those of cs that bring rules, if there is room for them; what stood before them and behind is as it was. Without room
-- it is left open which of them stand: `take_operator` then says that there is none, and nothing reads the records (`Taken`).
pub record Recorded (cs : List Changes) (from : ℕ) (before after : List ℕ) (to : ℕ) : Type 0 where
  pub count : to ≡ from + length (acting cs)
  pub there : to ≤ 2048 → changes_from after from (length (acting cs)) ≡ acting cs
  pub below : (j : ℕ) → j < 256 + from → row_at after j ≡ row_at before j
  pub behind : (j : ℕ) → 256 + to ≤ j → row_at after j ≡ row_at before j
