-- How many rows, twins and effect rows the limits and the lent tables leave room for: if the finished task fits, no moment of building or of writing
-- has more. So whoever stops at the first without room answers 15 rightly. Assumes nothing.
use Prim.Native.Nat.{ℕ, ◌≤◌}
use native.Mathlib.Omega.{arith}
use lib.ListN.{length}
use Rattle.task.specs.Table.{Task}
use Rattle.normal_form.specs.Builder.{St}
use Rattle.normal_form.specs.Growth.{Grows}
use Rattle.normal_form.specs.Finished.{built, finished}
use Rattle.normal_form.specs.Compiled.{Room, Fits}
use Rattle.normal_form.proofs.ShapePassed.{finished_variables}
use Rattle.normal_form.proofs.ShapeSizes.{grows_fewer}
use Rattle.normal_form.specs.Inner.Allowed.{Allows}

-- rows and twins within what is allowed
pub record WithinRoom (rows twins : ℕ) (s : St) : Type 0 where
  pub rows_within : length s.rows ≤ rows
  pub twins_within : length s.twins ≤ twins

module _ (t : Task) (room : Room) (rows twins effects : ℕ) (allows : Allows (length t.initial) room rows twins effects) (fit : Fits (finished t) room) where
  pub building_within : (s : St) → Grows s (built t).st → WithinRoom rows twins s
  unfolding finished
  building_within s g =
      let f = grows_fewer g in
      let width = finished_variables t in
      let all : length (built t).st.rows ≤ rows =
      allows.rows_allowed (length (built t).st.rows) fit.limits.formulas fit.tables.formulas
      in
      let each : length (built t).st.twins ≤ twins =
      allows.twins_allowed (length (built t).st.twins) (omega (arith, fit.limits.variables))
      (omega (arith, fit.tables.initial)) fit.tables.twins
      in
      record { rows_within = omega (arith, f.rows); twins_within = omega (arith, f.twins) }
