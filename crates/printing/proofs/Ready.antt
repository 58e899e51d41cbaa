-- What the steps of printing ask holds of tables that pass the check. Assumes nothing.
use Prim.Native.Nat.{ℕ, ◌≤◌}
use mathlib.Core.Path.{◌≡◌}
use Rattle.task.specs.Table.{Lent}
use Rattle.task.specs.Check.{refusal}
use Rattle.task.specs.Rules.{LongEnough}
use Rattle.task.proofs.Passed.{passed, counts_tested, lengths_tested, initial_tested}
use Rattle.printing.specs.Inner.Put.{FrontReady, TablesReady}

module _ (l : Lent) (e : refusal l ≡ 0) where
  pub long_tables : LongEnough l
  long_tables = (lengths_tested l).0 (passed l e).lengths

  pub front_ready : FrontReady l.head l.initial l.twins
  front_ready =
      let p = passed l e in
      let counts = (counts_tested l.head).0 p.counts in
      record {
        variables = counts.variables;
        twin_count = counts.twins;
        initial_long = long_tables.initial;
        twins_long = long_tables.twins;
        bits = (initial_tested l).0 p.initial;
      }

  pub tables_ready : (at : ℕ) → at ≤ 5000 → TablesReady at l.head l.formulas l.effects l.operators
  tables_ready at h =
      let counts = (counts_tested l.head).0 (passed l e).counts in
      record {
        place = h;
        formula_count = counts.formulas;
        effect_count = counts.effects;
        operator_count = counts.operators;
        formulas_long = long_tables.formulas;
        effects_long = long_tables.effects;
        operators_long = long_tables.operators;
      }
