-- The finished task of a source task (01, "Building the compiled task"), limits aside: a task that compiles has it as its compiled task.
use Rattle.std.specs.Prelude.{ℕ, ◌-◌, List, map, ◌++◌, length, get_or}
use Rattle.task.specs.Table.{Task}
use Rattle.normal_form.specs.Builder.{Got, start}
use Rattle.normal_form.specs.Operators.{Parts, parts}
use Rattle.normal_form.specs.Assembly.{Assembled, assemble, unassembled}

-- all that is built, formulas and twins, before the first rule
unfoldable pub built : Task → Got Parts
built t = parts t start

unfoldable pub assembled : Task → Assembled
assembled t = assemble (length t.initial) (built t).st.twins unassembled (built t).value.operators

-- a twin starts opposite to its original; started at 0, "not v0" would be false though v0 is 0
unfoldable pub twin_values : List ℕ → List ℕ → List ℕ
twin_values initial twins = map (λ v. 1 - get_or initial v 0) twins

unfoldable pub finished : Task → Task
finished t =
    record {
      initial = t.initial ++ twin_values t.initial (built t).st.twins;
      originals = (built t).st.twins;
      formulas = (built t).st.rows;
      effects = (assembled t).effects;
      operators = (assembled t).operators;
      goal = (built t).value.goal;
    }
