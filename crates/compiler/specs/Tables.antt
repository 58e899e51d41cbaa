-- The six tables that compiling is lent.
use Rattle.std.specs.Prelude.{ℕ, List, length}
use Rattle.normal_form.specs.Compiled.{Room}

-- the six lent tables
pub record Tables : Type 0 where
  pub initial : List ℕ
  pub twins : List ℕ
  pub formulas : List ℕ
  pub effects : List ℕ
  pub operators : List ℕ
  pub scratch : List ℕ

abbrev pub tables : (initial twins formulas effects operators scratch : List ℕ) → Tables
tables i w f e o s = record { initial = i; twins = w; formulas = f; effects = e; operators = o; scratch = s }

abbrev pub room_of : Tables → Room
room_of x =
    record {
      initial = length x.initial;
      twins = length x.twins;
      formulas = length x.formulas;
      effects = length x.effects;
      operators = length x.operators;
      scratch = length x.scratch;
    }
