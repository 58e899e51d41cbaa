-- Traps of building, by computing the definitions. The examples that 01 marks P stand in the crate `claims`, in one table.
use Prim.Native.Nat.{ℕ}
use mathlib.Core.Path.{◌≡◌, refl}
use mathlib.Core.List.{[], ◌∷◌}
use Rattle.task.specs.Bounded.{upto}
use Rattle.task.specs.Table.{Row, Lent, Task, formula_kind, effect_kind, row_at, operator_at, task_of, operator}
use Rattle.task.specs.Tree.{formula_node, formula_within, formula_of, effect_node, effect_within, effect_of}
use Rattle.task.specs.Run.{operator_of, effect_of_operator}
use Rattle.normal_form.specs.Builder.{give, bind, each, place, including, same_row, row, twin, variable_row, twin_row, start, choice, join_as, join, pair}
use Rattle.normal_form.specs.Image.{literal, image}
use Rattle.normal_form.specs.Conditions.{guarded, condition}
use Rattle.normal_form.specs.Operators.{deletes_of, changes_of, built_operator, parts}
use Rattle.normal_form.specs.Assembly.{rule, with_twin, rules_of, rules, atom_row, rule_rows, write_rule, write_rules, assemble_operator, assemble, unassembled}
use Rattle.normal_form.specs.Finished.{built, assembled, twin_values, finished}

abbrev pub words : ℕ → ℕ → ℕ → Row
words k a b = record { kind = k; a = a; b = b }

-- finished, computed
result : Task → Task
unfolding
    formula_kind effect_kind formula_node formula_within formula_of effect_node effect_within effect_of operator_of effect_of_operator
    give bind each place including same_row row twin variable_row twin_row start choice join_as join pair literal image guarded condition
    deletes_of changes_of built_operator parts rule with_twin rules_of rules atom_row rule_rows write_rule write_rules assemble_operator
    assemble unassembled built assembled twin_values finished
result t = finished t

-- The whole example, for the outcomes in ExamplesCompiled. Formulas v0; v1; not 0; not 1; 0 and 3. Effects set v0; clear v1; 1 under 1; both 0 and 2. Operator (2, 3, cost 3). Goal 4.
abbrev pub source : Lent
source =
    record {
      head = record { variables = 2; twins = 0; formulas = 5; effects = 4; operators = 1; goal = 4 };
      initial = 0 ∷ 1 ∷ [];
      twins = [];
      formulas = 2 ∷ 0 ∷ 0 ∷ 2 ∷ 1 ∷ 0 ∷ 3 ∷ 0 ∷ 0 ∷ 3 ∷ 1 ∷ 0 ∷ 4 ∷ 0 ∷ 3 ∷ [];
      effects = 1 ∷ 0 ∷ 0 ∷ 2 ∷ 1 ∷ 0 ∷ 4 ∷ 1 ∷ 1 ∷ 3 ∷ 0 ∷ 2 ∷ [];
      operators = 2 ∷ 3 ∷ 3 ∷ 100 ∷ [];
    }

pub whole :
    finished (task_of source)
    ≡ record {
      initial = 0 ∷ 1 ∷ 1 ∷ 0 ∷ [];
      originals = 0 ∷ 1 ∷ [];
      formulas =
          words 0 0 0 ∷ words 1 0 0 ∷ words 2 2 0 ∷ words 2 1 0 ∷ words 2 0 0 ∷ words 2 3 0 ∷ words 4 4 5 ∷ [];
      effects =
          words 0 0 0
          ∷ words 1 0 0
          ∷ words 4 1 1
          ∷ words 2 2 0
          ∷ words 4 1 3
          ∷ words 3 2 4
          ∷ words 2 1 0
          ∷ words 4 3 6
          ∷ words 3 5 7
          ∷ words 1 3 0
          ∷ words 4 3 9
          ∷ words 3 8 10
          ∷ [];
      operators = operator 2 11 3 100 ∷ [];
      goal = 6;
    }
unfolding result task_of upto row_at operator_at
whole = refl

-- the smallest: goal true, no variables, effects or operators
pub smallest :
    finished
    (record {
      initial = [];
      originals = [];
      formulas = words 1 0 0 ∷ [];
      effects = [];
      operators = [];
      goal = 0;
    })
    ≡ record {
      initial = [];
      originals = [];
      formulas = words 0 0 0 ∷ words 1 0 0 ∷ [];
      effects = words 0 0 0 ∷ [];
      operators = [];
      goal = 1;
    }
unfolding result
smallest = refl

-- the goal brings a twin, for which the operator before it gets its rule: clear v0, goal "not v0"
pub twin_by_goal :
    finished
    (record {
      initial = 1 ∷ [];
      originals = [];
      formulas = words 1 0 0 ∷ words 2 0 0 ∷ words 3 1 0 ∷ [];
      effects = words 2 0 0 ∷ [];
      operators = operator 0 0 1 100 ∷ [];
      goal = 2;
    })
    ≡ record {
      initial = 1 ∷ 0 ∷ [];
      originals = 0 ∷ [];
      formulas = words 0 0 0 ∷ words 1 0 0 ∷ words 2 1 0 ∷ [];
      effects = words 0 0 0 ∷ words 2 0 0 ∷ words 4 1 1 ∷ words 1 1 0 ∷ words 4 1 3 ∷ words 3 2 4 ∷ [];
      operators = operator 1 5 1 100 ∷ [];
      goal = 2;
    }
unfolding result
twin_by_goal = refl

-- folding saves no building: "false and not v0" is row 0, and v0 has its twin
pub fold_after_building :
    finished
    (record {
      initial = 1 ∷ [];
      originals = [];
      formulas = words 0 0 0 ∷ words 2 0 0 ∷ words 3 1 0 ∷ words 4 0 2 ∷ [];
      effects = [];
      operators = [];
      goal = 3;
    })
    ≡ record {
      initial = 1 ∷ 0 ∷ [];
      originals = 0 ∷ [];
      formulas = words 0 0 0 ∷ words 1 0 0 ∷ words 2 1 0 ∷ [];
      effects = words 0 0 0 ∷ [];
      operators = [];
      goal = 0;
    }
unfolding result
fold_after_building = refl

-- "v0 equivalent to v1" or its negation: first the plain image, then the negated one, in each of them each pair left, right, join
pub equivalence_order :
    finished
    (record {
      initial = 0 ∷ 0 ∷ [];
      originals = [];
      formulas = words 2 0 0 ∷ words 2 1 0 ∷ words 7 0 1 ∷ words 3 2 0 ∷ words 5 2 3 ∷ [];
      effects = [];
      operators = [];
      goal = 4;
    })
    ≡ record {
      initial = 0 ∷ 0 ∷ 1 ∷ 1 ∷ [];
      originals = 0 ∷ 1 ∷ [];
      formulas =
          words 0 0 0
          ∷ words 1 0 0
          ∷ words 2 0 0
          ∷ words 2 1 0
          ∷ words 4 2 3
          ∷ words 2 2 0
          ∷ words 2 3 0
          ∷ words 4 5 6
          ∷ words 5 4 7
          ∷ words 4 2 6
          ∷ words 4 5 3
          ∷ words 5 9 10
          ∷ words 5 8 11
          ∷ [];
      effects = words 0 0 0 ∷ [];
      operators = [];
      goal = 12;
    }
unfolding result
equivalence_order = refl

-- no conflict, no N: "set v1 under v0" brings no twin, nor does "set v1 under 'false and v0', and clear v1"
pub no_conflict_no_twin :
    finished
    (record {
      initial = 0 ∷ 0 ∷ [];
      originals = [];
      formulas = words 2 0 0 ∷ words 0 0 0 ∷ words 4 1 0 ∷ [];
      effects = words 1 1 0 ∷ words 4 0 0 ∷ words 4 2 0 ∷ words 2 1 0 ∷ words 3 2 3 ∷ [];
      operators = operator 0 1 0 100 ∷ operator 1 4 0 100 ∷ [];
      goal = 0;
    })
    ≡ record {
      initial = 0 ∷ 0 ∷ [];
      originals = [];
      formulas = words 0 0 0 ∷ words 1 0 0 ∷ words 2 0 0 ∷ [];
      effects = words 0 0 0 ∷ words 1 1 0 ∷ words 4 2 1 ∷ words 2 1 0 ∷ words 4 1 3 ∷ [];
      operators = operator 2 2 0 100 ∷ operator 0 4 0 100 ∷ [];
      goal = 2;
    }
unfolding result
no_conflict_no_twin = refl
