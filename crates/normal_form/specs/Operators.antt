-- The conditions of all operators, and the goal (01, "Building the compiled task").
use Rattle.std.specs.Prelude.{ℕ, cond, List, length, eqb}
use Rattle.task.specs.Table.{Task, Operator}
use Rattle.task.specs.Semantics.{Effect, sets, clears}
use Rattle.task.specs.Tree.{formula_of}
use Rattle.task.specs.Run.{operator_of, effect_of_operator}
use Rattle.normal_form.specs.Builder.{Build, give, bind, each, join, plain, negated}
use Rattle.normal_form.specs.Image.{image}
use Rattle.normal_form.specs.Conditions.{condition}

-- Of a variable under an operator: the rows under which it is set and cleared. In corresponding states never both hold; in a state where v0 and its twin
-- are both 1, "set v1 under v0, and clear v1" has both.
pub record Changes : Type 0 where
  pub variable : ℕ
  pub adds : ℕ
  pub deletes : ℕ

-- Of an operator: the row of its precondition, the changes of each source variable, and the operator itself, of which the rest is kept.
pub record Built : Type 0 where
  pub precondition : ℕ
  pub changes : List Changes
  pub source : Operator

-- Of the task: its operators and the row of its goal.
pub record Parts : Type 0 where
  pub operators : List Built
  pub goal : ℕ

-- D, freed of conflict with A: if neither is row 0, D and N, with N the negated effcond of set v. Left as D, "set v and clear v" would set and
-- clear v together; with A and not D instead, the clear would win. If one is row 0 no N is built: for "set v1 under v0" it would bring v0's twin
-- in vain, and so for "set v1 under false-and-v0, and clear v1".
unfoldable pub deletes_of : ℕ → Effect → ℕ → ℕ → ℕ → Build ℕ
deletes_of n e v a d =
    cond (eqb a 0) (give d)
    (cond (eqb d 0) (give d) (bind (condition n negated (sets v) e) (λ c. join plain d c)))

-- all of A, then all of D, then N
unfoldable pub changes_of : ℕ → Effect → ℕ → Build Changes
changes_of n e v =
    bind (condition n plain (sets v) e)
    (λ a.
    bind (condition n plain (clears v) e)
    (λ d. bind (deletes_of n e v a d) (λ k. give (record { variable = v; adds = a; deletes = k }))))

-- Operator o: its precondition, then each source variable upwards. A precondition that is row 0 changes nothing else.
unfoldable pub built_operator : Task → ℕ → Build Built
built_operator t o =
    bind (image (length t.initial) plain (formula_of t.formulas (operator_of t o).precondition))
    (λ p.
    bind (each (length t.initial) (changes_of (length t.initial) (effect_of_operator t o)))
    (λ c. give (record { precondition = p; changes = c; source = operator_of t o })))

-- The operators in order; the goal last. Built first, a goal "not v1" would take variable n for v1's twin before the operators' twins.
unfoldable pub parts : Task → Build Parts
parts t =
    bind (each (length t.operators) (built_operator t))
    (λ o.
    bind (image (length t.initial) plain (formula_of t.formulas t.goal))
    (λ g. give (record { operators = o; goal = g })))
