-- The rules of the compiled operators and the effect rows that hold them (01, "Building the compiled task").
use Rattle.std.specs.Prelude.{ℕ, ◌+◌, cond, length, eqb, ltb}
use mathlib.Core.List.{List, [], ◌∷◌, ◌++◌, foldl}
use Rattle.task.specs.Table.{Row, Operator, with_parts}
use Rattle.task.specs.Semantics.{Atom, sets, clears}
use Rattle.normal_form.specs.Builder.{place}
use Rattle.normal_form.specs.Operators.{Changes, Built}

-- A rule: an atom under the row that is its condition.
pub record Rule : Type 0 where
  pub condition : ℕ
  pub atom : Atom

-- none for a condition that is row 0: under it no state lets the atom act
unfoldable pub rule : ℕ → Atom → List Rule
rule c l = cond (eqb c 0) [] (record { condition = c; atom = l } ∷ [])

-- none for an absent twin: v0 without a twin would have the rule of variable n + (number of twins), which no state has
unfoldable pub with_twin : ℕ → List ℕ → ℕ → (ℕ → List Rule) → List Rule
with_twin n twins v make =
    let k = place eqb v twins in
    cond (ltb k (length twins)) (make (n + k)) []

-- set v under A, clear its twin under A, clear v under D, set its twin under D. Twins as they stand after the goal: chosen before N or the
-- goal is built, "clear v0" with the goal "not v0" would leave v0's twin 0. And D is free of conflict already: with the twins' rules made before
-- that, "set v0 and clear v0" would leave v0 and its twin both 1.
unfoldable pub rules_of : ℕ → List ℕ → Changes → List Rule
rules_of n twins c =
    rule c.adds (sets c.variable)
    ++ (with_twin n twins c.variable (λ w. rule c.adds (clears w))
    ++ (rule c.deletes (clears c.variable)
    ++ with_twin n twins c.variable (λ w. rule c.deletes (sets w))))

-- an operator's rules, v upwards
unfoldable pub rules : ℕ → List ℕ → List Changes → List Rule
rules n twins [] = []
rules n twins (c ∷ cs) = rules_of n twins c ++ rules n twins cs

-- The effect rows so far, and the row of what stands of this operator: row 0, the empty effect, before its first rule.
pub record Written : Type 0 where
  pub rows : List Row
  pub stands : ℕ

unfoldable pub atom_row : Atom → Row
atom_row (sets v) = record { kind = 1; a = v; b = 0 }
atom_row (clears v) = record { kind = 2; a = v; b = 0 }

-- the two rows of a rule: its atom (at row i), then the atom under its condition. Always appended: two operators that set v0 have two atoms.
unfoldable pub rule_rows : ℕ → Rule → List Row
rule_rows i r = atom_row r.atom ∷ record { kind = 4; a = r.condition; b = i } ∷ []

-- from the operator's second rule on, "both" of what stands and the new one; joined across operators, the second would do what the first does too
unfoldable pub write_rule : Written → Rule → Written
write_rule w r =
    let i = length w.rows in
    cond (eqb w.stands 0)
    (record { rows = w.rows ++ rule_rows i r; stands = i + 1 })
    (record {
      rows = w.rows ++ (rule_rows i r ++ (record { kind = 3; a = w.stands; b = i + 1 } ∷ []));
      stands = i + 2;
    })

unfoldable pub write_rules : Written → List Rule → Written
write_rules w rs = foldl write_rule w rs

-- The effect and operator tables so far.
pub record Assembled : Type 0 where
  pub effects : List Row
  pub operators : List Operator

-- one operator: an operator without rules has effect 0; cost is kept
unfoldable pub assemble_operator : ℕ → List ℕ → Assembled → Built → Assembled
assemble_operator n twins w o =
    let e = write_rules (record { rows = w.effects; stands = 0 }) (rules n twins o.changes) in
    record {
      effects = e.rows;
      operators = w.operators ++ (with_parts o.source o.precondition e.stands ∷ []);
    }

-- operator by operator
unfoldable pub assemble : ℕ → List ℕ → Assembled → List Built → Assembled
assemble n twins w os = foldl (assemble_operator n twins) w os

-- effect row 0 is empty, also in a task with no operators
unfoldable pub unassembled : Assembled
unassembled = record { effects = record { kind = 0; a = 0; b = 0 } ∷ []; operators = [] }
