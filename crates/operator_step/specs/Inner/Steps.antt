-- One step, where nothing before its operator refuses. Only the contracts of inner functions cite this file.
use Rattle.std.specs.Prelude.{ℕ, ◌+◌, ◌*◌, ◌≤◌, ◌<◌, ◌≡◌, Bool, true, false, Result, Ok, Err, List, length, get_or, ltb}
use Rattle.task.specs.declared.Head.{Head}
use Rattle.task.specs.declared.refusal.Refusal.{Refusal}
use Rattle.task.specs.Refused.{number_of}
use Rattle.task.specs.Table.{Task, Lent, row_at, operator_at, task_of, operator_width}
use Rattle.task.specs.Rules.{OperatorRule}
use Rattle.task.specs.Semantics.{apply}
use Rattle.task.specs.Run.{operator_of, effect_of_operator, applicable, charge}
use Rattle.task.specs.Inner.Rows.{FormulaKept, EffectKept}
use Rattle.evaluating.specs.Inner.Values.{Valued}
use Rattle.applying.specs.Inner.Carrying.{Decided}

-- what a step asks of the tables
pub record TablesReady (l : Lent) : Type 0 where
  pub formulas_there : 3 * l.head.formulas ≤ length l.formulas
  pub effects_there : 3 * l.head.effects ≤ length l.effects
  pub operators_there : operator_width * l.head.operators ≤ length l.operators
  pub formula : (i : ℕ) → i < l.head.formulas → FormulaKept l.head.variables i (row_at l.formulas i)
  pub effect : (i : ℕ) → i < l.head.effects → EffectKept l.head.variables l.head.formulas i (row_at l.effects i)
  pub operator :
      (i : ℕ) → i < l.head.operators → OperatorRule l.head.formulas l.head.effects (operator_at l.operators i)
  pub goal : l.head.goal < l.head.formulas

-- what it asks of the state and of scratch
pub record StateReady (h : Head) (s : List ℕ) : Type 0 where
  pub size : length s ≡ h.variables
  pub bits : (v : ℕ) → v < length s → get_or s v 0 ≤ 1

pub record Ready (l : Lent) (s scratch : List ℕ) : Type 0 where
  pub tables : TablesReady l
  pub state : StateReady l.head s
  pub room : l.head.formulas + l.head.effects ≤ length scratch

-- what a step gives: 0 and its charge, or 17 or 18
pub record Taken : Type 0 where
  pub stop : ℕ
  pub charge : ℕ

-- what `take` answers, as that
abbrev pub taken_answered : Result ℕ Refusal → Taken
taken_answered (Ok charge) = record { stop = 0; charge = charge }
taken_answered (Err e) = record { stop = number_of e; charge = 0 }

-- and the state
pub record Took : Type 0 where
  pub answer : Taken
  pub state : List ℕ

abbrev pub stayed : ℕ → List ℕ → Took
stayed number s = record { answer = record { stop = number; charge = 0 }; state = s }

unfoldable pub took_by : (there holding : Bool) → Task → List ℕ → ℕ → Took
took_by false holding t s o = stayed 17 s
took_by true false t s o = stayed 18 s
took_by true true t s o =
    record { answer = record { stop = 0; charge = charge t s o }; state = apply s (effect_of_operator t o) }

unfoldable pub took : Task → List ℕ → ℕ → Took
took t s o = took_by (ltb o (length t.operators)) (applicable t s o) t s o

-- what `take` answers, and the state
pub record Takes (t : Task) (s : List ℕ) (o : ℕ) (r : Taken) (after : List ℕ) : Type 0 where
  pub answer : r ≡ (took t s o).answer
  pub state : after ≡ (took t s o).state
  pub small : r.charge ≤ 131070

-- what `take` leaves in scratch, every byte of it: a step that is stopped leaves the values of the formulas up to the precondition (row 0 if
-- the operator is not there), a step that is done the values of all formulas and the marks of its effect; behind them stays what stood there
pub record Scratched (l : Lent) (s : List ℕ) (n : ℕ) (r : Taken) (before after : List ℕ) : Type 0 where
  pub stopped : (r.stop ≡ 0 → ⊥) → Valued l.formulas ((operator_of (task_of l) n).precondition + 1) s before after
  pub done :
      r.stop ≡ 0 → Decided l.formulas l.effects l.head.formulas (operator_of (task_of l) n).effect s before after
