-- What the code of the layouts asks and gives, in the terms of specs/Layout.
use Rattle.std.specs.Prelude.{ℕ, ◌*◌, ◌≤◌, ◌≡◌, Bool, false, List, ◌∷◌, ◌++◌, take}
use Rattle.task.specs.Table.{Lent, operator_width}
use Rattle.task.specs.Rules.{LongEnough}
use Rattle.task.specs.Words.{joined, padded}
use Rattle.file_format.specs.Bytes.{word_bytes, head_fields}
use Rattle.plan.specs.Outcome.{End, Ended, Stopped, Refused, RunOutcome}
use Rattle.layouts.specs.Layout.{low_bytes, flag}

-- the layout of lent tables: their counted words, whatever stands behind them
unfoldable pub flat_bytes : Lent → List ℕ
flat_bytes l =
    joined word_bytes (head_fields l.head)
    ++ (take l.head.variables l.initial
    ++ (joined word_bytes (take l.head.twins l.twins)
    ++ (joined word_bytes (take (3 * l.head.formulas) l.formulas)
    ++ (joined word_bytes (take (3 * l.head.effects) l.effects)
    ++ joined word_bytes (take (operator_width * l.head.operators) l.operators)))))

-- lent tables within the limits
pub record LayIn (l : Lent) : Type 0 where
  pub long : LongEnough l
  pub variables : l.head.variables ≤ 512
  pub twins : l.head.twins ≤ 512
  pub formulas : l.head.formulas ≤ 4096
  pub effects : l.head.effects ≤ 4096
  pub operators : l.head.operators ≤ 256

-- how a run ended: its stop's number, 0 without one, and whether it is a plan
abbrev pub stop_of : End → ℕ
stop_of (Ended goal) = 0
stop_of (Stopped number step) = number
stop_of (Refused number) = number

abbrev pub plan_of : End → Bool
plan_of (Ended goal) = goal
plan_of (Stopped number step) = false
plan_of (Refused number) = false

-- a run's result, in 16 bytes
unfoldable pub outcome_bytes : RunOutcome → List ℕ
outcome_bytes o =
    low_bytes 4 o.steps
    ++ (low_bytes 8 o.cost ++ (flag o.goal ∷ flag (plan_of o.end) ∷ low_bytes 2 (stop_of o.end)))

pub record ResultGives (o : RunOutcome) (n r : ℕ) (after : List ℕ) : Type 0 where
  pub told : r ≡ stop_of o.end
  pub held : after ≡ padded n (outcome_bytes o)
