-- A step before its scratch is cleared.
use Rattle.std.specs.Prelude.{◌≡◌, List, ℕ}
use Rattle.stepper.specs.Stepped.{StepOutcome, Stepped}

-- The answer and the state are the definition's. Scratch is left open: `step` clears it.
pub record StepDone (w : Stepped) (r : StepOutcome) (after : List ℕ) : Type 0 where
  pub answer : r ≡ w.answer
  pub state : after ≡ w.state
