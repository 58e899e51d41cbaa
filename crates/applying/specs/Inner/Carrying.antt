-- Carrying out an effect: its conditions are decided in the state before, then the state is changed. Only the contracts of inner functions
-- cite this file.
use Rattle.std.specs.Prelude.{ℕ, ◌+◌, ◌≡◌, List, length}
use Rattle.evaluating.specs.Inner.Values.{Valuable, Valued}
use Rattle.applying.specs.Inner.Marks.{changed, Markable, Marked}

-- what it takes to carry out the effect of row `root`: `at` formulas, those below `from` evaluated
pub record ConditionsReady (f e : List ℕ) (from at root : ℕ) (s scratch : List ℕ) : Type 0 where
  pub formulas : Valuable f from at s scratch
  pub effects : Markable e (length s) at root scratch

-- its conditions are decided in state s: the formulas are evaluated there, and by the values the rows that act are marked; the values and the marks
-- are all that changes in scratch
pub record Decided (f e : List ℕ) (at root : ℕ) (s before after : List ℕ) : Type 0 where
  pub values : List ℕ
  pub same : length values ≡ length before
  pub evaluating : Valued f at s before values
  pub marking : Marked e at root values after

-- the effect is carried out: its conditions are decided in the state before, then come the clears, then the sets
pub record Carried (f e : List ℕ) (at root : ℕ) (s t before after : List ℕ) : Type 0 where
  pub deciding : Decided f e at root s before after
  pub state : t ≡ changed e 1 1 after at (root + 1) (changed e 2 0 after at (root + 1) s)
