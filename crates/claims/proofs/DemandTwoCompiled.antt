-- Demand 2, of compiling: what is built is what the scope says, positive and flat, within its limits; and what is built once is found again.
use Prim.Native.Nat.{ℕ, ◌+◌, ◌*◌, ◌≤◌}
use mathlib.Core.Path.{◌≡◌, ap}
use mathlib.Core.Bool.{true}
use mathlib.Core.Logic.{◌↔◌}
use mathlib.Core.List.{List}
use lib.ListN.{get_or}
use Rattle.task.specs.declared.Head.{Head}
use Rattle.task.specs.Table.{Lent, Task, task_of}
use Rattle.task.specs.Check.{refusal}
use Rattle.task.specs.Words.{head_of, lent_of}
use Rattle.task.specs.Rules.{LentWords}
use Rattle.task.proofs.Kept.{kept_rules}
use Rattle.task.proofs.Sixteen.{lent_rules}
use Rattle.task.specs.Semantics.{Formula, Atom, Effect, holds, effcond}
use Rattle.task.specs.Tree.{formula_of}
use Rattle.task.proofs.Words.{task_of_lent}
use Rattle.normal_form.proofs.Demand.{finished_keeps}
use Rattle.normal_form.specs.Builder.{Polarity}
use Rattle.normal_form.specs.Growth.{Steady}
use Rattle.normal_form.specs.Image.{image}
use Rattle.normal_form.specs.Conditions.{condition}
use Rattle.normal_form.specs.Operators.{parts}
use Rattle.normal_form.specs.Finished.{finished}
use Rattle.normal_form.specs.Compiled.{Room, Fits, compiled_head, not_compiled, CompileOutcome, nothing_given, task_given, compiling, given}
use Rattle.normal_form.specs.Positive.{Positive, PositiveFormula, PositiveEffect}
use Rattle.normal_form.proofs.Steady.{steady_image, steady_condition, steady_parts}
use Rattle.normal_form.proofs.ShapeFinished.{flat}
use Rattle.normal_form.proofs.ShapePassed.{positive, finished_positive, finished_passes}
use Rattle.normal_form.proofs.ShapePositive.{formula_positive}
use Rattle.normal_form.proofs.Monotone.{formula_monotone, effect_monotone}
use Rattle.normal_form.proofs.Compiled.{by_room, succeeds, given_compiles, fifteen, source_rules, given_head, given_task, given_passes, given_positive, given_flat}
use Rattle.claims.specs.Statements.{Compiles, NormalForm}

-- The compiled task passes the check, has no negation symbol anywhere in its formula table, and flat effects.
pub compiled_is_normal : (t : Task) → Compiles t → NormalForm (lent_of (finished t))
compiled_is_normal t c =
    record {
      passes = finished_passes t c.rules.checked c.room;
      keeps = rw (task_of_lent (finished t)) (finished_keeps t c.rules c.room);
      positive_rows = rw (task_of_lent (finished t)) (positive t c.rules.checked);
      positive = rw (task_of_lent (finished t)) (finished_positive t c.rules.checked);
      flat = λ o. rw (task_of_lent (finished t)) (flat t o);
    }

-- Compiling succeeds exactly if the tables pass, W is 0, scratch is long enough, and the finished task keeps the limits and fits what is lent.
pub compiled_exactly_if :
    (l : Lent) (room : Room)
    → (compiling l room).answer ≡ compiled_head (head_of (finished (task_of l)))
    ↔ (refusal l ≡ 0)
    × (l.head.twins ≡ 0)
    × (2 * l.head.formulas + 2 * l.head.effects ≤ room.scratch)
    × Fits (finished (task_of l)) room
unfolding task_given
compiled_exactly_if l room = (
  λ e.
      let c = given_compiles l room (head_of (finished (task_of l))) e in
      (c.passes, c.untwinned, c.scratch, c.fits),
  λ p.
      ap (λ (o : CompileOutcome). o.answer)
      (succeeds l room (record { passes = p.0; untwinned = p.1; scratch = p.2; fits = p.3 })),
)

-- Space: where nothing else refuses, 15 is given exactly if the finished task passes a limit or a lent table; never early.
pub fifteen_exactly_if :
    (l : Lent) (room : Room)
    → refusal l ≡ 0
    → l.head.twins ≡ 0
    → 2 * l.head.formulas + 2 * l.head.effects ≤ room.scratch
    → (compiling l room).answer ≡ not_compiled 15
    ↔ (Fits (finished (task_of l)) room → ⊥)
unfolding nothing_given
fifteen_exactly_if l room passed untwinned scratch = (
  fifteen l room,
  λ n. ap (λ (o : CompileOutcome). o.answer) (by_room l room passed untwinned scratch n),
)

module _ (l : Lent) (room : Room) (h : Head) (success : (compiling l room).answer ≡ compiled_head h) where
  -- A compiling that succeeds gives the compiled task: its head is answered, and its rows stand in the tables.
  pub gives_compiled_task : (h ≡ head_of (finished (task_of l))) × (task_of (given h (compiling l room)) ≡ finished (task_of l))
  gives_compiled_task = (given_head l room h success, given_task l room h success)

  -- What it gave passes the check, has no negation symbol anywhere in its formula table, and flat effects.
  pub gives_normal_form : LentWords l → NormalForm (given h (compiling l room))
  gives_normal_form words =
      let c = given_compiles l room h success in
      record {
        passes = given_passes l room h success;
        keeps =
            rw (given_task l room h success)
            (finished_keeps (task_of l) (lent_rules l words (kept_rules l c.passes).0 (source_rules l room h success)) c.fits.limits);
        positive_rows = given_positive l room h success;
        positive =
            rw (given_task l room h success) (finished_positive (task_of l) (source_rules l room h success));
        flat = given_flat l room h success;
      }

-- Building only adds rows and twins, and building again in any later state gives the same row and adds nothing: of a formula's image or
-- negated image, of an atom's effect condition or its dual, and of all that is built for a task.
pub image_again : (n : ℕ) (p : Polarity) (f : Formula) → Steady (image n p f)
image_again n p f = steady_image n p f

pub condition_again : (n : ℕ) (p : Polarity) (l : Atom) (e : Effect) → Steady (condition n p l e)
condition_again n p l e = steady_condition n p l e

pub task_again : (t : Task) → Steady (parts t)
task_again t = steady_parts t

-- Positive means monotone: in a state where every variable that was 1 is still 1, a positive formula that held still holds, and so does an
-- effect condition of a positive effect. "not v0" is lost where v0 becomes 1, so no formula with a negation symbol in force counts as positive.
module _ (s s' : List ℕ) (still : (v : ℕ) → get_or s v 0 ≡ 1 → get_or s' v 0 ≡ 1) where
  pub positive_is_monotone : (p : Formula) → PositiveFormula p → holds s p ≡ true → holds s' p ≡ true
  positive_is_monotone = formula_monotone s s' still

  pub positive_conditions_are_monotone :
      (l : Atom) (e : Effect) → PositiveEffect e → effcond s l e ≡ true → effcond s' l e ≡ true
  positive_conditions_are_monotone = effect_monotone s s' still

  -- and every row of a positive formula table
  pub positive_rows_are_monotone :
      (t : Task)
      → Positive t
      → (i : ℕ)
      → holds s (formula_of t.formulas i) ≡ true
      → holds s' (formula_of t.formulas i) ≡ true
  positive_rows_are_monotone t rows i =
      formula_monotone s s' still (formula_of t.formulas i) (formula_positive t rows i)
