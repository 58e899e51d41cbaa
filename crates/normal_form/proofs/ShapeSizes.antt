-- Growth never goes back: what stands at any moment of building is no longer than what stands in the end. So whoever stops at the first row or
-- twin without room is right that the finished task has none. Assumes nothing.
use Prim.Native.Nat.{ℕ, zero, suc, ◌≤◌, ◌<◌}
use native.Mathlib.Omega.{arith}
use native.Mathlib.Decide.{dec_le}
use mathlib.Core.Path.{◌≡◌}
use lib.ListN.{length}
use Rattle.task.specs.Table.{Task}
use Rattle.task.specs.Semantics.{Effect, sets, clears}
use Rattle.task.specs.Tree.{formula_of}
use Rattle.task.specs.Run.{operator_of, effect_of_operator}
use Rattle.normal_form.specs.Builder.{St, Build, give, bind, each, start, plain}
use Rattle.normal_form.specs.Growth.{Grows, Steady}
use Rattle.normal_form.specs.Image.{image}
use Rattle.normal_form.specs.Conditions.{condition}
use Rattle.normal_form.specs.Operators.{Changes, changes_of, built_operator, parts}
use Rattle.normal_form.specs.Finished.{built}
use Rattle.normal_form.proofs.Growth.{longer, grows_refl, grows_trans, steady_give, steady_bind}
use Rattle.normal_form.proofs.Steady.{steady_image, steady_condition, steady_deletes, steady_changes, steady_operator}

-- No more rows and no more twins.
pub record Fewer (s t : St) : Type 0 where
  pub rows : length s.rows ≤ length t.rows
  pub twins : length s.twins ≤ length t.twins

pub grows_fewer : {s t : St} → Grows s t → Fewer s t
grows_fewer {s} {t} g = record { rows = longer s.rows t.rows g.rows; twins = longer s.twins t.twins g.twins }

-- after the first of two steps
pub bind_grows :
    {A B : Type 0} (m : Build A) (f : A → Build B) (s : St)
    → ((x : A) → Steady (f x))
    → Grows (m s).st (bind m f s).st
unfolding bind
bind_grows m f s h = (h (m s).value).grow (m s).st

-- before number k of n
pub each_grows :
    {A : Type 0} (f : ℕ → Build A) (s : St)
    → ((k : ℕ) → Steady (f k))
    → (k n : ℕ)
    → k ≤ n
    → Grows (each k f s).st (each n f s).st
unfolding each bind give
each_grows f s h k zero b =
    let e : k ≡ 0 = omega arith in
    rw e (grows_refl s)
each_grows f s h k (suc n) b = go (dec_le k n) (each_grows f s h k n)
  where
    go : Dec (k ≤ n) → (k ≤ n → Grows (each k f s).st (each n f s).st) → Grows (each k f s).st (f n (each n f s).st).st
    go (yes c) more = grows_trans (more c) ((h n).grow (each n f s).st)
    go (no c) more =
        let e : k ≡ suc n = omega arith in
        rw e (grows_refl (f n (each n f s).st).st)

-- The moments of building one variable's changes, an operator, and the task.
module _ (n : ℕ) (e : Effect) (v : ℕ) (s : St) where
  -- after A
  pub adds_grows : Grows (condition n plain (sets v) e s).st (changes_of n e v s).st
  unfolding changes_of
  adds_grows =
      bind_grows (condition n plain (sets v) e) _ s
      (λ a.
      steady_bind (steady_condition n plain (clears v) e)
      (λ d. steady_bind (steady_deletes n e v a d) (λ k. steady_give _)))

  -- after D, before it is freed of A
  pub deletes_grows :
      Grows (condition n plain (clears v) e (condition n plain (sets v) e s).st).st (changes_of n e v s).st
  unfolding changes_of bind
  deletes_grows =
      let a = condition n plain (sets v) e s in
      bind_grows (condition n plain (clears v) e) _ a.st
      (λ d.
      steady_bind (steady_deletes n e v a.value d)
      (λ k. steady_give (record { variable = v; adds = a.value; deletes = k })))

module _ (t : Task) where
  abbrev variables : ℕ
  variables = length t.initial

  abbrev precondition_of : ℕ → Build ℕ
  precondition_of o = image (length t.initial) plain (formula_of t.formulas (operator_of t o).precondition)

  abbrev changes_at : ℕ → ℕ → Build Changes
  changes_at o = changes_of (length t.initial) (effect_of_operator t o)

  -- in operator o, before variable v; before variable 0 stands the precondition
  pub variable_grows :
      (o v : ℕ) (s : St)
      → v ≤ length t.initial
      → Grows (each v (changes_at o) (precondition_of o s).st).st (built_operator t o s).st
  unfolding built_operator bind give
  variable_grows o v s h =
      each_grows (changes_at o) (precondition_of o s).st (steady_changes variables (effect_of_operator t o)) v variables h

  -- before operator o; before the goal, o is their number
  pub operator_grows :
      (o : ℕ) → o ≤ length t.operators → Grows (each o (built_operator t) start).st (built t).st
  unfolding built parts
  operator_grows o h =
      grows_trans (each_grows (built_operator t) start (steady_operator t) o (length t.operators) h)
      (bind_grows (each (length t.operators) (built_operator t)) _ start
      (λ b. steady_bind (steady_image variables plain _) (λ g. steady_give _)))

  -- in operator o of the task, before variable v
  pub moment_grows :
      (o v : ℕ)
      → o < length t.operators
      → v ≤ length t.initial
      → Grows (each v (changes_at o) (precondition_of o (each o (built_operator t) start).st).st).st (built t).st
  moment_grows o v h l =
      grows_trans (variable_grows o v (each o (built_operator t) start).st l) (next (operator_grows (suc o) h))
    where
      next :
          Grows (each (suc o) (built_operator t) start).st (built t).st
          → Grows (built_operator t o (each o (built_operator t) start).st).st (built t).st
      next g = unfold each bind give in g
