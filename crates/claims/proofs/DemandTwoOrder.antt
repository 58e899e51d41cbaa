-- Demand 2, of compiling: the order in which rows and twins are built. The records are in specs/Order; each theorem says it of one rule of 01,
-- "Building the compiled task", from any state s that building comes to.
use Prim.Native.Nat.{ℕ, ◌<◌}
use native.Mathlib.Omega.{arith}
use mathlib.Core.Path.{◌≡◌, refl}
use lib.ListN.{length}
use Rattle.task.specs.Table.{Task}
use Rattle.task.specs.Semantics.{Formula, negation, conjunction, disjunction, implication, equivalence, Atom, Effect, both, under, sets, clears}
use Rattle.task.specs.Tree.{formula_of}
use Rattle.task.specs.Run.{operator_of, effect_of_operator}
use Rattle.normal_form.specs.Builder.{St, Build, give, bind, each, start, Polarity, plain, negated, opposite}
use Rattle.normal_form.specs.Growth.{Grows}
use Rattle.normal_form.specs.Image.{image}
use Rattle.normal_form.specs.Conditions.{condition}
use Rattle.normal_form.specs.Operators.{Changes, changes_of, built_operator, parts}
use Rattle.normal_form.specs.Finished.{built, finished}
use Rattle.normal_form.proofs.Steady.{steady_image, steady_condition}
use Rattle.normal_form.proofs.ShapeSizes.{variable_grows, operator_grows}
use Rattle.normal_form.proofs.Order.{image_stands, condition_stands}
use Rattle.claims.proofs.Ordered.{pair_in_order, under_ordered, changes_ordered, behind_each, moment_from_start, moment_stands}
use Rattle.claims.specs.Order.{PairInOrder, UnderInOrder, ChangesInOrder, behind, OperatorInOrder, state_before, TaskInOrder}

-- "a implies b" is (not a) or b, negated a and (not b). "a equivalent to b" is (a and b) or (not a and not b); negated, (a and not b) or (not a and
-- b). "And" and "or", negated, follow De Morgan in the same order.
module _ (n : ℕ) (a b : Formula) where
  pub implies_is : image n plain (implication a b) ≡ image n plain (disjunction (negation a) b)
  unfolding image
  implies_is = refl

  pub implies_negated_is : image n negated (implication a b) ≡ image n plain (conjunction a (negation b))
  unfolding image
  implies_negated_is = refl

  pub equivalent_is :
      image n plain (equivalence a b)
      ≡ image n plain (disjunction (conjunction a b) (conjunction (negation a) (negation b)))
  unfolding image
  equivalent_is = refl

  pub equivalent_negated_is :
      image n negated (equivalence a b)
      ≡ image n plain (disjunction (conjunction a (negation b)) (conjunction (negation a) b))
  unfolding image
  equivalent_negated_is = refl

  pub and_negated_is : image n negated (conjunction a b) ≡ image n plain (disjunction (negation a) (negation b))
  unfolding image
  and_negated_is = refl

  pub or_negated_is : image n negated (disjunction a b) ≡ image n plain (conjunction (negation a) (negation b))
  unfolding image
  or_negated_is = refl

-- Each pair is built left, right, then the join.
module _ (n : ℕ) (a b : Formula) (s : St) (from : Grows start s) where
  pub and_in_order : (p : Polarity) → PairInOrder p s (image n p a) (image n p b) (image n p (conjunction a b))
  unfolding image
  and_in_order p = pair_in_order p s (steady_image n p a) (steady_image n p b) (image_stands n p a) from

  pub or_in_order : (p : Polarity) → PairInOrder (opposite p) s (image n p a) (image n p b) (image n p (disjunction a b))
  unfolding image
  or_in_order p = pair_in_order (opposite p) s (steady_image n p a) (steady_image n p b) (image_stands n p a) from

  -- not a, then b; negated a, then not b
  pub implies_in_order :
      (p : Polarity) → PairInOrder (opposite p) s (image n (opposite p) a) (image n p b) (image n p (implication a b))
  unfolding image
  implies_in_order p =
      pair_in_order (opposite p) s (steady_image n (opposite p) a) (steady_image n p b) (image_stands n (opposite p) a) from

  -- (a and b), in it a first, then (not a and not b); negated (a and not b), then (not a and b)
  pub equivalent_in_order :
      PairInOrder negated s (image n plain (conjunction a b)) (image n plain (conjunction (negation a) (negation b)))
      (image n plain (equivalence a b))
  unfolding image
  equivalent_in_order =
      pair_in_order negated s (steady_image n plain (conjunction a b))
      (steady_image n plain (conjunction (negation a) (negation b)))
      (image_stands n plain (conjunction a b))
      from

  pub equivalent_negated_in_order :
      PairInOrder negated s (image n plain (conjunction a (negation b))) (image n plain (conjunction (negation a) b))
      (image n negated (equivalence a b))
  unfolding image
  equivalent_negated_in_order =
      pair_in_order negated s (steady_image n plain (conjunction a (negation b)))
      (steady_image n plain (conjunction (negation a) b))
      (image_stands n plain (conjunction a (negation b)))
      from

-- The effect condition of an atom l and its dual: of "both", left first; under a formula, the inner effect first.
module _ (n : ℕ) (p : Polarity) (l : Atom) (s : St) (from : Grows start s) where
  pub both_in_order :
      (e f : Effect)
      → PairInOrder (opposite p) s (condition n p l e) (condition n p l f) (condition n p l (both e f))
  unfolding condition
  both_in_order e f =
      pair_in_order (opposite p) s (steady_condition n p l e) (steady_condition n p l f) (condition_stands n p l e) from

  pub under_in_order :
      (f : Formula) (e : Effect) → UnderInOrder p s (image n p f) (condition n p l e) (condition n p l (under f e))
  under_in_order f e = under_ordered n p l s from f e

-- Of variable v under effect e: A, then D; if neither is row 0, then N, and D becomes "D and N".
pub changes_in_order :
    (n : ℕ) (e : Effect) (v : ℕ) (s : St)
    → Grows start s
    → ChangesInOrder s (condition n plain (sets v) e) (condition n plain (clears v) e) (condition n negated (sets v) e)
    (changes_of n e v)
changes_in_order n e v s from = changes_ordered n e v s from

module _ (t : Task) where
  abbrev width : ℕ
  width = length t.initial

  abbrev precondition_of : ℕ → Build ℕ
  precondition_of o = image width plain (formula_of t.formulas (operator_of t o).precondition)

  abbrev changes_at : ℕ → ℕ → Build Changes
  changes_at o = changes_of width (effect_of_operator t o)

  abbrev goal : Build ℕ
  goal = image width plain (formula_of t.formulas t.goal)

  -- For each operator: its precondition, then each source variable upwards.
  pub operator_in_order :
      (o : ℕ) (s : St)
      → OperatorInOrder (length t.initial) s
      (image (length t.initial) plain (formula_of t.formulas (operator_of t o).precondition))
      (changes_of (length t.initial) (effect_of_operator t o))
      (built_operator t o s).st
  operator_in_order o s =
      record {
        begins = unfold each give in variable_grows t o 0 s (omega arith);
        upwards = λ v h. rw (← behind_each (changes_at o) v (precondition_of o s).st) (variable_grows t o v s h);
        ends = operator-ends;
      }
    where
      operator-ends : (built_operator t o s).st ≡ behind (changes_at o) width (precondition_of o s).st
      operator-ends = unfold built_operator bind give in behind_each (changes_at o) width (precondition_of o s).st

  -- The operators in order; the goal is built last.
  pub task_in_order :
      TaskInOrder (length t.operators) start (built_operator t)
      (image (length t.initial) plain (formula_of t.formulas t.goal))
      (built t).st
  task_in_order =
      record {
        in_order = λ o h. rw (← behind_each (built_operator t) o start) (operator_grows t o h);
        ends = task-ends;
      }
    where
      task-ends : (built t).st ≡ (goal (behind (built_operator t) (length t.operators) start)).st
      task-ends = unfold built parts bind give in rw (behind_each (built_operator t) (length t.operators) start)

  -- What building ends with are the finished task's rows and twins.
  pub building_is_finished : ((finished t).formulas ≡ (built t).st.rows) × ((finished t).originals ≡ (built t).st.twins)
  unfolding finished
  building_is_finished = (refl, refl)

  -- So of operator o and variable v: what is built there is built in order, and stands in the finished task.
  pub finished_in_order :
      (o v : ℕ)
      → o < length t.operators
      → v < length t.initial
      → let n = length t.initial in
      let e = effect_of_operator t o in
      let s = state_before t o v in
      ChangesInOrder s (condition n plain (sets v) e) (condition n plain (clears v) e) (condition n negated (sets v) e)
      (changes_of n e v)
      × Grows (changes_of n e v s).st (built t).st
  finished_in_order o v h k = (
    changes_in_order (length t.initial) (effect_of_operator t o) v (state_before t o v) (moment_from_start t o v),
    moment_stands t o v h k,
  )
