-- The finished task in corresponding states: preconditions and goal hold where the source's do; each variable is set and cleared as the source's
-- operator does it with the clear freed of the set, and its twin the other way round.
use Prim.Native.Nat.{ℕ, ◌+◌, ◌<◌, ◌≤◌}
use native.Mathlib.Omega.{arith}
use mathlib.Core.Path.{◌≡◌, refl, sym, ap, ap₂, ◌∙◌}
use mathlib.Core.Bool.{Bool, true, false, ◌&&◌, ◌||◌}
use mathlib.Core.List.{List}
use lib.ListN.{length, get_or}
use lib.Dec.{eqb, ltb}
use borrow.Author.Tests.{eq-eqb, ne_eqb}
use Rattle.task.specs.Table.{Row, Task, Operator}
use Rattle.task.specs.Rules.{Checked}
use Rattle.task.specs.Semantics.{holds, Atom, sets, clears, effcond}
use Rattle.task.specs.Tree.{formula_of}
use Rattle.task.specs.Run.{operator_of, effect_of_operator, goal_holds, applicable, charge_of}
use Rattle.task.specs.Corresponding.{Corresponding}
use Rattle.normal_form.specs.Builder.{plain}
use Rattle.normal_form.specs.Operators.{Changes}
use Rattle.normal_form.specs.Assembly.{rules_of, rules as rules_over}
use Rattle.normal_form.specs.Finished.{built, finished}
use Rattle.normal_form.proofs.Growth.{prefix_refl}
use Rattle.normal_form.proofs.Meaning.{Seen, means_falsity}
use Rattle.normal_form.proofs.MeaningCondition.{freed, ChangesMean}
use Rattle.normal_form.proofs.MeaningParts.{good_parts}
use Rattle.normal_form.proofs.MeaningActs.{acts, acts_chain}
use Rattle.normal_form.proofs.MeaningRules.{twinned, acts_sets, acts_clears, acts_none, acts_one, twinned_not, twinned_itself}
use Rattle.normal_form.proofs.ShapeFinished.{no_changes, no_built, finished_operators, finished_operator, operator_chain}

-- the changes of operator o
abbrev changes : Task → ℕ → List Changes
changes t o = (get_or (built t).value.operators o no_built).changes

-- the source's variables, the new formula rows, the twins and the original of twin j
abbrev vars : Task → ℕ
vars t = length t.initial

abbrev rows : Task → List Row
rows t = (built t).st.rows

abbrev twins : Task → List ℕ
twins t = (built t).st.twins

abbrev original : Task → ℕ → ℕ
original t j = get_or (twins t) j 0

-- where operator o sets x in a source state, and where it clears x and does not set it
abbrev pub added : Task → ℕ → ℕ → List ℕ → Bool
added t o x source = effcond source (sets x) (effect_of_operator t o)

abbrev pub deleted : Task → ℕ → ℕ → List ℕ → Bool
deleted t o x source = freed (effect_of_operator t o) x source

-- an atom that none, one or the other of a variable's two rules has
neither : (a d p q : Bool) → p ≡ false → q ≡ false → ((a && p) || (d && q)) ≡ false
neither true true p q e f = rw (e, f)
neither true false p q e f = rw e
neither false true p q e f = f
neither false false p q e f = refl

only_first : (a d p q : Bool) → p ≡ true → q ≡ false → ((a && p) || (d && q)) ≡ a
only_first true d p q e f = rw e
only_first false true p q e f = f
only_first false false p q e f = refl

only_second : (a d p q : Bool) → p ≡ false → q ≡ true → ((a && p) || (d && q)) ≡ d
only_second true true p q e f = rw (e, f)
only_second true false p q e f = rw e
only_second false true p q e f = f
only_second false false p q e f = refl

module _ (t : Task) (rules : Checked t) (source compiled : List ℕ) (width : length source ≡ vars t)
    (states : Corresponding (finished t).originals source compiled) where
  seen : Seen (vars t) (built t).st
  unfolding finished
  seen =
      record {
        final = twins t;
        source = source;
        compiled = compiled;
        width = width;
        ahead = prefix_refl (twins t);
        states = states;
      }

  pub same_goal : goal_holds (finished t) compiled ≡ goal_holds t source
  unfolding goal_holds finished seen
  same_goal = (good_parts t rules).value.goal.value seen

  module _ (o : ℕ) (h : o < length t.operators) where
    pub same_applicable : applicable (finished t) compiled o ≡ applicable t source o
    unfolding applicable operator_of finished seen
    same_applicable =
        ap₂ ◌&&◌ (ap (ltb o) (finished_operators t))
        (ap (λ (a : ℕ). holds compiled (formula_of (rows t) a)) (finished_operator t o h).precondition
        ∙ ((good_parts t rules).value.operators.at no_built o h).precondition.value seen)

    pub same_cost : (operator_of (finished t) o).cost ≡ (operator_of t o).cost
    unfolding operator_of finished
    same_cost =
        (finished_operator t o h).cost
        ∙ ap (λ (x : Operator). x.cost) ((good_parts t rules).value.operators.at no_built o h).source

    pub same_percent : (operator_of (finished t) o).percent ≡ (operator_of t o).percent
    unfolding operator_of finished
    same_percent =
        (finished_operator t o h).percent
        ∙ ap (λ (x : Operator). x.percent) ((good_parts t rules).value.operators.at no_built o h).source

    pub same_charge : charge_of (operator_of (finished t) o) ≡ charge_of (operator_of t o)
    unfolding charge_of
    same_charge = rw (same_cost, same_percent) refl

    -- where an atom acts: at one source variable y, or nowhere
    acts_there : (l : Atom) → effcond compiled l (effect_of_operator (finished t) o)
        ≡ acts (rows t) compiled l
        (rules_over (vars t) (twins t)
        (changes t o))
    unfolding effect_of_operator operator_of finished
    acts_there l =
        ap (effcond compiled l) (operator_chain t o h)
        ∙ acts_chain (rows t) compiled l (rules_over (vars t) (twins t) (changes t o))

    zeroth : holds compiled (formula_of (rows t) 0) ≡ false
    unfolding seen
    zeroth = (means_falsity plain (good_parts t rules).fine).value seen

    changes_mean :
        (k : ℕ)
        → k < vars t
        → ChangesMean (vars t) (effect_of_operator t o) k (built t).st
        (get_or (changes t o) k no_changes)
    changes_mean k b = ((good_parts t rules).value.operators.at no_built o h).changes.at no_changes k b

    changes_counted : length (changes t o) ≡ vars t
    changes_counted = ((good_parts t rules).value.operators.at no_built o h).changes.count

    -- the rules of source variable k that set x, and that clear x
    sets_at :
        (x k : ℕ)
        → k < vars t
        → acts (rows t) compiled (sets x)
        (rules_of (vars t) (twins t)
        (get_or (changes t o) k no_changes))
        ≡ ((added t o k source && eqb x k)
        || (deleted t o k source && twinned (vars t) (twins t) x k))
    unfolding seen
    sets_at x k b =
        let m = changes_mean k b in
        acts_sets (rows t) compiled zeroth (vars t) (twins t)
        (get_or (changes t o) k no_changes) x
        ∙ ap₂ ◌||◌ (ap₂ ◌&&◌ (m.adds.value seen) (ap (eqb x) m.variable))
        (ap₂ ◌&&◌ (m.deletes.value seen) (ap (twinned (vars t) (twins t) x) m.variable))

    clears_at :
        (x k : ℕ)
        → k < vars t
        → acts (rows t) compiled (clears x)
        (rules_of (vars t) (twins t)
        (get_or (changes t o) k no_changes))
        ≡ ((added t o k source && twinned (vars t) (twins t) x k)
        || (deleted t o k source && eqb x k))
    unfolding seen
    clears_at x k b =
        let m = changes_mean k b in
        acts_clears (rows t) compiled zeroth (vars t) (twins t)
        (get_or (changes t o) k no_changes) x
        ∙ ap₂ ◌||◌
        (ap₂ ◌&&◌ (m.adds.value seen) (ap (twinned (vars t) (twins t) x) m.variable))
        (ap₂ ◌&&◌ (m.deletes.value seen) (ap (eqb x) m.variable))

    -- an atom of x that no rules but those of source variable y have; and one that no rules have
    sets_one :
        (x y : ℕ)
        → y < vars t
        → ((k : ℕ) → k < vars t → (k ≡ y → ⊥) → eqb x k ≡ false)
        → ((k : ℕ) → k < vars t → (k ≡ y → ⊥) → twinned (vars t) (twins t) x k ≡ false)
        → effcond compiled (sets x) (effect_of_operator (finished t) o)
        ≡ ((added t o y source && eqb x y)
        || (deleted t o y source && twinned (vars t) (twins t) x y))
    sets_one x y b off-same off-twin =
        acts_there (sets x)
        ∙ acts_one (rows t) compiled zeroth (vars t) (twins t) (sets x) no_changes
        (changes t o) y (omega (arith, changes_counted))
        (λ k l ne.
        let l' : k < vars t = omega (arith, changes_counted) in
        sets_at x k l' ∙ neither (added t o k source) (deleted t o k source) _ _ (off-same k l' ne) (off-twin k l' ne))
        ∙ sets_at x y b

    clears_one :
        (x y : ℕ)
        → y < vars t
        → ((k : ℕ) → k < vars t → (k ≡ y → ⊥) → eqb x k ≡ false)
        → ((k : ℕ) → k < vars t → (k ≡ y → ⊥) → twinned (vars t) (twins t) x k ≡ false)
        → effcond compiled (clears x) (effect_of_operator (finished t) o)
        ≡ ((added t o y source && twinned (vars t) (twins t) x y)
        || (deleted t o y source && eqb x y))
    clears_one x y b off-same off-twin =
        acts_there (clears x)
        ∙ acts_one (rows t) compiled zeroth (vars t) (twins t) (clears x) no_changes
        (changes t o) y (omega (arith, changes_counted))
        (λ k l ne.
        let l' : k < vars t = omega (arith, changes_counted) in
        clears_at x k l' ∙ neither (added t o k source) (deleted t o k source) _ _ (off-twin k l' ne) (off-same k l' ne))
        ∙ clears_at x y b

    pub sets_none :
        (x : ℕ)
        → vars t + length (finished t).originals ≤ x
        → effcond compiled (sets x) (effect_of_operator (finished t) o) ≡ false
    unfolding finished
    sets_none x b =
        acts_there (sets x)
        ∙ acts_none (rows t) compiled zeroth (vars t) (twins t) (sets x) no_changes
        (changes t o)
        (λ k l.
        let l' : k < vars t = omega (arith, changes_counted) in
        sets_at x k l'
        ∙ neither (added t o k source) (deleted t o k source) _ _ (ne_eqb x k (λ e. omega arith))
        (twinned_not (vars t) (twins t) x k (λ j m e f. omega arith)))

    -- a source variable
    module _ (x : ℕ) (b : x < vars t) where
      no_twin : (k : ℕ) → twinned (vars t) (twins t) x k ≡ false
      no_twin k = twinned_not (vars t) (twins t) x k (λ j m e f. omega arith)

      pub sets-original :
          effcond compiled (sets x) (effect_of_operator (finished t) o) ≡ added t o x source
      sets-original =
          sets_one x x b (λ k l ne. ne_eqb x k (λ e. ne (sym e))) (λ k l ne. no_twin k)
          ∙ only_first (added t o x source) (deleted t o x source) _ _ (eq-eqb x x refl) (no_twin x)

      pub clears-original :
          effcond compiled (clears x) (effect_of_operator (finished t) o) ≡ deleted t o x source
      clears-original =
          clears_one x x b (λ k l ne. ne_eqb x k (λ e. ne (sym e))) (λ k l ne. no_twin k)
          ∙ only_second (added t o x source) (deleted t o x source) _ _ (no_twin x) (eq-eqb x x refl)

    -- the twin of place j, and its original
    module _ (j : ℕ) (b : j < length (twins t)) where
      below : original t j < vars t
      below = (good_parts t rules).fine.twin_below j b

      itself : twinned (vars t) (twins t) (vars t + j) (original t j) ≡ true
      itself = twinned_itself (vars t) (twins t) (good_parts t rules).fine.twin_once j b

      not-source : (k : ℕ) → k < vars t → eqb (vars t + j) k ≡ false
      not-source k l = ne_eqb (vars t + j) k (λ e. omega arith)

      no_other :
          (k : ℕ)
          → (k ≡ original t j → ⊥)
          → twinned (vars t) (twins t) (vars t + j) k ≡ false
      no_other k ne =
          twinned_not (vars t) (twins t) (vars t + j) k
          (λ i m e f.
          let s : i ≡ j = omega arith in
          ne (sym f ∙ ap (λ (y : ℕ). get_or (twins t) y 0) s))

      pub sets-twin :
          effcond compiled (sets (vars t + j)) (effect_of_operator (finished t) o)
          ≡ deleted t o (original t j) source
      sets-twin =
          sets_one (vars t + j) (original t j) below (λ k l ne. not-source k l)
          (λ k l ne. no_other k ne)
          ∙ only_second (added t o (original t j) source) (deleted t o (original t j) source) _ _ (not-source (original t j) below) itself

      pub clears-twin :
          effcond compiled (clears (vars t + j)) (effect_of_operator (finished t) o)
          ≡ added t o (original t j) source
      clears-twin =
          clears_one (vars t + j) (original t j) below (λ k l ne. not-source k l)
          (λ k l ne. no_other k ne)
          ∙ only_first (added t o (original t j) source) (deleted t o (original t j) source) _ _ itself (not-source (original t j) below)
