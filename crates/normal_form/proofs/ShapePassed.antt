-- The finished task, if it keeps the limits, keeps all rules and so passes the check; and it is positive.
use Prim.Native.Nat.{ℕ, zero, suc, ◌+◌, ◌-◌, ◌<◌, ◌≤◌}
use native.Mathlib.Omega.{arith}
use native.Mathlib.Decide.{dec_lt}
use mathlib.Core.Path.{◌≡◌, refl, ap, ◌∙◌}
use mathlib.Core.List.{List, [], ◌∷◌, ◌++◌}
use lib.ListN.{length, get_or, length-append, get_or-append}
use lib.Seq.{get_or-append-add}
use Rattle.task.specs.Table.{Operator, Task, effect_kind}
use Rattle.task.specs.Check.{refusal}
use Rattle.task.specs.Rules.{no_operator, OperatorRule, Limits, Checked}
use Rattle.task.specs.Words.{lent_of}
use Rattle.task.proofs.Down.{effects_none, effects_more}
use Rattle.task.specs.Inner.Rows.{EffectsDown}
use Rattle.task.specs.Run.{operator_of}
use Rattle.task.proofs.Words.{lent_kept}
use Rattle.normal_form.specs.Assembly.{rules, unassembled}
use Rattle.normal_form.specs.Finished.{built, assembled, twin_values, finished}
use Rattle.normal_form.specs.Positive.{Positive, PositiveTask}
use Rattle.normal_form.proofs.Fine.{Fine}
use Rattle.normal_form.proofs.MeaningParts.{good_parts}
use Rattle.normal_form.proofs.ShapeRule.{Fits}
use Rattle.normal_form.proofs.ShapeRules.{All}
use Rattle.normal_form.proofs.ShapeEffects.{all_at, ChangesFit, rules_fit, assemble_sound}
use Rattle.normal_form.proofs.ShapePositive.{positive_task}
use Rattle.normal_form.proofs.ShapeFinished.{no_changes, no_built, built_at, built_operators, finished_operators, finished_operator}

-- a twin's value is 0 or 1
twin_bit : (initial twins : List ℕ) (k : ℕ) → get_or (twin_values initial twins) k 0 ≤ 1
unfolding twin_values
twin_bit initial [] k = omega arith
twin_bit initial (v ∷ twins) zero = omega arith
twin_bit initial (v ∷ twins) (suc k) = twin_bit initial twins k

twins_length : (initial twins : List ℕ) → length (twin_values initial twins) ≡ length twins
unfolding twin_values
twins_length initial [] = refl
twins_length initial (v ∷ twins) = ap suc (twins_length initial twins)

bits :
    (initial twins : List ℕ)
    → ((v : ℕ) → v < length initial → get_or initial v 0 ≤ 1)
    → (v : ℕ)
    → get_or (initial ++ twin_values initial twins) v 0 ≤ 1
bits initial twins h v = go (dec_lt v (length initial))
  where
    go : Dec (v < length initial) → get_or (initial ++ twin_values initial twins) v 0 ≤ 1
    go (yes b) = rw (get_or-append initial (twin_values initial twins) 0 v b) (h v b)
    go (no b) =
        let k = v - length initial in
        let e : v ≡ length initial + k = omega arith in
        rw (e, get_or-append-add initial (twin_values initial twins) k 0) (twin_bit initial twins k)

module _ (t : Task) where
  pub finished_variables : length (finished t).initial ≡ length t.initial + length (finished t).originals
  unfolding finished
  finished_variables =
      length-append t.initial (twin_values t.initial (built t).st.twins)
      ∙ ap (λ (k : ℕ). length t.initial + k) (twins_length t.initial (built t).st.twins)

module _ (t : Task) (source : Checked t) where
  abbrev n : ℕ
  n = length t.initial

  pub finished_fine : Fine (length t.initial) (built t).st
  finished_fine = (good_parts t source).fine

  -- each operator's rules fit the variables, twins and formulas that stand in the end
  built_fit :
      All (λ b. All (Fits (n + length (built t).st.twins) (length (built t).st.rows)) (rules n (built t).st.twins b.changes))
      (built t).value.operators
  built_fit = all_at _ no_built (built t).value.operators each-operator
    where
      each-operator :
          (o : ℕ)
          → o < length (built t).value.operators
          → All (Fits (n + length (built t).st.twins) (length (built t).st.rows))
          (rules n (built t).st.twins (built_at t o).changes)
      each-operator o h =
          let b = (good_parts t source).value.operators.at no_built o (rw (built_operators t) at h) in
          rules_fit n (length (built t).st.rows) (built t).st.twins (built_at t o).changes
          (all_at (ChangesFit n (length (built t).st.rows)) no_changes (built_at t o).changes
          (λ v l.
          let below : v < n = omega (arith, b.changes.count) in
          let c = b.changes.at no_changes v below in
          record { variable = rw c.variable below; adds = c.adds.below; deletes = c.deletes.below }))

  finished_effects : EffectsDown (n + length (built t).st.twins) (length (built t).st.rows) (assembled t).effects
  unfolding assembled unassembled effect_kind
  finished_effects =
      (assemble_sound (n + length (built t).st.twins) (length (built t).st.rows) n (built t).st.twins unassembled
      (built t).value.operators built_fit
      (record {
        down =
            effects_more (n + length (built t).st.twins) (length (built t).st.rows) []
            (record { kind = 0; a = 0; b = 0 }) (effects_none (n + length (built t).st.twins) (length (built t).st.rows))
            (refl, refl);
        there = omega arith;
      })
      ).down

  pub positive : Positive (finished t)
  unfolding finished
  positive = record { row = finished_fine.positive }

  pub finished_positive : PositiveTask (finished t)
  finished_positive = positive_task (finished t) positive

  finished_operator_rule :
      (o : ℕ)
      → o < length (assembled t).operators
      → OperatorRule (length (built t).st.rows) (length (assembled t).effects) (get_or (assembled t).operators o no_operator)
  unfolding finished operator_of
  finished_operator_rule o h =
      let b : o < length t.operators = rw (finished_operators t) at h in
      let w = finished_operator t o b in
      record {
        formula = rw w.precondition ((good_parts t source).value.operators.at no_built o b).precondition.below;
        changes = w.there;
        percent =
            rw (w.percent ∙ ap (λ (x : Operator). x.percent) ((good_parts t source).value.operators.at no_built o b).source)
            (source.operator o b).percent;
      }

  pub finished_rules : Limits (finished t) → Checked (finished t)
  unfolding finished
  finished_rules limits =
      let fine = finished_fine in
      let parts = (good_parts t source).value in
      let width = finished_variables t in
      record {
        limits = limits;
        goal_is_formula = parts.goal.below;
        initial_bits = λ v h. bits t.initial (built t).st.twins source.initial_bits v;
        twin =
            λ k h. record { below = omega (arith, fine.twin_below k h); once = λ j lower. fine.twin_once j k lower h };
        formula = λ i h. rw width (fine.down.row i h);
        effect = λ i h. rw width (finished_effects.row i h);
        operator = finished_operator_rule;
      }

  pub finished_passes : Limits (finished t) → refusal (lent_of (finished t)) ≡ 0
  finished_passes limits = lent_kept (finished t) (finished_rules limits)
