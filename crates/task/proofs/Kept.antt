-- `refusal` gives 0 exactly if the lent tables are long enough and the task that they hold keeps the rules.
use Prim.Native.Nat.{ℕ, ◌-◌, ◌<◌}
use native.Mathlib.Omega.{arith}
use mathlib.Core.Path.{◌≡◌, sym, ◌∙◌}
use lib.ListN.{length}
use Rattle.task.specs.Table.{Lent, task_of}
use Rattle.task.specs.Check.{refusal}
use Rattle.task.specs.Rules.{Counts, Limits, TwinRule, Checked, LongEnough}
use Rattle.task.proofs.Held.{length_initial, length_originals, length_formulas, length_effects, length_operators, initial_held, original_held, formula_held, effect_held, operator_held, goal_held}
use Rattle.task.proofs.Passed.{Passed, passed, not_refused, counts_tested, goal_tested, lengths_tested, initial_tested, twins_tested, formulas_tested, effects_tested, operators_tested}

module _ (l : Lent) where
  limits_from : LongEnough l → Counts l.head → Limits (task_of l)
  limits_from long c =
      record {
        variables = rw (length_initial l long) c.variables;
        twins = rw (length_initial l long, length_originals l long) c.twins;
        one_formula = rw (length_formulas l) c.one_formula;
        formulas = rw (length_formulas l) c.formulas;
        effects = rw (length_effects l) c.effects;
        operators = rw (length_operators l) c.operators;
      }

  rules_from : LongEnough l → Passed l → Checked (task_of l)
  rules_from long p =
      record {
        limits = limits_from long ((counts_tested l.head).0 p.counts);
        goal_is_formula = rw (length_formulas l, goal_held l) ((goal_tested l.head).0 p.goal);
        initial_bits =
            λ v h.
            let b : v < l.head.variables = rw (length_initial l long) at h in
            rw (initial_held l v b) ((initial_tested l).0 p.initial v b);
        twin =
            λ k h.
            let b : k < l.head.twins = rw (length_originals l long) at h in
            let rule = (twins_tested l).0 p.twins k b in
            record {
              below = rw (length_initial l long, length_originals l long, original_held l k b) rule.below;
              once = λ j lower same. rule.once j lower (sym (original_held l j (omega arith)) ∙ same ∙ original_held l k b);
            };
        formula =
            λ i h.
            let b : i < l.head.formulas = rw (length_formulas l) at h in
            rw (length_initial l long, formula_held l i b) ((formulas_tested l).0 p.formulas i b);
        effect =
            λ i h.
            let b : i < l.head.effects = rw (length_effects l) at h in
            rw (length_initial l long, length_formulas l, effect_held l i b) ((effects_tested l).0 p.effects i b);
        operator =
            λ i h.
            let b : i < l.head.operators = rw (length_operators l) at h in
            rw (length_formulas l, length_effects l, operator_held l i b) ((operators_tested l).0 p.operators i b);
      }

  pub kept_rules : refusal l ≡ 0 → LongEnough l × Checked (task_of l)
  kept_rules e =
      let p = passed l e in
      let long = (lengths_tested l).0 p.lengths in
      (long, rules_from long p)

  counts_from : LongEnough l → Limits (task_of l) → Counts l.head
  counts_from long r =
      record {
        variables = rw (length_initial l long) at r.variables;
        twins = rw (length_initial l long, length_originals l long) at r.twins;
        one_formula = rw (length_formulas l) at r.one_formula;
        formulas = rw (length_formulas l) at r.formulas;
        effects = rw (length_effects l) at r.effects;
        operators = rw (length_operators l) at r.operators;
      }

  pub rules_kept : LongEnough l → Checked (task_of l) → refusal l ≡ 0
  rules_kept long r =
      not_refused l
      (record {
        counts = (counts_tested l.head).1 (counts_from long r.limits);
        goal = (goal_tested l.head).1 (rw (length_formulas l, goal_held l) at r.goal_is_formula);
        lengths = (lengths_tested l).1 long;
        initial =
            (initial_tested l).1 (λ v b.
            rw (initial_held l v b) at (r.initial_bits v (rw (length_initial l long) b)));
        twins = (twins_tested l).1 twin;
        formulas =
            (formulas_tested l).1 (λ i b.
            rw (length_initial l long, formula_held l i b) at (r.formula i (rw (length_formulas l) b)));
        effects =
            (effects_tested l).1 (λ i b.
            rw (length_initial l long, length_formulas l, effect_held l i b) at (r.effect i (rw (length_effects l) b)));
        operators =
            (operators_tested l).1 (λ i b.
            rw (length_formulas l, length_effects l, operator_held l i b) at (r.operator i (rw (length_operators l) b)));
      })
    where
      twin : (k : ℕ) → k < l.head.twins → TwinRule (l.head.variables - l.head.twins) l.twins k
      twin k b =
          let h : k < length (task_of l).originals = rw (length_originals l long) b in
          let rule = r.twin k h in
          record {
            below = rw (length_initial l long, length_originals l long, original_held l k b) at rule.below;
            once = λ j lower same. rule.once j lower (original_held l j (omega arith) ∙ same ∙ sym (original_held l k b));
          }
