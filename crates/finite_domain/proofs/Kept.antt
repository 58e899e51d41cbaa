-- `finite_refusal` gives 0 exactly if the lent tables are long enough and the task that they hold keeps the rules. Assumes nothing.
use Prim.Native.Nat.{ℕ, ◌+◌, ◌*◌, ◌≤◌, ◌<◌}
use native.Mathlib.Omega.{arith}
use mathlib.Core.Path.{◌≡◌}
use lib.ListN.{length, get_or}
use Rattle.task.specs.Table.{operator_width, row_at, operator_at}
use Rattle.task.specs.Check.{operator_number}
use Rattle.task.specs.Rules.{Counts, word_limit}
use Rattle.task.proofs.Bounded.{first_at, first_from}
use Rattle.task.proofs.RowRules.{operator_told, operator_passes}
use Rattle.task.proofs.Passed.{goal_tested}
use Rattle.finite_domain.specs.Table.{FiniteLent, finite_task_of}
use Rattle.finite_domain.specs.Check.{finite_formula_number, finite_effect_number, finite_formulas_number, finite_effects_number, finite_operators_number, finite_refusal}
use Rattle.finite_domain.specs.Rules.{FiniteLimits, FiniteRules, FiniteCosts, FiniteLongEnough}
use Rattle.finite_domain.proofs.Held.{finite_length_counts, finite_length_initial, finite_length_formulas, finite_length_effects, finite_length_operators, count_held, initial_value_held, finite_formula_held, finite_effect_held, finite_operator_held, finite_goal_held}
use Rattle.finite_domain.proofs.RowRules.{finite-formula-told, finite-formula-passes, finite-effect-told, finite-effect-passes}
use Rattle.finite_domain.proofs.Passed.{FinitePassed, finite_passed, finite_not_refused, finite_counts_tested, finite_lengths_tested, values_tested, initial_values_tested}

module _ (l : FiniteLent) where
  abbrev formula_number_at : ℕ → ℕ
  formula_number_at i = finite_formula_number l.counts l.head.variables i (row_at l.formulas i)

  abbrev effect_number_at : ℕ → ℕ
  effect_number_at i = finite_effect_number l.counts l.head.variables l.head.formulas i (row_at l.effects i)

  abbrev operator_number_at : ℕ → ℕ
  operator_number_at i = operator_number l.head.formulas l.head.effects (operator_at l.operators i)

  long_from : FinitePassed l → FiniteLongEnough l
  long_from p =
      let room = (finite_lengths_tested l).0 p.lengths in
      record {
        no_twins = ((finite_counts_tested l.head).0 p.counts).1;
        counts = room.counts;
        initial = room.initial;
        formulas = room.formulas;
        effects = room.effects;
        operators = room.operators;
      }

  limits_from : FiniteLongEnough l → l.head.variables ≤ 64 → Counts l.head → FiniteLimits (finite_task_of l)
  limits_from long few c =
      record {
        variables = rw (finite_length_counts l long) few;
        one_formula = rw (finite_length_formulas l) c.one_formula;
        formulas = rw (finite_length_formulas l) c.formulas;
        effects = rw (finite_length_effects l) c.effects;
        operators = rw (finite_length_operators l) c.operators;
      }

  rules_from : FiniteLongEnough l → FinitePassed l → FiniteRules (finite_task_of l)
  unfolding finite_formulas_number finite_effects_number finite_operators_number
  rules_from long p =
      let t = finite_task_of l in
      let v = l.head.variables in
      let counts = (finite_counts_tested l.head).0 p.counts in
      let wide = finite_length_counts l long in
      record {
        limits = limits_from long counts.0 counts.2;
        width = rw (wide, finite_length_initial l long);
        goal_is_formula = rw (finite_length_formulas l, finite_goal_held l) ((goal_tested l.head).0 p.goal);
        count_low =
            λ a h.
            let b : a < v = rw wide at h in
            rw (count_held l a b) ((values_tested l).0 p.values a b).0;
        count_high =
            λ a h.
            let b : a < v = rw wide at h in
            rw (count_held l a b) ((values_tested l).0 p.values a b).1;
        initial_value =
            λ a h.
            let b : a < v = rw wide at h in
            rw (count_held l a b, initial_value_held l a b) ((initial_values_tested l).0 p.initial a b);
        formula =
            λ i h.
            let b : i < l.head.formulas = rw (finite_length_formulas l) at h in
            rw (finite_formula_held l i b)
            (finite-formula-told l.counts t.counts v wide (count_held l) i (row_at l.formulas i)
            (first_at l.head.formulas formula_number_at p.formulas i b));
        effect =
            λ i h.
            let b : i < l.head.effects = rw (finite_length_effects l) at h in
            rw (finite_length_formulas l, finite_effect_held l i b)
            (finite-effect-told l.counts t.counts v wide (count_held l) l.head.formulas i (row_at l.effects i)
            (first_at l.head.effects effect_number_at p.effects i b));
        operator =
            λ i h.
            let b : i < l.head.operators = rw (finite_length_operators l) at h in
            rw (finite_length_formulas l, finite_length_effects l, finite_operator_held l i b)
            (operator_told l.head.formulas l.head.effects (operator_at l.operators i)
            (first_at l.head.operators operator_number_at p.operators i b));
      }

  pub finite_kept_rules : finite_refusal l ≡ 0 → FiniteLongEnough l × FiniteRules (finite_task_of l)
  finite_kept_rules e =
      let p = finite_passed l e in
      let long = long_from p in
      (long, rules_from long p)

  counts_from : FiniteLongEnough l → FiniteLimits (finite_task_of l) → Counts l.head
  counts_from long r =
      let few : l.head.variables ≤ 64 = rw (finite_length_counts l long) at r.variables in
      record {
        variables = omega arith;
        twins = omega (arith, long.no_twins);
        one_formula = rw (finite_length_formulas l) at r.one_formula;
        formulas = rw (finite_length_formulas l) at r.formulas;
        effects = rw (finite_length_effects l) at r.effects;
        operators = rw (finite_length_operators l) at r.operators;
      }

  pub finite_rules_kept : FiniteLongEnough l → FiniteRules (finite_task_of l) → finite_refusal l ≡ 0
  unfolding finite_formulas_number finite_effects_number finite_operators_number
  finite_rules_kept long r =
      let t = finite_task_of l in
      let v = l.head.variables in
      let wide = finite_length_counts l long in
      finite_not_refused l
      (record {
        counts =
            (finite_counts_tested l.head).1 (rw wide at r.limits.variables, long.no_twins, counts_from long r.limits);
        goal = (goal_tested l.head).1 (rw (finite_length_formulas l, finite_goal_held l) at r.goal_is_formula);
        lengths =
            (finite_lengths_tested l).1
            (record {
              counts = long.counts;
              initial = long.initial;
              formulas = long.formulas;
              effects = long.effects;
              operators = long.operators;
            });
        values =
            (values_tested l).1 (λ a b.
            (rw (count_held l a b) at (r.count_low a (rw wide b)), rw (count_held l a b) at (r.count_high a (rw wide b))));
        initial =
            (initial_values_tested l).1 (λ a b.
            rw (count_held l a b, initial_value_held l a b) at (r.initial_value a (rw wide b)));
        formulas =
            first_from l.head.formulas formula_number_at (λ i b.
            finite-formula-passes l.counts t.counts v wide (count_held l) i (row_at l.formulas i)
            (rw (finite_formula_held l i b) at (r.formula i (rw (finite_length_formulas l) b))));
        effects =
            first_from l.head.effects effect_number_at (λ i b.
            finite-effect-passes l.counts t.counts v wide (count_held l) l.head.formulas i (row_at l.effects i)
            (rw (finite_length_formulas l, finite_effect_held l i b) at (r.effect i (rw (finite_length_effects l) b))));
        operators =
            first_from l.head.operators operator_number_at (λ i b.
            operator_passes l.head.formulas l.head.effects (operator_at l.operators i)
            (rw (finite_length_formulas l, finite_length_effects l, finite_operator_held l i b) at
            (r.operator i (rw (finite_length_operators l) b))));
      })

  -- lent words are unsigned 16-bit, and so are the costs among them
  pub finite_costs :
      ((i : ℕ) → i < length l.operators → get_or l.operators i 0 < word_limit)
      → FiniteLongEnough l
      → FiniteCosts (finite_task_of l)
  unfolding operator_at
  finite_costs words long =
      record {
        cost =
            λ i h.
            let b : i < l.head.operators = rw (finite_length_operators l) at h in
            rw (finite_operator_held l i b)
            (words (operator_width * i + 2) (omega (arith, long.operators)));
      }
