-- Laws of one step: what each way out gives is what the definition of a step gives. Assumes nothing.
use Prim.Native.Nat.{ℕ, ◌+◌, ◌≤◌, ◌<◌}
use native.Mathlib.Omega.{arith}
use mathlib.Core.Path.{◌≡◌, refl, sym, ap, ◌∙◌}
use mathlib.Core.Bool.{Bool, true, false, ◌&&◌}
use mathlib.Core.List.{List}
use lib.ListN.{length, get_or-eq_default}
use lib.Dec.{ltb}
use borrow.Author.Tests.{ltb-true, ltb-false}
use Rattle.std.specs.Prelude.{Result, Ok, Err}
use Rattle.std.specs.Result.{IsErrAnd}
use Rattle.task.specs.declared.refusal.Refusal.{Refusal}
use Rattle.task.specs.Bounded.{upto}
use Rattle.task.specs.Check.{unless}
use Rattle.task.specs.Table.{Task, Operator, Lent, row_at, operator_at, task_of}
use Rattle.task.specs.Rules.{no_row, no_operator, OperatorRule}
use Rattle.task.specs.Semantics.{holds, apply}
use Rattle.task.specs.Tree.{formula_of, effect_of}
use Rattle.task.proofs.Charges.{charge_most}
use Rattle.task.specs.Run.{operator_of, effect_of_operator, goal_holds, applicable, charge_of, charge}
use Rattle.task.proofs.Bounded.{length_upto, getD_upto}
use Rattle.task.specs.Inner.Rows.{EffectsDown}
use Rattle.task.proofs.Values.{values_none}
use Rattle.task.specs.Inner.Values.{Values}
use Rattle.evaluating.specs.Inner.Values.{rows_of, Valuable}
use Rattle.applying.specs.Inner.Marks.{changed, Markable}
use Rattle.applying.specs.Inner.Carrying.{ConditionsReady, Carried}
use Rattle.operator_step.specs.Inner.Steps.{StateReady, Ready, Took, stayed, took_by, took, Takes}
use Rattle.evaluating.proofs.Valuing.{same_holds, same_values}
use Rattle.applying.proofs.Applying.{applied}

-- the operator that is looked up, by its number
module _ (l : Lent) (n : ℕ) where
  pub operator_none : l.head.operators ≤ n → no_operator ≡ operator_of (task_of l) n
  unfolding operator_of task_of
  operator_none b =
      let outside : length (upto l.head.operators (operator_at l.operators)) ≤ n = rw (length_upto l.head.operators (operator_at l.operators)) b in
      sym (get_or-eq_default (upto l.head.operators (operator_at l.operators)) no_operator {n = n} outside)

  pub operator_there : n < l.head.operators → operator_at l.operators n ≡ operator_of (task_of l) n
  unfolding operator_of task_of
  operator_there b = sym (getD_upto l.head.operators (operator_at l.operators) n no_operator b)

-- a refusal that `?` returns onward
pub refused : {A : Type 0} (r : Result A Refusal) (e : Refusal) → IsErrAnd r (λ x. x ≡ e) → r ≡ Err e
refused (Ok x) e given = absurd given
refused (Err x) e given = ap Err given

-- 17 comes before 18, so a number outside need not be asked for its precondition
by_number : (there holding : Bool) → unless there 17 (unless holding 18 0) ≡ unless there 17 (unless (there && holding) 18 0)
by_number true holding = refl
by_number false holding = refl

-- the two ways of a step, by the number that stops it
module _
    (t : Task) (s : List ℕ) (n stop : ℕ)
    (told : stop ≡ unless (ltb n (length t.operators)) 17 (unless (applicable t s n) 18 0)) where
  took_stopped : (stop ≡ 0 → ⊥) → took t s n ≡ stayed stop s
  unfolding took took_by
  took_stopped = go (ltb n (length t.operators)) (applicable t s n) told
    where
      go : (b c : Bool) → stop ≡ unless b 17 (unless c 18 0) → (stop ≡ 0 → ⊥) → took_by b c t s n ≡ stayed stop s
      go true true q d = absurd (d q)
      go true false q d = ap (λ (k : ℕ). stayed k s) (sym q)
      go false c q d = ap (λ (k : ℕ). stayed k s) (sym q)

  took_done : stop ≡ 0 → (ltb n (length t.operators) ≡ true) × (took t s n ≡ took_by true true t s n)
  unfolding took took_by
  took_done z = go (ltb n (length t.operators)) (applicable t s n) (sym told ∙ z)
    where
      go :
          (b c : Bool)
          → unless b 17 (unless c 18 0) ≡ 0
          → (b ≡ true) × (took_by b c t s n ≡ took_by true true t s n)
      go true true q = (refl, refl)
      go true false q = absurd (omega (arith, q))
      go false c q = absurd (omega (arith, q))

takes : (t : Task) (s : List ℕ) (n : ℕ) (w : Took) → took t s n ≡ w → w.answer.charge ≤ 131070 → Takes t s n w.answer w.state
takes t s n w q small =
    record {
      answer = sym (ap (λ (x : Took). x.answer) q);
      state = sym (ap (λ (x : Took). x.state) q);
      small = small;
    }

module _ {l : Lent} {s scratch : List ℕ} (ready : Ready l s scratch) where
  -- the formulas up to p, and all of them
  pub valuable : {p : ℕ} → p < l.head.formulas → Valuable l.formulas 0 (p + 1) s scratch
  valuable {p} b =
      record {
        there = omega (arith, ready.tables.formulas_there);
        rule = λ i h. rw ready.state.size (ready.tables.formula i (omega arith));
        state_bits = ready.state.bits;
        room = omega (arith, ready.room);
        order = omega arith;
        below = values_none s (rows_of (p + 1) l.formulas) scratch;
      }

  all_valuable : Valuable l.formulas 0 l.head.formulas s scratch
  all_valuable =
      record {
        there = ready.tables.formulas_there;
        rule = λ i h. rw ready.state.size (ready.tables.formula i h);
        state_bits = ready.state.bits;
        room = omega (arith, ready.room);
        order = omega arith;
        below = values_none s (rows_of l.head.formulas l.formulas) scratch;
      }

  effects_down : EffectsDown (length s) l.head.formulas (rows_of l.head.effects l.effects)
  effects_down =
      record {
        row =
            λ i h.
            let b : i < l.head.effects = rw (length_upto l.head.effects (row_at l.effects)) at h in
            rw (getD_upto l.head.effects (row_at l.effects) i no_row b, ready.state.size) (ready.tables.effect i b);
      }

  operators_same : length (task_of l).operators ≡ l.head.operators
  unfolding task_of
  operators_same = length_upto l.head.operators (operator_at l.operators)

  module _ (n : ℕ) {r : Operator} (asked : r ≡ operator_of (task_of l) n) where
    rules : n < l.head.operators → OperatorRule l.head.formulas l.head.effects r
    rules b = rw (asked, ← operator_there l n b) (ready.tables.operator n b)

    pub asked-below : r.precondition < l.head.formulas
    asked-below = go (ltb n l.head.operators) refl
      where
        go : (b : Bool) → ltb n l.head.operators ≡ b → r.precondition < l.head.formulas
        go true q = (rules (ltb-true n l.head.operators q)).formula
        go false q =
            rw (asked, ← operator_none l n (ltb-false n l.head.operators q)) (omega (arith, ready.tables.goal))

    module _
        {holding : Bool} {stop : ℕ}
        (held : holding ≡ holds s (formula_of (rows_of (r.precondition + 1) l.formulas) r.precondition))
        (told : stop ≡ unless (ltb n l.head.operators) 17 (unless holding 18 0)) where
      holding_same : holding ≡ holds s (formula_of (rows_of l.head.formulas l.formulas) (operator_of (task_of l) n).precondition)
      holding_same =
          held
          ∙ same_holds all_valuable (r.precondition + 1) r.precondition (omega (arith, asked-below)) (omega arith)
          ∙ ap (λ (x : Operator). holds s (formula_of (rows_of l.head.formulas l.formulas) x.precondition)) asked

      stop_same : stop ≡ unless (ltb n (length (task_of l).operators)) 17 (unless (applicable (task_of l) s n) 18 0)
      unfolding applicable task_of
      stop_same =
          told
          ∙ rw (operators_same, holding_same)
          (by_number (ltb n l.head.operators) (holds s (formula_of (rows_of l.head.formulas l.formulas) (operator_of (task_of l) n).precondition)))

      pub stays : (stop ≡ 0 → ⊥) → Takes (task_of l) s n (record { stop = stop; charge = 0 }) s
      stays d =
          takes (task_of l) s n (stayed stop s)
          (took_stopped (task_of l) s n stop stop_same d) (omega arith)

      module _ (z : stop ≡ 0) where
        there : n < l.head.operators
        there = rw operators_same at (ltb-true n (length (task_of l).operators) (took_done (task_of l) s n stop stop_same z).0)

        markable :
            (values : List ℕ)
            → length values ≡ length scratch
            → Markable l.effects (length s) l.head.formulas r.effect values
        markable values same =
            let b : r.effect < l.head.effects = (rules there).changes in
            record {
              rows = omega (arith, ready.tables.effects_there);
              marks = omega (arith, ready.room);
              rule = λ k h. rw ready.state.size (ready.tables.effect k (omega arith));
            }

        -- the formulas up to the precondition are evaluated; the conditions can be decided
        module _
            (values : List ℕ) (same : length values ≡ length scratch)
            (known : Values s (rows_of (r.precondition + 1) l.formulas) (r.precondition + 1) values) where
          known-here : Values s (rows_of l.head.formulas l.formulas) (r.precondition + 1) values
          known-here = same_values all_valuable (r.precondition + 1) values (omega (arith, asked-below)) known

          pub conditions-ready : ConditionsReady l.formulas l.effects (r.precondition + 1) l.head.formulas r.effect s values
          conditions-ready =
              record {
                formulas =
                    record {
                      there = all_valuable.there;
                      rule = all_valuable.rule;
                      state_bits = all_valuable.state_bits;
                      room = omega (arith, ready.room, same);
                      order = omega (arith, asked-below);
                      below = known-here;
                    };
                effects = markable values same;
              }

          pub carried-out :
              (marks after : List ℕ)
              → Carried l.formulas l.effects l.head.formulas r.effect s after values marks
              → r.cost ≤ 65535
              → Takes (task_of l) s n (record { stop = 0; charge = charge_of r }) after
          unfolding charge effect_of_operator task_of took_by
          carried-out marks after passes low =
              rw (passes.state ∙ law)
              (takes (task_of l) s n (by_row r)
              ((took_done (task_of l) s n stop stop_same z).1 ∙ ap by_row (sym asked))
              (charge_most r low (rules there).percent))
            where
              by_row : Operator → Took
              by_row x =
                  record {
                    answer = record { stop = 0; charge = charge_of x };
                    state = apply s (effect_of (rows_of l.head.formulas l.formulas) (rows_of l.head.effects l.effects) x.effect);
                  }

              law :
                  changed l.effects 1 1 marks l.head.formulas (r.effect + 1)
                  (changed l.effects 2 0 marks l.head.formulas (r.effect + 1) s)
                  ≡ apply s (effect_of (rows_of l.head.formulas l.formulas) (rows_of l.head.effects l.effects) r.effect)
              law =
                  let d = passes.deciding in
                  applied l.effects l.head.effects (length s) l.head.formulas r.effect s (rows_of l.head.formulas l.formulas)
                  d.values marks (rules there).changes effects_down
                  (markable d.values (d.same ∙ same)) d.evaluating.known d.marking

-- the tables stay ready when the state and scratch change
pub ready_again :
    {l : Lent} {s scratch now rest : List ℕ}
    → Ready l s scratch
    → StateReady l.head now
    → length rest ≡ length scratch
    → Ready l now rest
ready_again ready state same =
    record { tables = ready.tables; state = state; room = omega (arith, ready.room) }

-- the goal of the task
pub goal_told :
    {l : Lent} {s scratch now : List ℕ}
    → Ready l s scratch
    → StateReady l.head now
    → holds now (formula_of (rows_of (l.head.goal + 1) l.formulas) l.head.goal) ≡ goal_holds (task_of l) now
unfolding goal_holds task_of
goal_told {l} {scratch = scratch} ready state =
    same_holds (all_valuable (ready_again {rest = scratch} ready state refl)) (l.head.goal + 1) l.head.goal
    (omega (arith, ready.tables.goal)) (omega arith)
