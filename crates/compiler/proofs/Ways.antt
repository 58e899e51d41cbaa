-- From the numbers to filling, and the ways out of compiling. Assumes nothing.
use Prim.Native.Nat.{ℕ, ◌+◌, ◌≤◌}
use native.Mathlib.Omega.{arith}
use mathlib.Core.Path.{◌≡◌, refl, sym, ap, ◌∙◌}
use Rattle.std.specs.Prelude.{Result, Ok, Err}
use Rattle.std.specs.Result.{IsErrAnd}
use mathlib.Core.List.{List, []}
use lib.ListN.{length, take, replicate}
use Rattle.task.specs.declared.Head.{Head}
use Rattle.task.specs.declared.refusal.Refusal.{Refusal}
use Rattle.task.specs.declared.refusal.Refusal.TheVariants as r
use Rattle.task.specs.Refused.{number_of}
use Rattle.task.specs.Table.{Lent, lent, task_of}
use Rattle.task.specs.Check.{refusal}
use Rattle.task.specs.Words.{head_of}
use Rattle.task.proofs.Kept.{kept_rules, rules_kept}
use Rattle.normal_form.specs.Finished.{finished}
use Rattle.normal_form.specs.Compiled.{nothing_given, task_given, compiling, not_compiled, compiled_head}
use Rattle.normal_form.proofs.Compiled.{by_room, succeeds}
use Rattle.compile_parts.specs.declared.Counts.{Counts}
use Rattle.compile_parts.specs.declared.Filled.{Filled}
use Rattle.compiler.specs.declared.Lengths.{Lengths}
use Rattle.compiler.specs.Left.{answer_of, compile_left}
use Rattle.compiler.specs.Tables.{Tables, tables, room_of}
use Rattle.compiler.specs.Inner.Sizes.{counts_in}
use Rattle.compiler.specs.Inner.Numbers.{Passed}
use Rattle.compiler.specs.Inner.Fills.{Blanked, counted, lent_of, Roomy, head_after, Holds, Misfits, Fills}
use Rattle.compiler.proofs.Cleared.{same_room}
use Rattle.compiler.proofs.Source.{few_variables}

-- a source, without its twins
abbrev without : Lent → Lent
without l =
    lent
    (record {
      variables = l.head.variables;
      twins = 0;
      formulas = l.head.formulas;
      effects = l.head.effects;
      operators = l.head.operators;
      goal = l.head.goal;
    })
    l.initial [] l.formulas l.effects l.operators

-- if it has none, it is the same task
same_task : (l : Lent) → l.head.twins ≡ 0 → task_of (without l) ≡ task_of l
unfolding task_of
same_task l none = λ i.
    record {
      initial = (task_of l).initial;
      originals = ap (λ (n : ℕ). take n l.twins) (sym none) i;
      formulas = (task_of l).formulas;
      effects = (task_of l).effects;
      operators = (task_of l).operators;
      goal = l.head.goal;
    }

-- and passes too
still_passes : (l : Lent) → l.head.twins ≡ 0 → refusal l ≡ 0 → refusal (without l) ≡ 0
still_passes l none passes =
    let kept = kept_rules l passes in
    let w = kept.0 in
    rules_kept (without l)
    (record { initial = w.initial; twins = omega arith; formulas = w.formulas; effects = w.effects; operators = w.operators })
    (rw (same_task l none) kept.1)

-- the lengths of lent tables
abbrev lengths_of : Tables → Lengths
lengths_of x =
    record {
      values = length x.initial;
      originals = length x.twins;
      table = length x.formulas;
      out = length x.effects;
      written = length x.operators;
      scratch = length x.scratch;
    }

-- a refusal, and every table 0
refuses :
    (l : Lent) {x y : Tables} (r : Result Head Refusal) (n : ℕ)
    → answer_of r ≡ not_compiled n
    → compiling l (room_of x) ≡ nothing_given n (room_of x)
    → Blanked x y
    → compile_left r y ≡ compiling l (room_of x)
unfolding nothing_given
refuses l r n same e b =
    (λ i.
    record {
      answer = same i;
      initial = b.initial i;
      twins = b.twins i;
      formulas = b.formulas i;
      effects = b.effects i;
      operators = b.operators i;
      scratch = b.scratch i;
    })
    ∙ sym e

-- one that `?` returns onward
pub refuses_first :
    (l : Lent) {x y : Tables} (r : Result Head Refusal) (e : Refusal)
    → IsErrAnd r (λ z. z ≡ e)
    → compiling l (room_of y) ≡ nothing_given (number_of e) (room_of y)
    → Blanked x y
    → compile_left r y ≡ compiling l (room_of x)
refuses_first l (Ok h) e given is b = absurd given
refuses_first l (Err z) e given is b =
    refuses l (Err z) (number_of e) (ap (λ (k : Refusal). not_compiled (number_of k)) given) (rw (same_room b) at is) b

-- With no number, over tables that are all 0.
module _ {l : Lent} {x : Tables} (p : Passed l (room_of x)) where
  roomy_here : Blanked x x → Roomy (counted (counts_in l.head (lengths_of x)) l) x
  roomy_here blank =
      record {
        begins =
            record {
              passes = still_passes l p.untwinned p.passes;
              blank = blank;
              memo = p.memo;
              rows_space = omega arith;
              rows_limit = omega arith;
              twins_space = omega arith;
              variables_limit = omega (arith, few_variables l p.passes);
              initial_space = omega (arith, p.initial);
              effects_space = omega arith;
              effects_limit = omega arith;
              one_effect = omega (arith, p.effects);
              operators_space = p.operators;
            };
        allows =
            record {
              rows_allowed = λ n a b. omega arith;
              twins_allowed = λ n a b c. omega arith;
              effects_allowed = λ n a b. omega arith;
            };
      }

  module _ {c : Counts} (k : c ≡ counts_in l.head (lengths_of x)) where
    pub roomy : Blanked x x → Roomy (counted c l) x
    roomy blank = rw k (roomy_here blank)

    -- what filling leaves
    module _ {y : Tables} where
      pub filled-over : {E : Type 0} (e : E) → Fills (counted c l) x y (Err e) → Blanked x x → compile_left (Err r.NoRoom) y ≡ compiling l (room_of x)
      filled-over e f b =
          let fills : Misfits (counted (counts_in l.head (lengths_of x)) l) x y = rw k at f in
          let again : Blanked x y = rw fills.same b in
          refuses l (Err r.NoRoom) 15 refl
          (by_room l (room_of x) p.passes p.untwinned p.memo (λ fit. fills.misfit (rw (same_task l p.untwinned) fit)))
          again

      module _ {filled : Filled} (f : Holds (lent_of (counted c l)) x y filled) where
        held : Holds (without l) x y filled
        held = rw k at f

        pub variables-fit : l.head.variables + filled.twins ≤ 512
        unfolding head_of
        variables-fit = omega (arith, held.fits.limits.variables, ap (λ (k : Head). k.variables) held.head)

        pub filled-done :
            {s : List ℕ} {n : Head}
            → n ≡ head_after l.head filled
            → s ≡ replicate (length x.scratch) 0
            → compile_left (Ok n) (tables y.initial y.twins y.formulas y.effects y.operators s) ≡ compiling l (room_of x)
        unfolding task_given
        filled-done n e =
            (λ i.
            record {
              answer = compiled_head ((n ∙ sym held.head) i);
              initial = held.initial i;
              twins = held.twins i;
              formulas = held.formulas i;
              effects = held.effects i;
              operators = held.operators i;
              scratch = e i;
            })
            ∙ ap (λ t. task_given (finished t) (room_of x)) (same_task l p.untwinned)
            ∙ sym
            (succeeds l (room_of x)
            (record { passes = p.passes; untwinned = p.untwinned; scratch = p.memo; fits = rw (same_task l p.untwinned) at held.fits }))
