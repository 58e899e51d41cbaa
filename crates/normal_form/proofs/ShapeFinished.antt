-- The operators of the finished task: as many as the source has, and the effect of each is the chain of its rules, a flat effect.
use Prim.Native.Nat.{ℕ, ◌<◌, ◌≤◌}
use native.Mathlib.Omega.{arith}
use native.Mathlib.Decide.{dec_lt}
use mathlib.Core.Path.{◌≡◌, ◌∙◌}
use mathlib.Core.List.{[]}
use lib.ListN.{length, get_or, get_or-eq_default}
use Rattle.task.specs.Table.{Task, effect_kind}
use Rattle.task.specs.Rules.{no_operator}
use Rattle.task.specs.Semantics.{empty}
use Rattle.task.specs.Tree.{effect_node, effect_within, effect_of}
use Rattle.task.specs.Run.{operator_of, effect_of_operator}
use Rattle.normal_form.specs.Builder.{give, bind, start}
use Rattle.normal_form.specs.Operators.{Changes, Built, built_operator, parts}
use Rattle.normal_form.specs.Assembly.{rules, unassembled}
use Rattle.normal_form.specs.Finished.{built, assembled, finished}
use Rattle.normal_form.specs.Flat.{Flat, nothing}
use Rattle.normal_form.proofs.ShapeWritten.{chain}
use Rattle.normal_form.proofs.ShapeAssembled.{ground_unassembled, assemble_ground, assemble_length, Operated, operated_all}
use Rattle.normal_form.proofs.ShapeEach.{each_length, each_values, Upwards, changes_upwards}
use Rattle.normal_form.proofs.ShapeFlat.{rules_distinct, flat_chain}

-- What stands past the end of what is built.
abbrev pub no_changes : Changes
no_changes = record { variable = 0; adds = 0; deletes = 0 }

abbrev pub no_built : Built
no_built = record { precondition = 0; changes = []; source = no_operator }

-- what was built for operator o
abbrev pub built_at : Task → ℕ → Built
built_at t o = get_or (built t).value.operators o no_built

module _ (t : Task) where
  pub built_operators : length (built t).value.operators ≡ length t.operators
  unfolding built parts bind give
  built_operators = each_length (length t.operators) (built_operator t) start

  pub finished_operators : length (finished t).operators ≡ length t.operators
  unfolding finished assembled unassembled
  finished_operators =
      assemble_length (length t.initial) (built t).st.twins unassembled (built t).value.operators
      ∙ omega (arith, built_operators)

  -- operator o of the finished task is what was built for operator o
  pub finished_operator :
      (o : ℕ)
      → o < length t.operators
      → Operated (length t.initial) (finished t).originals (finished t).formulas (assembled t) o (built_at t o)
  unfolding finished assembled
  finished_operator o h =
      operated_all (length t.initial) (built t).st.twins (built t).st.rows (built t).value.operators o no_built
      (rw built_operators h)

  pub operator_chain :
      (o : ℕ)
      → o < length t.operators
      → effect_of_operator (finished t) o
      ≡ chain (finished t).formulas (rules (length t.initial) (finished t).originals (built_at t o).changes)
  unfolding finished effect_of_operator operator_of
  operator_chain o h = (finished_operator o h).tree

  -- a number that is no operator's has the empty effect
  pub operator_past : (o : ℕ) → length t.operators ≤ o → effect_of_operator (finished t) o ≡ empty
  unfolding finished effect_of_operator operator_of effect_of effect_within effect_node effect_kind assembled
  operator_past o h =
      rw (
        get_or-eq_default (finished t).operators no_operator {n = o} (omega (arith, finished_operators)),
        (assemble_ground (length t.initial) (built t).st.twins unassembled (built t).value.operators ground_unassembled
            ).empty_row,
      )

  -- the changes that were built are those of the source variables, upwards
  pub built_upwards : (o : ℕ) → o < length t.operators → Upwards (length t.initial) (built_at t o).changes
  unfolding built parts built_operator bind give
  built_upwards o h =
      each_values (λ k b. Upwards (length t.initial) b.changes) no_built (built_operator t)
      (λ k s. changes_upwards (length t.initial) (length t.initial) (effect_of_operator t k) _)
      (length t.operators) start o h

  pub flat : (o : ℕ) → Flat (effect_of_operator (finished t) o)
  flat o = go (dec_lt o (length t.operators))
    where
      go : Dec (o < length t.operators) → Flat (effect_of_operator (finished t) o)
      go (yes h) =
          rw (operator_chain o h)
          (flat_chain (finished t).formulas
          (rules (length t.initial) (finished t).originals (built_at t o).changes)
          (rules_distinct (length t.initial) (finished t).originals (built_upwards o h) (omega arith)))
      go (no h) = rw (operator_past o (omega arith)) nothing
