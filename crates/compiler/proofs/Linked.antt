-- A source that passes, as the code's passes see it. Assumes nothing.
use Prim.Native.Nat.{ℕ, ◌≤◌, ◌<◌}
use native.Mathlib.Omega.{arith}
use mathlib.Core.Path.{◌≡◌, refl, sym, ap, ◌∙◌}
use mathlib.Core.List.{List}
use lib.ListN.{length}
use Rattle.task.specs.Bounded.{upto}
use Rattle.task.specs.Table.{Operator, Task, task_of, operator_at}
use Rattle.task.specs.Check.{refusal}
use Rattle.task.specs.Run.{operator_of}
use Rattle.task.proofs.Held.{length_formulas, length_effects, length_operators, operator_held}
use Rattle.normal_form.specs.Builder.{start}
use Rattle.normal_form.specs.Assembly.{Assembled, assemble, unassembled}
use Rattle.normal_form.specs.Finished.{built, assembled, finished}
use Rattle.formula_builder.specs.declared.Frame.{Frame}
use Rattle.images.specs.Inner.Images.{source_rows}
use Rattle.conditions.specs.Inner.Conditions.{effect_rows}
use Rattle.building.specs.Inner.Taken.{many, AllKept, whole_built}
use Rattle.building.proofs.Parts.{made_here, same_state, same_value, same_operators_made}
use Rattle.assembling.specs.Inner.Assembles.{assembled_in}
use Rattle.compiler.specs.Inner.Fills.{Counted, lent_of}
use Rattle.compiler.proofs.Source.{source, its_variables}
use Rattle.compiler.proofs.Recalled.{recalled, made_more}

module _ (g : Counted) (passes : refusal (lent_of g) ≡ 0) where
  abbrev t : Task
  t = task_of (lent_of g)

  abbrev frame : Frame
  frame = g.frame

  pub its_formulas : (task_of (lent_of g)).formulas ≡ source_rows g.frame g.formulas
  unfolding task_of source_rows
  its_formulas = refl

  pub its_effects : (task_of (lent_of g)).effects ≡ effect_rows g.frame g.effects
  unfolding task_of effect_rows
  its_effects = refl

  operator_is : (o : ℕ) → o < g.count → operator_of (task_of (lent_of g)) o ≡ operator_at g.operators o
  unfolding operator_of
  operator_is o h = operator_held (lent_of g) o h

  goal_is : (task_of (lent_of g)).goal ≡ g.goal
  unfolding task_of
  goal_is = refl

  -- what is built is what the definition builds
  pub state_built :
      (built (task_of (lent_of g))).st
      ≡ (whole_built g.frame g.formulas g.effects g.operators g.count g.goal start).st
  unfolding built
  state_built =
      same_state t frame g.formulas g.effects g.operators g.count g.goal (its_variables (lent_of g) passes) its_formulas
      its_effects (length_operators (lent_of g)) operator_is goal_is start

  pub goal_built :
      (built (task_of (lent_of g))).value.goal
      ≡ (whole_built g.frame g.formulas g.effects g.operators g.count g.goal start).value
  unfolding built
  goal_built =
      same_value t frame g.formulas g.effects g.operators g.count g.goal (its_variables (lent_of g) passes) its_formulas
      its_effects (length_operators (lent_of g)) operator_is goal_is start

  module _ (o : ℕ) (h : o < g.count) where
    below : o < length (task_of (lent_of g)).operators
    below = omega (arith, length_operators (lent_of g))

    pub precondition_below : (operator_at g.operators o).precondition < g.frame.formulas
    unfolding operator_of
    precondition_below = omega (arith, ap (λ (x : Operator). x.precondition) (operator_is o h), ((source (lent_of g) passes).operator o below).formula, length_formulas (lent_of g))

    pub effect_below : (operator_at g.operators o).effect < g.frame.effects
    unfolding operator_of
    effect_below = omega (arith, ap (λ (x : Operator). x.effect) (operator_is o h), ((source (lent_of g) passes).operator o below).changes, length_effects (lent_of g))

  -- what is assembled is so from the operators that are built
  assembled_made :
      assembled (task_of (lent_of g))
      ≡ assemble g.frame.variables (built (task_of (lent_of g))).st.twins unassembled
      (upto g.count (made_here g.frame g.formulas g.effects g.operators))
  unfolding assembled
  assembled_made =
      rw (its_variables (lent_of g) passes)
      (ap (assemble g.frame.variables (built t).st.twins unassembled) all_made)
    where
      all_made :
          (built (task_of (lent_of g))).value.operators
          ≡ upto g.count (made_here g.frame g.formulas g.effects g.operators)
      all_made =
          unfold built in
          same_operators_made t frame g.formulas g.effects g.operators g.count g.goal (its_variables (lent_of g) passes) its_formulas
          its_effects (length_operators (lent_of g)) operator_is goal_is

  -- and from what was recorded of them
  pub assembled_is :
      (records : List ℕ)
      → AllKept g.frame g.formulas g.effects g.operators records g.count (many g.frame g.formulas g.effects g.operators g.count)
      → assembled (task_of (lent_of g)) ≡ assembled_in g.frame.variables (built (task_of (lent_of g))).st.twins g.operators records g.count
  assembled_is records all =
      assembled_made
      ∙ sym
      (recalled frame g.formulas g.effects g.operators records g.count all.each g.frame.variables
      (built t).st.twins)

  pub few_changes :
      length (finished (task_of (lent_of g))).effects ≤ 4096
      → many g.frame g.formulas g.effects g.operators g.count ≤ 2048
  unfolding finished
  few_changes h =
      omega (
        arith,
        h,
        ap (λ (a : Assembled). length a.effects) assembled_made,
        made_more frame g.formulas g.effects g.operators g.frame.variables (built t).st.twins g.count,
      )

  pub goal_below : g.goal < g.frame.formulas
  goal_below = omega (arith, (source (lent_of g) passes).goal_is_formula, length_formulas (lent_of g), goal_is)
