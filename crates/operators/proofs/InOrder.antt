-- Building an operator, and operators in order, only adds. Assumes nothing.
use Prim.Native.Nat.{ℕ, ◌≤◌}
use mathlib.Core.List.{List}
use Rattle.task.specs.Table.{operator_at}
use Rattle.normal_form.specs.Builder.{St, plain}
use Rattle.normal_form.specs.Growth.{Grows, Steady}
use Rattle.normal_form.proofs.Growth.{steady_bind, steady_each}
use Rattle.normal_form.proofs.Steady.{steady_changes}
use Rattle.normal_form.proofs.ShapeSizes.{each_grows}
use Rattle.formula_builder.specs.declared.Frame.{Frame}
use Rattle.images.proofs.Memos.{steady_image_at}
use Rattle.conditions.specs.Inner.Conditions.{effect_tree}
use Rattle.operators.specs.Inner.Operator.{all_changes, operator_built, operator_here, operators_built}

pub steady_operator_built :
    (frame : Frame) (formulas effects : List ℕ) (p e : ℕ) → Steady (operator_built frame formulas effects p e)
unfolding operator_built all_changes
steady_operator_built frame formulas effects p e =
    steady_bind (steady_image_at frame formulas plain p)
    (λ f.
    steady_each frame.variables
    (λ k. steady_changes frame.variables (effect_tree frame formulas effects e) k))

module _ (frame : Frame) (formulas effects operators : List ℕ) where
  steady_here : (o : ℕ) → Steady (operator_here frame formulas effects operators o)
  unfolding operator_here
  steady_here o =
      let source = operator_at operators o in
      steady_operator_built frame formulas effects source.precondition source.effect

  -- more operators
  pub more_grows :
      (s : St) (n m : ℕ)
      → n ≤ m
      → Grows (operators_built frame formulas effects operators n s).st (operators_built frame formulas effects operators m s).st
  unfolding operators_built
  more_grows s n m h = each_grows (operator_here frame formulas effects operators) s steady_here n m h
