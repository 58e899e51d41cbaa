-- What the code builds from tables is what the definition builds from the task that they hold. Assumes nothing.
use Prim.Native.Nat.{ℕ, zero, suc, ◌<◌}
use native.Mathlib.Omega.{arith}
use mathlib.Core.Path.{◌≡◌, refl, ap, ◌∙◌}
use lib.ListN.{length}
use mathlib.Core.List.{List, [], ◌∷◌, ◌++◌}
use Rattle.task.specs.Table.{Task, operator_at}
use Rattle.task.specs.Run.{operator_of, effect_of_operator}
use Rattle.task.specs.Tree.{formula_of}
use Rattle.task.specs.Bounded.{upto}
use Rattle.normal_form.specs.Builder.{St, Got, Build, give, bind, each, start, plain}
use Rattle.normal_form.specs.Image.{image}
use Rattle.normal_form.specs.Operators.{Built, built_operator, parts}
use Rattle.formula_builder.specs.declared.Frame.{Frame}
use Rattle.formula_builder.proofs.Stored.{upto_same}
use Rattle.images.specs.Inner.Images.{source_rows, tree, image_at}
use Rattle.conditions.specs.Inner.Conditions.{effect_rows, effect_tree}
use Rattle.operators.specs.Inner.Operator.{all_changes, operator_built, operator_here, operators_built}
use Rattle.building.specs.Inner.Taken.{precondition_here, changes_here, whole_built}

-- steps that leave the same states leave the same state
each_same :
    {A B : Type 0} (n : ℕ) (f : ℕ → Build A) (g : ℕ → Build B)
    → ((k : ℕ) → k < n → (s : St) → (f k s).st ≡ (g k s).st)
    → (s : St)
    → (each n f s).st ≡ (each n g s).st
unfolding each bind give
each_same zero f g same s = refl
each_same {A} {B} (suc n) f g same s =
    let before = each_same n f g (λ k h. same k (omega arith)) s in
    ap (λ (t : St). (f n t).st) before ∙ same n (omega arith) (each n g s).st

-- the values of steps that are taken one after another
each_upto :
    {A : Type 0} (n : ℕ) (f : ℕ → Build A) (s : St) → (each n f s).value ≡ upto n (λ k. (f k (each k f s).st).value)
unfolding each bind give upto
each_upto zero f s = refl
each_upto {A} (suc n) f s = ap (λ (l : List A). l ++ ((f n (each n f s).st).value ∷ [])) (each_upto n f s)

-- operator o, built where those before it are
abbrev pub made_here : Frame → List ℕ → List ℕ → List ℕ → ℕ → Built
made_here frame formulas effects operators o =
    record {
      precondition = precondition_here frame formulas effects operators o;
      changes = changes_here frame formulas effects operators o;
      source = operator_at operators o;
    }

-- The task t is what the tables hold.
module _ (t : Task) (frame : Frame) (formulas effects operators : List ℕ) (count goal : ℕ) (variables : length t.initial ≡ frame.variables)
    (its_formulas : t.formulas ≡ source_rows frame formulas) (its_effects : t.effects ≡ effect_rows frame effects)
    (its-count : length t.operators ≡ count) (its-operator : (o : ℕ) → o < count → operator_of t o ≡ operator_at operators o)
    (its-goal : t.goal ≡ goal) where
  same_operator :
      (o : ℕ) → o < count → (s : St) → (built_operator t o s).st ≡ (operator_here frame formulas effects operators o s).st
  unfolding built_operator operator_here operator_built all_changes image_at tree effect_tree effect_of_operator bind give
  same_operator o h s = rw (its-operator o h, variables, its_formulas, its_effects)

  same_operators :
      (s : St)
      → (each (length t.operators) (built_operator t) s).st ≡ (operators_built frame formulas effects operators count s).st
  unfolding operators_built
  same_operators s =
      rw its-count (each_same count (built_operator t) (operator_here frame formulas effects operators) same_operator s)

  same_goal : image (length t.initial) plain (formula_of t.formulas t.goal) ≡ image_at frame formulas plain goal
  unfolding image_at tree
  same_goal = rw (variables, its_formulas, its-goal)

  last : (s : St) → image_at frame formulas plain goal (each (length t.operators) (built_operator t) s).st ≡ whole_built frame formulas effects operators count goal s
  unfolding whole_built bind
  last s = ap (image_at frame formulas plain goal) (same_operators s)

  -- the state, and the goal's row
  pub same_state : (s : St) → (parts t s).st ≡ (whole_built frame formulas effects operators count goal s).st
  unfolding parts bind give
  same_state s =
      ap (λ (m : Build ℕ). (m (each (length t.operators) (built_operator t) s).st).st) same_goal
      ∙ ap (λ (g : Got ℕ). g.st) (last s)

  pub same_value : (s : St) → (parts t s).value.goal ≡ (whole_built frame formulas effects operators count goal s).value
  unfolding parts bind give
  same_value s =
      ap (λ (m : Build ℕ). (m (each (length t.operators) (built_operator t) s).st).value) same_goal
      ∙ ap (λ (g : Got ℕ). g.value) (last s)

  -- the operators
  state_here :
      (o : ℕ) → o < count → (each o (built_operator t) start).st ≡ (operators_built frame formulas effects operators o start).st
  unfolding operators_built
  state_here o h =
      each_same o (built_operator t) (operator_here frame formulas effects operators) (λ k b. same_operator k (omega arith)) start

  same_made :
      (o : ℕ)
      → o < count
      → (s : St)
      → (built_operator t o s).value
      ≡ record {
        precondition = (image_at frame formulas plain (operator_at operators o).precondition s).value;
        changes = (operator_here frame formulas effects operators o s).value;
        source = operator_at operators o;
      }
  unfolding built_operator operator_here operator_built all_changes image_at tree effect_tree effect_of_operator bind give
  same_made o h s = rw (its-operator o h, variables, its_formulas, its_effects)

  its_made :
      (o : ℕ)
      → o < count
      → (built_operator t o (each o (built_operator t) start).st).value ≡ made_here frame formulas effects operators o
  unfolding precondition_here changes_here
  its_made o h =
      ap (λ (s : St). (built_operator t o s).value) (state_here o h)
      ∙ same_made o h (operators_built frame formulas effects operators o start).st

  pub same_operators_made : (parts t start).value.operators ≡ upto count (made_here frame formulas effects operators)
  unfolding parts bind give
  same_operators_made =
      each_upto (length t.operators) (built_operator t) start
      ∙ ap (λ (n : ℕ). upto n (λ o. (built_operator t o (each o (built_operator t) start).st).value)) its-count
      ∙ upto_same count (λ o. (built_operator t o (each o (built_operator t) start).st).value) (made_here frame formulas effects operators)
      its_made
