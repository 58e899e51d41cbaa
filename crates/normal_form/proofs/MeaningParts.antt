-- Operators and the goal, as they are built, mean the source's.
use Prim.Native.Nat.{ℕ, zero, suc, ◌<◌}
use native.Mathlib.Omega.{arith}
use native.Mathlib.Nat.{not-suc-le-zero}
use native.Mathlib.Numerals.{add-one}
use mathlib.Core.Path.{◌≡◌, refl, ◌∙◌}
use mathlib.Core.List.{List, [], ◌∷◌, ◌++◌}
use lib.ListN.{length, get_or, length-append}
use Rattle.task.specs.Table.{Row, Task, FormulaKind, false_kind, true_kind, variable_kind, not_kind, and_kind, or_kind, implies_kind, equivalent_kind, unknown_formula, formula_kind, EffectKind, empty_kind, set_kind, clear_kind, both_kind, under_kind, unknown_effect, effect_kind}
use Rattle.task.specs.Rules.{no_row, FormulaRule, EffectRule, Checked}
use Rattle.task.specs.Semantics.{Formula, holds, Effect}
use Rattle.task.specs.Tree.{formula_node, formula_within, formula_of, effect_node, effect_within, effect_of}
use Rattle.task.specs.Run.{operator_of, effect_of_operator}
use Rattle.task.proofs.Trees.{rules_formulas, rules_effects}
use Rattle.task.specs.Inner.Rows.{FormulasDown, EffectsDown}
use Rattle.normal_form.specs.Builder.{St, Build, give, bind, each, start, plain}
use Rattle.normal_form.specs.Growth.{Grows, Steady}
use Rattle.normal_form.specs.Image.{image}
use Rattle.normal_form.specs.Operators.{Changes, Built, Parts, changes_of, built_operator, parts}
use Rattle.normal_form.specs.Finished.{built}
use Rattle.normal_form.proofs.Growth.{steady_each}
use Rattle.normal_form.proofs.Steady.{steady_image, steady_changes, steady_operator}
use Rattle.normal_form.proofs.Place.{one_more}
use Rattle.normal_form.proofs.Fine.{Fine, fine_start}
use Rattle.normal_form.proofs.Meaning.{Means, Good, means_later}
use Rattle.normal_form.proofs.MeaningImage.{Over, good_image}
use Rattle.normal_form.proofs.MeaningCondition.{EffectOver, ChangesMean, good_changes}

-- The source's formulas and effects are over its variables.
over_node :
    (n i : ℕ) (k : FormulaKind) (a b : ℕ) (p q : Formula)
    → FormulaRule n i k a b
    → (a < i → Over n p)
    → (b < i → Over n q)
    → Over n (formula_node k a p q)
unfolding formula_node
over_node n i false_kind a b p q r f g = tt
over_node n i true_kind a b p q r f g = tt
over_node n i variable_kind a b p q r f g = r.0
over_node n i not_kind a b p q r f g = f r.0
over_node n i and_kind a b p q r f g = (f r.0, g r.1)
over_node n i or_kind a b p q r f g = (f r.0, g r.1)
over_node n i implies_kind a b p q r f g = (f r.0, g r.1)
over_node n i equivalent_kind a b p q r f g = (f r.0, g r.1)
over_node n i unknown_formula a b p q r f g = tt

over_within :
    (n : ℕ) (rows : List Row) → FormulasDown n rows → (d i : ℕ) → i < length rows → Over n (formula_within d rows i)
unfolding formula_within
over_within n rows down zero i h = tt
over_within n rows down (suc d) i h =
    let r = get_or rows i no_row in
    over_node n i (formula_kind r.kind) r.a r.b (formula_within d rows r.a) (formula_within d rows r.b)
    (down.row i h) (λ l. over_within n rows down d r.a (omega arith))
    (λ l. over_within n rows down d r.b (omega arith))

pub over_formula : (n : ℕ) (rows : List Row) → FormulasDown n rows → (i : ℕ) → i < length rows → Over n (formula_of rows i)
unfolding formula_of
over_formula n rows down i h = over_within n rows down (suc i) i h

over_effect_node :
    (n v f i : ℕ) (k : EffectKind) (a b : ℕ) (p : Formula) (d e : Effect)
    → EffectRule v f i k a b
    → (a < f → Over n p)
    → (a < i → EffectOver n d)
    → (b < i → EffectOver n e)
    → EffectOver n (effect_node k a p d e)
unfolding effect_node
over_effect_node n v f i empty_kind a b p d e r o l m = tt
over_effect_node n v f i set_kind a b p d e r o l m = tt
over_effect_node n v f i clear_kind a b p d e r o l m = tt
over_effect_node n v f i both_kind a b p d e r o l m = (l r.0, m r.1)
over_effect_node n v f i under_kind a b p d e r o l m = (o r.0, m r.1)
over_effect_node n v f i unknown_effect a b p d e r o l m = tt

module _ (n v : ℕ) (formulas effects : List Row) (fd : FormulasDown n formulas) (ed : EffectsDown v (length formulas) effects) where
  over_effect_within : (d i : ℕ) → i < length effects → EffectOver n (effect_within d formulas effects i)
  unfolding effect_within
  over_effect_within zero i h = tt
  over_effect_within (suc d) i h =
      let r = get_or effects i no_row in
      over_effect_node n v (length formulas) i (effect_kind r.kind) r.a r.b (formula_of formulas r.a)
      (effect_within d formulas effects r.a) (effect_within d formulas effects r.b) (ed.row i h)
      (λ l. over_formula n formulas fd r.a l) (λ l. over_effect_within d r.a (omega arith))
      (λ l. over_effect_within d r.b (omega arith))

  pub over_effect : (i : ℕ) → i < length effects → EffectOver n (effect_of formulas effects i)
  unfolding effect_of
  over_effect i h = over_effect_within (suc i) i h

-- A list with an element for each number below m, as P says.
pub record Each {A : Type 0} (P : ℕ → A → Type 0) (m : ℕ) (l : List A) : Type 0 where
  pub count : length l ≡ m
  pub at : (d : A) (k : ℕ) → k < m → P k (get_or l k d)

each_more :
    {A : Type 0} (P : ℕ → A → Type 0) (m : ℕ) (l : List A) (x : A) → Each P m l → P m x → Each P (suc m) (l ++ (x ∷ []))
each_more P m l x e p =
    record {
      count = length-append l (x ∷ []) ∙ rw e.count (add-one m);
      at =
          λ d k h.
          one_more P d l x (λ i b. e.at d i (omega (arith, e.count))) (rw e.count p) k
          (omega (arith, length-append l (x ∷ []), e.count));
    }

pub good_each :
    {A : Type 0} {n : ℕ} (P : ℕ → St → A → Type 0) (f : ℕ → Build A)
    → ((k : ℕ) (s t : St) (x : A) → Fine n s → Grows s t → P k s x → P k t x)
    → ((k : ℕ) → Steady (f k))
    → (m : ℕ) (s : St)
    → ((k : ℕ) → k < m → (t : St) → Fine n t → Good n (P k) (f k t))
    → Fine n s
    → Good n (λ u. Each (λ k. P k u) m) (each m f s)
unfolding each bind give
good_each P f later steady zero s h fine =
    record { fine = fine; value = record { count = refl; at = λ d k b. absurd (not-suc-le-zero b) } }
good_each P f later steady (suc m) s h fine =
    let g = good_each P f later steady m s (λ k b. h k (omega arith)) fine in
    let t = (each m f s).st in
    let last = h m (omega arith) t g.fine in
    let u = (f m t).st in
    record {
      fine = last.fine;
      value =
          each_more (λ k. P k u) m (each m f s).value (f m t).value
          (record {
            count = g.value.count;
            at = λ d k b. later k t u (get_or (each m f s).value k d) g.fine ((steady m).grow t) (g.value.at d k b);
          })
          last.value;
    }

changes_later :
    {n : ℕ} (e : Effect) (v : ℕ) (s t : St) (c : Changes)
    → Fine n s
    → Grows s t
    → ChangesMean n e v s c
    → ChangesMean n e v t c
changes_later e v s t c f g m =
    record { variable = m.variable; adds = means_later f g m.adds; deletes = means_later f g m.deletes }

-- What is built of operator o: its precondition, the changes of every source variable, and the operator itself.
pub record BuiltMeans (t : Task) (o : ℕ) (s : St) (b : Built) : Type 0 where
  pub precondition :
      Means (length t.initial) (λ source. holds source (formula_of t.formulas (operator_of t o).precondition)) s
      b.precondition
  pub changes :
      Each (λ v. ChangesMean (length t.initial) (effect_of_operator t o) v s) (length t.initial) b.changes
  pub source : b.source ≡ operator_of t o

built_later :
    (t : Task) (o : ℕ) (s u : St) (b : Built)
    → Fine (length t.initial) s
    → Grows s u
    → BuiltMeans t o s b
    → BuiltMeans t o u b
built_later t o s u b f g m =
    record {
      precondition = means_later f g m.precondition;
      changes =
          record {
            count = m.changes.count;
            at =
                λ d v h.
                changes_later (effect_of_operator t o) v s u (get_or b.changes v d) f g (m.changes.at d v h);
          };
      source = m.source;
    }

-- What is built of the task.
pub record PartsMean (t : Task) (s : St) (p : Parts) : Type 0 where
  pub operators : Each (λ o. BuiltMeans t o s) (length t.operators) p.operators
  pub goal : Means (length t.initial) (λ source. holds source (formula_of t.formulas t.goal)) s p.goal

module _ (t : Task) (rules : Checked t) where
  good_operator :
      (o : ℕ) (s : St)
      → o < length t.operators
      → Fine (length t.initial) s
      → Good (length t.initial) (BuiltMeans t o) (built_operator t o s)
  unfolding built_operator bind give operator_of effect_of_operator
  good_operator o s h fine =
      let n = length t.initial in
      let e = effect_of_operator t o in
      let pre = formula_of t.formulas (operator_of t o).precondition in
      let rule = rules.operator o h in
      let down = rules_formulas t rules in
      let gp = good_image plain pre s (over_formula n t.formulas down (operator_of t o).precondition rule.formula) fine in
      let p = image n plain pre s in
      let eo : EffectOver n e =
      over_effect n n t.formulas t.effects down (rules_effects t rules) (operator_of t o).effect rule.changes
      in
      let gc =
      good_each (ChangesMean n e) (changes_of n e) (changes_later e) (steady_changes n e) n p.st
      (λ v b u f. good_changes e v u eo f) gp.fine
      in
      record {
        fine = gc.fine;
        value =
            record {
              precondition = means_later gp.fine ((steady_each n (steady_changes n e)).grow p.st) gp.value;
              changes = gc.value;
              source = refl;
            };
      }

  pub good_parts : Good (length t.initial) (PartsMean t) (built t)
  unfolding built parts bind give
  good_parts =
      let n = length t.initial in
      let go =
      good_each (BuiltMeans t) (built_operator t) (built_later t) (steady_operator t) (length t.operators) start
      (λ o h s f. good_operator o s h f) (fine_start n)
      in
      let os = each (length t.operators) (built_operator t) start in
      let goal = formula_of t.formulas t.goal in
      let gg =
      good_image plain goal os.st
      (over_formula n t.formulas (rules_formulas t rules) t.goal rules.goal_is_formula) go.fine
      in
      let u = (image n plain goal os.st).st in
      record {
        fine = gg.fine;
        value =
            record {
              operators =
                  record {
                    count = go.value.count;
                    at =
                        λ d o h.
                        built_later t o os.st u (get_or os.value o d) go.fine
                        ((steady_image n plain goal).grow os.st) (go.value.at d o h);
                  };
              goal = gg.value;
            };
      }
