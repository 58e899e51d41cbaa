-- An operator's rules written: the tree of what stands is the chain of the rules, and rows written before keep their trees. Assumes nothing.
use Prim.Native.Nat.{ℕ, suc, ◌+◌, ◌<◌}
use native.Mathlib.Omega.{arith}
use mathlib.Core.Path.{◌≡◌, refl, ap, ◌∙◌}
use mathlib.Core.List.{List, [], ◌∷◌}
use lib.ListN.{length, get_or}
use Rattle.task.specs.Table.{Row, effect_kind}
use Rattle.task.specs.Rules.{no_row}
use Rattle.task.specs.Semantics.{Effect, empty, both}
use Rattle.task.specs.Tree.{effect_node, effect_within, effect_of}
use Rattle.task.proofs.Trees.{effect_appends}
use Rattle.task.specs.Inner.Rows.{EffectsDown}
use Rattle.task.proofs.Down.{effects_wider}
use Rattle.normal_form.specs.Growth.{Prefix}
use Rattle.normal_form.specs.Assembly.{Rule, Written, write_rule, write_rules}
use Rattle.normal_form.proofs.Growth.{prefix_refl, prefix_trans}
use Rattle.normal_form.proofs.ShapeRule.{conjunct, atom_variable, Fits, Sound, write_sound, write_first, write_next, write_stands, write_prefix}

-- what stands, and the rules, joined from the left
unfoldable pub chain_on : List Row → Effect → List Rule → Effect
chain_on formulas e [] = e
chain_on formulas e (r ∷ rs) = chain_on formulas (both e (conjunct formulas r)) rs

-- what an operator's rules do: without rules, nothing
unfoldable pub chain : List Row → List Rule → Effect
chain formulas [] = empty
chain formulas (r ∷ rs) = chain_on formulas (conjunct formulas r) rs

-- What is written, over as many variables and formulas as it takes.
pub record Written_down (w : Written) : Type 0 where
  pub variables : ℕ
  pub formulas : ℕ
  pub sound : Sound variables formulas w

-- so many more that a rule fits
wider : {w : Written} (r : Rule) → Written_down w → Written_down w
wider {w} r d =
    let v = d.variables + suc (atom_variable r.atom) in
    let f = d.formulas + suc r.condition in
    record {
      variables = v;
      formulas = f;
      sound =
          record {
            down = effects_wider v f (omega arith) (omega arith) d.sound.down;
            there = d.sound.there;
          };
    }

fits_wider : {w : Written} (r : Rule) (d : Written_down w) → Fits (wider r d).variables (wider r d).formulas r
unfolding wider
fits_wider r d = record { atom = omega arith; condition = omega arith }

write_down : (w : Written) (r : Rule) → Written_down w → Written_down (write_rule w r)
write_down w r d =
    let e = wider r d in
    record {
      variables = e.variables;
      formulas = e.formulas;
      sound = write_sound e.variables e.formulas w r (fits_wider r d) e.sound;
    }

pub rules_down : (w : Written) (rs : List Rule) → Written_down w → Written_down (write_rules w rs)
unfolding write_rules
rules_down w [] d = d
rules_down w (r ∷ rs) d = rules_down (write_rule w r) rs (write_down w r d)

pub rules_prefix : (w : Written) (rs : List Rule) → Prefix w.rows (write_rules w rs).rows
unfolding write_rules
rules_prefix w [] = prefix_refl w.rows
rules_prefix w (r ∷ rs) = prefix_trans (write_prefix w r) (rules_prefix (write_rule w r) rs)

-- rows written before keep their trees
pub tree_kept :
    (formulas : List Row) {v f : ℕ} {rows more : List Row} (i : ℕ)
    → EffectsDown v f rows
    → Prefix rows more
    → i < length rows
    → effect_of formulas more i ≡ effect_of formulas rows i
tree_kept formulas {v} {f} {rows} i down p h =
    rw p.whole (effect_appends v f formulas rows down p.rest i h)

module _ (formulas : List Row) where
  pub chain_tree :
      (w : Written) (rs : List Rule)
      → Written_down w
      → (w.stands ≡ 0 → ⊥)
      → effect_of formulas (write_rules w rs).rows (write_rules w rs).stands
      ≡ chain_on formulas (effect_of formulas w.rows w.stands) rs
  unfolding write_rules chain_on
  chain_tree w [] d n = refl
  chain_tree w (r ∷ rs) d n =
      let e = wider r d in
      chain_tree (write_rule w r) rs (write_down w r d) (write_stands w r)
      ∙ ap (λ (x : Effect). chain_on formulas x rs)
      (write_next formulas e.variables e.formulas w r (fits_wider r d) e.sound n)

  -- an operator's rules, from row 0, the empty effect
  pub written_tree :
      (rows : List Row) (rs : List Rule)
      → Written_down (record { rows = rows; stands = 0 })
      → get_or rows 0 no_row ≡ no_row
      → let w = write_rules (record { rows = rows; stands = 0 }) rs in
      effect_of formulas w.rows w.stands ≡ chain formulas rs
  unfolding write_rules chain effect_of effect_within effect_node effect_kind
  written_tree rows [] d e = rw e
  written_tree rows (r ∷ rs) d e =
      let w : Written = record { rows = rows; stands = 0 } in
      let x = wider r d in
      chain_tree (write_rule w r) rs (write_down w r d) (write_stands w r)
      ∙ ap (λ (x : Effect). chain_on formulas x rs)
      (write_first formulas x.variables x.formulas w r (fits_wider r d) x.sound refl)
