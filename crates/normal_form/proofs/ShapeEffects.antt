-- The effect rows of the finished task keep their rules: each rule's atom is of a variable or a twin that is there, under a row that is there.
use Prim.Native.Nat.{ℕ, suc, ◌+◌, ◌<◌}
use native.Mathlib.Omega.{arith}
use mathlib.Core.List.{List, [], ◌∷◌}
use lib.ListN.{length, get_or}
use Rattle.normal_form.specs.Operators.{Changes, Built}
use Rattle.normal_form.specs.Assembly.{Rule, rules_of, rules, Written, write_rule, write_rules, Assembled, assemble_operator, assemble}
use Rattle.normal_form.proofs.Growth.{prefix_below}
use Rattle.normal_form.proofs.ShapeRule.{atom_variable, Fits, Sound, write_sound}
use Rattle.normal_form.proofs.ShapeWritten.{rules_prefix}
use Rattle.normal_form.proofs.ShapeAssembled.{unwritten}
use Rattle.normal_form.proofs.ShapeRules.{All, none, also, all_map, rules_of_all, rules_all}

-- the same by places
pub all_at : {A : Type 0} (P : A → Type 0) (d : A) (l : List A) → ((k : ℕ) → k < length l → P (get_or l k d)) → All P l
all_at P d [] h = none
all_at P d (x ∷ xs) h = also (h 0 (omega arith)) (all_at P d xs (λ k b. h (suc k) (omega arith)))

-- Changes of one of n source variables, under rows below f.
pub record ChangesFit (n f : ℕ) (c : Changes) : Type 0 where
  pub variable : c.variable < n
  pub adds : c.adds < f
  pub deletes : c.deletes < f

pub rules_fit :
    (n f : ℕ) (twins : List ℕ) (cs : List Changes)
    → All (ChangesFit n f) cs
    → All (Fits (n + length twins) f) (rules n twins cs)
rules_fit n f twins cs h = rules_all (Fits (n + length twins) f) n twins cs (all_map one h)
  where
    one : (c : Changes) → ChangesFit n f c → All (Fits (n + length twins) f) (rules_of n twins c)
    one c h =
        rules_of_all (Fits (n + length twins) f) n twins c
        (record { atom = unfold atom_variable in omega arith; condition = h.adds })
        (record { atom = unfold atom_variable in omega arith; condition = h.deletes })
        (λ b. (
          record { atom = unfold atom_variable in omega arith; condition = h.adds },
          record { atom = unfold atom_variable in omega arith; condition = h.deletes },
        ))

module _ (v f : ℕ) where
  pub rules_sound : (w : Written) (rs : List Rule) → All (Fits v f) rs → Sound v f w → Sound v f (write_rules w rs)
  unfolding write_rules
  rules_sound w [] none s = s
  rules_sound w (r ∷ rs) (also p ps) s = rules_sound (write_rule w r) rs ps (write_sound v f w r p s)

  pub assemble_sound :
      (n : ℕ) (twins : List ℕ) (w : Assembled) (os : List Built)
      → All (λ b. All (Fits v f) (rules n twins b.changes)) os
      → Sound v f (unwritten w.effects)
      → Sound v f (unwritten (assemble n twins w os).effects)
  unfolding assemble assemble_operator
  assemble_sound n twins w [] none s = s
  assemble_sound n twins w (b ∷ bs) (also p ps) s =
      let rs = rules n twins b.changes in
      assemble_sound n twins (assemble_operator n twins w b) bs ps
      (record {
        down = (rules_sound (unwritten w.effects) rs p s).down;
        there = prefix_below (rules_prefix (unwritten w.effects) rs) 0 s.there;
      })
