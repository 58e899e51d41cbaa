-- The second pass, moment by moment: the tables before each operator, and that no moment has more effect rows than the finished task. So whoever
-- stops at the first rule without room is right that the finished task has none. Assumes nothing.
use Prim.Native.Nat.{ℕ, ◌+◌, ◌≤◌, ◌<◌}
use native.Mathlib.Numerals.{add-one}
use native.Mathlib.Omega.{arith}
use mathlib.Core.Path.{◌≡◌, refl, sym, ap, ◌∙◌}
use mathlib.Core.Bool.{Bool, true, false, cond}
use mathlib.Core.List.{List, [], ◌∷◌, ◌++◌, append_assoc}
use lib.ListN.{length, take, drop, take-append-drop}
use lib.Seq.{take-suc}
use lib.Dec.{eqb, ltb}
use borrow.Author.Tests.{eq-eqb}
use Rattle.task.specs.Table.{Task}
use Rattle.normal_form.specs.Builder.{place}
use Rattle.normal_form.specs.Growth.{Prefix}
use Rattle.normal_form.specs.Operators.{Changes, Built}
use Rattle.normal_form.specs.Assembly.{Rule, rule, with_twin, rules_of, rules, Written, write_rules, Assembled, assemble_operator, assemble, unassembled}
use Rattle.normal_form.specs.Finished.{built, assembled, finished}
use Rattle.normal_form.proofs.Growth.{longer}
use Rattle.normal_form.proofs.ShapeWritten.{rules_prefix}
use Rattle.normal_form.proofs.ShapeAssembled.{unwritten, assemble_effects}
use Rattle.normal_form.proofs.ShapeFinished.{no_built, built_at, built_operators}
use Rattle.normal_form.proofs.ShapeCounts.{rules_split, assemble_split}

module _ (n : ℕ) (twins : List ℕ) where
  -- a variable that an operator neither sets nor clears has no rules
  pub rules_none : (c : Changes) → c.adds ≡ 0 → c.deletes ≡ 0 → rules_of n twins c ≡ []
  unfolding rules_of rule with_twin
  rules_none c a d =
      rw (eq-eqb c.adds 0 a, eq-eqb c.deletes 0 d) (none (ltb (place eqb c.variable twins) (length twins)))
    where
      none : (b : Bool) → ◌≡◌ {A = List Rule} (cond b [] [] ++ cond b [] []) []
      none true = refl
      none false = refl

  -- variables one after another
  pub rules_append : (cs ds : List Changes) → rules n twins (cs ++ ds) ≡ rules n twins cs ++ rules n twins ds
  unfolding rules
  rules_append [] ds = refl
  rules_append (c ∷ cs) ds =
      rw (rules_append cs ds) (sym (append_assoc (rules_of n twins c) (rules n twins cs) (rules n twins ds)))

-- The tables before operator o: those of the operators below it.
unfoldable pub assembled_before : Task → ℕ → Assembled
assembled_before t o =
    assemble (length t.initial) (built t).st.twins unassembled (take o (built t).value.operators)

module _ (t : Task) where
  abbrev n : ℕ
  n = length t.initial

  abbrev twins : List ℕ
  twins = (built t).st.twins

  pub before_more :
      (o : ℕ)
      → o < length t.operators
      → assembled_before t (o + 1)
      ≡ assemble_operator (length t.initial) (built t).st.twins (assembled_before t o) (built_at t o)
  unfolding assembled_before
  before_more o h =
      ap (λ (k : ℕ). assemble n twins unassembled (take k (built t).value.operators)) (add-one o)
      ∙ ap (λ (l : List Built). assemble n twins unassembled l)
      (take-suc (built t).value.operators o no_built (rw (built_operators t) h))
      ∙ assemble_split n twins unassembled (take o (built t).value.operators) (built_at t o ∷ [])
      ∙ one
    where
      one :
          assemble n twins (assemble n twins unassembled (take o (built t).value.operators)) (built_at t o ∷ [])
          ≡ assemble_operator n twins (assemble n twins unassembled (take o (built t).value.operators)) (built_at t o)
      one = unfold assemble in refl

  -- what stands before operator o, stands in the end
  before_grows : (o : ℕ) → Prefix (assembled_before t o).effects (finished t).effects
  unfolding assembled_before assembled finished
  before_grows o =
      let os = (built t).value.operators in
      let whole : assemble n twins (assemble n twins unassembled (take o os)) (drop o os) ≡ assemble n twins unassembled os =
      sym (assemble_split n twins unassembled (take o os) (drop o os))
      ∙ ap (λ (l : List Built). assemble n twins unassembled l) (take-append-drop o os)
      in
      rw (← whole) (assemble_effects n twins (assemble n twins unassembled (take o os)) (drop o os))

  -- in operator o, before variable v
  pub moment_effects :
      (o v : ℕ)
      → o < length t.operators
      → length
      (write_rules (unwritten (assembled_before t o).effects)
      (rules (length t.initial) (built t).st.twins (take v (built_at t o).changes))
      ).rows
      ≤ length (finished t).effects
  moment_effects o v h =
      omega (
        arith,
        longer _ _ (rules_prefix (write_rules w (rules n twins (take v cs))) (rules n twins (drop v cs))),
        ap (λ (x : Written). length x.rows) (sym split),
        ap (λ (x : Assembled). length x.effects) (before_more o h),
        own,
        longer _ _ (before_grows (o + 1)),
      )
    where
      w : Written
      w = unwritten (assembled_before t o).effects

      cs : List Changes
      cs = (built_at t o).changes

      split : write_rules w (rules n twins cs) ≡ write_rules (write_rules w (rules n twins (take v cs))) (rules n twins (drop v cs))
      split =
          ap (λ (l : List Changes). write_rules w (rules n twins l)) (sym (take-append-drop v cs))
          ∙ ap (write_rules w) (rules_append n twins (take v cs) (drop v cs))
          ∙ rules_split w (rules n twins (take v cs)) (rules n twins (drop v cs))

      own :
          length (assemble_operator n twins (assembled_before t o) (built_at t o)).effects
          ≡ length (write_rules w (rules n twins cs)).rows
      own = unfold assemble_operator in refl
