-- The effect and operator tables assembled: operator o has the precondition and the cost that were built for it, and the tree of its effect is the
-- chain of its rules. Assumes nothing.
use Prim.Native.Nat.{ℕ, zero, suc, ◌+◌, ◌<◌}
use native.Mathlib.Nat.{not-suc-le-zero}
use native.Mathlib.Omega.{arith}
use mathlib.Core.Path.{◌≡◌, refl, ap, subst, ◌∙◌}
use mathlib.Core.List.{List, [], ◌∷◌, ◌++◌}
use lib.ListN.{length, get_or, length-append}
use lib.Seq.{get_or-append_seam}
use Rattle.task.specs.Table.{Row, Operator, effect_kind, with_parts}
use Rattle.task.specs.Rules.{no_row, no_operator}
use Rattle.task.specs.Tree.{effect_of}
use Rattle.task.proofs.Down.{effects_none, effects_more}
use Rattle.normal_form.specs.Growth.{Prefix}
use Rattle.normal_form.specs.Operators.{Built}
use Rattle.normal_form.specs.Assembly.{rules, Written, write_rules, Assembled, assemble_operator, assemble, unassembled}
use Rattle.normal_form.proofs.Growth.{prefix_refl, prefix_trans, prefix_below, prefix_at}
use Rattle.normal_form.proofs.ShapeWritten.{chain, Written_down, rules_down, rules_prefix, tree_kept, written_tree}

-- before an operator's first rule: effect row 0, the empty effect, stands
abbrev pub unwritten : List Row → Written
unwritten rows = record { rows = rows; stands = 0 }

-- What is assembled: references go down, and effect row 0 is empty.
pub record Ground (w : Assembled) : Type 0 where
  pub down : Written_down (unwritten w.effects)
  pub empty_row : get_or w.effects 0 no_row ≡ no_row

pub ground_unassembled : Ground unassembled
unfolding unassembled effect_kind
ground_unassembled =
    record {
      down =
          record {
            variables = 0;
            formulas = 0;
            sound =
                record {
                  down = effects_more 0 0 [] (record { kind = 0; a = 0; b = 0 }) (effects_none 0 0) (refl, refl);
                  there = omega arith;
                };
          };
      empty_row = refl;
    }

module _ (n : ℕ) (twins : List ℕ) where
  -- the rows of one operator's rules
  abbrev pub written : Assembled → Built → Written
  written w b = write_rules (unwritten w.effects) (rules n twins b.changes)

  pub operator_ground : (w : Assembled) (b : Built) → Ground w → Ground (assemble_operator n twins w b)
  unfolding assemble_operator
  operator_ground w b g =
      let d = rules_down (unwritten w.effects) (rules n twins b.changes) g.down in
      let p = rules_prefix (unwritten w.effects) (rules n twins b.changes) in
      record {
        down =
            record {
              variables = d.variables;
              formulas = d.formulas;
              sound = record { down = d.sound.down; there = prefix_below p 0 g.down.sound.there };
            };
        empty_row = prefix_at _ _ no_row 0 p g.down.sound.there ∙ g.empty_row;
      }

  pub assemble_ground : (w : Assembled) (os : List Built) → Ground w → Ground (assemble n twins w os)
  unfolding assemble
  assemble_ground w [] g = g
  assemble_ground w (b ∷ bs) g = assemble_ground (assemble_operator n twins w b) bs (operator_ground w b g)

  -- what is assembled stays
  pub assemble_effects :
      (w : Assembled) (os : List Built) → Prefix w.effects (assemble n twins w os).effects
  unfolding assemble assemble_operator
  assemble_effects w [] = prefix_refl w.effects
  assemble_effects w (b ∷ bs) =
      prefix_trans (rules_prefix (unwritten w.effects) (rules n twins b.changes))
      (assemble_effects (assemble_operator n twins w b) bs)

  pub assemble_operators :
      (w : Assembled) (os : List Built) → Prefix w.operators (assemble n twins w os).operators
  unfolding assemble assemble_operator
  assemble_operators w [] = prefix_refl w.operators
  assemble_operators w (b ∷ bs) =
      prefix_trans (record { rest = _; whole = refl }) (assemble_operators (assemble_operator n twins w b) bs)

  pub assemble_length :
      (w : Assembled) (os : List Built)
      → length (assemble n twins w os).operators ≡ length w.operators + length os
  unfolding assemble assemble_operator
  assemble_length w [] = omega arith
  assemble_length w (b ∷ bs) =
      let o : Operator = with_parts b.source b.precondition (written w b).stands in
      omega (arith, assemble_length (assemble_operator n twins w b) bs, length-append w.operators (o ∷ []))

  module _ (formulas : List Row) where
    -- Operator i is what was built as b.
    pub record Operated (w : Assembled) (i : ℕ) (b : Built) : Type 0 where
      pub precondition : (get_or w.operators i no_operator).precondition ≡ b.precondition
      pub cost : (get_or w.operators i no_operator).cost ≡ b.source.cost
      pub percent : (get_or w.operators i no_operator).percent ≡ b.source.percent
      pub there : (get_or w.operators i no_operator).effect < length w.effects
      pub tree :
          effect_of formulas w.effects (get_or w.operators i no_operator).effect
          ≡ chain formulas (rules n twins b.changes)

    operated_first :
        (w : Assembled) (b : Built) (bs : List Built)
        → Ground w
        → Operated (assemble n twins w (b ∷ bs)) (length w.operators) b
    unfolding assemble assemble_operator
    operated_first w b bs g =
        let next = assemble_operator n twins w b in
        let o : Operator = with_parts b.source b.precondition (written w b).stands in
        let d = rules_down (unwritten w.effects) (rules n twins b.changes) g.down in
        let p = assemble_effects next bs in
        let e : get_or (assemble n twins next bs).operators (length w.operators) no_operator ≡ o =
        prefix_at _ _ no_operator (length w.operators) (assemble_operators next bs)
        (omega (arith, length-append w.operators (o ∷ [])))
        ∙ get_or-append_seam w.operators o [] no_operator in
        record {
          precondition = ap (λ (x : Operator). x.precondition) e;
          cost = ap (λ (x : Operator). x.cost) e;
          percent = ap (λ (x : Operator). x.percent) e;
          there = rw e (prefix_below p (written w b).stands d.sound.there);
          tree =
              rw e
              (tree_kept formulas (written w b).stands d.sound.down p d.sound.there
              ∙ written_tree formulas w.effects (rules n twins b.changes) g.down g.empty_row);
        }

    operated_later :
        (w : Assembled) (b : Built) (bs : List Built) (o : ℕ) (c : Built)
        → Operated (assemble n twins (assemble_operator n twins w b) bs)
        (length (assemble_operator n twins w b).operators + o) c
        → Operated (assemble n twins w (b ∷ bs)) (length w.operators + suc o) c
    unfolding assemble assemble_operator
    operated_later w b bs o c h =
        let op : Operator = with_parts b.source b.precondition (written w b).stands in
        let e : length (w.operators ++ (op ∷ [])) + o ≡ length w.operators + suc o =
        omega (arith, length-append w.operators (op ∷ [])) in
        subst (λ (i : ℕ). Operated (assemble n twins (assemble_operator n twins w b) bs) i c) e h

    -- the operators assembled after those that are there
    pub operated :
        (w : Assembled) (os : List Built) (o : ℕ) (d : Built)
        → Ground w
        → o < length os
        → Operated (assemble n twins w os) (length w.operators + o) (get_or os o d)
    operated w [] o d g h = absurd (not-suc-le-zero h)
    operated w (b ∷ bs) zero d g h =
        subst (λ (i : ℕ). Operated (assemble n twins w (b ∷ bs)) i b) (omega arith) (operated_first w b bs g)
    operated w (b ∷ bs) (suc o) d g h =
        operated_later w b bs o (get_or bs o d)
        (operated (assemble_operator n twins w b) bs o d (operator_ground w b g) (omega arith))

    pub operated_all :
        (os : List Built) (o : ℕ) (d : Built)
        → o < length os
        → Operated (assemble n twins unassembled os) o (get_or os o d)
    unfolding unassembled
    operated_all os o d h =
        subst (λ (i : ℕ). Operated (assemble n twins unassembled os) i (get_or os o d)) (omega arith)
        (operated unassembled os o d ground_unassembled h)
