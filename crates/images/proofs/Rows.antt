-- The image of a row by its kind. Assumes nothing.
use Prim.Native.Nat.{ℕ, ◌≤◌, ◌<◌}
use native.Mathlib.Omega.{arith}
use native.Mathlib.Decide.{ℕ_discrete, dec_lt}
use mathlib.Core.Path.{◌≡◌, sym, ap, ap₂, ◌∙◌}
use mathlib.Core.Bool.{Bool, true, false, not}
use mathlib.Core.List.{List, [], ◌∷◌}
use lib.ListN.{length, get_or, get_or-eq_default}
use Rattle.task.specs.Table.{row_at, FormulaKind, false_kind, true_kind, variable_kind, not_kind, and_kind, or_kind, implies_kind, equivalent_kind, unknown_formula, formula_kind}
use Rattle.task.specs.Rules.{no_row, FormulaRule}
use Rattle.task.specs.Semantics.{Formula}
use Rattle.task.specs.Tree.{formula_node}
use Rattle.task.proofs.Bounded.{length_upto, getD_upto}
use Rattle.task.proofs.Trees.{formula_unfolds}
use Rattle.task.specs.Inner.Rows.{FormulaKept}
use Rattle.normal_form.specs.Builder.{Build, give, pair, Polarity, plain, negated, image_of_false, image_of_true}
use Rattle.normal_form.specs.Image.{literal, image}
use Rattle.formula_builder.specs.declared.Words.{Words}
use Rattle.formula_builder.specs.declared.Frame.{Frame}
use Rattle.formula_builder.specs.Inner.Held.{Size, Store, row_of, side}
use Rattle.images.specs.Inner.Images.{source_rows, tree, image_at, pair_at, equivalent_at, Asks}

known_kind : (v i k a b : ℕ) → FormulaRule v i (formula_kind k) a b → k < 8
unfolding formula_kind
known_kind v i k a b r = go (dec_lt k 8)
  where
    go : Dec (k < 8) → k < 8
    go (yes h) = h
    go (no h) =
        let kinds : List FormulaKind =
        false_kind ∷ true_kind ∷ variable_kind ∷ not_kind ∷ and_kind ∷ or_kind ∷ implies_kind ∷ equivalent_kind ∷ [] in
        let e : get_or kinds k unknown_formula ≡ unknown_formula =
        get_or-eq_default kinds unknown_formula {n = k} (omega arith) in
        absurd (rw e at r)

two_operands : (v i k a b : ℕ) → FormulaRule v i (formula_kind k) a b → 4 ≤ k → (a < i) × (b < i)
unfolding formula_kind
two_operands v i k a b r l = go (ℕ_discrete k 4) (ℕ_discrete k 5) (ℕ_discrete k 6)
  where
    go : Dec (k ≡ 4) → Dec (k ≡ 5) → Dec (k ≡ 6) → (a < i) × (b < i)
    go (yes e) _ _ = rw e at r
    go (no _) (yes e) _ = rw e at r
    go (no _) (no _) (yes e) = rw e at r
    go (no c) (no d) (no f) = let e : k ≡ 7 = omega (arith, known_kind v i k a b r) in rw e at r

-- The image of a row by its kind, over the formulas p and q that its words a and b name.
module _ (n : ℕ) (a : ℕ) (f g : Formula) where
  false_image : (p : Polarity) (k : ℕ) → k ≡ 0 → image n p (formula_node (formula_kind k) a f g) ≡ give (image_of_false p)
  unfolding image formula_node formula_kind
  false_image plain k e = rw e
  false_image negated k e = rw e

  true_image : (p : Polarity) (k : ℕ) → k ≡ 1 → image n p (formula_node (formula_kind k) a f g) ≡ give (image_of_true p)
  unfolding image formula_node formula_kind
  true_image plain k e = rw e
  true_image negated k e = rw e

  variable_image : (p : Polarity) (k : ℕ) → k ≡ 2 → image n p (formula_node (formula_kind k) a f g) ≡ literal n p a
  unfolding image formula_node formula_kind
  variable_image p k e = rw e

  negation_image :
      (b : Bool) (k : ℕ) → k ≡ 3 → image n (side b) (formula_node (formula_kind k) a f g) ≡ image n (side (not b)) f
  unfolding image formula_node formula_kind
  negation_image false k e = rw e
  negation_image true k e = rw e

  and_image :
      (b : Bool) (k : ℕ)
      → k ≡ 4
      → image n (side b) (formula_node (formula_kind k) a f g) ≡ pair (side b) (image n (side b) f) (image n (side b) g)
  unfolding image formula_node formula_kind
  and_image false k e = rw e
  and_image true k e = rw e

  or_image :
      (b : Bool) (k : ℕ)
      → k ≡ 5
      → image n (side b) (formula_node (formula_kind k) a f g) ≡ pair (side (not b)) (image n (side b) f) (image n (side b) g)
  unfolding image formula_node formula_kind
  or_image false k e = rw e
  or_image true k e = rw e

  implies_image :
      (b : Bool) (k : ℕ)
      → k ≡ 6
      → image n (side b) (formula_node (formula_kind k) a f g) ≡ pair (side (not b)) (image n (side (not b)) f) (image n (side b) g)
  unfolding image formula_node formula_kind
  implies_image false k e = rw e
  implies_image true k e = rw e

  equivalence_image :
      (b : Bool) (k : ℕ)
      → k ≡ 7
      → image n (side b) (formula_node (formula_kind k) a f g)
      ≡ pair negated (pair plain (image n plain f) (image n (side b) g)) (pair plain (image n negated f) (image n (side (not b)) g))
  unfolding image formula_node formula_kind
  equivalence_image false k e = rw e
  equivalence_image true k e = rw e

-- the operands of row i are those that its words name
pub pair_words :
    (frame : Frame) (formulas : List ℕ) (i : ℕ) (w : Words)
    → row_of w ≡ row_at formulas i
    → (left right or : Bool)
    → pair_at frame formulas i left right or
    ≡ pair (side or) (image_at frame formulas (side left) w.a) (image_at frame formulas (side right) w.b)
unfolding pair_at
pair_words frame formulas i w e left right or = rw (← e)

-- Row i of the source, with the words w.
module _ {frame : Frame} {formulas : List ℕ} {at : Size} {before : Store} {scratch : List ℕ} {i : ℕ} (x : Asks frame formulas at before scratch i)
    (w : Words) (e : row_of w ≡ row_at formulas i) where
  row_held : get_or (source_rows frame formulas) i no_row ≡ row_of w
  unfolding source_rows
  row_held = getD_upto frame.formulas (row_at formulas) i no_row x.formula ∙ sym e

  within : i < length (source_rows frame formulas)
  unfolding source_rows
  within = rw (length_upto frame.formulas (row_at formulas)) x.formula

  rule_held : FormulaKept frame.variables i (row_of w)
  rule_held = rw row_held at (x.source.down.row i within)

  pub known : w.kind < 8
  known = known_kind frame.variables i w.kind w.a w.b rule_held

  -- the two words of a row of kind 4 to 7 name lower rows
  pub operands : 4 ≤ w.kind → (w.a < i) × (w.b < i)
  operands l = two_operands frame.variables i w.kind w.a w.b rule_held l

  -- and that of kind 3
  pub negated_operand : w.kind ≡ 3 → w.a < i
  unfolding formula_kind
  negated_operand k =
      let r : FormulaRule frame.variables i (formula_kind 3) w.a w.b = rw k at rule_held in
      r.0

  -- of a variable's row the first word is a variable, and the last is not used
  pub variable_words : w.kind ≡ 2 → (w.a < frame.variables) × (w.b ≡ 0)
  unfolding formula_kind
  variable_words k =
      let r : FormulaRule frame.variables i (formula_kind 2) w.a w.b = rw k at rule_held in
      (r.0, r.1)

  node : Polarity → Build ℕ
  node p =
      image frame.variables p
      (formula_node (formula_kind w.kind) w.a (tree frame formulas w.a) (tree frame formulas w.b))

  unfolds : (p : Polarity) → image_at frame formulas p i ≡ node p
  unfolding image_at tree node
  unfolds p =
      ap (image frame.variables p)
      (formula_unfolds frame.variables (source_rows frame formulas) x.source.down i within ∙ rw row_held)

  pub of_false : (p : Polarity) → w.kind ≡ 0 → image_at frame formulas p i ≡ give (image_of_false p)
  unfolding node
  of_false p k = unfolds p ∙ false_image frame.variables _ _ _ p w.kind k

  pub of_true : (p : Polarity) → w.kind ≡ 1 → image_at frame formulas p i ≡ give (image_of_true p)
  unfolding node
  of_true p k = unfolds p ∙ true_image frame.variables _ _ _ p w.kind k

  pub of_variable : (p : Polarity) → w.kind ≡ 2 → image_at frame formulas p i ≡ literal frame.variables p w.a
  unfolding node
  of_variable p k = unfolds p ∙ variable_image frame.variables _ _ _ p w.kind k

  pub of_not : (b : Bool) → w.kind ≡ 3 → image_at frame formulas (side b) i ≡ image_at frame formulas (side (not b)) w.a
  unfolding node image_at
  of_not b k = unfolds (side b) ∙ negation_image frame.variables _ _ _ b w.kind k

  -- the left is on one side, the right on b's, and they are joined as the row's kind and b say
  pub of_and : (b : Bool) → w.kind ≡ 4 → image_at frame formulas (side b) i ≡ pair_at frame formulas i b b b
  unfolding node image_at
  of_and b k = unfolds (side b) ∙ and_image frame.variables _ _ _ b w.kind k ∙ sym (pair_words frame formulas i w e b b b)

  pub of_or : (b : Bool) → w.kind ≡ 5 → image_at frame formulas (side b) i ≡ pair_at frame formulas i b b (not b)
  unfolding node image_at
  of_or b k = unfolds (side b) ∙ or_image frame.variables _ _ _ b w.kind k ∙ sym (pair_words frame formulas i w e b b (not b))

  pub of_implies : (b : Bool) → w.kind ≡ 6 → image_at frame formulas (side b) i ≡ pair_at frame formulas i (not b) b (not b)
  unfolding node image_at
  of_implies b k =
      unfolds (side b) ∙ implies_image frame.variables _ _ _ b w.kind k ∙ sym (pair_words frame formulas i w e (not b) b (not b))

  pub of_equivalent : (b : Bool) → w.kind ≡ 7 → image_at frame formulas (side b) i ≡ equivalent_at frame formulas i b
  unfolding node image_at equivalent_at
  of_equivalent b k =
      unfolds (side b)
      ∙ equivalence_image frame.variables _ _ _ b w.kind k
      ∙ ap₂ (pair negated) (sym (pair_words frame formulas i w e false b false)) (sym (pair_words frame formulas i w e true (not b) false))
