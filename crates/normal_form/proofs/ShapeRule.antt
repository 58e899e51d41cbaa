-- One rule written: the rows keep the rules of effects, and the tree of what stands is the rule's atom under its condition, joined to what stood.
use Prim.Native.Nat.{ℕ, ◌+◌, ◌<◌}
use native.Mathlib.Omega.{arith}
use mathlib.Core.Path.{◌≡◌, refl, ap, ap₂, ◌∙◌}
use mathlib.Core.Bool.{Bool, true, false, cond}
use mathlib.Core.List.{List, [], ◌∷◌, ◌++◌, append_assoc}
use lib.ListN.{length, get_or, length-append}
use lib.Seq.{get_or-append_seam, get_or-append-add}
use lib.Dec.{eqb}
use borrow.Author.Tests.{eq-eqb, ne_eqb}
use Rattle.task.specs.Table.{Row, effect_kind}
use Rattle.task.specs.Rules.{no_row}
use Rattle.task.specs.Semantics.{Formula, Atom, sets, clears, Effect, atomic, both, under}
use Rattle.task.specs.Tree.{formula_of, effect_node, effect_of}
use Rattle.task.proofs.Trees.{effect_unfolds, effect_appends}
use Rattle.task.specs.Inner.Rows.{EffectKept, EffectsDown}
use Rattle.task.proofs.Down.{effects_more}
use Rattle.normal_form.specs.Growth.{Prefix}
use Rattle.normal_form.specs.Assembly.{Rule, Written, atom_row, rule_rows, write_rule}

-- what a rule does: its atom under its condition
unfoldable pub conjunct : List Row → Rule → Effect
conjunct formulas r = under (formula_of formulas r.condition) (atomic r.atom)

-- the variable that an atom sets or clears
unfoldable pub atom_variable : Atom → ℕ
atom_variable (sets v) = v
atom_variable (clears v) = v

-- A rule over v variables and f formulas.
pub record Fits (v f : ℕ) (r : Rule) : Type 0 where
  pub atom : atom_variable r.atom < v
  pub condition : r.condition < f

-- What is written over v variables and f formulas: references go down, and what stands is there.
pub record Sound (v f : ℕ) (w : Written) : Type 0 where
  pub down : EffectsDown v f w.rows
  pub there : w.stands < length w.rows

atom_kept : (v f i : ℕ) (l : Atom) → atom_variable l < v → EffectKept v f i (atom_row l)
unfolding atom_variable atom_row effect_kind
atom_kept v f i (sets x) h = (h, refl)
atom_kept v f i (clears x) h = (h, refl)

-- rows appended, each of which keeps its rule
two_more :
    (v f : ℕ) (rows : List Row) (r s : Row)
    → EffectsDown v f rows
    → EffectKept v f (length rows) r
    → EffectKept v f (length rows + 1) s
    → EffectsDown v f (rows ++ (r ∷ s ∷ []))
two_more v f rows r s down p q =
    rw append_assoc at
    (effects_more v f (rows ++ (r ∷ [])) s (effects_more v f rows r down p) (rw (length-append rows (r ∷ [])) q))

three_more :
    (v f : ℕ) (rows : List Row) (r s t : Row)
    → EffectsDown v f rows
    → EffectKept v f (length rows) r
    → EffectKept v f (length rows + 1) s
    → EffectKept v f (length rows + 2) t
    → EffectsDown v f (rows ++ (r ∷ s ∷ t ∷ []))
three_more v f rows r s t down p q u =
    rw append_assoc at
    (effects_more v f (rows ++ (r ∷ s ∷ [])) t (two_more v f rows r s down p q)
    (rw (length-append rows (r ∷ s ∷ [])) u))

-- the two rows of a rule, and "both" behind them
abbrev under_row : ℕ → ℕ → Row
under_row c i = record { kind = 4; a = c; b = i }

abbrev both_row : ℕ → ℕ → Row
both_row e f = record { kind = 3; a = e; b = f }

-- a rule written at row i, without what stands and with it
abbrev first : Written → Rule → Written
first w r =
    let i = length w.rows in
    record { rows = w.rows ++ (atom_row r.atom ∷ under_row r.condition i ∷ []); stands = i + 1 }

abbrev next : Written → Rule → Written
next w r =
    let i = length w.rows in
    record {
      rows =
          w.rows ++ (atom_row r.atom ∷ under_row r.condition i ∷ both_row w.stands (i + 1) ∷ []);
      stands = i + 2;
    }

write_cond : (w : Written) (r : Rule) → write_rule w r ≡ cond (eqb w.stands 0) (first w r) (next w r)
unfolding write_rule rule_rows
write_cond w r = refl

module _ (v f : ℕ) (w : Written) (r : Rule) (fits : Fits v f r) (sound : Sound v f w) where
  first_sound : Sound v f (first w r)
  unfolding effect_kind
  first_sound =
      record {
        down =
            two_more v f w.rows (atom_row r.atom) (under_row r.condition (length w.rows)) sound.down
            (atom_kept v f (length w.rows) r.atom fits.atom) (fits.condition, omega arith);
        there = simp length-append (omega arith);
      }

  next_sound : Sound v f (next w r)
  unfolding effect_kind
  next_sound =
      record {
        down =
            three_more v f w.rows (atom_row r.atom) (under_row r.condition (length w.rows))
            (both_row w.stands (length w.rows + 1)) sound.down
            (atom_kept v f (length w.rows) r.atom fits.atom) (fits.condition, omega arith)
            (omega arith, omega arith);
        there = simp length-append (omega arith);
      }

  pub write_sound : Sound v f (write_rule w r)
  write_sound = rw (write_cond w r) (go (eqb w.stands 0))
    where
      go : (b : Bool) → Sound v f (cond b (first w r) (next w r))
      go true = first_sound
      go false = next_sound

atom_node :
    (l : Atom) (p : Formula) (e f : Effect)
    → effect_node (effect_kind (atom_row l).kind) (atom_row l).a p e f ≡ atomic l
unfolding effect_node effect_kind atom_row
atom_node (sets v) p e f = refl
atom_node (clears v) p e f = refl

module _ (formulas : List Row) where
  -- the tree of a row that is known
  tree_at :
      (v f : ℕ) (rows : List Row) (i : ℕ) (r : Row)
      → EffectsDown v f rows
      → i < length rows
      → get_or rows i no_row ≡ r
      → effect_of formulas rows i
      ≡ effect_node (effect_kind r.kind) r.a (formula_of formulas r.a) (effect_of formulas rows r.a)
      (effect_of formulas rows r.b)
  tree_at v f rows i r down h e = rw (← e) (effect_unfolds v f formulas rows down i h)

  -- the second row of a rule, whatever follows it
  conjunct_tree :
      (v f : ℕ) (rows : List Row) (r : Rule) (rest : List Row)
      → let all = rows ++ (atom_row r.atom ∷ under_row r.condition (length rows) ∷ rest) in
      EffectsDown v f all
      → effect_of formulas all (length rows + 1) ≡ conjunct formulas r
  unfolding conjunct effect_node effect_kind
  conjunct_tree v f rows r rest down =
      let a = atom_row r.atom in
      let u = under_row r.condition (length rows) in
      let all = rows ++ (a ∷ u ∷ rest) in
      tree_at v f all (length rows + 1) u down (simp length-append (omega arith)) (get_or-append-add rows (a ∷ u ∷ rest) 1 no_row)
      ∙ ap {B = Effect} (λ e. under (formula_of formulas r.condition) e)
      (tree_at v f all (length rows) a down (simp length-append (omega arith)) (get_or-append_seam rows a (u ∷ rest) no_row)
      ∙ atom_node r.atom (formula_of formulas a.a) (effect_of formulas all a.a) (effect_of formulas all a.b))

  module _ (v f : ℕ) (w : Written) (r : Rule) (fits : Fits v f r) (sound : Sound v f w) where
    first_tree : effect_of formulas (first w r).rows (first w r).stands ≡ conjunct formulas r
    first_tree = conjunct_tree v f w.rows r [] (first_sound v f w r fits sound).down

    next_tree :
        effect_of formulas (next w r).rows (next w r).stands
        ≡ both (effect_of formulas w.rows w.stands) (conjunct formulas r)
    unfolding effect_node effect_kind
    next_tree =
        let down = (next_sound v f w r fits sound).down in
        let a = atom_row r.atom in
        let u = under_row r.condition (length w.rows) in
        let b = both_row w.stands (length w.rows + 1) in
        tree_at v f (next w r).rows (length w.rows + 2) b down (simp length-append (omega arith))
        (get_or-append-add w.rows (a ∷ u ∷ b ∷ []) 2 no_row)
        ∙ ap₂ both (effect_appends v f formulas w.rows sound.down (a ∷ u ∷ b ∷ []) w.stands sound.there)
        (conjunct_tree v f w.rows r (b ∷ []) down)

    -- an operator's first rule stands alone; each other is joined to what stands
    pub write_first :
        w.stands ≡ 0 → effect_of formulas (write_rule w r).rows (write_rule w r).stands ≡ conjunct formulas r
    write_first e = rw (write_cond w r, eq-eqb w.stands 0 e) first_tree

    pub write_next :
        (w.stands ≡ 0 → ⊥)
        → effect_of formulas (write_rule w r).rows (write_rule w r).stands
        ≡ both (effect_of formulas w.rows w.stands) (conjunct formulas r)
    write_next n = rw (write_cond w r, ne_eqb w.stands 0 n) next_tree

-- what stands after a rule is not row 0
pub write_stands : (w : Written) (r : Rule) → (write_rule w r).stands ≡ 0 → ⊥
write_stands w r = rw (write_cond w r) (go (eqb w.stands 0))
  where
    go : (b : Bool) → (cond b (first w r) (next w r)).stands ≡ 0 → ⊥
    go true e = omega arith
    go false e = omega arith

pub write_prefix : (w : Written) (r : Rule) → Prefix w.rows (write_rule w r).rows
write_prefix w r = rw (write_cond w r) (go (eqb w.stands 0))
  where
    go : (b : Bool) → Prefix w.rows (cond b (first w r) (next w r)).rows
    go true = record { rest = _; whole = refl }
    go false = record { rest = _; whole = refl }
