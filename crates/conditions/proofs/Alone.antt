-- Rows that do not name an atom, by their kind, and by their sets. Assumes nothing.
use Prim.Native.Nat.{ℕ, zero, suc, ◌≤◌, ◌<◌}
use native.Mathlib.Omega.{arith}
use native.Mathlib.Decide.{ℕ_discrete}
use mathlib.Core.Path.{◌≡◌, refl, sym, ap, ap₂, ◌∙◌}
use mathlib.Core.Bool.{Bool, true, false, cond}
use mathlib.Core.List.{List}
use lib.Dec.{eqb}
use lib.ListN.{length, get_or}
use borrow.Author.Tests.{eq-eqb, ne_eqb}
use Rattle.task.specs.Table.{Row, row_at, effect_kind}
use Rattle.task.specs.Semantics.{Formula}
use Rattle.task.specs.Rules.{no_row, EffectRule}
use Rattle.task.proofs.Bounded.{length_upto, getD_upto}
use Rattle.normal_form.specs.Builder.{Build, give, bind, pair, Polarity, plain, negated, opposite, image_of_false, image_of_true}
use Rattle.normal_form.specs.Conditions.{guarded}
use Rattle.formula_builder.specs.declared.Words.{Words}
use Rattle.formula_builder.specs.declared.Frame.{Frame}
use Rattle.formula_builder.specs.Inner.Held.{side, row_of}
use Rattle.images.specs.Inner.Images.{tree}
use Rattle.atom_sets.specs.Inner.Sets.{lacks, Sets}
use Rattle.conditions.specs.declared.Target.{Target}
use Rattle.conditions.specs.Inner.Conditions.{atom_of, acts, atom_row, effect_rows, EffectSource, Unnamed, AtomSets}
use Rattle.conditions.proofs.Atoms.{touch_other, other_atom}
use Rattle.conditions.proofs.Rows.{join_with_left, both_lower, under_lower, known_kind, of_atom, of_both, of_under}

-- a join of what folds away folds away
pub idle_pair : (p : Polarity) → pair (opposite p) (give (image_of_false p)) (give (image_of_false p)) ≡ give (image_of_false p)
unfolding pair bind give
idle_pair plain = join_with_left negated 0
idle_pair negated = join_with_left plain 1

-- and a formula over what folds away is not built
pub idle_guard : (n : ℕ) (p : Polarity) (f : Formula) → bind (give (image_of_false p)) (λ c. guarded n p f c) ≡ give (image_of_false p)
unfolding bind give guarded
idle_guard n plain f = refl
idle_guard n negated f = refl

module _ (frame : Frame) (formulas effects scratch : List ℕ) (source : EffectSource frame effects scratch) (i : ℕ) (h : i < frame.effects) where
  -- with the words w
  module _ (w : Words) (q : row_of w ≡ row_at effects i) where
    kind_read : (row_at effects i).kind ≡ w.kind
    kind_read = ap (λ (r : Row). r.kind) (sym q)

  -- Of one atom.
  module _ (clear : Bool) (v : ℕ) where
    unnamed_both :
        (row_at effects i).kind ≡ 3
        → Unnamed frame formulas effects clear v (row_at effects i).a
        → Unnamed frame formulas effects clear v (row_at effects i).b
        → Unnamed frame formulas effects clear v i
    unnamed_both k l r =
        record {
          idle = λ t c e.
              let p = side t.negated in
              of_both frame formulas effects scratch source i h t k ∙ ap₂ (pair (opposite p)) (l.idle t c e) (r.idle t c e) ∙ idle_pair p;
        }

    unnamed_under :
        (row_at effects i).kind ≡ 4
        → Unnamed frame formulas effects clear v (row_at effects i).b
        → Unnamed frame formulas effects clear v i
    unnamed_under k l =
        record {
          idle = λ t c e.
              let p = side t.negated in
              let f = tree frame formulas (row_at effects i).a in
              of_under frame formulas effects scratch source i h t k
              ∙ ap (λ (m : Build ℕ). bind m (λ c. guarded frame.variables p f c)) (l.idle t c e)
              ∙ idle_guard frame.variables p f;
        }

    unnamed_empty : (row_at effects i).kind ≡ 0 → Unnamed frame formulas effects clear v i
    unfolding acts effect_kind atom_row
    unnamed_empty k =
        record {
          idle = λ t c e.
              of_atom frame formulas effects scratch source i h t (λ z. omega (arith, z, k)) (λ z. omega (arith, z, k)) ∙ rw k;
        }

    unnamed_atom :
        ((row_at effects i).kind ≡ 3 → ⊥)
        → ((row_at effects i).kind ≡ 4 → ⊥)
        → (v ≡ (row_at effects i).a → clear ≡ eqb (row_at effects i).kind 2 → ⊥)
        → Unnamed frame formulas effects clear v i
    unfolding atom_row
    unnamed_atom three four other =
        record {
          idle = λ t c e.
              of_atom frame formulas effects scratch source i h t three four
              ∙ ap
              (λ (b : Bool). give (cond b (image_of_true (side t.negated)) (image_of_false (side t.negated))))
              (sym (go t c e (ℕ_discrete (row_at effects i).a t.variable)));
        }
      where
        go :
            (t : Target)
            → t.clear ≡ clear
            → t.variable ≡ v
            → Dec ((row_at effects i).a ≡ t.variable)
            → false ≡ acts (atom_of t) (effect_kind (row_at effects i).kind) (row_at effects i).a
        go t c e (no n) = touch_other t.clear t.variable (row_at effects i).a (effect_kind (row_at effects i).kind) n
        go t c e (yes s) =
            other_atom t.clear t.variable (row_at effects i).a (row_at effects i).kind s
            (λ z. other (sym e ∙ sym s) (sym c ∙ z))

-- an atom names a variable
atom_rule : (v f i k a b : ℕ) → EffectRule v f i (effect_kind k) a b → (k ≡ 0 → ⊥) → (k ≡ 3 → ⊥) → (k ≡ 4 → ⊥) → a < v
unfolding effect_kind
atom_rule v f i zero a b r x y z = absurd (x refl)
atom_rule v f i (suc zero) a b r x y z = r.0
atom_rule v f i (suc (suc zero)) a b r x y z = r.0
atom_rule v f i (suc (suc (suc zero))) a b r x y z = absurd (y refl)
atom_rule v f i (suc (suc (suc (suc zero)))) a b r x y z = absurd (z refl)
atom_rule v f i (suc (suc (suc (suc (suc k))))) a b r x y z = absurd r

pub atom_within :
    (frame : Frame) (effects scratch : List ℕ) (source : EffectSource frame effects scratch) (i : ℕ) (h : i < frame.effects) (w : Words) (q : row_of w ≡ row_at effects i)
    → (w.kind ≡ 0 → ⊥)
    → (w.kind ≡ 3 → ⊥)
    → (w.kind ≡ 4 → ⊥)
    → w.a < frame.variables
unfolding effect_rows
atom_within frame effects scratch source i h w q x y z =
    let there : i < length (effect_rows frame effects) = rw (length_upto frame.effects (row_at effects)) h in
    let same : get_or (effect_rows frame effects) i no_row ≡ row_of w =
    getD_upto frame.effects (row_at effects) i no_row h ∙ sym q in
    atom_rule frame.variables frame.formulas i w.kind w.a w.b (rw same at (source.down.row i there)) x y z

-- The sets are right: by the rows below each row.
module _ (frame : Frame) (effects scratch notes : List ℕ) (source : EffectSource frame effects scratch) (sets : Sets frame effects notes) where
  atom_lacked :
      (clear : Bool) (v i : ℕ)
      → i < frame.effects
      → ((row_at effects i).kind ≡ 0 → ⊥)
      → ((row_at effects i).kind ≡ 3 → ⊥)
      → (row_at effects i).kind ≤ 3
      → lacks frame notes clear v i ≡ true
      → v ≡ (row_at effects i).a
      → clear ≡ eqb (row_at effects i).kind 2
      → ⊥
  atom_lacked clear v i h zero' three most q same kind = go (ℕ_discrete (row_at effects i).kind 2)
    where
      go : Dec ((row_at effects i).kind ≡ 2) → ⊥
      go (yes k) =
          let c : clear ≡ true = kind ∙ eq-eqb (row_at effects i).kind 2 k in
          sets.atom true i h k (rw (c, same) at q)
      go (no k) =
          let c : clear ≡ false = kind ∙ ne_eqb (row_at effects i).kind 2 k in
          sets.atom false i h (omega (arith, zero', three, most, k)) (rw (c, same) at q)

  unnamed_below :
      (formulas : List ℕ) (clear : Bool) (v n i : ℕ)
      → v < frame.variables
      → i < n
      → i < frame.effects
      → lacks frame notes clear v i ≡ true
      → Unnamed frame formulas effects clear v i
  unnamed_below formulas clear v zero i b h g q = absurd (omega (arith, h))
  unnamed_below formulas clear v (suc n) i b h g q = go (ℕ_discrete (row_at effects i).kind 3) (ℕ_discrete (row_at effects i).kind 4) (ℕ_discrete (row_at effects i).kind 0) (λ j less here. unnamed_below formulas clear v n j b (omega (arith, less, h)) (omega (arith, less, g)) here)
    where
      go :
          Dec ((row_at effects i).kind ≡ 3)
          → Dec ((row_at effects i).kind ≡ 4)
          → Dec ((row_at effects i).kind ≡ 0)
          → ((j : ℕ) → j < i → lacks frame notes clear v j ≡ true → Unnamed frame formulas effects clear v j)
          → Unnamed frame formulas effects clear v i
      go (yes k) y z lower =
          let l = both_lower frame formulas effects scratch source i g k in
          let x = sets.both clear v i b g k q in
          unnamed_both frame formulas effects scratch source i g clear v k (lower (row_at effects i).a l.0 x.0) (lower (row_at effects i).b l.1 x.1)
      go (no x) (yes k) z lower =
          unnamed_under frame formulas effects scratch source i g clear v k
          (lower (row_at effects i).b (under_lower frame formulas effects scratch source i g k).1 (sets.under clear v i b g k q))
      go (no x) (no y) (yes k) lower = unnamed_empty frame formulas effects scratch source i g clear v k
      go (no x) (no y) (no z) lower =
          unnamed_atom frame formulas effects scratch source i g clear v x y
          (atom_lacked clear v i g z x (known_kind frame formulas effects scratch source i g y) q)

  pub sets_right : AtomSets frame effects notes
  sets_right =
      record {
        words = sets.words;
        alone = λ formulas clear v e b h q. unnamed_below formulas clear v frame.effects e b h h q;
      }
