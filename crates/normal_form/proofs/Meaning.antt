-- What a row that is built means: in corresponding states it holds where the source's formula does. Steps, constants and joins.
use Prim.Native.Nat.{ℕ, ◌+◌, ◌<◌}
use native.Mathlib.Omega.{arith}
use mathlib.Core.Path.{◌≡◌, refl, sym, ap, ap₂, ◌∙◌}
use mathlib.Core.Bool.{Bool, true, false, cond, not, ◌&&◌, ◌||◌}
use mathlib.Core.List.{List}
use lib.ListN.{length, get_or}
use lib.Dec.{eqb}
use borrow.Author.Tests.{eqb-true}
use Rattle.task.specs.Table.{Row, formula_kind}
use Rattle.task.specs.Rules.{no_row}
use Rattle.task.specs.Semantics.{Formula, holds}
use Rattle.task.specs.Tree.{formula_node, formula_of}
use Rattle.task.specs.Corresponding.{Corresponding}
use Rattle.task.proofs.Trees.{formula_unfolds, formula_grows}
use Rattle.task.specs.Inner.Rows.{FormulaKept, FormulasDown}
use Rattle.normal_form.specs.Builder.{St, Got, Build, give, bind, row, Polarity, plain, negated, image_of_false, image_of_true, join_kind, Choice, absorbed, only_left, only_right, own_row, choice, join_as, join, pair}
use Rattle.normal_form.specs.Growth.{Prefix, Grows, Steady}
pub use Rattle.normal_form.proofs.Growth.{longer, prefix_at}
use Rattle.normal_form.proofs.Growth.{prefix_trans, steady_row}
use Rattle.normal_form.proofs.Fine.{Fine, PositiveKind, fine_row, row_below, row_has}

-- A source state of n variables and a compiled state that corresponds to it, once all twins (final) are met.
pub record Seen (n : ℕ) (s : St) : Type 0 where
  pub final : List ℕ
  pub source : List ℕ
  pub compiled : List ℕ
  pub width : length source ≡ n
  pub ahead : Prefix s.twins final
  pub states : Corresponding final source compiled

-- Row a stands, and holds in a compiled state where b is true of the source state.
pub record Means (n : ℕ) (b : List ℕ → Bool) (s : St) (a : ℕ) : Type 0 where
  pub below : a < length s.rows
  pub value : (w : Seen n s) → holds w.compiled (formula_of s.rows a) ≡ b w.source

-- A step's answer: the state after it is fine, and the value is as P says.
pub record Good {A : Type 0} (n : ℕ) (P : St → A → Type 0) (g : Got A) : Type 0 where
  pub fine : Fine n g.st
  pub value : P g.st g.value

abbrev pub seen_before : {n : ℕ} {s t : St} → Grows s t → Seen n t → Seen n s
seen_before g w =
    record {
      final = w.final;
      source = w.source;
      compiled = w.compiled;
      width = w.width;
      ahead = prefix_trans g.twins w.ahead;
      states = w.states;
    }

-- rows stay what they mean when building goes on
pub means_later : {n : ℕ} {b : List ℕ → Bool} {s t : St} {a : ℕ} → Fine n s → Grows s t → Means n b s a → Means n b t a
means_later {n} {b} {s} {t} {a} f g m =
    record {
      below = omega (arith, longer s.rows t.rows g.rows, m.below);
      value =
          λ w.
          rw g.rows.whole
          (ap (holds w.compiled)
          (formula_grows (n + length s.twins) s.rows f.down g.rows.rest a m.below)
          ∙ m.value (seen_before g w));
    }

-- the same under another name of the truth value
pub means_as :
    {n : ℕ} {b : List ℕ → Bool} {s : St} {a : ℕ} (c : List ℕ → Bool)
    → Means n b s a
    → ((w : Seen n s) → b w.source ≡ c w.source)
    → Means n c s a
means_as c m e = record { below = m.below; value = λ w. m.value w ∙ e w }

pub good_bind :
    {A B : Type 0} {n : ℕ} {P : St → A → Type 0} {Q : St → B → Type 0} (m : Build A) (f : A → Build B) (s : St)
    → Good n P (m s)
    → (Fine n (m s).st → P (m s).st (m s).value → Good n Q (f (m s).value (m s).st))
    → Good n Q (bind m f s)
unfolding bind
good_bind m f s g k = k g.fine g.value

pub good_give : {A : Type 0} {n : ℕ} {P : St → A → Type 0} (x : A) (s : St) → Fine n s → P s x → Good n P (give x s)
unfolding give
good_give x s f p = record { fine = f; value = p }

-- a truth value; negated, its opposite
abbrev pub sense : Polarity → Bool → Bool
sense plain b = b
sense negated b = not b

-- "and"; negated, "or"
abbrev pub meet : Polarity → Bool → Bool → Bool
meet plain x y = x && y
meet negated x y = x || y

-- a row by its words
pub row_unfolds :
    (v : ℕ) (rows : List Row) (i : ℕ) (r : Row)
    → FormulasDown v rows
    → i < length rows
    → get_or rows i no_row ≡ r
    → formula_of rows i ≡ formula_node (formula_kind r.kind) r.a (formula_of rows r.a) (formula_of rows r.b)
row_unfolds v rows i r down h e = formula_unfolds v rows down i h ∙ rw e

means_zero : {n : ℕ} {s : St} → Fine n s → Means n (λ source. false) s 0
unfolding formula_kind formula_node holds
means_zero {n} {s} f =
    record {
      below = omega (arith, f.two);
      value =
          λ w.
          ap (holds w.compiled)
          (row_unfolds (n + length s.twins) s.rows 0 (record { kind = 0; a = 0; b = 0 }) f.down
          (omega (arith, f.two)) f.row_false);
    }

means_one : {n : ℕ} {s : St} → Fine n s → Means n (λ source. true) s 1
unfolding formula_kind formula_node holds
means_one {n} {s} f =
    record {
      below = omega (arith, f.two);
      value =
          λ w.
          ap (holds w.compiled)
          (row_unfolds (n + length s.twins) s.rows 1 (record { kind = 1; a = 0; b = 0 }) f.down
          (omega (arith, f.two)) f.row_true);
    }

pub means_falsity : {n : ℕ} {s : St} (p : Polarity) → Fine n s → Means n (λ source. sense p false) s (image_of_false p)
means_falsity plain f = means_zero f
means_falsity negated f = means_one f

pub means_truth : {n : ℕ} {s : St} (p : Polarity) → Fine n s → Means n (λ source. sense p true) s (image_of_true p)
means_truth plain f = means_one f
means_truth negated f = means_zero f

-- one row means one thing
pub means_alike :
    {n : ℕ} {b c : List ℕ → Bool} {s : St} {i j : ℕ}
    → Means n b s i
    → Means n c s j
    → i ≡ j
    → (w : Seen n s)
    → b w.source ≡ c w.source
means_alike {n} {b} {c} {s} m k e w =
    sym (m.value w) ∙ ap (λ (a : ℕ). holds w.compiled (formula_of s.rows a)) e ∙ k.value w

-- Why a join comes out as it does.
data Folded (p : Polarity) (a b : ℕ) : Choice → Type 0 where
  left_false : a ≡ image_of_false p → Folded p a b absorbed
  right_false : b ≡ image_of_false p → Folded p a b absorbed
  left_true : a ≡ image_of_true p → Folded p a b only_right
  right_true : b ≡ image_of_true p → Folded p a b only_left
  neither : Folded p a b own_row

folded : (p : Polarity) (a b : ℕ) → Folded p a b (choice p a b)
unfolding choice
folded p a b = first (eqb a (image_of_false p)) refl
  where
    fourth : (t : Bool) → eqb b (image_of_true p) ≡ t → Folded p a b (cond t only_left own_row)
    fourth true e = right_true (eqb-true b (image_of_true p) e)
    fourth false e = neither

    third : (t : Bool) → eqb a (image_of_true p) ≡ t → Folded p a b (cond t only_right (cond (eqb b (image_of_true p)) only_left own_row))
    third true e = left_true (eqb-true a (image_of_true p) e)
    third false e = fourth (eqb b (image_of_true p)) refl

    second :
        (t : Bool)
        → eqb b (image_of_false p) ≡ t
        → Folded p a b (cond t absorbed (cond (eqb a (image_of_true p)) only_right (cond (eqb b (image_of_true p)) only_left own_row)))
    second true e = right_false (eqb-true b (image_of_false p) e)
    second false e = third (eqb a (image_of_true p)) refl

    first :
        (t : Bool)
        → eqb a (image_of_false p) ≡ t
        → Folded p a b
        (cond t absorbed
        (cond (eqb b (image_of_false p)) absorbed (cond (eqb a (image_of_true p)) only_right (cond (eqb b (image_of_true p)) only_left own_row))))
    first true e = left_false (eqb-true a (image_of_false p) e)
    first false e = second (eqb b (image_of_false p)) refl

meet_false_left : (p : Polarity) (x y : Bool) → x ≡ sense p false → sense p false ≡ meet p x y
meet_false_left plain x y e = rw e
meet_false_left negated x y e = rw e

meet_false_right : (p : Polarity) (x y : Bool) → y ≡ sense p false → sense p false ≡ meet p x y
meet_false_right plain true y e = sym e
meet_false_right plain false y e = refl
meet_false_right negated true y e = refl
meet_false_right negated false y e = sym e

meet_true_left : (p : Polarity) (x y : Bool) → x ≡ sense p true → y ≡ meet p x y
meet_true_left plain x y e = rw e
meet_true_left negated x y e = rw e

meet_true_right : (p : Polarity) (x y : Bool) → y ≡ sense p true → x ≡ meet p x y
meet_true_right plain true y e = sym e
meet_true_right plain false y e = refl
meet_true_right negated true y e = refl
meet_true_right negated false y e = sym e

joined_kept : (p : Polarity) (v i a b : ℕ) → a < i → b < i → FormulaKept v i (record { kind = join_kind p; a = a; b = b })
unfolding formula_kind
joined_kept plain v i a b h g = (h, g)
joined_kept negated v i a b h g = (h, g)

joined_positive : (p : Polarity) → PositiveKind (formula_kind (join_kind p))
unfolding formula_kind
joined_positive plain = tt
joined_positive negated = tt

joined_holds :
    (p : Polarity) (a : ℕ) (c : List ℕ) (q r : Formula)
    → holds c (formula_node (formula_kind (join_kind p)) a q r) ≡ meet p (holds c q) (holds c r)
unfolding formula_kind formula_node holds
joined_holds plain a c q r = refl
joined_holds negated a c q r = refl

module _ {n : ℕ} {x y : List ℕ → Bool} (p : Polarity) (s : St) (a b : ℕ) (f : Fine n s) (l : Means n x s a) (r : Means n y s b) where
  good_fresh : Good n (Means n (λ source. meet p (x source) (y source))) (row (record { kind = join_kind p; a = a; b = b }) s)
  good_fresh =
      let q : Row = record { kind = join_kind p; a = a; b = b } in
      let u = (row q s).st in
      let fine : Fine n u =
      fine_row n s q f (joined_kept p (n + length s.twins) (length s.rows) a b l.below r.below)
      (joined_positive p)
      in
      let l' = means_later f ((steady_row q).grow s) l in
      let r' = means_later f ((steady_row q).grow s) r in
      record {
        fine = fine;
        value =
            record {
              below = row_below q s;
              value =
                  λ w.
                  ap (holds w.compiled)
                  (row_unfolds (n + length u.twins) u.rows (row q s).value q fine.down (row_below q s)
                  (row_has q s))
                  ∙ joined_holds p a w.compiled (formula_of u.rows a) (formula_of u.rows b)
                  ∙ ap₂ (meet p) (l'.value w) (r'.value w);
            };
      }

  good_joined : (c : Choice) → Folded p a b c → Good n (Means n (λ source. meet p (x source) (y source))) (join_as p c a b s)
  unfolding join_as
  good_joined absorbed (left_false e) =
      good_give (image_of_false p) s f
      (means_as _ (means_falsity p f)
      (λ w. meet_false_left p (x w.source) (y w.source) (means_alike l (means_falsity p f) e w)))
  good_joined absorbed (right_false e) =
      good_give (image_of_false p) s f
      (means_as _ (means_falsity p f)
      (λ w. meet_false_right p (x w.source) (y w.source) (means_alike r (means_falsity p f) e w)))
  good_joined only_right (left_true e) =
      good_give b s f
      (means_as _ r (λ w. meet_true_left p (x w.source) (y w.source) (means_alike l (means_truth p f) e w)))
  good_joined only_left (right_true e) =
      good_give a s f
      (means_as _ l (λ w. meet_true_right p (x w.source) (y w.source) (means_alike r (means_truth p f) e w)))
  good_joined own_row neither = good_fresh

  pub good_join : Good n (Means n (λ source. meet p (x source) (y source))) (join p a b s)
  unfolding join
  good_join = good_joined (choice p a b) (folded p a b)

-- a pair: left, right, then the join
pub good_pair :
    {n : ℕ} {x y : List ℕ → Bool} (p : Polarity) (l r : Build ℕ) (s : St)
    → Steady r
    → Good n (Means n x) (l s)
    → ((t : St) → Fine n t → Good n (Means n y) (r t))
    → Good n (Means n (λ source. meet p (x source) (y source))) (pair p l r s)
unfolding pair
good_pair {n} {x} {y} p l r s steady gl gr =
    good_bind {Q = Means n (λ source. meet p (x source) (y source))} l (λ a. bind r (λ b. join p a b)) s gl
    (λ f m.
    let t = (l s).st in
    good_bind {Q = Means n (λ source. meet p (x source) (y source))} r (λ b. join p (l s).value b) t (gr t f)
    (λ f' m'. good_join p (r t).st (l s).value (r t).value f' (means_later f (steady.grow t) m) m'))
