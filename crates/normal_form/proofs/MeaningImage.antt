-- An image means its formula, a negated image the formula's negation, in every pair of corresponding states.
use Prim.Native.Nat.{ℕ, zero, suc, ◌+◌, ◌-◌, ◌<◌, ◌≤◌}
use native.Mathlib.Omega.{arith}
use mathlib.Core.Path.{◌≡◌, refl, ap, ◌∙◌}
use mathlib.Core.Bool.{Bool, true, false, not, ◌&&◌, ◌||◌, beq}
use mathlib.Core.List.{List}
use lib.ListN.{length, get_or}
use lib.Dec.{eqb}
use borrow.Author.Tests.{eqb-true}
use Rattle.task.specs.Table.{Row, formula_kind}
use Rattle.task.specs.Semantics.{Formula, falsum, verum, variable, negation, conjunction, disjunction, implication, equivalence, holds}
use Rattle.task.specs.Tree.{formula_node}
use Rattle.normal_form.specs.Builder.{St, Got, bind, place, row, twin, variable_row, twin_row, Polarity, plain, negated, opposite, image_of_false, image_of_true, pair}
use Rattle.normal_form.specs.Image.{literal, image}
use Rattle.normal_form.proofs.Growth.{steady_row, steady_pair}
use Rattle.normal_form.proofs.Steady.{steady_image}
use Rattle.normal_form.proofs.Place.{place_below, place_has}
use Rattle.normal_form.proofs.Fine.{Fine, fine_row, fine_twin, row_below, row_has}
use Rattle.normal_form.proofs.Meaning.{Seen, seen_before, Means, Good, longer, prefix_at, means_as, means_falsity, means_truth, good_give, good_pair, sense, meet, row_unfolds}

-- a formula over n variables
abbrev pub Over : ℕ → Formula → Type 0
Over n falsum = Unit
Over n verum = Unit
Over n (variable v) = v < n
Over n (negation f) = Over n f
Over n (conjunction f g) = Over n f × Over n g
Over n (disjunction f g) = Over n f × Over n g
Over n (implication f g) = Over n f × Over n g
Over n (equivalence f g) = Over n f × Over n g

pub good_as :
    {n : ℕ} {b : List ℕ → Bool} {g : Got ℕ} (c : List ℕ → Bool)
    → Good n (Means n b) g
    → ((source : List ℕ) → b source ≡ c source)
    → Good n (Means n c) g
good_as c good e = record { fine = good.fine; value = means_as c good.value (λ w. e w.source) }

-- De Morgan
pub sense_not : (p : Polarity) (x : Bool) → sense (opposite p) x ≡ sense p (not x)
sense_not plain x = refl
sense_not negated true = refl
sense_not negated false = refl

pub sense_and : (p : Polarity) (x y : Bool) → meet p (sense p x) (sense p y) ≡ sense p (x && y)
sense_and plain x y = refl
sense_and negated true y = refl
sense_and negated false y = refl

pub sense_or : (p : Polarity) (x y : Bool) → meet (opposite p) (sense p x) (sense p y) ≡ sense p (x || y)
sense_or plain x y = refl
sense_or negated true y = refl
sense_or negated false y = refl

sense_implies : (p : Polarity) (x y : Bool) → meet (opposite p) (sense (opposite p) x) (sense p y) ≡ sense p (not x || y)
sense_implies plain x y = refl
sense_implies negated true y = refl
sense_implies negated false y = refl

sense_equivalent :
    (p : Polarity) (x y : Bool)
    → meet negated (meet plain (sense plain x) (sense p y)) (meet plain (sense negated x) (sense (opposite p) y))
    ≡ sense p (beq x y)
sense_equivalent plain true true = refl
sense_equivalent plain true false = refl
sense_equivalent plain false true = refl
sense_equivalent plain false false = refl
sense_equivalent negated true true = refl
sense_equivalent negated true false = refl
sense_equivalent negated false true = refl
sense_equivalent negated false false = refl

-- a row for variable v, whose value in the compiled state is known
good_variable :
    {n : ℕ} {b : List ℕ → Bool} (s : St) (v : ℕ)
    → Fine n s
    → v < n + length s.twins
    → ((w : Seen n s) → eqb (get_or w.compiled v 0) 1 ≡ b w.source)
    → Good n (Means n b) (variable_row v s)
unfolding variable_row row formula_kind formula_node holds
good_variable {n} s v f h e =
    let q : Row = record { kind = 2; a = v; b = 0 } in
    let u = (row q s).st in
    let fine : Fine n u = fine_row n s q f (h, refl) tt in
    record {
      fine = fine;
      value =
          record {
            below = row_below q s;
            value =
                λ w.
                ap (holds w.compiled)
                (row_unfolds (n + length u.twins) u.rows (row q s).value q fine.down (row_below q s)
                (row_has q s))
                ∙ e (seen_before ((steady_row q).grow s) w);
          };
    }

flipped : (b : ℕ) → b ≤ 1 → eqb (1 - b) 1 ≡ not (eqb b 1)
flipped zero h = refl
flipped (suc zero) h = refl
flipped (suc (suc b)) h = absurd (omega arith)

good_twin : {n : ℕ} (s : St) (v : ℕ) → Fine n s → v < n → Good n (Means n (λ source. not (eqb (get_or source v 0) 1))) (twin_row n v s)
unfolding twin_row bind twin
good_twin {n} s v f h =
    let u = (twin v s).st in
    let k = place eqb v s.twins in
    good_variable u (n + k) (fine_twin n s v f h) (omega (arith, place_below eqb v s.twins))
    (λ w.
    let b : k < length u.twins = place_below eqb v s.twins in
    let at : get_or w.final k 0 ≡ v =
    prefix_at u.twins w.final 0 k w.ahead b ∙ place_has eqb v (λ y. eqb-true y v) 0 s.twins
    in
    let value : get_or w.compiled (n + k) 0 ≡ 1 - get_or w.source v 0 =
    rw (← w.width) (w.states.opposite k (omega (arith, longer u.twins w.final w.ahead)) ∙ rw at)
    in
    rw value (flipped (get_or w.source v 0) (w.states.bits v (omega (arith, w.width)))))

pub good_literal : {n : ℕ} (p : Polarity) (s : St) (v : ℕ) → Fine n s → v < n → Good n (Means n (λ source. sense p (eqb (get_or source v 0) 1))) (literal n p v s)
unfolding literal
good_literal {n} plain s v f h =
    good_variable s v f (omega arith) (λ w. ap (λ (x : ℕ). eqb x 1) (w.states.same v (omega (arith, w.width))))
good_literal negated s v f h = good_twin s v f h

pub good_image :
    {n : ℕ} (p : Polarity) (f : Formula) (s : St)
    → Over n f
    → Fine n s
    → Good n (Means n (λ source. sense p (holds source f))) (image n p f s)
unfolding image holds
good_image p falsum s o fine = good_give (image_of_false p) s fine (means_falsity p fine)
good_image p verum s o fine = good_give (image_of_true p) s fine (means_truth p fine)
good_image p (variable v) s o fine = good_literal p s v fine o
good_image {n} p (negation f) s o fine =
    good_as (λ source. sense p (not (holds source f))) (good_image (opposite p) f s o fine)
    (λ source. sense_not p (holds source f))
good_image {n} p (conjunction f g) s o fine =
    good_as (λ source. sense p (holds source f && holds source g))
    (good_pair p (image n p f) (image n p g) s (steady_image n p g) (good_image p f s o.0 fine)
    (λ t m. good_image p g t o.1 m))
    (λ source. sense_and p (holds source f) (holds source g))
good_image {n} p (disjunction f g) s o fine =
    good_as (λ source. sense p (holds source f || holds source g))
    (good_pair (opposite p) (image n p f) (image n p g) s (steady_image n p g) (good_image p f s o.0 fine)
    (λ t m. good_image p g t o.1 m))
    (λ source. sense_or p (holds source f) (holds source g))
good_image {n} p (implication f g) s o fine =
    good_as (λ source. sense p (not (holds source f) || holds source g))
    (good_pair (opposite p) (image n (opposite p) f) (image n p g) s (steady_image n p g)
    (good_image (opposite p) f s o.0 fine) (λ t m. good_image p g t o.1 m))
    (λ source. sense_implies p (holds source f) (holds source g))
good_image {n} p (equivalence f g) s o fine =
    good_as (λ source. sense p (beq (holds source f) (holds source g)))
    (good_pair negated (pair plain (image n plain f) (image n p g)) (pair plain (image n negated f) (image n (opposite p) g)) s
    (steady_pair plain (steady_image n negated f) (steady_image n (opposite p) g))
    (good_pair plain (image n plain f) (image n p g) s (steady_image n p g) (good_image plain f s o.0 fine)
    (λ t m. good_image p g t o.1 m))
    (λ t m.
    good_pair plain (image n negated f) (image n (opposite p) g) t (steady_image n (opposite p) g)
    (good_image negated f t o.0 m) (λ u k. good_image (opposite p) g u o.1 k)))
    (λ source. sense_equivalent p (holds source f) (holds source g))
