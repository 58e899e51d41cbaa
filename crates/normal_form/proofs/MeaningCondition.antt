-- An effect condition that is built means 002's, in every pair of corresponding states; and D is free of conflict with A.
use Prim.Native.Nat.{ℕ}
use mathlib.Core.Path.{◌≡◌, refl}
use mathlib.Core.Bool.{Bool, true, false, cond, not, ◌&&◌, ◌||◌}
use mathlib.Core.List.{List}
use lib.Dec.{eqb}
use borrow.Author.Tests.{eqb-true}
use Rattle.task.specs.Semantics.{Formula, holds, Atom, sets, clears, Effect, empty, atomic, both, under, same_atom, effcond}
use Rattle.normal_form.specs.Builder.{St, give, bind, join, Polarity, plain, negated, opposite, image_of_false, image_of_true}
use Rattle.normal_form.specs.Image.{image}
use Rattle.normal_form.specs.Conditions.{guarded, condition}
use Rattle.normal_form.specs.Operators.{Changes, deletes_of, changes_of}
use Rattle.normal_form.proofs.Steady.{steady_image, steady_condition, steady_deletes}
use Rattle.normal_form.proofs.Fine.{Fine}
use Rattle.normal_form.proofs.Meaning.{Means, Good, means_as, means_later, means_alike, means_falsity, means_truth, good_bind, good_give, good_join, good_pair, sense}
use Rattle.normal_form.proofs.MeaningImage.{Over, good_as, sense_and, sense_or, good_image}

-- an effect whose formulas are over n variables
abbrev pub EffectOver : ℕ → Effect → Type 0
EffectOver n empty = Unit
EffectOver n (atomic l) = Unit
EffectOver n (both e f) = EffectOver n e × EffectOver n f
EffectOver n (under f e) = Over n f × EffectOver n e

good_atomic :
    {n : ℕ} (p : Polarity) (b : Bool) (s : St)
    → Fine n s
    → Good n (Means n (λ source. sense p b)) (give (cond b (image_of_true p) (image_of_false p)) s)
good_atomic p true s fine = good_give (image_of_true p) s fine (means_truth p fine)
good_atomic p false s fine = good_give (image_of_false p) s fine (means_falsity p fine)

sense_none : (p : Polarity) (x y : Bool) → sense p y ≡ sense p false → sense p y ≡ sense p (x && y)
sense_none p true y e = refl
sense_none p false y e = e

good_guarded :
    {n : ℕ} (x : List ℕ → Bool) (p : Polarity) (f : Formula) (c : ℕ) (s : St)
    → Over n f
    → Fine n s
    → Means n (λ source. sense p (x source)) s c
    → Good n (Means n (λ source. sense p (holds source f && x source))) (guarded n p f c s)
unfolding guarded
good_guarded {n} x p f c s o fine m = go (eqb c (image_of_false p)) refl
  where
    go :
        (b : Bool)
        → eqb c (image_of_false p) ≡ b
        → Good n (Means n (λ source. sense p (holds source f && x source)))
        (cond b (give c) (bind (image n p f) (λ a. join p a c)) s)
    go true e =
        good_give c s fine
        (means_as (λ source. sense p (holds source f && x source)) m
        (λ w.
        sense_none p (holds w.source f) (x w.source)
        (means_alike m (means_falsity p fine) (eqb-true c (image_of_false p) e) w)))
    go false e =
        good_bind {Q = Means n (λ source. sense p (holds source f && x source))} (image n p f) (λ a. join p a c) s
        (good_image p f s o fine)
        (λ fine' m'.
        good_as (λ source. sense p (holds source f && x source))
        (good_join p (image n p f s).st (image n p f s).value c fine' m'
        (means_later fine ((steady_image n p f).grow s) m))
        (λ source. sense_and p (holds source f) (x source)))

pub good_condition :
    {n : ℕ} (p : Polarity) (l : Atom) (e : Effect) (s : St)
    → EffectOver n e
    → Fine n s
    → Good n (Means n (λ source. sense p (effcond source l e))) (condition n p l e s)
unfolding condition effcond
good_condition p l empty s o fine = good_give (image_of_false p) s fine (means_falsity p fine)
good_condition p l (atomic m) s o fine = good_atomic p (same_atom l m) s fine
good_condition {n} p l (both e f) s o fine =
    good_as (λ source. sense p (effcond source l e || effcond source l f))
    (good_pair (opposite p) (condition n p l e) (condition n p l f) s (steady_condition n p l f)
    (good_condition p l e s o.0 fine) (λ t m. good_condition p l f t o.1 m))
    (λ source. sense_or p (effcond source l e) (effcond source l f))
good_condition {n} p l (under f e) s o fine =
    good_bind {Q = Means n (λ source. sense p (holds source f && effcond source l e))} (condition n p l e)
    (λ c. guarded n p f c) s (good_condition p l e s o.1 fine)
    (λ fine' m.
    good_guarded (λ source. effcond source l e) p f (condition n p l e s).value (condition n p l e s).st o.0 fine' m)

-- what frees D of conflict with A
abbrev pub freed : Effect → ℕ → List ℕ → Bool
freed e v source = effcond source (clears v) e && not (effcond source (sets v) e)

freed_alone : (x y : Bool) → x ≡ false → y ≡ (y && not x)
freed_alone x true e = rw e
freed_alone x false e = refl

freed_none : (x y : Bool) → y ≡ false → y ≡ (y && not x)
freed_none x y e = rw e

good_deletes :
    {n : ℕ} (e : Effect) (v a d : ℕ) (s : St)
    → EffectOver n e
    → Fine n s
    → Means n (λ source. effcond source (sets v) e) s a
    → Means n (λ source. effcond source (clears v) e) s d
    → Good n (Means n (freed e v)) (deletes_of n e v a d s)
unfolding deletes_of
good_deletes {n} e v a d s o fine ma md = first (eqb a 0) refl
  where
    second :
        (b : Bool)
        → eqb d 0 ≡ b
        → Good n (Means n (freed e v)) (cond b (give d) (bind (condition n negated (sets v) e) (λ c. join plain d c)) s)
    second true q =
        good_give d s fine
        (means_as (freed e v) md
        (λ w.
        freed_none (effcond w.source (sets v) e) (effcond w.source (clears v) e)
        (means_alike md (means_falsity plain fine) (eqb-true d 0 q) w)))
    second false q =
        good_bind {Q = Means n (freed e v)} (condition n negated (sets v) e) (λ c. join plain d c) s
        (good_condition negated (sets v) e s o fine)
        (λ fine' m.
        good_join plain (condition n negated (sets v) e s).st d (condition n negated (sets v) e s).value fine'
        (means_later fine ((steady_condition n negated (sets v) e).grow s) md) m)

    first :
        (b : Bool)
        → eqb a 0 ≡ b
        → Good n (Means n (freed e v))
        (cond b (give d) (cond (eqb d 0) (give d) (bind (condition n negated (sets v) e) (λ c. join plain d c))) s)
    first true q =
        good_give d s fine
        (means_as (freed e v) md
        (λ w.
        freed_alone (effcond w.source (sets v) e) (effcond w.source (clears v) e)
        (means_alike ma (means_falsity plain fine) (eqb-true a 0 q) w)))
    first false q = second (eqb d 0) refl

-- The changes of variable v under effect e: set where effcond(set v) holds, cleared where effcond(clear v) does and effcond(set v) does not.
pub record ChangesMean (n : ℕ) (e : Effect) (v : ℕ) (s : St) (c : Changes) : Type 0 where
  pub variable : c.variable ≡ v
  pub adds : Means n (λ source. effcond source (sets v) e) s c.adds
  pub deletes : Means n (freed e v) s c.deletes

pub good_changes :
    {n : ℕ} (e : Effect) (v : ℕ) (s : St)
    → EffectOver n e
    → Fine n s
    → Good n (ChangesMean n e v) (changes_of n e v s)
unfolding changes_of bind give
good_changes {n} e v s o fine =
    let ga = good_condition plain (sets v) e s o fine in
    let a = condition n plain (sets v) e s in
    let gd = good_condition plain (clears v) e a.st o ga.fine in
    let d = condition n plain (clears v) e a.st in
    let ma = means_later ga.fine ((steady_condition n plain (clears v) e).grow a.st) ga.value in
    let gk = good_deletes e v a.value d.value d.st o gd.fine ma gd.value in
    record {
      fine = gk.fine;
      value =
          record {
            variable = refl;
            adds = means_later gd.fine ((steady_deletes n e v a.value d.value).grow d.st) ma;
            deletes = gk.value;
          };
    }
