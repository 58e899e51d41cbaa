-- Changes kept one behind another. Assumes nothing.
use Prim.Native.Nat.{ℕ, zero, suc, ◌+◌, ◌*◌, ◌≤◌, ◌<◌}
use native.Mathlib.Omega.{arith}
use mathlib.Core.Path.{◌≡◌, refl, sym, ap, ap₂, ◌∙◌}
use mathlib.Core.Bool.{Bool, true, false, cond}
use mathlib.Core.List.{List, [], ◌∷◌, ◌++◌, append_assoc, append-nil}
use lib.ListN.{length, length-append}
use Rattle.task.specs.Bounded.{upto}
use Rattle.task.specs.Table.{Row, row_at}
use Rattle.normal_form.specs.Operators.{Changes}
use Rattle.task.specs.Inner.Stored.{three}
use Rattle.formula_builder.specs.Inner.Index.{three as row_stored}
use Rattle.formula_builder.proofs.Stored.{upto_same, three_other, three_before, three_at}
use Rattle.change_records.specs.Inner.Recorded.{idle, acting, change_at, changes_from, Recorded}

pub acting_append : (cs ds : List Changes) → acting (cs ++ ds) ≡ acting cs ++ acting ds
unfolding acting
acting_append [] ds = refl
acting_append (c ∷ cs) ds = rw (acting_append cs ds) (go (idle c) (acting cs) (acting ds))
  where
    go : (b : Bool) (l m : List Changes) → cond b (l ++ m) (c ∷ (l ++ m)) ≡ cond b l (c ∷ l) ++ m
    go true l m = refl
    go false l m = refl

one_idle : (c : Changes) → idle c ≡ true → acting (c ∷ []) ≡ []
unfolding acting
one_idle c e = rw e

one_acts : (c : Changes) → idle c ≡ false → acting (c ∷ []) ≡ c ∷ []
unfolding acting
one_acts c e = rw e

upto_add : {A : Type 0} (a b : ℕ) (f : ℕ → A) → upto (a + b) f ≡ upto a f ++ upto b (λ i. f (a + i))
unfolding upto
upto_add a zero f =
    let e : a + 0 ≡ a = omega arith in
    rw e (sym (append-nil (upto a f)))
upto_add {A} a (suc b) f =
    let e : a + suc b ≡ suc (a + b) = omega arith in
    ap (λ (n : ℕ). upto n f) e
    ∙ ap (λ (l : List A). l ++ (f (a + b) ∷ [])) (upto_add a b f)
    ∙ append_assoc (upto a f) (upto b (λ i. f (a + i))) (f (a + b) ∷ [])

-- rows behind one that is stored
pub three_after : (t : List ℕ) (n : ℕ) (r : Row) (k : ℕ) → n < k → row_at (row_stored t n r) k ≡ row_at t k
unfolding row_at
three_after t n r k h =
    λ i.
    record {
      kind = three_other t n r (3 * k) (omega arith) (omega arith) (omega arith) i;
      a = three_other t n r (3 * k + 1) (omega arith) (omega arith) (omega arith) i;
      b = three_other t n r (3 * k + 2) (omega arith) (omega arith) (omega arith) i;
    }

-- a change that stands as it stood
same_change : (k : ℕ) (l m : List ℕ) → row_at m (256 + k) ≡ row_at l (256 + k) → change_at m k ≡ change_at l k
unfolding change_at
same_change k l m e = ap (λ (r : Row). record { variable = r.kind; adds = r.a; deletes = r.b }) e

pub same_changes :
    (from n to : ℕ) (l m : List ℕ)
    → from + n ≤ to
    → ((j : ℕ) → 256 ≤ j → j < 256 + to → row_at m j ≡ row_at l j)
    → changes_from m from n ≡ changes_from l from n
unfolding changes_from
same_changes from n to l m h same =
    upto_same n (λ i. change_at m (from + i)) (λ i. change_at l (from + i))
    (λ i b. same_change (from + i) l m (same (256 + (from + i)) (omega arith) (omega arith)))

change_is :
    (k : ℕ) (l : List ℕ) (c : Changes)
    → row_at l (256 + k) ≡ record { kind = c.variable; a = c.adds; b = c.deletes }
    → change_at l k ≡ c
unfolding change_at
change_is k l c e = ap (λ (r : Row). record { variable = r.kind; adds = r.a; deletes = r.b }) e

one_stands :
    (from : ℕ) (l : List ℕ) (c : Changes)
    → row_at l (256 + from) ≡ record { kind = c.variable; a = c.adds; b = c.deletes }
    → changes_from l from 1 ≡ c ∷ []
unfolding changes_from upto
one_stands from l c e =
    let here : from + 0 ≡ from = omega arith in
    ap (λ (x : Changes). x ∷ []) (ap (change_at l) here ∙ change_is from l c e)

module _ (from : ℕ) (l : List ℕ) where
  pub recorded_none : Recorded [] from l l from
  unfolding acting changes_from upto
  recorded_none = record { count = omega arith; there = λ _. refl; below = λ j _. refl; behind = λ j _. refl }

  module _ (c : Changes) where
    pub recorded_idle : idle c ≡ true → Recorded (c ∷ []) from l l from
    recorded_idle e =
        let n = one_idle c e in
        record {
          count = omega (arith, ap length n);
          there = λ _. rw n (unfold changes_from upto in refl);
          below = λ j _. refl;
          behind = λ j _. refl;
        }

    pub recorded_past : idle c ≡ false → 2048 ≤ from → Recorded (c ∷ []) from l l (from + 1)
    recorded_past e h =
        let n = one_acts c e in
        record {
          count = omega (arith, ap length n);
          there = λ q. absurd (omega arith);
          below = λ j _. refl;
          behind = λ j _. refl;
        }

    pub recorded_one :
        idle c ≡ false
        → 3 * (256 + from) + 3 ≤ length l
        → Recorded (c ∷ []) from l (three l (256 + from) c.variable c.adds c.deletes) (from + 1)
    recorded_one e room =
        let n = one_acts c e in
        record {
          count = omega (arith, ap length n);
          there = λ _. rw n it-stands;
          below = λ j h. three_before l (256 + from) row j h;
          behind = λ j h. three_after l (256 + from) row j (omega arith);
        }
      where
        row : Row
        row = record { kind = c.variable; a = c.adds; b = c.deletes }

        it-stands : changes_from (three l (256 + from) c.variable c.adds c.deletes) from (length (c ∷ [])) ≡ c ∷ []
        it-stands = one_stands from (three l (256 + from) c.variable c.adds c.deletes) c (three_at l (256 + from) row room)

-- one more at most
pub recorded_few : {c : Changes} {from to : ℕ} {l m : List ℕ} → Recorded (c ∷ []) from l m to → to ≤ from + 1
recorded_few {c} {from} {to} r = go (idle c) refl
  where
    go : (b : Bool) → idle c ≡ b → to ≤ from + 1
    go true e = omega (arith, r.count, ap length (one_idle c e))
    go false e = omega (arith, r.count, ap length (one_acts c e))

-- changes, then more
pub recorded_more :
    {cs ds : List Changes} {from mid to : ℕ} {l m n : List ℕ}
    → Recorded cs from l m mid
    → Recorded ds mid m n to
    → Recorded (cs ++ ds) from l n to
recorded_more {cs} {ds} {from} {mid} {to} {l} {m} {n} x y =
    record {
      count = omega (arith, x.count, y.count, many);
      there = λ h. rw (acting_append cs ds) (all h);
      below = λ j h. y.below j (omega (arith, x.count)) ∙ x.below j h;
      behind = λ j h. y.behind j h ∙ x.behind j (omega (arith, y.count));
    }
  where
    many : length (acting (cs ++ ds)) ≡ length (acting cs) + length (acting ds)
    many = ap length (acting_append cs ds) ∙ length-append (acting cs) (acting ds)

    first : to ≤ 2048 → changes_from n from (length (acting cs)) ≡ acting cs
    first h =
        same_changes from (length (acting cs)) mid m n (omega (arith, x.count)) (λ j _ b. y.below j b)
        ∙ x.there (omega (arith, y.count))

    second : to ≤ 2048 → changes_from n (from + length (acting cs)) (length (acting ds)) ≡ acting ds
    second h = rw (sym x.count) (y.there h)

    apart :
        (a b : ℕ) → changes_from n from (a + b) ≡ changes_from n from a ++ changes_from n (from + a) b
    apart a b =
        unfold changes_from in
        upto_add a b (λ i. change_at n (from + i))
        ∙ ap (λ (k : List Changes). upto a (λ i. change_at n (from + i)) ++ k)
        (upto_same b (λ i. change_at n (from + (a + i))) (λ i. change_at n (from + a + i))
        (λ i _. ap (change_at n) (omega arith)))

    all : to ≤ 2048 → changes_from n from (length (acting cs ++ acting ds)) ≡ acting cs ++ acting ds
    all h =
        rw (length-append (acting cs) (acting ds))
        (apart (length (acting cs)) (length (acting ds))
        ∙ ap₂ (λ (a b : List Changes). a ++ b) (first h) (second h))
