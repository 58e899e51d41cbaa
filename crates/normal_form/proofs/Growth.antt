-- Laws of growth: every step of building is steady. Assumes nothing.
use Prim.Native.Nat.{ℕ, zero, suc, ◌+◌, ◌<◌, ◌≤◌}
use native.Mathlib.Omega.{arith}
use mathlib.Core.Path.{◌≡◌, refl, sym, ap, ◌∙◌}
use mathlib.Core.Bool.{Bool, true, false, cond}
use mathlib.Core.List.{List, [], ◌∷◌, ◌++◌, append-nil, append_assoc}
use lib.ListN.{length, get_or, length-append, get_or-append}
use lib.Dec.{eqb}
use borrow.Author.Tests.{eq-eqb}
use Rattle.task.specs.Table.{Row}
use Rattle.normal_form.specs.Builder.{St, Got, Build, give, bind, each, place, including, same_row, row, twin, variable_row, twin_row, Polarity, Choice, absorbed, only_left, only_right, own_row, choice, join_as, join, pair}
use Rattle.normal_form.specs.Growth.{Prefix, Grows, Steady}

module _ {A : Type 0} where
  pub prefix_refl : (l : List A) → Prefix l l
  prefix_refl l = record { rest = []; whole = sym (append-nil l) }

  pub prefix_trans : {k l m : List A} → Prefix k l → Prefix l m → Prefix k m
  prefix_trans {k} p q =
      record {
        rest = p.rest ++ q.rest;
        whole = q.whole ∙ ap (λ (x : List A). x ++ q.rest) p.whole ∙ append_assoc k p.rest q.rest;
      }

  pub longer : (l m : List A) → Prefix l m → length l ≤ length m
  longer l m p = omega (arith, ap length p.whole ∙ length-append l p.rest)

  pub prefix_below : {l m : List A} → Prefix l m → (k : ℕ) → k < length l → k < length m
  prefix_below {l} {m} p k h = omega (arith, longer l m p)

  pub prefix_at : (l m : List A) (d : A) (k : ℕ) → Prefix l m → k < length l → get_or m k d ≡ get_or l k d
  prefix_at l m d k p h = rw p.whole (get_or-append l p.rest d k h)

pub grows_refl : (s : St) → Grows s s
grows_refl s = record { rows = prefix_refl s.rows; twins = prefix_refl s.twins }

pub grows_trans : {s t u : St} → Grows s t → Grows t u → Grows s u
grows_trans g h = record { rows = prefix_trans g.rows h.rows; twins = prefix_trans g.twins h.twins }

-- Find or append, with a test under which each is the same as itself.
module _ {A : Type 0} (same : A → A → Bool) (itself : (x : A) → same x x ≡ true) (x : A) where
  pub kept_prefix : (l : List A) → Prefix l (including same x l)
  unfolding including
  kept_prefix [] = record { rest = x ∷ []; whole = refl }
  kept_prefix (y ∷ ys) = go (same y x) (kept_prefix ys)
    where
      go : (b : Bool) → Prefix ys (including same x ys) → Prefix (y ∷ ys) (cond b (y ∷ ys) (y ∷ including same x ys))
      go true p = prefix_refl (y ∷ ys)
      go false p = record { rest = p.rest; whole = ap {B = List A} (λ r. y ∷ r) p.whole }

  -- in a list that goes on from there x stands at the same place, and nothing is added
  pub place_again : (l rest : List A) → place same x (including same x l ++ rest) ≡ place same x l
  unfolding including place
  place_again [] rest = rw (itself x)
  place_again (y ∷ ys) rest = go (same y x) refl (place_again ys rest)
    where
      go :
          (b : Bool)
          → same y x ≡ b
          → place same x (including same x ys ++ rest) ≡ place same x ys
          → place same x (cond b (y ∷ ys) (y ∷ including same x ys) ++ rest) ≡ cond b 0 (suc (place same x ys))
      go true e h = rw e
      go false e h = rw (e, h)

  pub kept_again : (l rest : List A) → including same x (including same x l ++ rest) ≡ including same x l ++ rest
  unfolding including
  kept_again [] rest = rw (itself x)
  kept_again (y ∷ ys) rest = go (same y x) refl (kept_again ys rest)
    where
      go :
          (b : Bool)
          → same y x ≡ b
          → including same x (including same x ys ++ rest) ≡ including same x ys ++ rest
          → including same x (cond b (y ∷ ys) (y ∷ including same x ys) ++ rest) ≡ cond b (y ∷ ys) (y ∷ including same x ys) ++ rest
      go true e h = rw e
      go false e h = rw (e, h)

  -- the same, of a list that has it as its prefix
  pub place_within : (l : List A) {m : List A} → Prefix (including same x l) m → place same x m ≡ place same x l
  place_within l p = rw p.whole (place_again l p.rest)

  pub kept_within : (l : List A) {m : List A} → Prefix (including same x l) m → including same x m ≡ m
  kept_within l p = rw p.whole (kept_again l p.rest)

pub same_row_itself : (r : Row) → same_row r r ≡ true
unfolding same_row
same_row_itself r =
    rw (eq-eqb r.kind r.kind refl, eq-eqb r.a r.a refl, eq-eqb r.b r.b refl)

pub eqb_itself : (n : ℕ) → eqb n n ≡ true
eqb_itself n = eq-eqb n n refl

pub steady_give : {A : Type 0} (x : A) → Steady (give x)
unfolding give
steady_give x = record { grow = grows_refl; again = λ s t g. refl }

pub steady_bind : {A B : Type 0} {m : Build A} {f : A → Build B} → Steady m → ((x : A) → Steady (f x)) → Steady (bind m f)
unfolding bind
steady_bind {A} {m} {f} p q =
    record {
      grow = λ s. grows_trans (p.grow s) ((q (m s).value).grow (m s).st);
      again = λ s t g.
          let e = p.again s t (grows_trans ((q (m s).value).grow (m s).st) g) in
          ap (λ (r : Got A). f r.value r.st) e ∙ (q (m s).value).again (m s).st t g;
    }

pub steady_row : (r : Row) → Steady (row r)
unfolding row
steady_row r =
    record {
      grow = λ s. record { rows = kept_prefix same_row same_row_itself r s.rows; twins = prefix_refl s.twins };
      again = λ s t g.
          let p : Prefix (including same_row r s.rows) t.rows = g.rows in
          rw (place_within same_row same_row_itself r s.rows p, kept_within same_row same_row_itself r s.rows p);
    }

pub steady_twin : (v : ℕ) → Steady (twin v)
unfolding twin
steady_twin v =
    record {
      grow = λ s. record { rows = prefix_refl s.rows; twins = kept_prefix eqb eqb_itself v s.twins };
      again = λ s t g.
          let p : Prefix (including eqb v s.twins) t.twins = g.twins in
          rw (place_within eqb eqb_itself v s.twins p, kept_within eqb eqb_itself v s.twins p);
    }

pub steady_variable_row : (v : ℕ) → Steady (variable_row v)
unfolding variable_row
steady_variable_row v = steady_row _

pub steady_twin_row : (n v : ℕ) → Steady (twin_row n v)
unfolding twin_row
steady_twin_row n v = steady_bind (steady_twin v) (λ k. steady_variable_row (n + k))

pub steady_joined : (p : Polarity) (c : Choice) (a b : ℕ) → Steady (join_as p c a b)
unfolding join_as
steady_joined p absorbed a b = steady_give _
steady_joined p only_left a b = steady_give a
steady_joined p only_right a b = steady_give b
steady_joined p own_row a b = steady_row _

pub steady_join : (p : Polarity) (a b : ℕ) → Steady (join p a b)
unfolding join
steady_join p a b = steady_joined p (choice p a b) a b

pub steady_pair : (p : Polarity) {l r : Build ℕ} → Steady l → Steady r → Steady (pair p l r)
unfolding pair
steady_pair p l r = steady_bind l (λ a. steady_bind r (λ b. steady_join p a b))

pub steady_each : {A : Type 0} (n : ℕ) {f : ℕ → Build A} → ((k : ℕ) → Steady (f k)) → Steady (each n f)
unfolding each
steady_each zero h = steady_give []
steady_each (suc n) h = steady_bind (steady_each n h) (λ l. steady_bind (h n) (λ x. steady_give _))

-- of two steps, the one that a test picks
pub steady_cond : {A : Type 0} (b : Bool) {l r : Build A} → Steady l → Steady r → Steady (cond b l r)
steady_cond true l r = l
steady_cond false l r = r
