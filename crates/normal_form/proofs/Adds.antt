-- Steps that add nothing in a state. If a step adds nothing, neither does any part of it; and what an operator built, building again does not add.
-- Assumes nothing.
use Prim.Native.Nat.{ℕ, zero, suc, ◌+◌, ◌<◌}
use native.Mathlib.Omega.{arith}
use native.Mathlib.Decide.{dec_lt}
use mathlib.Core.Path.{◌≡◌, sym, ap, ap₂, ◌∙◌}
use mathlib.Core.List.{List, [], ◌∷◌, ◌++◌, append-nil}
use lib.ListN.{length, length-append}
use Rattle.task.specs.Table.{Row}
use Rattle.task.specs.Semantics.{Effect, sets, clears}
use Rattle.normal_form.specs.Builder.{St, Got, Build, give, bind, each, pair, Polarity, plain}
use Rattle.normal_form.specs.Growth.{Prefix, Grows, Steady}
use Rattle.normal_form.specs.Conditions.{condition}
use Rattle.normal_form.specs.Operators.{Changes, deletes_of, changes_of}
use Rattle.normal_form.proofs.Growth.{grows_refl, grows_trans, steady_give, steady_bind, steady_join}
use Rattle.normal_form.proofs.Steady.{steady_condition, steady_deletes, steady_changes}

-- the step adds nothing in this state
abbrev pub AddsNothing : {A : Type 0} → Build A → St → Type 0
AddsNothing m s = (m s).st ≡ s

-- Two states that each grow into the other are the same.
no_more : {A : Type 0} (l r : List A) → length (l ++ r) ≡ length l → l ++ r ≡ l
no_more l [] q = append-nil l
no_more l (x ∷ r) q = absurd (omega (arith, q, length-append l (x ∷ r)))

prefix_antisym : {A : Type 0} {l m : List A} → Prefix l m → Prefix m l → l ≡ m
prefix_antisym {l = l} {m = m} p q =
    let longer : length m ≡ length l + length p.rest = ap length p.whole ∙ length-append l p.rest in
    let back : length l ≡ length m + length q.rest = ap length q.whole ∙ length-append m q.rest in
    sym (p.whole ∙ no_more l p.rest (omega (arith, length-append l p.rest, longer, back)))

abbrev made : List Row → List ℕ → St
made rows twins = record { rows = rows; twins = twins }

pub grows_antisym : {s t : St} → Grows s t → Grows t s → s ≡ t
grows_antisym g h = ap₂ made (prefix_antisym g.rows h.rows) (prefix_antisym g.twins h.twins)

-- A step that was taken, or that adds nothing, adds nothing later.
module _ {A : Type 0} {m : Build A} (steady : Steady m) where
  pub nothing_again : {s t : St} → Grows (m s).st t → AddsNothing m t
  nothing_again {s} {t} g = ap (λ (x : Got A). x.st) (steady.again s t g)

  pub nothing_later : {s t : St} → Grows s t → AddsNothing m s → AddsNothing m t
  nothing_later {s} {t} g q = nothing_again {s = s} {t = t} (rw q g)

-- Of m, then what f makes of its value.
module _ {A B : Type 0} {m : Build A} {f : A → Build B} (first : Steady m) (next : (x : A) → Steady (f x)) {s : St} where
  pub nothing_first : AddsNothing (bind m f) s → AddsNothing m s
  unfolding bind
  nothing_first q =
      let back : Grows (m s).st s = rw q at ((next (m s).value).grow (m s).st) in
      grows_antisym back (first.grow s)

  pub nothing_next : AddsNothing (bind m f) s → AddsNothing (f (m s).value) s
  unfolding bind
  nothing_next q =
      let here : (m s).st ≡ s = nothing_first q in
      ap (λ (t : St). (f (m s).value t).st) (sym here) ∙ q

-- Of a pair.
module _ (p : Polarity) {l r : Build ℕ} (left : Steady l) (right : Steady r) {s : St} where
  pub nothing_left : AddsNothing (pair p l r) s → AddsNothing l s
  unfolding pair
  nothing_left q = nothing_first left (λ a. steady_bind right (λ b. steady_join p a b)) q

  pub nothing_right : AddsNothing (pair p l r) s → AddsNothing r s
  unfolding pair
  nothing_right q =
      nothing_first right (λ b. steady_join p (l s).value b) (nothing_next left (λ a. steady_bind right (λ b. steady_join p a b)) q)

-- Of f 0, f 1 .. f (n - 1): each of them, once all are taken.
pub nothing_each :
    {A : Type 0} (n : ℕ) {f : ℕ → Build A} (steady : (k : ℕ) → Steady (f k)) (s : St) {t : St} {v : ℕ}
    → v < n
    → Grows (each n f s).st t
    → AddsNothing (f v) t
unfolding each bind give
nothing_each zero steady s h g = absurd (omega arith)
nothing_each (suc n) {f} steady s {t} {v} h g = go (dec_lt v n) (λ l. nothing_each n steady s l (grows_trans ((steady n).grow (each n f s).st) g))
  where
    go : Dec (v < n) → (v < n → AddsNothing (f v) t) → AddsNothing (f v) t
    go (yes l) below = below l
    go (no l) below =
        let here : v ≡ n = omega arith in
        rw here (nothing_again (steady n) g)

-- What is built of a variable behind A.
steady_cleared :
    (n : ℕ) (e : Effect) (v a : ℕ)
    → Steady
    (bind (condition n plain (clears v) e)
    (λ d. bind (deletes_of n e v a d) (λ k. give {A = Changes} (record { variable = v; adds = a; deletes = k }))))
steady_cleared n e v a =
    steady_bind (steady_condition n plain (clears v) e) (λ d. steady_bind (steady_deletes n e v a d) (λ k. steady_give _))

-- Of the changes of a variable: A and D.
module _ (n : ℕ) (e : Effect) (v : ℕ) {s : St} where
  nothing_set : AddsNothing (changes_of n e v) s → AddsNothing (condition n plain (sets v) e) s
  unfolding changes_of
  nothing_set q = nothing_first (steady_condition n plain (sets v) e) (steady_cleared n e v) q

  nothing_clear : AddsNothing (changes_of n e v) s → AddsNothing (condition n plain (clears v) e) s
  unfolding changes_of
  nothing_clear q =
      nothing_first (steady_condition n plain (clears v) e)
      (λ d. steady_bind (steady_deletes n e v (condition n plain (sets v) e s).value d) (λ k. steady_give _))
      (nothing_next (steady_condition n plain (sets v) e) (steady_cleared n e v) q)

-- Of the changes of all variables, as an operator builds them: the plain conditions of every atom.
module _ (n : ℕ) (e : Effect) {s : St} (q : AddsNothing (each n (changes_of n e)) s) {v : ℕ} (h : v < n) where
  change : AddsNothing (changes_of n e v) s
  change = nothing_each n (steady_changes n e) s h (rw q (grows_refl s))

  pub nothing_sets : AddsNothing (condition n plain (sets v) e) s
  nothing_sets = nothing_set n e v change

  pub nothing_clears : AddsNothing (condition n plain (clears v) e) s
  nothing_clears = nothing_clear n e v change
