-- Laws of the order of building: what a pair, a condition and a variable's changes build first, what next, and how their join comes out.
-- Assumes nothing.
use Prim.Native.Nat.{ℕ, ◌+◌, ◌≤◌, ◌<◌}
use native.Mathlib.Omega.{arith}
use mathlib.Core.Path.{◌≡◌, refl, sym, ap, ◌∙◌}
use mathlib.Core.Logic.{◌⊎◌, inl, inr}
use mathlib.Core.Bool.{Bool, true, false, cond}
use mathlib.Core.List.{[], ◌∷◌}
use lib.ListN.{length, get_or, length-append}
use lib.Dec.{eqb}
use borrow.Author.Tests.{eqb-true, eqb-false, eq-eqb, ne_eqb}
use Rattle.task.specs.Rules.{no_row}
use Rattle.task.specs.Table.{Row}
use Rattle.task.specs.Semantics.{Formula, falsum, verum, variable, negation, conjunction, disjunction, implication, equivalence, Atom, Effect, empty, atomic, both, under, same_atom, sets, clears}
use Rattle.normal_form.specs.Builder.{St, Got, Build, give, bind, row, including, same_row, variable_row, twin_row, twin, Polarity, plain, negated, opposite, image_of_false, image_of_true, join_kind, Choice, absorbed, only_left, only_right, own_row, choice, join_as, join, pair}
use Rattle.normal_form.specs.Growth.{Grows, Steady}
use Rattle.normal_form.specs.Image.{literal, image}
use Rattle.normal_form.specs.Conditions.{guarded, condition}
use Rattle.normal_form.specs.Operators.{deletes_of, changes_of}
use Rattle.normal_form.proofs.Growth.{longer, prefix_at, steady_pair}
use Rattle.normal_form.proofs.Steady.{steady_image, steady_condition}
use Rattle.normal_form.proofs.Place.{Placed, found, added, placed}
use Rattle.normal_form.proofs.Fine.{row_below, row_has}

-- A step's row stands once it is built, where the two constants do.
pub record Stands (m : Build ℕ) : Type 0 where
  pub stands : (s : St) → 2 ≤ length s.rows → (m s).value < length (m s).st.rows

rows_longer : {s t : St} → Grows s t → length s.rows ≤ length t.rows
rows_longer {s} {t} g = longer s.rows t.rows g.rows

-- A join's row stands where its sides do.
module _ (s : St) (two : 2 ≤ length s.rows) where
  joined_stands :
      (p : Polarity) (c : Choice) (a b : ℕ)
      → a < length s.rows
      → b < length s.rows
      → (join_as p c a b s).value < length (join_as p c a b s).st.rows
  unfolding join_as give
  joined_stands plain absorbed a b h k = omega arith
  joined_stands negated absorbed a b h k = omega arith
  joined_stands p only_left a b h k = h
  joined_stands p only_right a b h k = k
  joined_stands p own_row a b h k = row_below (record { kind = join_kind p; a = a; b = b }) s

  join_stands :
      (p : Polarity) (a b : ℕ)
      → a < length s.rows
      → b < length s.rows
      → (join p a b s).value < length (join p a b s).st.rows
  unfolding join
  join_stands p a b h k = joined_stands p (choice p a b) a b h k

module _ (p : Polarity) {l r : Build ℕ} (ls : Steady l) (rs : Steady r) where
  pair_stands : Stands l → Stands r → Stands (pair p l r)
  unfolding pair bind
  pair_stands lb rb =
      record {
        stands =
            λ s two.
            let x = (l s).st in
            let y = (r x).st in
            let g = rows_longer (ls.grow s) in
            let h = rows_longer (rs.grow x) in
            join_stands y (omega arith) p (l s).value (r x).value (omega (arith, lb.stands s two)) (rb.stands x (omega arith));
      }

-- The row of an image, and of an effect condition, stands.
give_stands : (k : ℕ) → k < 2 → Stands (give k)
unfolding give
give_stands k h = record { stands = λ s two. omega arith }

falsity_stands : (p : Polarity) → Stands (give (image_of_false p))
falsity_stands plain = give_stands 0 (omega arith)
falsity_stands negated = give_stands 1 (omega arith)

truth_stands : (p : Polarity) → Stands (give (image_of_true p))
truth_stands plain = give_stands 1 (omega arith)
truth_stands negated = give_stands 0 (omega arith)

literal_stands : (n : ℕ) (p : Polarity) (v : ℕ) → Stands (literal n p v)
unfolding literal twin_row variable_row bind
literal_stands n plain v = record { stands = λ s two. row_below (record { kind = 2; a = v; b = 0 }) s }
literal_stands n negated v =
    record { stands = λ s two. row_below (record { kind = 2; a = n + (twin v s).value; b = 0 }) (twin v s).st }

pub image_stands : (n : ℕ) (p : Polarity) (f : Formula) → Stands (image n p f)
unfolding image
image_stands n p falsum = falsity_stands p
image_stands n p verum = truth_stands p
image_stands n p (variable v) = literal_stands n p v
image_stands n p (negation f) = image_stands n (opposite p) f
image_stands n p (conjunction f g) =
    pair_stands p (steady_image n p f) (steady_image n p g) (image_stands n p f) (image_stands n p g)
image_stands n p (disjunction f g) =
    pair_stands (opposite p) (steady_image n p f) (steady_image n p g) (image_stands n p f) (image_stands n p g)
image_stands n p (implication f g) =
    pair_stands (opposite p) (steady_image n (opposite p) f) (steady_image n p g) (image_stands n (opposite p) f) (image_stands n p g)
image_stands n p (equivalence f g) =
    pair_stands negated
    (steady_pair plain (steady_image n plain f) (steady_image n p g))
    (steady_pair plain (steady_image n negated f) (steady_image n (opposite p) g))
    (pair_stands plain (steady_image n plain f) (steady_image n p g) (image_stands n plain f) (image_stands n p g))
    (pair_stands plain (steady_image n negated f) (steady_image n (opposite p) g) (image_stands n negated f)
    (image_stands n (opposite p) g))

guarded_stands :
    (n : ℕ) (p : Polarity) (f : Formula) (c : ℕ) (s : St)
    → 2 ≤ length s.rows
    → c < length s.rows
    → (guarded n p f c s).value < length (guarded n p f c s).st.rows
unfolding guarded give bind
guarded_stands n p f c s two h = go (eqb c (image_of_false p))
  where
    go : (b : Bool)
        → (cond b (give c) (bind (image n p f) (λ a. join p a c)) s).value
        < length (cond b (give c) (bind (image n p f) (λ a. join p a c)) s).st.rows
    go true = h
    go false =
        let x = (image n p f s).st in
        let g = rows_longer ((steady_image n p f).grow s) in
        join_stands x (omega arith) p (image n p f s).value c ((image_stands n p f).stands s two) (omega arith)

pub condition_stands : (n : ℕ) (p : Polarity) (l : Atom) (e : Effect) → Stands (condition n p l e)
unfolding condition bind
condition_stands n p l empty = falsity_stands p
condition_stands n p l (atomic m) = go (same_atom l m)
  where
    go : (b : Bool) → Stands (give (cond b (image_of_true p) (image_of_false p)))
    go true = truth_stands p
    go false = falsity_stands p
condition_stands n p l (both e f) =
    pair_stands (opposite p) (steady_condition n p l e) (steady_condition n p l f) (condition_stands n p l e)
    (condition_stands n p l f)
condition_stands n p l (under f e) =
    record {
      stands =
          λ s two.
          let x = condition n p l e s in
          let g = rows_longer ((steady_condition n p l e).grow s) in
          guarded_stands n p f x.value x.st (omega arith) ((condition_stands n p l e).stands s two);
    }

-- A value stays what it is in every later state.
pub value_later : {A : Type 0} {m : Build A} → Steady m → (s u : St) → Grows (m s).st u → (m u).value ≡ (m s).value
value_later {A} h s u g = ap (λ (r : Got A). r.value) (h.again s u g)

-- Of two steps, one after the other, the row of the second that is new behind the first has the higher number: in every later state.
pub lower_number :
    {first second : Build ℕ} (s u : St)
    → Steady first
    → Steady second
    → Stands first
    → 2 ≤ length s.rows
    → Grows (first s).st u
    → Grows (second (first s).st).st u
    → length (first s).st.rows ≤ (second (first s).st).value
    → (first u).value < (second u).value
lower_number {first} {second} s u fs ss fb two g h new =
    omega (arith, fb.stands s two, value_later fs s u g, value_later ss (first s).st u h)

-- How a join comes out. Where either side is a constant it folds, and nothing is added.
module _ (p : Polarity) (a b : ℕ) where
  own_choice : 2 ≤ a → 2 ≤ b → choice p a b ≡ own_row
  unfolding choice
  own_choice h k = go p
    where
      go : (q : Polarity) → choice q a b ≡ own_row
      go plain = rw (ne_eqb a 0 (omega arith), ne_eqb b 0 (omega arith), ne_eqb a 1 (omega arith), ne_eqb b 1 (omega arith))
      go negated = rw (ne_eqb a 1 (omega arith), ne_eqb b 1 (omega arith), ne_eqb a 0 (omega arith), ne_eqb b 0 (omega arith))

  -- a row of its own joins rows that are no constants
  own_sides : choice p a b ≡ own_row → (2 ≤ a) × (2 ≤ b)
  unfolding choice
  own_sides e = go (eqb a (image_of_false p)) (eqb b (image_of_false p)) (eqb a (image_of_true p)) (eqb b (image_of_true p)) refl refl refl refl e
    where
      past : (q : Polarity) (k : ℕ) → (k ≡ image_of_false q → ⊥) → (k ≡ image_of_true q → ⊥) → 2 ≤ k
      past plain k h i = omega arith
      past negated k h i = omega arith

      go :
          (af bf at bt : Bool)
          → eqb a (image_of_false p) ≡ af
          → eqb b (image_of_false p) ≡ bf
          → eqb a (image_of_true p) ≡ at
          → eqb b (image_of_true p) ≡ bt
          → cond af absorbed (cond bf absorbed (cond at only_right (cond bt only_left own_row))) ≡ own_row
          → (2 ≤ a) × (2 ≤ b)
      go true bf at bt w x y z e = absurd (let q : ◌≡◌ {A = ℕ} 0 1 = cc in omega arith)
      go false true at bt w x y z e = absurd (let q : ◌≡◌ {A = ℕ} 0 1 = cc in omega arith)
      go false false true bt w x y z e = absurd (let q : ◌≡◌ {A = ℕ} 0 1 = cc in omega arith)
      go false false false true w x y z e = absurd (let q : ◌≡◌ {A = ℕ} 0 1 = cc in omega arith)
      go false false false false w x y z e = (
        past p a (eqb-false a (image_of_false p) w) (eqb-false a (image_of_true p) y),
        past p b (eqb-false b (image_of_false p) x) (eqb-false b (image_of_true p) z),
      )

  module _ (s : St) where
    -- at most one row is added, and no twin
    pub join_no_twin : (join p a b s).st.twins ≡ s.twins
    unfolding join join_as give row
    join_no_twin = go (choice p a b)
      where
        go : (c : Choice) → (join_as p c a b s).st.twins ≡ s.twins
        go absorbed = refl
        go only_left = refl
        go only_right = refl
        go own_row = refl

    pub join_one_row : length (join p a b s).st.rows ≤ length s.rows + 1
    unfolding join join_as give row
    join_one_row = go (choice p a b)
      where
        r : Row
        r = record { kind = join_kind p; a = a; b = b }

        put : Placed same_row r s.rows → length (including same_row r s.rows) ≤ length s.rows + 1
        put (found h k) = rw k (omega arith)
        put (added h k f) = rw k (omega (arith, length-append s.rows (r ∷ [])))

        go : (c : Choice) → length (join_as p c a b s).st.rows ≤ length s.rows + 1
        go absorbed = omega arith
        go only_left = omega arith
        go only_right = omega arith
        go own_row = put (placed same_row r s.rows)

    -- none where either side is a constant
    pub join_adds_nothing : (2 ≤ a → 2 ≤ b → ⊥) → (join p a b s).st ≡ s
    unfolding join join_as give
    join_adds_nothing folds = go (choice p a b) refl
      where
        go : (c : Choice) → choice p a b ≡ c → (join_as p c a b s).st ≡ s
        go absorbed e = refl
        go only_left e = refl
        go only_right e = refl
        go own_row e = absurd (folds (own_sides e).0 (own_sides e).1)

    -- Else its row names a, then b, in every later state.
    pub join_own_row :
        (u : St)
        → Grows (join p a b s).st u
        → 2 ≤ a
        → 2 ≤ b
        → get_or u.rows (join p a b s).value no_row ≡ record { kind = join_kind p; a = a; b = b }
    join_own_row u g h k =
        prefix_at (join p a b s).st.rows u.rows no_row (join p a b s).value g.rows below ∙ here
      where
        below : (join p a b s).value < length (join p a b s).st.rows
        below = unfold join join_as in rw (own_choice h k) (row_below (record { kind = join_kind p; a = a; b = b }) s)

        here : get_or (join p a b s).st.rows (join p a b s).value no_row ≡ record { kind = join_kind p; a = a; b = b }
        here = unfold join join_as in rw (own_choice h k) (row_has (record { kind = join_kind p; a = a; b = b }) s)

    -- false and f, f and false give false; true and f, f and true give f; dually for or
    pub join_zero_left : a ≡ image_of_false p → (join p a b s).value ≡ image_of_false p
    unfolding join join_as choice give
    join_zero_left e = rw (eq-eqb a (image_of_false p) e)

    pub join_zero_right : b ≡ image_of_false p → (join p a b s).value ≡ image_of_false p
    unfolding join join_as choice give
    join_zero_right e = go (eqb a (image_of_false p)) refl
      where
        go : (q : Bool) → eqb a (image_of_false p) ≡ q → (join p a b s).value ≡ image_of_false p
        go true w = rw w
        go false w = rw (w, eq-eqb b (image_of_false p) e)

    other : (q : Polarity) (k : ℕ) → k ≡ image_of_true q → k ≡ image_of_false q → ⊥
    other plain k e f = omega arith
    other negated k e f = omega arith

    pub join_one_left : a ≡ image_of_true p → (join p a b s).value ≡ b
    unfolding join join_as choice give
    join_one_left e = go (eqb b (image_of_false p)) refl
      where
        go : (q : Bool) → eqb b (image_of_false p) ≡ q → (join p a b s).value ≡ b
        go true w = rw (ne_eqb a (image_of_false p) (other p a e), w) (sym (eqb-true b (image_of_false p) w))
        go false w = rw (ne_eqb a (image_of_false p) (other p a e), w, eq-eqb a (image_of_true p) e)

    pub join_one_right : b ≡ image_of_true p → (join p a b s).value ≡ a
    unfolding join join_as choice give
    join_one_right e = go (eqb a (image_of_false p)) (eqb a (image_of_true p)) refl refl
      where
        go : (q r : Bool) → eqb a (image_of_false p) ≡ q → eqb a (image_of_true p) ≡ r → (join p a b s).value ≡ a
        go true r w x = rw w (sym (eqb-true a (image_of_false p) w))
        go false true w x = rw (w, ne_eqb b (image_of_false p) (other p b e), x) (e ∙ sym (eqb-true a (image_of_true p) x))
        go false false w x = rw (w, ne_eqb b (image_of_false p) (other p b e), x, eq-eqb b (image_of_true p) e)

-- A pair: left, right, then their join.
module _ (p : Polarity) (l r : Build ℕ) (s : St) where
  pub pair_is : pair p l r s ≡ join p (l s).value (r (l s).st).value (r (l s).st).st
  unfolding pair bind
  pair_is = refl

-- An effect under a formula: the inner effect first. If it is false (dually true), nothing else; else the formula's image, then their join.
module _ (n : ℕ) (p : Polarity) (l : Atom) (f : Formula) (e : Effect) (s : St) where
  pub under_false : (condition n p l e s).value ≡ image_of_false p → condition n p l (under f e) s ≡ condition n p l e s
  unfolding condition bind guarded give
  under_false q = rw (eq-eqb (condition n p l e s).value (image_of_false p) q)

  pub under_is :
      ((condition n p l e s).value ≡ image_of_false p → ⊥)
      → let c = condition n p l e s in
      let a = image n p f c.st in
      condition n p l (under f e) s ≡ join p a.value c.value a.st
  unfolding condition bind guarded
  under_is q = rw (ne_eqb (condition n p l e s).value (image_of_false p) q)

-- A variable's changes: A, then D; if neither is row 0, then N and the join of D and N.
module _ (n : ℕ) (e : Effect) (v : ℕ) (s : St) where
  abbrev A : Got ℕ
  A = condition n plain (sets v) e s

  abbrev D : Got ℕ
  D = condition n plain (clears v) e A.st

  abbrev N : Got ℕ
  N = condition n negated (sets v) e D.st

  pub changes_alone :
      (A.value ≡ 0) ⊎ (D.value ≡ 0)
      → changes_of n e v s ≡ record { value = record { variable = v; adds = A.value; deletes = D.value }; st = D.st }
  unfolding changes_of deletes_of bind give
  changes_alone (inl q) = rw (eq-eqb A.value 0 q)
  changes_alone (inr q) = go (eqb A.value 0) refl
    where
      go : (b : Bool)
          → eqb A.value 0 ≡ b
          → changes_of n e v s ≡ record { value = record { variable = v; adds = A.value; deletes = D.value }; st = D.st }
      go true w = rw w
      go false w = rw (w, eq-eqb D.value 0 q)

  pub changes_joined :
      (A.value ≡ 0 → ⊥)
      → (D.value ≡ 0 → ⊥)
      → let k = join plain D.value N.value N.st in
      changes_of n e v s ≡ record { value = record { variable = v; adds = A.value; deletes = k.value }; st = k.st }
  unfolding changes_of deletes_of bind give
  changes_joined q r = rw (ne_eqb A.value 0 q, ne_eqb D.value 0 r)
