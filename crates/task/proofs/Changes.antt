-- The state after a step, in place: the marked clears are stored row by row, then the marked sets. It is what `apply` gives.
use Prim.Native.Nat.{ℕ, zero, suc, ◌+◌, ◌≤◌, ◌<◌}
use native.Mathlib.Nat.{not-suc-le-zero}
use native.Mathlib.Numerals.{add-one}
use native.Mathlib.Omega.{arith}
use native.Mathlib.Decide.{ℕ_discrete}
use mathlib.Core.Path.{◌≡◌, refl, sym, ap, ◌∙◌}
use mathlib.Core.Logic.{◌↔◌}
use mathlib.Core.Bool.{Bool, true, false, cond, ◌&&◌, ◌||◌, or-true, or-false, false≢true}
use mathlib.Core.List.{List}
use lib.ListN.{length, get_or, set, length-set}
use lib.Seq.{get_or-set_same, get_or-set_other, ext_get_or}
use lib.Dec.{eqb}
use borrow.Author.Tests.{eqb-true, eq-eqb, ne_eqb}
use Rattle.task.specs.Table.{Row, EffectKind, empty_kind, set_kind, clear_kind, both_kind, under_kind, unknown_effect, effect_kind}
use Rattle.task.specs.Rules.{no_row}
use Rattle.task.specs.Semantics.{Atom, sets, clears, effcond, value_after, apply}
use Rattle.task.specs.Tree.{effect_of}
use Rattle.task.proofs.Bounded.{and_left, and_right, and_both, length_upto, getD_upto}
use Rattle.task.specs.Inner.Rows.{EffectsDown}
use Rattle.task.specs.Inner.Values.{told, bit}
use Rattle.task.proofs.Marks.{or_left, or_right, or_cases, kind_is, row_is, Marked, Found, marked_in, effcond_marked}

-- one of the marked rows below n is the atom
unfoldable pub acted : (marks : List ℕ) → List Row → Atom → ℕ → Bool
acted marks effects l zero = false
acted marks effects l (suc n) = acted marks effects l n || (told marks n && row_is l (get_or effects n no_row))

-- sets, or clears, by polarity
unfoldable pub atom_of : Bool → ℕ → Atom
atom_of true v = sets v
atom_of false v = clears v

unfoldable pub kind_acts : Bool → EffectKind → Bool
kind_acts p empty_kind = false
kind_acts p set_kind = p
kind_acts p clear_kind = cond p false true
kind_acts p both_kind = false
kind_acts p under_kind = false
kind_acts p unknown_effect = false

-- row i, if it is marked and an atom of this polarity, is stored into the state
unfoldable pub row_changes : Bool → (marks : List ℕ) → Row → ℕ → List ℕ → List ℕ
row_changes p marks r i state = cond (told marks i && kind_acts p (effect_kind r.kind)) (set state r.a (bit p)) state

-- so are the rows below n, the lowest first
unfoldable pub changes : Bool → (marks : List ℕ) → List Row → ℕ → List ℕ → List ℕ
changes p marks effects zero state = state
changes p marks effects (suc n) state =
    row_changes p marks (get_or effects n no_row) n (changes p marks effects n state)

-- one more row, for a loop that counts by `+ 1`
pub changes_none : (p : Bool) (marks : List ℕ) (effects : List Row) (state : List ℕ) → changes p marks effects 0 state ≡ state
unfolding changes
changes_none p marks effects state = refl

pub changes_more :
    (p : Bool) (marks : List ℕ) (effects : List Row) (n : ℕ) (state : List ℕ)
    → changes p marks effects (n + 1) state
    ≡ row_changes p marks (get_or effects n no_row) n (changes p marks effects n state)
unfolding changes
changes_more p marks effects n state = rw (add-one n)

pub length_row_changes :
    (p : Bool) (marks : List ℕ) (r : Row) (i : ℕ) (state : List ℕ)
    → length (row_changes p marks r i state) ≡ length state
unfolding row_changes
length_row_changes p marks r i state = go (told marks i && kind_acts p (effect_kind r.kind))
  where
    go : (t : Bool) → length (cond t (set state r.a (bit p)) state) ≡ length state
    go true = length-set state r.a (bit p)
    go false = refl

pub length_changes :
    (p : Bool) (marks : List ℕ) (effects : List Row) (n : ℕ) (state : List ℕ)
    → length (changes p marks effects n state) ≡ length state
unfolding changes
length_changes p marks effects zero state = refl
length_changes p marks effects (suc n) state =
    length_row_changes p marks (get_or effects n no_row) n (changes p marks effects n state)
    ∙ length_changes p marks effects n state

-- a row is the atom of this polarity and variable exactly if its kind has the polarity and it names the variable
row_is_atom :
    (p : Bool) (v : ℕ) (k : EffectKind) (a : ℕ) → kind_is (atom_of p v) k a ≡ (kind_acts p k && eqb v a)
unfolding kind_is atom_of kind_acts
row_is_atom true v empty_kind a = refl
row_is_atom true v set_kind a = refl
row_is_atom true v clear_kind a = refl
row_is_atom true v both_kind a = refl
row_is_atom true v under_kind a = refl
row_is_atom true v unknown_effect a = refl
row_is_atom false v empty_kind a = refl
row_is_atom false v set_kind a = refl
row_is_atom false v clear_kind a = refl
row_is_atom false v both_kind a = refl
row_is_atom false v under_kind a = refl
row_is_atom false v unknown_effect a = refl

-- one row's store, at variable v
stored_at :
    (x y z : Bool) (p : Bool) (v a : ℕ) (state : List ℕ) (old : ℕ)
    → v < length state
    → get_or state v 0 ≡ cond z (bit p) old
    → get_or (cond (x && y) (set state a (bit p)) state) v 0 ≡ cond (z || (x && (y && eqb v a))) (bit p) old
stored_at false y z p v a state old h e = rw (or-false z) e
stored_at true false z p v a state old h e = rw (or-false z) e
stored_at true true z p v a state old h e = go (ℕ_discrete v a)
  where
    go : Dec (v ≡ a) → get_or (set state a (bit p)) v 0 ≡ cond (z || eqb v a) (bit p) old
    go (yes q) =
        rw (eq-eqb v a q, or-true z)
        (ap (λ (x : ℕ). get_or (set state x (bit p)) v 0) (sym q) ∙ get_or-set_same state v (bit p) 0 h)
    go (no m) = rw (ne_eqb v a m, or-false z) (get_or-set_other state a v (bit p) 0 m ∙ e)

pub change_at :
    (p : Bool) (marks : List ℕ) (effects : List Row) (n : ℕ) (state : List ℕ) (v : ℕ)
    → v < length state
    → get_or (changes p marks effects n state) v 0
    ≡ cond (acted marks effects (atom_of p v) n) (bit p) (get_or state v 0)
unfolding changes row_changes acted row_is
change_at p marks effects zero state v h = refl
change_at p marks effects (suc n) state v h =
    let r = get_or effects n no_row in
    rw (row_is_atom p v (effect_kind r.kind) r.a)
    (stored_at (told marks n) (kind_acts p (effect_kind r.kind)) (acted marks effects (atom_of p v) n) p v r.a
    (changes p marks effects n state) (get_or state v 0) (rw (length_changes p marks effects n state) h)
    (change_at p marks effects n state v h))

-- Two tests that pass together are equal.
same_test : (a b : Bool) → (a ≡ true → b ≡ true) → (b ≡ true → a ≡ true) → a ≡ b
same_test true b there back = sym (there refl)
same_test false true there back = back refl
same_test false false there back = refl

module _ (s : List ℕ) (formulas effects : List Row) (root v f : ℕ) (down : EffectsDown v f effects) (marks : List ℕ)
    (in_table : root < length effects)
    (marked : (j : ℕ) → j < length effects → get_or marks j 0 ≡ 1 ↔ Marked s formulas effects root j) where
  acted_found : (l : Atom) (n : ℕ) → n ≤ length effects → acted marks effects l n ≡ true → Found s formulas effects root l
  unfolding acted
  acted_found l zero h e = absurd (false≢true e)
  acted_found l (suc n) h e =
      let is = row_is l (get_or effects n no_row) in
      or_cases (acted marks effects l n) (told marks n && is) (Found s formulas effects root l) e
      (acted_found l n (omega arith))
      (λ both.
      record {
        at = n;
        marked = (marked n h).0 (eqb-true (get_or marks n 0) 1 (and_left (told marks n) is both));
        is_atom = and_right (told marks n) is both;
      })

  acted_at :
      (l : Atom) (n j : ℕ)
      → j < n
      → get_or marks j 0 ≡ 1
      → row_is l (get_or effects j no_row) ≡ true
      → acted marks effects l n ≡ true
  unfolding acted
  acted_at l zero j h e is = absurd (not-suc-le-zero h)
  acted_at l (suc n) j h e is = go (ℕ_discrete j n) (acted_at l n j)
    where
      now : Bool
      now = told marks n && row_is l (get_or effects n no_row)

      go :
          Dec (j ≡ n)
          → (j < n → get_or marks j 0 ≡ 1 → row_is l (get_or effects j no_row) ≡ true → acted marks effects l n ≡ true)
          → acted marks effects l (suc n) ≡ true
      go (yes q) before =
          or_right (acted marks effects l n) now
          (and_both (eq-eqb (get_or marks n 0) 1 (rw q at e)) (rw q at is))
      go (no m) before = or_left (acted marks effects l n) now (before (omega arith) e is)

  -- an atom's condition holds exactly if a marked row is the atom
  pub acted_agrees : (l : Atom) → acted marks effects l (length effects) ≡ effcond s l (effect_of formulas effects root)
  acted_agrees l =
      same_test (acted marks effects l (length effects)) (effcond s l (effect_of formulas effects root))
      (λ e. law.1 (acted_found l (length effects) (omega arith) e))
      (λ e.
      let found = law.0 e in
      let here = marked_in s formulas effects root v f down in_table found.at found.marked in
      acted_at l (length effects) found.at here ((marked found.at here).1 found.marked) found.is_atom)
    where
      law : effcond s l (effect_of formulas effects root) ≡ true ↔ Found s formulas effects root l
      law = effcond_marked s formulas effects root v f down in_table l

  -- each variable gets its value at once
  value_changed :
      (w : ℕ)
      → w < length s
      → let n = length effects in
      get_or (changes true marks effects n (changes false marks effects n s)) w 0
      ≡ value_after s (effect_of formulas effects root) w
  unfolding value_after atom_of bit
  value_changed w b =
      let n = length effects in
      rw (
        change_at true marks effects n (changes false marks effects n s) w
            (rw (length_changes false marks effects n s) b),
        change_at false marks effects n s w b,
        acted_agrees (sets w),
        acted_agrees (clears w),
      )

  -- The law of the step: clears, then sets, over all rows.
  pub changes_apply :
      let n = length effects in
      changes true marks effects n (changes false marks effects n s) ≡ apply s (effect_of formulas effects root)
  unfolding apply
  changes_apply =
      let n = length effects in
      let e = effect_of formulas effects root in
      let cleared = changes false marks effects n s in
      let long : length (changes true marks effects n cleared) ≡ length s =
      length_changes true marks effects n cleared ∙ length_changes false marks effects n s in
      ext_get_or 0 (changes true marks effects n cleared) (apply s e)
      (long ∙ sym (length_upto (length s) (value_after s e)))
      (λ w h.
      let b : w < length s = rw long at h in
      value_changed w b ∙ sym (getD_upto (length s) (value_after s e) w 0 b))
