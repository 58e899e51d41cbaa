-- Values, marks, clears, sets: what the passes of a step leave is what `apply` gives. Assumes nothing.
use Prim.Native.Nat.{ℕ, zero, suc, ◌+◌, ◌-◌, ◌≤◌, ◌<◌}
use native.Mathlib.Nat.{add-zero, add-suc}
use native.Mathlib.Omega.{arith}
use mathlib.Core.Path.{◌≡◌, refl, sym, ap, ap₂, ◌∙◌}
use mathlib.Core.Logic.{◌↔◌}
use mathlib.Core.Bool.{Bool, true, false, not, ◌&&◌}
use mathlib.Core.List.{List}
use lib.ListN.{length, get_or}
use lib.Dec.{leb, eqb}
use borrow.Author.Tests.{ne_eqb, eq-eqb, eqb-true, le-leb, lt-leb, leb-true}
use Rattle.task.specs.Bounded.{upto}
use Rattle.task.specs.Table.{Row, row_at, under_kind, effect_kind}
use Rattle.task.specs.Rules.{no_row}
use Rattle.task.specs.Semantics.{holds, apply}
use Rattle.task.specs.Tree.{formula_of, effect_of}
use Rattle.task.proofs.Bounded.{and_left, and_right, and_both, length_upto, getD_upto}
use Rattle.task.proofs.KindNumbers.{by_effect_kind}
use Rattle.task.specs.Inner.Rows.{EffectsDown}
use Rattle.task.proofs.Values.{told_bit}
use Rattle.task.specs.Inner.Values.{bit, told, Values}
use Rattle.task.proofs.Marks as Marks
use Rattle.task.proofs.Changes.{kind_acts, row_changes, changes, changes_apply}
use Rattle.evaluating.specs.Inner.Values.{rows_of}
use Rattle.applying.specs.Inner.Marks.{on, marked, acts, changed, HandsTo, to_left, to_right, to_inner, Reached, at_root, handed, Markable, Marked}
use Rattle.applying.proofs.Marking.{reached_below, inner_below}

on_bit : (b : Bool) → not (eqb (bit b) 0) ≡ b
unfolding bit
on_bit true = refl
on_bit false = refl

-- the number of the kind that sets, or clears
number_of : Bool → ℕ
number_of true = 1
number_of false = 2

kind_acts_number : (p : Bool) (n : ℕ) → kind_acts p (effect_kind n) ≡ eqb n (number_of p)
unfolding kind_acts number_of
kind_acts_number true n =
    by_effect_kind (λ k. kind_acts true k ≡ eqb n 1) n (λ e. rw e) (λ e. rw e) (λ e. rw e) (λ e. rw e) (λ e. rw e)
    (λ h. sym (ne_eqb n 1 (omega arith)))
kind_acts_number false n =
    by_effect_kind (λ k. kind_acts false k ≡ eqb n 2) n (λ e. rw e) (λ e. rw e) (λ e. rw e) (λ e. rw e) (λ e. rw e)
    (λ h. sym (ne_eqb n 2 (omega arith)))

module _
    (words : List ℕ) (e v at root : ℕ) (s : List ℕ) (formulas : List Row) (before after : List ℕ)
    (in_table : root < e)
    (down : EffectsDown v at (rows_of e words))
    (able : Markable words v at root before)
    (known : Values s formulas at before)
    (marking : Marked words at root before after) where
  row_same : (i : ℕ) → i ≤ root → get_or (rows_of e words) i no_row ≡ row_at words i
  row_same i h = getD_upto e (row_at words) i no_row (omega arith)

  holding_same : (a : ℕ) → a < at → on before a ≡ holds s (formula_of formulas a)
  unfolding on
  holding_same a h = rw (known.at a h) (on_bit (holds s (formula_of formulas a)))

  -- the rows that are reached are the rows that the law of effect conditions marks
  hands_law :
      (i j : ℕ)
      → i ≤ root
      → Marks.Marked s formulas (rows_of e words) root i
      → HandsTo words (on before) i j
      → Marks.Marked s formulas (rows_of e words) root j
  hands_law i j h m (to_left q) = rw (← row_same i h) (Marks.left i m (rw (row_same i h) q))
  hands_law i j h m (to_right q) = rw (← row_same i h) (Marks.right i m (rw (row_same i h) q))
  hands_law i j h m (to_inner q t) =
      rw (← row_same i h)
      (Marks.inner i m (rw (row_same i h) q)
      (rw (row_same i h) (sym (holding_same (row_at words i).a (inner_below words v at i (able.rule i h) q)) ∙ t)))

  to_law : (j : ℕ) → Reached words (on before) root j → Marks.Marked s formulas (rows_of e words) root j
  to_law j at_root = Marks.at_root
  to_law j (handed i k r t) = hands_law i j (reached_below words v at root before able (on before) i r) (to_law i r) t

  below : (j : ℕ) → Marks.Marked s formulas (rows_of e words) root j → j ≤ root
  below = Marks.marked_below s formulas (rows_of e words) root v at down (rw (length_upto e (row_at words)) in_table)

  from_law : (j : ℕ) → Marks.Marked s formulas (rows_of e words) root j → Reached words (on before) root j
  from_law j Marks.at_root = at_root
  from_law j (Marks.left i m q) =
      let same = row_same i (below i m) in
      rw same (handed i (row_at words i).a (from_law i m) (to_left (rw same at q)))
  from_law j (Marks.right i m q) =
      let same = row_same i (below i m) in
      rw same (handed i (row_at words i).b (from_law i m) (to_right (rw same at q)))
  from_law j (Marks.inner i m q t) =
      let same = row_same i (below i m) in
      let kind : effect_kind (row_at words i).kind ≡ under_kind = rw same at q in
      let holding : holds s (formula_of formulas (row_at words i).a) ≡ true = rw same at t in
      rw same
      (handed i (row_at words i).b (from_law i m)
      (to_inner kind (holding_same (row_at words i).a (inner_below words v at i (able.rule i (below i m)) kind) ∙ holding)))

  -- the marks as a list of their own, 0 above the root
  mark_of : ℕ → Bool
  mark_of j = leb j root && marked after at j

  marks : List ℕ
  marks = upto e (λ j. bit (mark_of j))

  mark_told : (j : ℕ) → j < e → told marks j ≡ mark_of j
  unfolding marks
  mark_told j h = rw (getD_upto e (λ (i : ℕ). bit (mark_of i)) j 0 h) (told_bit (mark_of j))

  agrees : (j : ℕ) → j < length (rows_of e words) → get_or marks j 0 ≡ 1 ↔ Marks.Marked s formulas (rows_of e words) root j
  unfolding mark_of
  agrees j h = (
    λ q.
        let both : mark_of j ≡ true = sym (mark_told j here) ∙ eq-eqb (get_or marks j 0) 1 q in
        let low : j ≤ root = leb-true j root (and_left (leb j root) (marked after at j) both) in
        to_law j ((marking.acting j low).0 (and_right (leb j root) (marked after at j) both)),
    λ m.
        eqb-true (get_or marks j 0) 1
        (mark_told j here ∙ and_both (le-leb j root (below j m)) ((marking.acting j (below j m)).1 (from_law j m))),
  )
    where
      here : j < e
      here = rw (length_upto e (row_at words)) at h

  acts_agrees :
      (p : Bool) (n : ℕ)
      → n ≤ root
      → (told marks n && kind_acts p (effect_kind (row_at words n).kind)) ≡ acts words (number_of p) after at n
  unfolding acts mark_of
  acts_agrees p n h =
      let mark : told marks n ≡ marked after at n = mark_told n (omega arith) ∙ rw (le-leb n root h) in
      ap₂ ◌&&◌ mark (kind_acts_number p (row_at words n).kind)

  -- up to the root the passes are the same, and above it nothing is marked
  low_rows :
      (p : Bool) (n : ℕ) (t : List ℕ)
      → n ≤ root + 1
      → changes p marks (rows_of e words) n t ≡ changed words (number_of p) (bit p) after at n t
  unfolding changes row_changes changed
  low_rows p zero t h = refl
  low_rows p (suc n) t h =
      rw (row_same n (omega arith), low_rows p n t (omega arith), acts_agrees p n (omega arith))

  high_rows :
      (p : Bool) (d : ℕ) (t : List ℕ)
      → root + 1 + d ≤ e
      → changes p marks (rows_of e words) (root + 1 + d) t ≡ changes p marks (rows_of e words) (root + 1) t
  unfolding changes row_changes mark_of
  high_rows p zero t h = rw add-zero
  high_rows p (suc d) t h =
      let off : told marks (root + 1 + d) ≡ false =
      mark_told (root + 1 + d) (omega arith) ∙ rw (lt-leb (root + 1 + d) root (omega arith)) in
      rw (add-suc (root + 1) d, changes, row_changes, off) (high_rows p d t (omega arith))

  all_rows :
      (p : Bool) (t : List ℕ)
      → changes p marks (rows_of e words) (length (rows_of e words)) t
      ≡ changed words (number_of p) (bit p) after at (root + 1) t
  all_rows p t =
      let n : length (rows_of e words) ≡ root + 1 + (e - (root + 1)) = length_upto e (row_at words) ∙ omega arith in
      ap (λ (m : ℕ). changes p marks (rows_of e words) m t) n
      ∙ high_rows p (e - (root + 1)) t (omega arith)
      ∙ low_rows p (root + 1) t (omega arith)

  -- The law of a step in place: the marked clears, then the marked sets, are what `apply` gives.
  pub applied :
      changed words 1 1 after at (root + 1) (changed words 2 0 after at (root + 1) s)
      ≡ apply s (effect_of formulas (rows_of e words) root)
  unfolding number_of bit
  applied =
      sym
      (all_rows true (changes false marks (rows_of e words) (length (rows_of e words)) s)
      ∙ ap (changed words 1 1 after at (root + 1)) (all_rows false s))
      ∙ changes_apply s formulas (rows_of e words) root v at down marks (rw (length_upto e (row_at words)) in_table) agrees
