-- Laws of marking from the root down: how it begins, what a turn of the loop leaves, and what it comes to. Assumes nothing.
use Prim.Native.Nat.{ℕ, ◌+◌, ◌-◌, ◌≤◌, ◌<◌}
use native.Mathlib.Omega.{arith}
use native.Mathlib.Decide.{dec_lt}
use mathlib.Core.Path.{◌≡◌, refl, sym, ap, subst, ◌∙◌}
use mathlib.Core.Logic.{⊎_elim}
use mathlib.Core.Bool.{Bool, true, false≢true}
use mathlib.Core.List.{List, ◌++◌}
use lib.ListN.{length, get_or, set, take, drop, replicate, length-set, length-drop, length-replicate, get_or-replicate, get_or-append}
use lib.Seq.{get_or-set_same, get_or-set_other, get_or-take, get_or-drop, get_or-append-add, length-take-le, ext_get_or}
use borrow.Rule.Slice.PartMut.{mid_of, put_mid, same_len_mid}
use Rattle.task.specs.Table.{row_at, EffectKind, both_kind, under_kind, effect_kind}
use Rattle.task.specs.Rules.{EffectRule}
use Rattle.applying.specs.Inner.Marks.{on, marked, HandsTo, to_left, to_right, to_inner, Reached, at_root, handed, Markable, Marked, HandedOn, Begun}
use Rattle.applying.proofs.Handing.{on_same, not_zero_on, zero_off}

module _ (at root : ℕ) (s ys : List ℕ) (room : at + root < length s) where
  mid_length : length (mid_of at (at + root - at) s) ≡ root
  mid_length =
      length-take-le (at + root - at) (drop at s) (omega (arith, length-drop at s)) ∙ omega arith

  pub begun :
      ys ≡ replicate (length (mid_of at (at + root - at) s)) 0
      → Begun at root s (set (put_mid at (at + root - at) s ys) (at + root) 1)
  begun e =
      record {
        same = length-set whole (at + root) 1 ∙ long;
        values =
            λ i l.
            get_or-set_other whole (at + root) i 1 0 (omega arith)
            ∙ get_or-append (take at s) rest 0 i (omega (arith, front))
            ∙ get_or-take at s i 0 l;
        root_marked =
            not_zero_on (set whole (at + root) 1) (at + root)
            (λ z. let one : ◌≡◌ {A = ℕ} 1 0 = sym (get_or-set_same whole (at + root) 1 0 (omega (arith, long))) ∙ z in omega arith);
        only =
            λ k l.
            zero_off (set whole (at + root) 1) (at + k)
            (get_or-set_other whole (at + root) (at + k) 1 0 (omega arith) ∙ inside k l);
        bits = λ k l. bit_at k l (dec_lt k root);
        behind = λ k l. get_or-set_other whole (at + root) (at + k) 1 0 (omega arith) ∙ past k (omega arith);
      }
    where
      rest : List ℕ
      rest = ys ++ drop (at + root - at) (drop at s)

      whole : List ℕ
      whole = put_mid at (at + root - at) s ys

      front : length (take at s) ≡ at
      front = length-take-le at s (omega arith)

      long : length whole ≡ length s
      long = same_len_mid at (at + root - at) s ys (ap length e ∙ length-replicate (length (mid_of at (at + root - at) s)) 0)

      many : length ys ≡ root
      many = ap length e ∙ length-replicate (length (mid_of at (at + root - at) s)) 0 ∙ mid_length

      inside : (k : ℕ) → k < root → get_or whole (at + k) 0 ≡ 0
      inside k l =
          ap (λ (n : ℕ). get_or whole (n + k) 0) (sym front)
          ∙ get_or-append-add (take at s) rest k 0
          ∙ get_or-append ys (drop (at + root - at) (drop at s)) 0 k (omega (arith, many))
          ∙ rw e (get_or-replicate (length (mid_of at (at + root - at) s)) k 0 0 (omega (arith, mid_length)))

      bit_at : (k : ℕ) → k ≤ root → Dec (k < root) → get_or (set whole (at + root) 1) (at + k) 0 ≤ 1
      bit_at k l (yes b) = rw (get_or-set_other whole (at + root) (at + k) 1 0 (omega arith), inside k b) (omega arith)
      bit_at k l (no b) =
          let q : k ≡ root = omega arith in
          rw (q, get_or-set_same whole (at + root) 1 0 (omega (arith, long))) (omega arith)

      past : (k : ℕ) → root ≤ k → get_or whole (at + k) 0 ≡ get_or s (at + k) 0
      past k l =
          let behind : k ≡ length ys + (k - root) = omega (arith, many) in
          let place : at + (at + root - at + (k - root)) ≡ at + k = omega arith in
          ap (λ (n : ℕ). get_or whole (n + k) 0) (sym front)
          ∙ get_or-append-add (take at s) rest k 0
          ∙ ap (λ (n : ℕ). get_or rest n 0) behind
          ∙ get_or-append-add ys (drop (at + root - at) (drop at s)) (k - root) 0
          ∙ get_or-drop (at + root - at) (drop at s) (k - root) 0
          ∙ get_or-drop at s (at + root - at + (k - root)) 0
          ∙ ap (λ (n : ℕ). get_or s n 0) place

-- the rows that a row hands on to are lower, and with other truth values that agree below the bound they are the same
module _ (words : List ℕ) (v at k : ℕ) (rule : EffectRule v at k (effect_kind (row_at words k).kind) (row_at words k).a (row_at words k).b) where
  rule_as : (kind : EffectKind) → effect_kind (row_at words k).kind ≡ kind → EffectRule v at k kind (row_at words k).a (row_at words k).b
  rule_as kind e = subst (λ (x : EffectKind). EffectRule v at k x (row_at words k).a (row_at words k).b) e rule

  pub inner_below : effect_kind (row_at words k).kind ≡ under_kind → (row_at words k).a < at
  inner_below e = (rule_as under_kind e).0

  hands_below : (h : ℕ → Bool) (j : ℕ) → HandsTo words h k j → j < k
  hands_below h j (to_left e) = (rule_as both_kind e).0
  hands_below h j (to_right e) = (rule_as both_kind e).1
  hands_below h j (to_inner e t) = (rule_as under_kind e).1

  hands_same : (h g : ℕ → Bool) → ((i : ℕ) → i < at → h i ≡ g i) → (j : ℕ) → HandsTo words h k j → HandsTo words g k j
  hands_same h g same j (to_left e) = to_left e
  hands_same h g same j (to_right e) = to_right e
  hands_same h g same j (to_inner e t) = to_inner e (sym (same (row_at words k).a (inner_below e)) ∙ t)

-- what is reached is no higher than the root
module _ (words : List ℕ) (v at root : ℕ) (s : List ℕ) (m : Markable words v at root s) where
  pub reached_below : (h : ℕ → Bool) (k : ℕ) → Reached words h root k → k ≤ root
  reached_below h k at_root = omega arith
  reached_below h k (handed i j r t) =
      let l : i ≤ root = reached_below h i r in
      omega (arith, hands_below words v at i (m.rule i l) h k t)

  reached_same : (h g : ℕ → Bool) → ((i : ℕ) → i < at → h i ≡ g i) → (k : ℕ) → Reached words h root k → Reached words g root k
  reached_same h g same k at_root = at_root
  reached_same h g same k (handed i j r t) =
      handed i j (reached_same h g same i r) (hands_same words v at i (m.rule i (reached_below h i r)) h g same k t)

-- the loop: the rows from `left` on have handed on
pub record Going (words : List ℕ) (at root : ℕ) (before : List ℕ) (left : ℕ) (after : List ℕ) : Type 0 where
  pub same : length after ≡ length before
  pub values : (i : ℕ) → i < at → get_or after i 0 ≡ get_or before i 0
  pub root_marked : marked after at root ≡ true
  pub sound : (k : ℕ) → k ≤ root → marked after at k ≡ true → Reached words (on before) root k
  pub passed :
      (k j : ℕ) → left ≤ k → k ≤ root → marked after at k ≡ true → HandsTo words (on before) k j → marked after at j ≡ true
  pub bits : (k : ℕ) → k ≤ root → get_or after (at + k) 0 ≤ 1
  pub behind : (k : ℕ) → root < k → get_or after (at + k) 0 ≡ get_or before (at + k) 0

pub starts : {words : List ℕ} {at root : ℕ} {before after : List ℕ} → Begun at root before after → Going words at root after (root + 1) after
starts {words} {at} {root} {before} {after} g =
    record {
      same = refl;
      values = λ i l. refl;
      root_marked = g.root_marked;
      sound = λ k l m. only-root k l m (dec_lt k root);
      passed = λ k j l h. absurd (omega arith);
      bits = g.bits;
      behind = λ k l. refl;
    }
  where
    only-root : (k : ℕ) → k ≤ root → marked after at k ≡ true → Dec (k < root) → Reached words (on after) root k
    only-root k l m (yes h) = absurd (false≢true (sym (g.only k h) ∙ m))
    only-root k l m (no h) = let e : k ≡ root = omega arith in rw e at_root

pub still_markable :
    {words : List ℕ} {v at root : ℕ} {before after : List ℕ}
    → Markable words v at root before
    → length after ≡ length before
    → Markable words v at root after
still_markable m same =
    record { rows = m.rows; marks = omega (arith, m.marks, same); rule = m.rule }

module _
    {words : List ℕ} {v at root : ℕ} {before : List ℕ} {left : ℕ} {s : List ℕ}
    (m : Markable words v at root before) (some_left : 0 < left) (inside : left ≤ root + 1)
    (g : Going words at root before left s) where
  pub markable_here : Markable words v at (left - 1) s
  markable_here =
      record {
        rows = omega (arith, m.rows);
        marks = omega (arith, m.marks, g.same);
        rule = λ k l. m.rule k (omega arith);
      }

  -- the row is not marked: it hands nothing on
  pub passes : get_or s (at + (left - 1)) 0 ≡ 0 → Going words at root before (left - 1) s
  passes z =
      record {
        same = g.same;
        values = g.values;
        root_marked = g.root_marked;
        sound = g.sound;
        passed = λ k j l h q t. by_row k j l h q t (dec_lt k left);
        bits = g.bits;
        behind = g.behind;
      }
    where
      by_row : (k j : ℕ) → left - 1 ≤ k → k ≤ root → marked s at k ≡ true → HandsTo words (on before) k j → Dec (k < left) → marked s at j ≡ true
      by_row k j l h q t (yes b) =
          let e : k ≡ left - 1 = omega arith in
          absurd (false≢true (sym (zero_off s (at + (left - 1)) z) ∙ (rw e at q)))
      by_row k j l h q t (no b) = g.passed k j (omega arith) h q t

  -- the row is marked, and has handed on
  pub hands_on :
      (t : List ℕ)
      → (get_or s (at + (left - 1)) 0 ≡ 0 → ⊥)
      → HandedOn words at (left - 1) s t
      → Going words at root before (left - 1) t
  hands_on t d w =
      record {
        same = w.same ∙ g.same;
        values = λ i l. w.values i l ∙ g.values i l;
        root_marked = w.more root g.root_marked;
        sound = λ k l q. ⊎_elim (g.sound k l) (λ h. handed (left - 1) k here (from-now k h)) (w.new k q);
        passed = λ k j l h q r. by_row k j l h q r (dec_lt k left);
        bits = λ k l. w.bits k (g.bits k l);
        behind = λ k l. w.behind k (omega arith) ∙ g.behind k l;
      }
    where
      rule : EffectRule v at (left - 1) (effect_kind (row_at words (left - 1)).kind) (row_at words (left - 1)).a (row_at words (left - 1)).b
      rule = m.rule (left - 1) (omega arith)

      here : Reached words (on before) root (left - 1)
      here = g.sound (left - 1) (omega arith) (not_zero_on s (at + (left - 1)) d)

      from-now : (j : ℕ) → HandsTo words (on s) (left - 1) j → HandsTo words (on before) (left - 1) j
      from-now = hands_same words v at (left - 1) rule (on s) (on before) (λ i l. on_same before s i (g.values i l))

      to-now : (j : ℕ) → HandsTo words (on before) (left - 1) j → HandsTo words (on s) (left - 1) j
      to-now = hands_same words v at (left - 1) rule (on before) (on s) (λ i l. sym (on_same before s i (g.values i l)))

      by_row : (k j : ℕ) → left - 1 ≤ k → k ≤ root → marked t at k ≡ true → HandsTo words (on before) k j → Dec (k < left) → marked t at j ≡ true
      by_row k j l h q r (yes b) =
          let e : k ≡ left - 1 = omega arith in
          w.hands j (to-now j (rw e at r))
      by_row k j l h q r (no b) =
          ⊎_elim (λ old. w.more j (g.passed k j (omega arith) h old r))
          (λ x. absurd (omega (arith, hands_below words v at (left - 1) rule (on s) k x)))
          (w.new k q)

-- what the loop comes to, from the first mark on
pub finished :
    {words : List ℕ} {v at root : ℕ} {before first after : List ℕ}
    → Markable words v at root before
    → Begun at root before first
    → Going words at root first 0 after
    → Marked words at root before after
finished {words} {v} {at} {root} {before} {first} {after} m b g =
    record {
      same = g.same ∙ b.same;
      values = λ i l. g.values i l ∙ b.values i l;
      acting =
          λ k l. (
            λ q.
                reached_same words v at root before m (on first) (on before) (λ i h. on_same before first i (b.values i h)) k
                (g.sound k l q),
            λ r.
                all k (reached_same words v at root before m (on before) (on first) (λ i h. sym (on_same before first i (b.values i h))) k r),
          );
      bits = g.bits;
      behind =
          let long : length (drop (at + root + 1) after) ≡ length (drop (at + root + 1) before) =
          simp length-drop (omega (arith, g.same, b.same)) in
          ext_get_or 0 (drop (at + root + 1) after) (drop (at + root + 1) before) long
          (λ i l. get_or-drop (at + root + 1) after i 0 ∙ past i ∙ sym (get_or-drop (at + root + 1) before i 0));
    }
  where
    past : (i : ℕ) → get_or after (at + root + 1 + i) 0 ≡ get_or before (at + root + 1 + i) 0
    past i =
        let e : at + root + 1 + i ≡ at + (root + 1 + i) = omega arith in
        rw e (g.behind (root + 1 + i) (omega arith) ∙ b.behind (root + 1 + i) (omega arith))

    all : (k : ℕ) → Reached words (on first) root k → marked after at k ≡ true
    all k at_root = g.root_marked
    all k (handed i j r t) = g.passed i k (omega arith) (reached_below words v at root before m (on first) i r) (all i r) t
