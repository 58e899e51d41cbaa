-- Laws of handing on a mark: what a store of 1 among the marks adds, and the ways out of handing on, by the kind of the row.
-- Assumes nothing.
use Prim.Native.Nat.{ℕ, suc, ◌+◌, ◌-◌, ◌≤◌, ◌<◌}
use native.Mathlib.Decide.{ℕ_discrete}
use native.Mathlib.Omega.{arith}
use mathlib.Core.Path.{◌≡◌, refl, sym, ap, subst, ◌∙◌}
use mathlib.Core.Bool.{true, false, not, false≢true}
use mathlib.Core.List.{List}
use mathlib.Core.Logic.{◌⊎◌, inl, inr, ⊎_elim}
use lib.ListN.{length, get_or, set, length-set}
use lib.Seq.{get_or-set_same, get_or-set_other}
use lib.Dec.{eqb}
use borrow.Author.Tests.{eq-eqb, ne_eqb}
use Rattle.std.specs.Prelude.{Result, Ok, Err}
use Rattle.std.specs.Result.{IsOk}
use Rattle.task.specs.declared.Table.TheVariants.{Effects}
use Rattle.task.specs.declared.TableRow.{TableRow}
use Rattle.task.specs.declared.kinds.EffectKind.{EffectKind as Kind}
use Rattle.task.specs.declared.kinds.EffectKind.TheVariants as kinds
use Rattle.task.specs.declared.kinds.UnknownKind.{UnknownKind}
use Rattle.task.specs.Kinds.{effect_number, EffectKindOf}
use Rattle.task.specs.Inner.Tables.{words_at}
use Rattle.task.specs.Rules.{EffectRule}
use Rattle.task.specs.Table.{row_at, both_kind, under_kind, effect_kind}
use Rattle.task.proofs.KindNumbers as KindNumbers
use Rattle.task.proofs.KindNumbers.{HasEffectNumber}
use Rattle.applying.specs.Inner.Marks.{on, marked, HandsTo, to_left, to_right, to_inner, Markable, HandedOn}

pub on_same : (s t : List ℕ) (i : ℕ) → get_or t i 0 ≡ get_or s i 0 → on t i ≡ on s i
unfolding on
on_same s t i e = rw e

-- a store of 1 among the marks
record Added (at j : ℕ) (before after : List ℕ) : Type 0 where
  same : length after ≡ length before
  values : (i : ℕ) → i < at → get_or after i 0 ≡ get_or before i 0
  more : (i : ℕ) → marked before at i ≡ true → marked after at i ≡ true
  here : marked after at j ≡ true
  new : (i : ℕ) → marked after at i ≡ true → (marked before at i ≡ true) ⊎ (i ≡ j)
  bits : (i : ℕ) → get_or before (at + i) 0 ≤ 1 → get_or after (at + i) 0 ≤ 1
  behind : (i : ℕ) → j < i → get_or after (at + i) 0 ≡ get_or before (at + i) 0

add : (at j : ℕ) (s : List ℕ) → at + j < length s → Added at j s (set s (at + j) 1)
unfolding on
add at j s h =
    record {
      same = length-set s (at + j) 1;
      values = λ i l. get_or-set_other s (at + j) i 1 0 (omega arith);
      more = λ i m. by_place i (λ q. rw q stored) (λ d. rw (get_or-set_other s (at + j) (at + i) 1 0 d) m);
      here = stored;
      new = λ i m. by_place i (λ q. inr (omega arith)) (λ d. inl (rw (get_or-set_other s (at + j) (at + i) 1 0 d) at m));
      bits =
          λ i l.
          by_place i (λ q. rw (q, get_or-set_same s (at + j) 1 0 h) (omega arith))
          (λ d. rw (get_or-set_other s (at + j) (at + i) 1 0 d) l);
      behind = λ i l. get_or-set_other s (at + j) (at + i) 1 0 (omega arith);
    }
  where
    stored : not (eqb (get_or (set s (at + j) 1) (at + j) 0) 0) ≡ true
    stored = rw (get_or-set_same s (at + j) 1 0 h)

    by_place : {A : Type 0} (i : ℕ) → (at + i ≡ at + j → A) → ((at + i ≡ at + j → ⊥) → A) → A
    by_place {A} i same other = go (ℕ_discrete (at + i) (at + j))
      where
        go : Dec (at + i ≡ at + j) → A
        go (yes q) = same q
        go (no d) = other d

pub not_zero_on : (s : List ℕ) (i : ℕ) → (get_or s i 0 ≡ 0 → ⊥) → on s i ≡ true
unfolding on
not_zero_on s i d = rw (ne_eqb (get_or s i 0) 0 d)

pub zero_off : (s : List ℕ) (i : ℕ) → get_or s i 0 ≡ 0 → on s i ≡ false
unfolding on
zero_off s i z = rw (eq-eqb (get_or s i 0) 0 z)

-- the numbers of the two kinds that hand on
both_number : (n : ℕ) → effect_kind n ≡ both_kind → n ≡ 3
both_number n e = subst (HasEffectNumber n) e (KindNumbers.effect_number n)

under_number : (n : ℕ) → effect_kind n ≡ under_kind → n ≡ 4
under_number n e = subst (HasEffectNumber n) e (KindNumbers.effect_number n)

both_kind_of : {n : ℕ} → n ≡ 3 → effect_kind n ≡ both_kind
unfolding effect_kind
both_kind_of e = rw e

under_kind_of : {n : ℕ} → n ≡ 4 → effect_kind n ≡ under_kind
unfolding effect_kind
under_kind_of e = rw e

-- by the number of row k's kind: what is asked of it, and what handing on leaves
module _ {words : List ℕ} {v at k : ℕ} {s : List ℕ} (m : Markable words v at k s) where
  both_refs : (row_at words k).kind ≡ 3 → ((row_at words k).a < k) × ((row_at words k).b < k)
  unfolding effect_kind
  both_refs e = rw e at (m.rule k (omega arith))

  under_refs : (row_at words k).kind ≡ 4 → ((row_at words k).a < at) × ((row_at words k).b < k)
  unfolding effect_kind
  under_refs e = rw e at (m.rule k (omega arith))

  both_handed :
      (row_at words k).kind ≡ 3
      → HandedOn words at k s (set (set s (at + (row_at words k).a) 1) (at + (row_at words k).b) 1)
  both_handed e =
      record {
        same = second.same ∙ first.same;
        values = λ i l. second.values i l ∙ first.values i l;
        more = λ j q. second.more j (first.more j q);
        hands = reaches;
        new =
            λ j q.
            ⊎_elim (λ p. ⊎_elim inl (λ z. inr (rw z (to_left kind))) (first.new j p)) (λ z. inr (rw z (to_right kind)))
            (second.new j q);
        bits = λ j l. second.bits j (first.bits j l);
        behind = λ j l. second.behind j (omega (arith, refs)) ∙ first.behind j (omega (arith, refs));
      }
    where
      kind : effect_kind (row_at words k).kind ≡ both_kind
      kind = both_kind_of e

      refs : ((row_at words k).a < k) × ((row_at words k).b < k)
      refs = both_refs e

      first : Added at (row_at words k).a s (set s (at + (row_at words k).a) 1)
      first = add at (row_at words k).a s (omega (arith, m.marks, refs))

      second : Added at (row_at words k).b (set s (at + (row_at words k).a) 1) (set (set s (at + (row_at words k).a) 1) (at + (row_at words k).b) 1)
      second = add at (row_at words k).b (set s (at + (row_at words k).a) 1) (omega (arith, m.marks, refs, first.same))

      reaches :
          (j : ℕ)
          → HandsTo words (on s) k j
          → marked (set (set s (at + (row_at words k).a) 1) (at + (row_at words k).b) 1) at j ≡ true
      reaches j (to_left q) = second.more (row_at words k).a first.here
      reaches j (to_right q) = second.here
      reaches j (to_inner q h) = absurd (omega (arith, under_number (row_at words k).kind q))

  under_handed :
      (row_at words k).kind ≡ 4
      → (get_or s (row_at words k).a 0 ≡ 0 → ⊥)
      → HandedOn words at k s (set s (at + (row_at words k).b) 1)
  under_handed e holding =
      record {
        same = one.same;
        values = one.values;
        more = one.more;
        hands = reaches;
        new = λ j q. ⊎_elim inl (λ z. inr (rw z (to_inner kind (not_zero_on s (row_at words k).a holding)))) (one.new j q);
        bits = one.bits;
        behind = λ j l. one.behind j (omega (arith, refs));
      }
    where
      kind : effect_kind (row_at words k).kind ≡ under_kind
      kind = under_kind_of e

      refs : ((row_at words k).a < at) × ((row_at words k).b < k)
      refs = under_refs e

      one : Added at (row_at words k).b s (set s (at + (row_at words k).b) 1)
      one = add at (row_at words k).b s (omega (arith, m.marks, refs))

      reaches : (j : ℕ) → HandsTo words (on s) k j → marked (set s (at + (row_at words k).b) 1) at j ≡ true
      reaches j (to_left q) = absurd (omega (arith, both_number (row_at words k).kind q))
      reaches j (to_right q) = absurd (omega (arith, both_number (row_at words k).kind q))
      reaches j (to_inner q h) = one.here

  -- nothing is handed on
  idle : ((j : ℕ) → HandsTo words (on s) k j → ⊥) → HandedOn words at k s s
  idle none =
      record {
        same = refl;
        values = λ i l. refl;
        more = λ j q. q;
        hands = λ j h. absurd (none j h);
        new = λ j q. inl q;
        bits = λ j l. l;
        behind = λ j l. refl;
      }

  under_shut : (row_at words k).kind ≡ 4 → get_or s (row_at words k).a 0 ≡ 0 → HandedOn words at k s s
  under_shut e z = idle none
    where
      none : (j : ℕ) → HandsTo words (on s) k j → ⊥
      none j (to_left q) = omega (arith, both_number (row_at words k).kind q)
      none j (to_right q) = omega (arith, both_number (row_at words k).kind q)
      none j (to_inner q h) = false≢true (sym (zero_off s (row_at words k).a z) ∙ h)

  none_handed : ((row_at words k).kind ≡ 3 → ⊥) → ((row_at words k).kind ≡ 4 → ⊥) → HandedOn words at k s s
  none_handed d e = idle none
    where
      none : (j : ℕ) → HandsTo words (on s) k j → ⊥
      none j (to_left q) = d (both_number (row_at words k).kind q)
      none j (to_right q) = d (both_number (row_at words k).kind q)
      none j (to_inner q h) = e (under_number (row_at words k).kind q)

-- a row that keeps its rule is of a known kind
no_rule : (v at k a b n : ℕ) → 5 ≤ n → EffectRule v at k (effect_kind n) a b → ⊥
unfolding effect_kind
no_rule v at k a b n h rule =
    let m : n ≡ suc (suc (suc (suc (suc (n - 5))))) = omega arith in
    rw m at rule

pub known :
    {words : List ℕ} {v at k : ℕ} {s : List ℕ}
    → Markable words v at k s
    → {row : TableRow}
    → row ≡ words_at Effects words k
    → (r : Result Kind UnknownKind)
    → EffectKindOf row.first r
    → IsOk r
known m read (Ok kind) tried = refl
known {words} {v} {at} {k} m read (Err e) tried =
    let w = row_at words k in
    absurd (no_rule v at k w.a w.b w.kind (rw read at tried) (m.rule k (omega arith)))

-- by the kind of row k: what is asked of it, and what handing on leaves
module _
    {words : List ℕ} {v at k : ℕ} {s : List ℕ} (m : Markable words v at k s)
    {row : TableRow} (read : row ≡ words_at Effects words k)
    {r : Result Kind UnknownKind} (tried : EffectKindOf row.first r)
    {kind : Kind} (unwrapped : r ≡ Ok kind) where
  number : (row_at words k).kind ≡ effect_number kind
  number =
      let of : EffectKindOf row.first (Ok kind) = rw unwrapped at tried in
      sym (ap (λ (x : TableRow). x.first) read) ∙ of

  pub both_there : kind ≡ kinds.Both → at + row.second < length s
  both_there e = rw read (omega (arith, m.marks, both_refs m (number ∙ ap effect_number e)))

  pub under_there : kind ≡ kinds.Under → row.second < length s
  under_there e = rw read (omega (arith, m.marks, under_refs m (number ∙ ap effect_number e)))

  pub handed_both : kind ≡ kinds.Both → HandedOn words at k s (set (set s (at + row.second) 1) (at + row.third) 1)
  handed_both e = rw read (both_handed m (number ∙ ap effect_number e))

  pub handed_under :
      kind ≡ kinds.Under
      → (get_or s row.second 0 ≡ 0 → ⊥)
      → HandedOn words at k s (set s (at + row.third) 1)
  handed_under e holding = rw read (under_handed m (number ∙ ap effect_number e) (rw read at holding))

  pub handed_shut : kind ≡ kinds.Under → get_or s row.second 0 ≡ 0 → HandedOn words at k s s
  handed_shut e shut = under_shut m (number ∙ ap effect_number e) (rw read at shut)

  pub handed_none : (kind ≡ kinds.Empty) ⊎ ((kind ≡ kinds.Set) ⊎ (kind ≡ kinds.Clear)) → HandedOn words at k s s
  handed_none (inl e) = let n = number ∙ ap effect_number e in none_handed m (omega arith) (omega arith)
  handed_none (inr (inl e)) = let n = number ∙ ap effect_number e in none_handed m (omega arith) (omega arith)
  handed_none (inr (inr e)) = let n = number ∙ ap effect_number e in none_handed m (omega arith) (omega arith)
