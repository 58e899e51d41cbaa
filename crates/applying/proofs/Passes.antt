-- Laws of carrying out an effect: what each turn of a pass over its marked rows leaves, and what the two passes come to. Assumes nothing.
use Prim.Native.Nat.{ℕ, zero, suc, ◌≤◌, ◌+◌, ◌<◌}
use native.Mathlib.Numerals.{add-one}
use native.Mathlib.Omega.{arith}
use mathlib.Core.Path.{◌≡◌, refl, sym, ap, ◌∙◌}
use mathlib.Core.Bool.{Bool, true, false, cond}
use mathlib.Core.List.{List}
use lib.ListN.{length, get_or, set, length-set}
use lib.Dec.{eqb}
use borrow.Author.Tests.{eq-eqb, ne_eqb, eqb-true}
use Rattle.task.specs.declared.Table.TheVariants.{Effects}
use Rattle.task.specs.declared.TableRow.{TableRow}
use Rattle.task.specs.declared.kinds.EffectKind.{EffectKind as Kind}
use Rattle.task.specs.declared.kinds.EffectKind.TheVariants as kinds
use Rattle.task.specs.contracts.kinds.EffectKind.{the_type}
use Rattle.task.specs.Kinds.{effect_number}
use denote.Enum.Declared.{tag_of}
use Rattle.task.specs.Inner.Tables.{words_at}
use Rattle.task.specs.Table.{row_at, effect_kind}
use Rattle.task.specs.Rules.{EffectRule}
use Rattle.task.proofs.Bounded.{and_right}
use Rattle.task.proofs.KindNumbers.{by_effect_kind}
use Rattle.applying.specs.Inner.Marks.{on, marked, acts, changed, Changeable, Markable}

-- the number of a kind, as the code casts it
same_number : (kind : Kind) → tag_of the_type kind ≡ effect_number kind
same_number kinds.Empty = refl
same_number kinds.Set = refl
same_number kinds.Clear = refl
same_number kinds.Both = refl
same_number kinds.Under = refl

pub acts_not_marked : (words : List ℕ) (kind : ℕ) (scratch : List ℕ) (at k : ℕ)
    → get_or scratch (at + k) 0 ≡ 0 → acts words kind scratch at k ≡ false
unfolding acts on
acts_not_marked words kind scratch at k e = rw (eq-eqb (get_or scratch (at + k) 0) 0 e)

module _
    (words : List ℕ) (kind : Kind) (scratch : List ℕ) (at k : ℕ) (m : get_or scratch (at + k) 0 ≡ 0 → ⊥)
    {row : TableRow} (read : row ≡ words_at Effects words k) where
  pub acts_other_kind : (row.first ≡ tag_of the_type kind → ⊥) → acts words (effect_number kind) scratch at k ≡ false
  unfolding acts on
  acts_other_kind d =
      rw (ne_eqb (get_or scratch (at + k) 0) 0 m)
      (ne_eqb (row_at words k).kind (effect_number kind) (λ e. d (ap (λ (x : TableRow). x.first) read ∙ e ∙ sym (same_number kind))))

  pub acts_marked : row.first ≡ tag_of the_type kind → acts words (effect_number kind) scratch at k ≡ true
  unfolding acts on
  acts_marked e =
      rw (ne_eqb (get_or scratch (at + k) 0) 0 m)
      (eq-eqb (row_at words k).kind (effect_number kind) (sym (ap (λ (x : TableRow). x.first) read) ∙ e ∙ same_number kind))

-- what a pass has done before row n
pub record Passing (words : List ℕ) (kind value : ℕ) (scratch : List ℕ) (at n : ℕ) (s t : List ℕ) : Type 0 where
  pub same : length t ≡ length s
  pub done : t ≡ changed words kind value scratch at n s

module _ {words : List ℕ} {kind value : ℕ} {scratch : List ℕ} {at : ℕ} where
  pub begin : {s : List ℕ} → Passing words kind value scratch at 0 s s
  unfolding changed
  begin = record { same = refl; done = refl }

  module _ {n : ℕ} {s t : List ℕ} (p : Passing words kind value scratch at n s t) where
    pub idle : acts words kind scratch at n ≡ false → Passing words kind value scratch at (n + 1) s t
    unfolding changed
    idle e = record { same = p.same; done = rw (add-one n, changed, e) p.done }

    pub act :
        acts words kind scratch at n ≡ true
        → {row : TableRow}
        → row ≡ words_at Effects words n
        → Passing words kind value scratch at (n + 1) s (set t row.second value)
    unfolding changed
    act e read =
        rw read
        (record {
          same = length-set t (row_at words n).a value ∙ p.same;
          done = rw (add-one n, changed, e) (ap (λ (l : List ℕ). set l (row_at words n).a value) p.done);
        })

    -- a row that acts names a variable of the state
    pub inside :
        {rows : ℕ}
        → Changeable words kind scratch at rows (length s)
        → n < rows
        → acts words kind scratch at n ≡ true
        → {row : TableRow}
        → row ≡ words_at Effects words n
        → row.second < length t
    inside c l e read = rw (read, p.same) (c.named n l e)

-- the rows that act name variables, for sets and for clears
atom_named : (v at k n a b : ℕ) → 1 ≤ n → n ≤ 2 → EffectRule v at k (effect_kind n) a b → a < v
atom_named v at k n a b low high =
    by_effect_kind (λ kind. EffectRule v at k kind a b → a < v) n (λ e. absurd (omega arith)) (λ e rule. rule.0)
    (λ e rule. rule.0) (λ e. absurd (omega arith)) (λ e. absurd (omega arith)) (λ e. absurd (omega arith))

pub changeable :
    {words : List ℕ} {v at root kind w : ℕ} {before after : List ℕ}
    → Markable words v at root before
    → length after ≡ length before
    → 1 ≤ kind
    → kind ≤ 2
    → w ≡ v
    → Changeable words kind after at (root + 1) w
unfolding acts
changeable {words} {v} {at} {root} {kind} {w} {before} {after} m long low high same =
    record {
      rows = omega (arith, m.rows);
      marks = omega (arith, m.marks, long);
      named =
          λ k l q.
          let e : (row_at words k).kind ≡ kind =
          eqb-true (row_at words k).kind kind (and_right (marked after at k) (eqb (row_at words k).kind kind) q) in
          rw same
          (atom_named v at k (row_at words k).kind (row_at words k).a (row_at words k).b (rw e low) (rw e high) (m.rule k (omega arith)));
    }

-- a pass keeps the state's length
module _ (words : List ℕ) (kind value : ℕ) (scratch : List ℕ) (at : ℕ) (s : List ℕ) where
  pub length_changed : (n : ℕ) → length (changed words kind value scratch at n s) ≡ length s
  unfolding changed
  length_changed zero = refl
  length_changed (suc n) = go (acts words kind scratch at n) (length_changed n)
    where
      t : List ℕ
      t = changed words kind value scratch at n s

      go : (b : Bool) → length t ≡ length s → length (cond b (set t (row_at words n).a value) t) ≡ length s
      go true same = length-set t (row_at words n).a value ∙ same
      go false same = same
