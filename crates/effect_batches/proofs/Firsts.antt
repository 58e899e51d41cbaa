-- Words that name an operator that comes to a row stay right. Assumes nothing.
use Prim.Native.Nat.{ℕ, ◌+◌, ◌*◌, ◌≤◌, ◌<◌}
use native.Mathlib.Omega.{arith}
use native.Mathlib.Decide.{ℕ_discrete}
use mathlib.Core.Path.{◌≡◌, sym, ap, ◌∙◌}
use mathlib.Core.Logic.{⊎_elim}
use mathlib.Core.List.{List, []}
use lib.ListN.{get_or, replicate, length-replicate}
use Rattle.task.specs.Table.{Row, row_at, operator_at}
use Rattle.formula_builder.specs.declared.Words.{Words}
use Rattle.formula_builder.specs.declared.Frame.{Frame}
use Rattle.formula_builder.specs.Inner.Held.{row_of}
use Rattle.conditions.specs.Inner.Conditions.{EffectSource}
use Rattle.conditions.proofs.Rows.{both_lower, under_lower, known_kind}
use Rattle.effect_batches.specs.Inner.Firsts.{Rows, Names, left, right, inner, RowKept, here, named, Comes, First, Meets}

-- The rows keep the rules, whatever memo there is.
pub memo : Frame → List ℕ
memo frame = replicate (2 * frame.formulas + 2 * frame.effects) 0

pub source : (frame : Frame) (effects : List ℕ) → Rows frame effects → EffectSource frame effects (memo frame)
unfolding memo
source frame effects a =
    record {
      words = a.words;
      memo = omega (arith, length-replicate {A = ℕ} (2 * frame.formulas + 2 * frame.effects) 0);
      limit = a.limit;
      down = a.down;
    }

-- A row keeps the rules.
pub row_kept : {frame : Frame} {effects : List ℕ} → Rows frame effects → (i : ℕ) → i < frame.effects → RowKept effects i
row_kept {frame} {effects} a i h =
    record {
      words = omega (arith, a.words);
      known = go (ℕ_discrete (row_at effects i).kind 4);
      lower = less;
    }
  where
    go : Dec ((row_at effects i).kind ≡ 4) → (row_at effects i).kind ≤ 4
    go (yes k) = omega (arith, k)
    go (no k) = omega (arith, known_kind frame [] effects (memo frame) (source frame effects a) i h k)

    less : (e : ℕ) → Names effects i e → e < i
    less e (left k q) = omega (arith, (both_lower frame [] effects (memo frame) (source frame effects a) i h k).0, q)
    less e (right k q) = omega (arith, (both_lower frame [] effects (memo frame) (source frame effects a) i h k).1, q)
    less e (inner k q) = omega (arith, (under_lower frame [] effects (memo frame) (source frame effects a) i h k).1, q)

-- The rows that row i names, by its words w.
module _ {effects : List ℕ} {i : ℕ} (a : RowKept effects i) (w : Words) (q : row_of w ≡ row_at effects i) where
  same_kind : (row_at effects i).kind ≡ w.kind
  same_kind = ap (λ (r : Row). r.kind) (sym q)

  pub names_right : 3 ≤ w.kind → Names effects i w.b
  names_right some = go (ℕ_discrete (row_at effects i).kind 3)
    where
      go : Dec ((row_at effects i).kind ≡ 3) → Names effects i w.b
      go (yes k) = right k (ap (λ (r : Row). r.b) (sym q))
      go (no k) = inner (omega (arith, a.known, some, same_kind, k)) (ap (λ (r : Row). r.b) (sym q))

  pub names_left : w.kind ≡ 3 → Names effects i w.a
  names_left both = left (same_kind ∙ both) (ap (λ (r : Row). r.a) (sym q))

-- A row met with a word that is right has a word that is right.
pub first_met :
    {effects operators : List ℕ} {count : ℕ} {first first' : List ℕ} {e w : ℕ}
    → Meets first first' e w
    → Comes effects operators count w e
    → First effects operators count first
    → First effects operators count first'
first_met m c f =
    record { comes = λ j. ⊎_elim (λ q. rw q (f.comes j)) (λ q. rw (q.1, q.0) c) (m.word j) }

-- a row that row i names, met with i's word
pub comes_below :
    {effects operators : List ℕ} {count w i e : ℕ}
    → Names effects i e
    → Comes effects operators count w i
    → Comes effects operators count w e
comes_below {i = i} {e = e} n c = record { below = λ k q. ((c.below k q).0, named i e n (c.below k q).1) }

-- operator k's effect, met with k + 1
pub comes_root :
    {effects operators : List ℕ} {count k w e : ℕ}
    → k < count
    → w ≡ k + 1
    → e ≡ (operator_at operators k).effect
    → Comes effects operators count w e
comes_root {effects} {operators} {count} {k} {w} {e} h r q =
    record {
      below = λ j p.
          let same : j ≡ k = omega (arith, r, p) in
          rw same (h, here e q);
    }

-- nothing is said before
pub first_none :
    (effects operators : List ℕ) (count : ℕ) (first : List ℕ)
    → ((e : ℕ) → get_or first e 0 ≡ 0)
    → First effects operators count first
first_none effects operators count first blank =
    record { comes = λ e. record { below = λ k q. absurd (omega (arith, blank e, q)) } }
