-- Operators recorded one after another. Assumes nothing.
use Prim.Native.Nat.{ℕ, zero, suc, ◌+◌, ◌≤◌, ◌<◌}
use native.Mathlib.Omega.{arith}
use native.Mathlib.Numerals.{add-one}
use native.Mathlib.Decide.{dec_le, dec_lt}
use mathlib.Core.Path.{◌≡◌, refl, sym, ap, ◌∙◌}
use mathlib.Core.List.{List}
use lib.ListN.{length}
use Rattle.task.specs.Table.{Row, row_at}
use Rattle.normal_form.specs.Builder.{bind}
use Rattle.normal_form.specs.Operators.{Changes}
use Rattle.normal_form.proofs.ShapeEach.{Upwards, start, next, changes_upwards}
use Rattle.normal_form.proofs.ShapeRules.{All, none, also, all_append}
use Rattle.formula_builder.specs.Inner.Index.{three}
use Rattle.formula_builder.specs.declared.Frame.{Frame}
use Rattle.formula_builder.proofs.Stored.{three_before, three_at}
use Rattle.change_records.specs.Inner.Recorded.{acting, Recorded}
use Rattle.change_records.proofs.Acting.{acting_all}
use Rattle.change_records.proofs.Keeping.{same_changes, three_after}
use Rattle.operators.specs.Inner.Operator.{all_changes, operator_built, operator_here}
use Rattle.building.specs.Inner.Taken.{precondition_here, changes_here, many, Kept, AllKept}

upwards_below : {m : ℕ} {cs : List Changes} (n : ℕ) → m ≤ n → Upwards m cs → All (λ c. c.variable < n) cs
upwards_below n h start = none
upwards_below n h (next {m = m} c e up) =
    all_append (upwards_below n (omega arith) up) (also (omega (arith, e)) none)

module _ (frame : Frame) (formulas effects operators : List ℕ) where
  -- all changes are of source variables
  pub acting_below : (o : ℕ) → All (λ c. c.variable < frame.variables) (acting (changes_here frame formulas effects operators o))
  acting_below o = acting_all (λ c. c.variable < frame.variables) all
    where
      all : All (λ c. c.variable < frame.variables) (changes_here frame formulas effects operators o)
      all =
          unfold changes_here operator_here operator_built all_changes bind in
          upwards_below frame.variables (omega arith) (changes_upwards frame.variables frame.variables _ _)

  pub many_suc :
      (n : ℕ)
      → many frame formulas effects operators (suc n)
      ≡ many frame formulas effects operators n + length (acting (changes_here frame formulas effects operators n))
  unfolding many
  many_suc n = refl

  pub many_more :
      (n : ℕ)
      → many frame formulas effects operators (n + 1)
      ≡ many frame formulas effects operators n + length (acting (changes_here frame formulas effects operators n))
  many_more n = rw (add-one n) (many_suc n)

  pub many_on : (n m : ℕ) → n ≤ m → many frame formulas effects operators n ≤ many frame formulas effects operators m
  many_on n zero h = let e : n ≡ 0 = omega arith in rw e (omega arith)
  many_on n (suc m) h = go (dec_le n m) (λ k. many_on n m k)
    where
      go :
          Dec (n ≤ m)
          → (n ≤ m → many frame formulas effects operators n ≤ many frame formulas effects operators m)
          → many frame formulas effects operators n ≤ many frame formulas effects operators (suc m)
      go (yes k) before = omega (arith, before k, many_suc m)
      go (no k) before = let e : n ≡ suc m = omega arith in rw e (omega arith)

  pub many_fewer : (o n : ℕ) → o ≤ n → many frame formulas effects operators o ≤ many frame formulas effects operators n
  many_fewer o zero h =
      let e : o ≡ 0 = omega arith in
      rw e (omega arith)
  many_fewer o (suc n) h = go (dec_le o n) (many_fewer o n)
    where
      go :
          Dec (o ≤ n)
          → (o ≤ n → many frame formulas effects operators o ≤ many frame formulas effects operators n)
          → many frame formulas effects operators o ≤ many frame formulas effects operators (suc n)
      go (yes c) f = omega (arith, f c, many_suc n)
      go (no c) f =
          let e : o ≡ suc n = omega arith in
          rw e (omega arith)

  pub none_kept : (records : List ℕ) (n k : ℕ) → n ≡ 0 → k ≡ 0 → AllKept frame formulas effects operators records n k
  unfolding many
  none_kept records n k e f =
      rw (e, f) (record { count = refl; limit = omega arith; each = λ o h. absurd (omega arith) })

  -- Behind n operators one more: its changes recorded, then its own record stored.
  module _ {records l : List ℕ} {n k to row : ℕ} (all : AllKept frame formulas effects operators records n k) (below : n < 256)
      (room : 6912 ≤ length l) (x : Recorded (changes_here frame formulas effects operators n) k records l to) (most : to ≤ 2048)
      (is : precondition_here frame formulas effects operators n ≡ row) where
    abbrev own : Row
    own = record { kind = row; a = to; b = 0 }

    first : (j : ℕ) → j < n → row_at (three l n own) j ≡ row_at records j
    first j h = three_before l n own j h ∙ x.below j (omega arith)

    rest : (j : ℕ) → 256 ≤ j → row_at (three l n own) j ≡ row_at l j
    rest j h = three_after l n own j (omega arith)

    still : (o : ℕ) → o < n → Kept frame formulas effects operators records o → Kept frame formulas effects operators (three l n own) o
    still o h y =
        record {
          precondition = ap (λ (r : Row). r.kind) (first o h) ∙ y.precondition;
          end = ap (λ (r : Row). r.a) (first o h) ∙ y.end;
          changes =
              same_changes (many frame formulas effects operators o) _ k records (three l n own)
              (omega (arith, all.count, many_fewer (suc o) n (omega arith), many_suc o))
              (λ j p q. rest j p ∙ x.below j q)
              ∙ y.changes;
        }

    ends : to ≡ many frame formulas effects operators (suc n)
    ends = omega (arith, x.count, all.count, many_suc n)

    last : Kept frame formulas effects operators (three l n own) n
    last =
        let stored = three_at l n own (omega arith) in
        record {
          precondition = ap (λ (r : Row). r.kind) stored ∙ sym is;
          end = ap (λ (r : Row). r.a) stored ∙ ends;
          changes =
              rw (sym all.count)
              (same_changes k (length (acting (changes_here frame formulas effects operators n))) to l (three l n own)
              (omega (arith, x.count)) (λ j p q. rest j p)
              ∙ x.there most);
        }

    pub one_kept : AllKept frame formulas effects operators (three l n own) (n + 1) to
    one_kept =
        record { count = rw (add-one n) ends; limit = most; each = λ o h. go o h (dec_lt o n) }
      where
        go : (o : ℕ) → o < n + 1 → Dec (o < n) → Kept frame formulas effects operators (three l n own) o
        go o h (yes c) = still o c (all.each o c)
        go o h (no c) =
            let e : o ≡ n = omega arith in
            rw e last
