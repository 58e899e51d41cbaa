-- Laws of the check's definitions, one for each way out of the functions that are held to them. Assumes nothing.
use Prim.Native.Nat.{ℕ, ◌+◌, ◌-◌, ◌*◌, ◌/◌, ◌≤◌, ◌<◌}
use lib.Seq.{get_or-take, length-take-le}
use native.Mathlib.Nat.{mul-le-mul, mul-suc, mul-div-le, lt-mul-div-succ}
use native.Mathlib.Omega.{arith}
use mathlib.Core.Path.{◌≡◌, refl, sym, ap, ◌∙◌}
use mathlib.Core.Bool.{Bool, true, false, not, ◌&&◌, and-false}
use mathlib.Core.List.{List, []}
use lib.ListN.{length, get_or, take, drop}
use lib.Dec.{ltb, eqb}
use borrow.Author.Tests.{lt-ltb, le-ltb, le-leb, lt-leb}
use Rattle.task.specs.Bounded.{every}
use Rattle.task.specs.declared.Head.{Head}
use Rattle.task.specs.declared.refusal.Refusal.{Refusal}
use Rattle.task.specs.declared.refusal.Refusal.TheVariants as r
use Rattle.task.specs.Refused.{number_of}
use Rattle.task.specs.declared.Table.{Table}
use Rattle.task.specs.declared.Table.TheVariants.{Formulas, Effects, Operators}
use Rattle.task.specs.Table.{row_at, operator_at, part}
use Rattle.task.specs.Inner.Tables.{words_at, words_number, row_number}
use Rattle.task.specs.Check.{twin_kept}
use Rattle.task.proofs.Bounded.{and_both, every_same}
use Rattle.task.specs.declared.TableRow.{TableRow}

-- no refusal has the number 0
pub number_some : (e : Refusal) → number_of e ≡ 0 → ⊥
number_some r.CutShort h = cc
number_some r.SpareBit h = cc
number_some r.NeedlessField h = cc
number_some r.BytesBehind h = cc
number_some r.ShortTable h = cc
number_some r.Counts h = cc
number_some r.Goal h = cc
number_some r.InitialByte h = cc
number_some r.Twin h = cc
number_some r.Formula h = cc
number_some r.Effect h = cc
number_some r.Operator h = cc
number_some r.SourceTwins h = cc
number_some r.ShortScratch h = cc
number_some r.NoRoom h = cc
number_some r.State h = cc
number_some r.NoOperator h = cc
number_some r.NotApplicable h = cc
number_some r.LongSequence h = cc
number_some r.ShortOutput h = cc
number_some r.ManyVariables h = cc
number_some r.NoPlan h = cc
number_some r.LongPlan h = cc
number_some r.Percent h = cc
number_some r.ValueCount h = cc
number_some r.Value h = cc

-- a conjunction fails with either half
pub fails_left : (a b : Bool) → a ≡ false → (a && b) ≡ false
fails_left a b p = rw p

pub fails_right : (a b : Bool) → b ≡ false → (a && b) ≡ false
fails_right a b p = rw p (and-false a)

module _ (bound : ℕ) (twins : List ℕ) (k : ℕ) where
  pub twin_outside : bound ≤ get_or twins k 0 → twin_kept bound twins k ≡ false
  unfolding twin_kept
  twin_outside h = fails_left (ltb (get_or twins k 0) bound) (every k (λ j. not (eqb (get_or twins j 0) (get_or twins k 0)))) (le-ltb (get_or twins k 0) bound h)

  pub twin_again :
      every k (λ j. not (eqb (get_or twins j 0) (get_or twins k 0))) ≡ false → twin_kept bound twins k ≡ false
  unfolding twin_kept
  twin_again e = fails_right (ltb (get_or twins k 0) bound) (every k (λ j. not (eqb (get_or twins j 0) (get_or twins k 0)))) e

  pub twin_fine :
      get_or twins k 0 < bound
      → every k (λ j. not (eqb (get_or twins j 0) (get_or twins k 0))) ≡ true
      → twin_kept bound twins k ≡ true
  unfolding twin_kept
  twin_fine h e = and_both (lt-ltb (get_or twins k 0) bound h) e

-- the twin rows of the part 0 .. n of a table
pub twins_first :
    (bound : ℕ) (twins : List ℕ) (n : ℕ)
    → n ≤ length twins
    → every (length (take n twins)) (twin_kept bound (take n twins)) ≡ every n (twin_kept bound twins)
unfolding twin_kept
twins_first bound twins n h =
    rw (length-take-le n twins h)
    (every_same n (twin_kept bound (take n twins)) (twin_kept bound twins) (λ (k : ℕ) (l : k < n).
    rw (get_or-take n twins k 0 l)
    (ap (λ (b : Bool). ltb (get_or twins k 0) bound && b)
    (every_same k (λ (j : ℕ). not (eqb (get_or (take n twins) j 0) (get_or twins k 0))) (λ (j : ℕ). not (eqb (get_or twins j 0) (get_or twins k 0))) (λ (j : ℕ) (m : j < k).
    ap (λ (x : ℕ). not (eqb x (get_or twins k 0))) (get_or-take n twins j 0 (omega arith)))))))

-- a row of any of the three tables is tested by its words
pub row_tested :
    (t : Table) (h : Head) (words : List ℕ) (i : ℕ) {r : TableRow} {n : ℕ}
    → r ≡ words_at t words i
    → n ≡ words_number t h i r
    → row_number t h words i ≡ n
row_tested t h words i read tested = sym (tested ∙ ap (words_number t h i) read ∙ same t)
  where
    same : (t : Table) → words_number t h i (words_at t words i) ≡ row_number t h words i
    same Formulas = unfold row_at in refl
    same Effects = unfold row_at in refl
    same Operators = unfold operator_at in refl

-- a row is inside a table that has so many, and outside of any other
pub row_fits : (w l n : ℕ) → n < l / w → w * n + w ≤ l
row_fits w l n h =
    let a : w * (n + 1) ≤ w * (l / w) = mul-le-mul {n₁ = w} {m₁ = n + 1} {n₂ = w} {m₂ = l / w} (omega arith) (omega arith) in
    omega (arith, mul-div-le l w, mul-suc w n)

pub row_past : (w l n : ℕ) → 1 ≤ w → l / w ≤ n → l < w * n + w
row_past w l n some h =
    let a : w * (l / w + 1) ≤ w * (n + 1) = mul-le-mul {n₁ = w} {m₁ = l / w + 1} {n₂ = w} {m₂ = n + 1} (omega arith) (omega arith) in
    omega (arith, lt-mul-div-succ l some, mul-suc w n)

-- the part that a row is
pub row_inside :
    (w : ℕ) (words : List ℕ) (i : ℕ)
    → w * i + w ≤ length words
    → take (w * i + w - w * i) (drop (w * i) words) ≡ part w words i
unfolding part
row_inside w words i h =
    let wide : w * i + w - w * i ≡ w = omega arith in
    rw (le-leb (w * i + w) (length words) h, wide)

pub row_outside : (w : ℕ) (words : List ℕ) (i : ℕ) → length words < w * i + w → [] ≡ part w words i
unfolding part
row_outside w words i h = rw (lt-leb (w * i + w) (length words) h)
