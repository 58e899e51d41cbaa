-- The change of one percent (02, K2) is made where nothing refuses it, and in the task that the record comes from and goes back to it is a change of
-- that operator's charge alone.
use Prim.Native.Nat.{ℕ, zero, suc, ◌+◌, ◌*◌, ◌/◌, ◌≤◌, ◌<◌}
use native.Mathlib.Omega.{arith}
use mathlib.Core.Path.{◌≡◌, refl, ap}
use mathlib.Core.Logic.{◌≢◌}
use mathlib.Core.List.{List, [], ◌∷◌}
use lib.ListN.{length, get_or, set}
use lib.Seq.{get_or-set_same, get_or-set_other}
use borrow.Author.Tests.{lt-ltb, le-leb}
use Rattle.task.specs.Table.{Lent, operator_width, task_of}
use Rattle.task.specs.Rules.{no_operator, LongEnough}
use Rattle.task.specs.Run.{operator_of, charge_of, charge}
use Rattle.task.proofs.Held.{length_operators, operator_held}
use Rattle.task.specs.declared.operator_rows.OperatorRecord.{OperatorRecord}
use Rattle.operator_records.specs.Change.{number_of, with_percent, changed, change_by, change}
use Rattle.operator_records.specs.Rows.{as_operator, no_record, row_record, with_record}
use Rattle.claims.specs.OperatorRecords.{OneChanged, percent_changed}
use Rattle.operator_records.proofs.Rows.{record_inside, read_back, own_record, one_operator}

changes_one : (rs : List OperatorRecord) (number percent : ℕ) → number < length rs → OneChanged rs (changed rs number percent) number percent
unfolding changed
changes_one [] number percent h = absurd (omega arith)
changes_one (r ∷ rs) zero percent h = record { size = refl; here = refl; others = others }
  where
    others : (k : ℕ) → k ≢ 0 → get_or (with_percent percent r ∷ rs) k no_record ≡ get_or (r ∷ rs) k no_record
    others zero apart = absurd (apart refl)
    others (suc k) apart = refl
changes_one (r ∷ rs) (suc number) percent h =
    let rest = changes_one rs number percent (omega arith) in
    record { size = ap suc rest.size; here = rest.here; others = others rest }
  where
    others :
        OneChanged rs (changed rs number percent) number percent
        → (k : ℕ)
        → k ≢ suc number
        → get_or (r ∷ changed rs number percent) k no_record ≡ get_or (r ∷ rs) k no_record
    others rest zero apart = refl
    others rest (suc k) apart = rest.others k (λ q. apart (ap suc q))

-- A number inside the list and a percent of at most 200 are taken.
pub change_is_made :
    (rs : List OperatorRecord) (number percent : ℕ)
    → number < length rs
    → percent ≤ 200
    → ((change rs number percent).answer ≡ 0) × OneChanged rs (change rs number percent).records number percent
unfolding change number_of change_by
change_is_made rs number percent inside few =
    rw (lt-ltb number (length rs) inside, le-leb percent 200 few) (refl, changes_one rs number percent inside)

-- A record that goes back to its row is read there again, and a row's own record changes nothing.
pub record_comes_back :
    (table : List ℕ) (i : ℕ) (r : OperatorRecord)
    → operator_width * i + operator_width ≤ length table
    → row_record (with_record table i r) i ≡ r
record_comes_back table i r h = read_back table i r h

pub own_record_changes_nothing : (table : List ℕ) (i : ℕ) → with_record table i (row_record table i) ≡ table
own_record_changes_nothing table i = own_record table i

-- In a run: operator i is charged by the new percent, and every other operator as before.
module _ (l : Lent) (i percent : ℕ) (long : LongEnough l) (below : i < l.head.operators) where
  operators_are : (task_of (percent_changed l i percent)).operators ≡ set (task_of l).operators i (as_operator (with_percent percent (row_record l.operators i)))
  unfolding task_of
  operators_are = one_operator l.head.operators l.operators i _ long.operators below

  pub charged_by_the_new_percent :
      (s : List ℕ) → charge (task_of (percent_changed l i percent)) s i ≡ ((operator_of (task_of l) i).cost * percent + 50) / 100
  unfolding charge charge_of operator_of
  charged_by_the_new_percent s =
      let inside : operator_width * i + operator_width ≤ length l.operators = omega (arith, long.operators) in
      rw (
        operators_are,
        get_or-set_same (task_of l).operators i _ no_operator (rw (length_operators l) below),
        ← record_inside l.operators i inside,
        operator_held l i below,
      )
      refl

  pub others_charged_as_before : (s : List ℕ) (k : ℕ) → k ≢ i → charge (task_of (percent_changed l i percent)) s k ≡ charge (task_of l) s k
  unfolding charge operator_of
  others_charged_as_before s k apart = rw (operators_are, get_or-set_other (task_of l).operators i k _ no_operator apart) refl
