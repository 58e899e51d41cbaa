-- Which number a change gives where, and what the outcome is by its number. Assumes nothing.
use mathlib.Core.Path.{◌≡◌, refl, sym, ap, subst, ◌∙◌}
use Prim.Native.Nat.{ℕ, zero, suc, ◌<◌}
use native.Mathlib.Nat.{suc-ne-zero}
use mathlib.Core.Bool.{Bool, true, false}
use mathlib.Core.List.{List, [], ◌∷◌}
use lib.ListN.{length, get_or, set}
use lib.Dec.{T, ltb, ltb→lt}
use Rattle.task.specs.Check.{unless}
use Rattle.task.specs.declared.operator_rows.OperatorRecord.{OperatorRecord}
use Rattle.operator_records.specs.Change.{number_of, with_percent, changed, change_by, change, ChangeGives}

kept-at-zero : (b : Bool) (number otherwise : ℕ) → unless b (suc number) otherwise ≡ 0 → T b
kept-at-zero true number otherwise is = tt
kept-at-zero false number otherwise is = absurd (suc-ne-zero number is)

-- where the answer is 0, the number lies within the list
pub within : (count number percent : ℕ) → number_of count number percent ≡ 0 → number < count
unfolding number_of
within count number percent is = ltb→lt number count (kept-at-zero (ltb number count) 16 _ is)

refused-by : (k : ℕ) (rs : List OperatorRecord) (number percent : ℕ) → (k ≡ 0 → ⊥) → ChangeGives (change_by k rs number percent) k rs
unfolding change_by
refused-by zero rs number percent not_zero = absurd (not_zero refl)
refused-by (suc k) rs number percent not_zero = record { answer = refl; records = refl }

changed_by : (k : ℕ) (rs : List OperatorRecord) (number percent : ℕ) → k ≡ 0 → ChangeGives (change_by k rs number percent) k (changed rs number percent)
unfolding change_by
changed_by zero rs number percent is = record { answer = refl; records = refl }
changed_by (suc k) rs number percent is = absurd (suc-ne-zero k is)

-- an answer that is not 0 leaves every record as it was
pub change-refused : (rs : List OperatorRecord) (number percent r : ℕ) → r ≡ number_of (length rs) number percent → (r ≡ 0 → ⊥)
    → ChangeGives (change rs number percent) r rs
unfolding change
change-refused rs number percent r is not_zero =
    let by_number = refused-by (number_of (length rs) number percent) rs number percent (subst (λ (k : ℕ). k ≡ 0 → ⊥) is not_zero) in
    subst (λ k. ChangeGives (change rs number percent) k rs) (sym is) by_number

-- the record with another percent, stored at its number, is the definition's list
stored_is : (d : OperatorRecord) (rs : List OperatorRecord) (number percent : ℕ)
    → changed rs number percent ≡ set rs number (with_percent percent (get_or rs number d))
unfolding changed
stored_is d [] number percent = refl
stored_is d (r ∷ rs) zero percent = refl
stored_is d (r ∷ rs) (suc number) percent = ap {B = List OperatorRecord} (λ rest. r ∷ rest) (stored_is d rs number percent)

-- an answer of 0 goes with that store
pub change_made : (d : OperatorRecord) (rs : List OperatorRecord) (number percent r : ℕ) → r ≡ number_of (length rs) number percent → r ≡ 0
    → ChangeGives (change rs number percent) r (set rs number (with_percent percent (get_or rs number d)))
unfolding change
change_made d rs number percent r is zeroed =
    let by_number = changed_by (number_of (length rs) number percent) rs number percent (sym is ∙ zeroed) in
    subst (λ after. ChangeGives (change rs number percent) r after) (stored_is d rs number percent)
    (subst (λ k. ChangeGives (change rs number percent) k (changed rs number percent)) (sym is) by_number)
