-- Rows as records and records as rows: what the two ways give, that each undoes the other, and what a change of one percent is in the task that
-- the tables hold. Assumes nothing.
use native.Mathlib.Omega.{arith}
use Prim.Native.Nat.{ℕ, ◌+◌, ◌*◌, ◌≤◌, ◌<◌}
use native.Mathlib.Decide.{ℕ_discrete}
use mathlib.Core.Logic.{◌≢◌}
use mathlib.Core.Bool.{Bool, true, false, not}
use lib.Dec.{T, leb, leb→le, nleb→lt}
use mathlib.Core.Path.{◌≡◌, sym, ap, ◌∙◌}
use mathlib.Core.List.{List, [], ◌∷◌}
use lib.ListN.{length, get_or, set, length-set}
use borrow.Author.Tests.{le-leb, lt-leb}
use lib.Seq.{sets-eq, get_or-set_same, get_or-set_other, set-get_or, ext_get_or}
use Rattle.task.specs.Bounded.{upto}
use Rattle.task.specs.Rules.{no_operator}
use Rattle.task.proofs.Bounded.{length_upto, getD_upto}
use Rattle.task.specs.Table.{Operator, operator_width, operator_at}
use Rattle.task.specs.Words.{operator_row_words}
use Rattle.task.specs.Inner.Stored.{operator_stored}
use Rattle.task.proofs.Stores.{four_sets, length_operator_stored}
use Rattle.task.specs.declared.operator_rows.OperatorRecord.{OperatorRecord}
use Rattle.operator_records.specs.Rows.{as_record, as_operator, no_record, holds, row_record, with_record}

pub record_inside : (t : List ℕ) (i : ℕ) → operator_width * i + operator_width ≤ length t → as_record (operator_at t i) ≡ row_record t i
unfolding row_record holds
record_inside t i h = rw (le-leb (operator_width * i + operator_width) (length t) h)

-- the same told of `row_record` itself, for the tactics
pub record_there : (t : List ℕ) (i : ℕ) → operator_width * i + operator_width ≤ length t → row_record t i ≡ as_record (operator_at t i)
record_there t i h = sym (record_inside t i h)

pub record_outside : (t : List ℕ) (i : ℕ) → length t < operator_width * i + operator_width → no_record ≡ row_record t i
unfolding row_record holds
record_outside t i h = rw (lt-leb (operator_width * i + operator_width) (length t) h)

pub record_past : (t : List ℕ) (i : ℕ) → length t < operator_width * i + operator_width → row_record t i ≡ no_record
record_past t i h = sym (record_outside t i h)

pub stored_inside : (t : List ℕ) (i : ℕ) (r : OperatorRecord) → operator_width * i + operator_width ≤ length t
    → operator_stored t i (as_operator r) ≡ with_record t i r
unfolding with_record holds operator_row_words
stored_inside t i r h =
    rw (le-leb (operator_width * i + operator_width) (length t) h)
    (four_sets t i (as_operator r) ∙ sets-eq (r.precondition ∷ r.effect ∷ r.cost ∷ r.percent ∷ []) t (operator_width * i) h)

pub stored_outside : (t : List ℕ) (i : ℕ) (r : OperatorRecord) → length t < operator_width * i + operator_width → t ≡ with_record t i r
unfolding with_record holds
stored_outside t i r h = rw (lt-leb (operator_width * i + operator_width) (length t) h)

-- a row that was stored reads as what was stored, and every other row as before
same : (t : List ℕ) (i : ℕ) (o : Operator) → operator_width * i + operator_width ≤ length t → operator_at (operator_stored t i o) i ≡ o
unfolding operator_at
same t i o h =
    let at = operator_width * i in
    let t₁ = set t at o.precondition in
    let t₂ = set t₁ (at + 1) o.effect in
    let t₃ = set t₂ (at + 2) o.cost in
    let size₁ : length t₁ ≡ length t = length-set t at o.precondition in
    let size₂ : length t₂ ≡ length t = length-set t₁ (at + 1) o.effect ∙ size₁ in
    let size₃ : length t₃ ≡ length t = length-set t₂ (at + 2) o.cost ∙ size₂ in
    let first =
    get_or-set_other t₃ (at + 3) at o.percent 0 (omega arith)
    ∙ get_or-set_other t₂ (at + 2) at o.cost 0 (omega arith)
    ∙ get_or-set_other t₁ (at + 1) at o.effect 0 (omega arith)
    ∙ get_or-set_same t at o.precondition 0 (omega arith) in
    let second =
    get_or-set_other t₃ (at + 3) (at + 1) o.percent 0 (omega arith)
    ∙ get_or-set_other t₂ (at + 2) (at + 1) o.cost 0 (omega arith)
    ∙ get_or-set_same t₁ (at + 1) o.effect 0 (omega arith) in
    let third =
    get_or-set_other t₃ (at + 3) (at + 2) o.percent 0 (omega arith)
    ∙ get_or-set_same t₂ (at + 2) o.cost 0 (omega arith) in
    let fourth = get_or-set_same t₃ (at + 3) o.percent 0 (omega arith) in
    λ j. record { precondition = first j; effect = second j; cost = third j; percent = fourth j }

module _ (t : List ℕ) (i : ℕ) (o : Operator) where
  -- a word of another row is none of the four that were stored
  elsewhere : (k : ℕ)
      → k ≢ operator_width * i
      → k ≢ operator_width * i + 1
      → k ≢ operator_width * i + 2
      → k ≢ operator_width * i + 3
      → get_or (operator_stored t i o) k 0 ≡ get_or t k 0
  elsewhere k p e c r = simp get_or-set_other

  other : (k : ℕ) → k ≢ i → operator_at (operator_stored t i o) k ≡ operator_at t k
  unfolding operator_at
  other k apart =
      let at = operator_width * k in
      λ j.
      record {
        precondition = elsewhere at (λ q. apart (omega arith)) (omega arith) (omega arith) (omega arith) j;
        effect = elsewhere (at + 1) (omega arith) (λ q. apart (omega arith)) (omega arith) (omega arith) j;
        cost = elsewhere (at + 2) (omega arith) (omega arith) (λ q. apart (omega arith)) (omega arith) j;
        percent = elsewhere (at + 3) (omega arith) (omega arith) (omega arith) (λ q. apart (omega arith)) j;
      }

  own_stored : operator_stored t i (operator_at t i) ≡ t
  unfolding operator_at
  own_stored = simp set-get_or

at_or_not : {A : Type 0} (k i : ℕ) → (k ≡ i → A) → (k ≢ i → A) → A
at_or_not {A} k i here apart = go (ℕ_discrete k i)
  where
    go : Dec (k ≡ i) → A
    go (yes q) = here q
    go (no q) = apart q

within_or_past : {A : Type 0} (m n : ℕ) → (m ≤ n → A) → (n < m → A) → A
within_or_past {A} m n within past = go (leb m n) (λ h. within (leb→le m n h)) (λ h. past (nleb→lt m n h))
  where
    go : (b : Bool) → (T b → A) → (T (not b) → A) → A
    go true kept broken = kept tt
    go false kept broken = broken tt

-- a record that was stored is read back
pub read_back : (t : List ℕ) (i : ℕ) (r : OperatorRecord) → operator_width * i + operator_width ≤ length t → row_record (with_record t i r) i ≡ r
read_back t i r h =
    let o = as_operator r in
    rw (sym (stored_inside t i r h))
    (sym (record_inside (operator_stored t i o) i (rw (length_operator_stored t i o) h)) ∙ ap as_record (same t i o h))

-- a row's own record changes nothing
pub own_record : (t : List ℕ) (i : ℕ) → with_record t i (row_record t i) ≡ t
own_record t i =
    within_or_past (operator_width * i + operator_width) (length t)
    (λ h. rw (sym (record_inside t i h)) (sym (stored_inside t i (as_record (operator_at t i)) h) ∙ own_stored t i (operator_at t i)))
    (λ h. sym (stored_outside t i (row_record t i) h))

-- of a table of n operators, with a record stored as row i, that one is the record's and the others are as they were
pub one_operator : (n : ℕ) (t : List ℕ) (i : ℕ) (r : OperatorRecord) → operator_width * n ≤ length t → i < n
    → upto n (operator_at (with_record t i r)) ≡ set (upto n (operator_at t)) i (as_operator r)
one_operator n t i r room l =
    let o = as_operator r in
    let before = upto n (operator_at t) in
    let inside : operator_width * i + operator_width ≤ length t = omega arith in
    let size : length before ≡ n = length_upto n (operator_at t) in
    let of-rows : (k : ℕ) → k < n → operator_at (operator_stored t i o) k ≡ get_or (set before i o) k no_operator =
    λ k b. at_or_not k i
    (λ q. rw q (same t i o inside ∙ sym (get_or-set_same before i o no_operator (omega arith))))
    (λ apart. other t i o k apart ∙ sym (get_or-set_other before i k o no_operator apart ∙ getD_upto n (operator_at t) k no_operator b)) in
    rw (sym (stored_inside t i r inside))
    (ext_get_or no_operator _ _ (length_upto n _ ∙ sym (length-set before i o ∙ size))
    (λ k b. let below = rw (length_upto n (operator_at (operator_stored t i o))) at b in getD_upto n _ k no_operator below ∙ of-rows k below))
