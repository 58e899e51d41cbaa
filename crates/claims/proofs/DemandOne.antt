-- Demand 1: what a caller lends is accepted or gets the scope's number. That `task::check::check` answers `refusal` is its contract.
use Prim.Native.Nat.{ℕ, ◌+◌, ◌*◌, ◌≤◌, ◌<◌}
use mathlib.Core.Path.{◌≡◌}
use mathlib.Core.Logic.{◌↔◌}
use mathlib.Core.List.{List, []}
use lib.ListN.{length}
use Rattle.task.specs.Table.{Lent, Task, task_of, part}
use Rattle.task.specs.Check.{refusal}
use Rattle.task.specs.Words.{lent_of}
use Rattle.task.specs.Rules.{LentWords, LongEnough, Rules}
use Rattle.task.proofs.Kept.{kept_rules, rules_kept}
use Rattle.task.proofs.Words.{lent_kept, task_of_lent}
use Rattle.task.proofs.Sixteen.{lent_rules, words_lent}
use Rattle.task.proofs.RowParts.{row_length, row_word, no_part}
use Rattle.claims.specs.Told.{IsRow}

-- Of lent words, which are unsigned 16-bit: the check's number is 0 exactly if every lent table is long enough for its count and the task that the
-- tables hold keeps the rules.
pub accepted_exactly_if : (l : Lent) → LentWords l → refusal l ≡ 0 ↔ LongEnough l × Rules (task_of l)
accepted_exactly_if l words = (
  λ e.
      let k = kept_rules l e in
      (k.0, lent_rules l words k.0 k.1),
  λ p. rules_kept l p.0 p.1.checked,
)

-- Every task that keeps the rules is accepted: its tables, written out word by word, have words that can be lent, get 0 and hold that task.
pub every_task_accepted : (t : Task) → Rules t → LentWords (lent_of t) × (refusal (lent_of t) ≡ 0) × (task_of (lent_of t) ≡ t)
every_task_accepted t rules = (words_lent t rules, lent_kept t rules.checked, task_of_lent t)

-- A row on request, of any width, words and number: the row's words where it is wholly inside them, else the empty part. So of formulas and effects
-- (`row_part`) and of operators (`operator_part`).
pub row_part_is_empty_or_the_row :
    (width : ℕ) (words : List ℕ) (i : ℕ)
    → (width * i + width ≤ length words → IsRow width words i (part width words i)) × (length words < width * i + width → part width words i ≡ [])
row_part_is_empty_or_the_row width words i = (
  λ inside. record { size = row_length width words i inside; word = row_word width words i inside },
  no_part width words i,
)
