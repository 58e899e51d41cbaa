-- A buffer of 165,408 bytes has room for the lines of any tables that pass the check, and one of 8 bytes for any refusal of 16 bits.
use Prim.Native.Nat.{ℕ, ◌≤◌, ◌<◌}
use native.Mathlib.Omega.{arith}
use mathlib.Core.Path.{◌≡◌, ◌∙◌}
use lib.ListN.{length, get_or}
use Rattle.task.specs.Table.{Lent, operator_at, task_of}
use Rattle.task.specs.Check.{refusal}
use Rattle.task.specs.Words.{padded}
use Rattle.task.specs.Rules.{no_operator}
use Rattle.task.proofs.Held.{length_operators, operator_held}
use Rattle.task.proofs.Kept.{kept_rules}
use Rattle.printing.specs.Printing.{Printed}
use Rattle.printing.specs.Lines.{lines, refusal_line}
use Rattle.printing.specs.Printing.{printing, printing_refusal}
use Rattle.printing.proofs.Settled.{placed_whole, passes}
use Rattle.printing.proofs.Short.{lines_short, refusal_line_short}

-- the costs of the task that lent tables hold
costs_held :
    (l : Lent)
    → ((i : ℕ) → i < l.head.operators → (operator_at l.operators i).cost < 65536)
    → (i : ℕ)
    → i < length (task_of l).operators
    → (get_or (task_of l).operators i no_operator).cost < 65536
costs_held l costs i h =
    let b : i < l.head.operators = rw (length_operators l) at h in
    rw (operator_held l i b) (costs i b)

pub task_printed :
    (l : Lent) (n : ℕ)
    → refusal l ≡ 0
    → ((i : ℕ) → i < l.head.operators → (operator_at l.operators i).cost < 65536)
    → 165408 ≤ n
    → let text = lines (task_of l) in
    printing l n ≡ record { answer = Printed (length text); out = padded n text }
task_printed l n e costs h =
    let short : length (lines (task_of l)) ≤ 165408 = lines_short (task_of l) (kept_rules l e).1 (costs_held l costs) in
    passes l n e ∙ placed_whole (lines (task_of l)) n (omega arith)

pub refusal_printed :
    (number n : ℕ)
    → number < 65536
    → 8 ≤ n
    → let text = refusal_line number in
    printing_refusal number n ≡ record { answer = Printed (length text); out = padded n text }
unfolding printing_refusal
refusal_printed number n b h =
    let short : length (refusal_line number) ≤ 8 = refusal_line_short number b in
    placed_whole (refusal_line number) n (omega arith)
