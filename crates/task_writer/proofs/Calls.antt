-- The two calls undo each other: what reading leaves of what writing left, and the other way round. Assumes nothing.
use Prim.Native.Nat.{ℕ, ◌-◌, ◌≤◌}
use mathlib.Core.Path.{◌≡◌, sym, ap, ◌∙◌}
use mathlib.Core.List.{List}
use lib.ListN.{length, take, replicate}
use lib.Seq.{take-append_seam}
use borrow.Author.Tests.{le-leb, eq-eqb}
use Rattle.task.specs.Table.{Lent, Task, lent, task_of}
use Rattle.task.specs.Check.{refusal}
use Rattle.task.specs.Words.{head_of, words_of, operator_words, padded}
use Rattle.task.proofs.Kept.{kept_rules}
use Rattle.task.proofs.Words.{lent_in, task_in, kept_in}
use Rattle.file_format.specs.Bytes.{file_of}
use Rattle.task.specs.Rules.{HasRoom}
use Rattle.file_format.specs.Reading.{Lengths, accepted, reading}
use Rattle.task_file.specs.Outcome.{outcome_of, read_outcome}
use Rattle.task_writer.specs.Writing.{file_outcome, write_outcome}
use Rattle.file_format.proofs.Parse.{Bytes}
use Rattle.file_format.proofs.RoundTrip.{read_written, written_read}

-- tables that keep the rules, written and read again: the same head and the same words, and 0 behind them
pub read_after_write :
    (l : Lent) (n : ℕ) (lengths : Lengths)
    → refusal l ≡ 0
    → length (file_of (task_of l)) ≤ n
    → HasRoom lengths (task_of l)
    → read_outcome lengths (take (length (file_of (task_of l))) (write_outcome l n).out) ≡ outcome_of lengths (accepted (task_of l))
unfolding write_outcome file_outcome padded read_outcome
read_after_write l n lengths e h room =
    let file = file_of (task_of l) in
    let zeros : List ℕ = replicate (n - length file) 0 in
    rw (eq-eqb (refusal l) 0 e, le-leb (length file) n h)
    (ap (λ (f : List ℕ). outcome_of lengths (reading lengths f)) (take-append_seam file zeros)
    ∙ ap (outcome_of lengths) (read_written lengths (task_of l) (kept_rules l e).1 room))

-- an accepted file, read and written again: the same bytes, or 20 if the output is shorter
pub write_after_read :
    (lengths : Lengths) (file : List ℕ) (t : Task) (n : ℕ)
    → Bytes file
    → reading lengths file ≡ accepted t
    → let o = read_outcome lengths file in
    write_outcome (lent (head_of t) o.initial o.twins o.formulas o.effects o.operators) n ≡ file_outcome file n
unfolding write_outcome read_outcome outcome_of padded lent_in
write_after_read lengths file t n b e =
    let a = written_read lengths file t b e in
    let i : List ℕ = replicate (lengths.initial - length t.initial) 0 in
    let w : List ℕ = replicate (lengths.twins - length t.originals) 0 in
    let f : List ℕ = replicate (lengths.formulas - length (words_of t.formulas)) 0 in
    let g : List ℕ = replicate (lengths.effects - length (words_of t.effects)) 0 in
    let o : List ℕ = replicate (lengths.operators - length (operator_words t.operators)) 0 in
    rw (e, eq-eqb (refusal (lent_in t i w f g o)) 0 (kept_in t i w f g o a.rules), task_in t i w f g o)
    (ap (λ (x : List ℕ). file_outcome x n) (sym a.same))
