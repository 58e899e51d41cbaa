-- Demands 1 and 2, of task files: a file is accepted exactly if it is a task's, and reading and writing undo each other. The contract of
-- `task_file::read::read` cites `read_outcome`, that of `task_writer::write::write` cites `write_outcome`; here `reading` is what is read of the bytes.
use Prim.Native.Nat.{ℕ, ◌≤◌}
use mathlib.Core.Path.{◌≡◌, sym}
use mathlib.Core.Logic.{◌↔◌}
use mathlib.Core.List.{List, [], ◌∷◌, ◌++◌}
use lib.ListN.{length, take}
use Rattle.task.specs.declared.Head.{Head}
use Rattle.task.specs.Table.{Lent, Task, lent, task_of}
use Rattle.task.specs.Check.{refusal}
use Rattle.task.specs.Rules.{Rules, HasRoom}
use Rattle.task.proofs.Sixteen.{rules_with_costs}
use Rattle.task.specs.Words.{head_of}
use Rattle.file_format.specs.Bytes.{file_of}
use Rattle.file_format.specs.Reading.{Lengths, accepted, rejected, reading}
use Rattle.task_file.specs.Outcome.{Read, outcome_of, read_outcome}
use Rattle.task_writer.specs.Writing.{Written, file_outcome, write_outcome}
use Rattle.file_format.proofs.Parse.{Bytes}
use Rattle.file_format.proofs.RoundTrip.{read_written, written_read, cut_short, bytes_follow, apart}
use Rattle.file_format.proofs.OfBytes.{bytes_each, each_byte, file_is_bytes, costs_of_bytes}
use Rattle.task_writer.proofs.Calls.{read_after_write, write_after_read}
use Rattle.task_writer.proofs.Told.{head_again, initial_again, twins_again, formulas_again, effects_again, operators_again, length_again, bytes_again}
use Rattle.claims.specs.Statements.{OfBytes}
use Rattle.claims.specs.Files.{SameTables, SameFile}

-- what was read of bytes keeps the rules
read_rules : (l : Lengths) (file : List ℕ) (t : Task) → Bytes file → reading l file ≡ accepted t → Rules t
read_rules l file t b e =
    let a = written_read l file t b e in
    rules_with_costs t a.rules (costs_of_bytes t (rw a.same at b))

-- A file is accepted exactly if it is the file of a task that keeps the rules and for which the lent tables are long enough.
pub file_accepted_exactly_if :
    (l : Lengths) (file : List ℕ) (t : Task)
    → OfBytes file
    → reading l file ≡ accepted t ↔ (file ≡ file_of t) × Rules t × HasRoom l t
file_accepted_exactly_if l file t bytes = (
  λ e.
      let a = written_read l file t (bytes_each file bytes.byte) e in
      (a.same, read_rules l file t (bytes_each file bytes.byte) e, a.roomy),
  λ p. rw p.0 (read_written l t p.1.checked p.2),
)

-- Every task that keeps the rules has a file: its bytes are bytes.
pub file_of_a_task : (t : Task) → Rules t → OfBytes (file_of t)
file_of_a_task t rules = record { byte = each_byte (file_of t) (file_is_bytes t rules) }

-- Reading the file that writing gives yields the same task ..
pub reading_what_was_written : (l : Lengths) (t : Task) → Rules t → HasRoom l t → reading l (file_of t) ≡ accepted t
reading_what_was_written l t rules room = read_written l t rules.checked room

-- .. and of the two calls: where writing answers "written, k bytes", those k bytes, read into tables that are long enough, give the same head and
-- the same words.
pub read_gives_what_was_written :
    (l : Lent) (n k : ℕ) (lengths : Lengths)
    → (write_outcome l n).answer ≡ Written k
    → HasRoom lengths (task_of l)
    → SameTables l (read_outcome lengths (take k (write_outcome l n).out))
read_gives_what_was_written l n k lengths told room =
    record {
      head = head_again l n k lengths told room;
      initial = initial_again l n k lengths told room;
      twins = twins_again l n k lengths told room;
      formulas = formulas_again l n k lengths told room;
      effects = effects_again l n k lengths told room;
      operators = operators_again l n k lengths told room;
    }

-- The whole outcome of that reading, with 0 behind the words.
pub outcome_of_what_was_written :
    (l : Lent) (n : ℕ) (lengths : Lengths)
    → refusal l ≡ 0
    → length (file_of (task_of l)) ≤ n
    → HasRoom lengths (task_of l)
    → read_outcome lengths (take (length (file_of (task_of l))) (write_outcome l n).out) ≡ outcome_of lengths (accepted (task_of l))
outcome_of_what_was_written l n lengths passed fits room = read_after_write l n lengths passed fits room

-- Writing what reading gave yields the same bytes, so one task has one file ..
pub writing_what_was_read :
    (l : Lengths) (file : List ℕ) (t : Task)
    → OfBytes file
    → reading l file ≡ accepted t
    → file_of t ≡ file
writing_what_was_read l file t bytes e = sym (written_read l file t (bytes_each file bytes.byte) e).same

-- .. and of the two calls: where reading answers "read, head h", the tables that it gave, written with that head into an output that is long enough,
-- give the file's length and its bytes.
pub write_gives_what_was_read :
    (lengths : Lengths) (file : List ℕ) (h : Head) (n : ℕ)
    → OfBytes file
    → (read_outcome lengths file).answer ≡ Read h
    → length file ≤ n
    → let o = read_outcome lengths file in
    SameFile file (write_outcome (lent h o.initial o.twins o.formulas o.effects o.operators) n)
write_gives_what_was_read lengths file h n bytes told fits =
    let b = bytes_each file bytes.byte in
    record {
      written = length_again lengths file h n b told fits;
      bytes = bytes_again lengths file h n b told fits;
    }

-- The whole outcome of that writing: the file and 0 behind it, or 20 if the output is shorter.
pub outcome_of_what_was_read :
    (lengths : Lengths) (file : List ℕ) (t : Task) (n : ℕ)
    → OfBytes file
    → reading lengths file ≡ accepted t
    → let o = read_outcome lengths file in
    write_outcome (lent (head_of t) o.initial o.twins o.formulas o.effects o.operators) n ≡ file_outcome file n
outcome_of_what_was_read lengths file t n bytes e =
    write_after_read lengths file t n (bytes_each file bytes.byte) e

-- A strict prefix of an accepted file gives 1.
pub prefix_gives_one :
    (l : Lengths) (front : List ℕ) (x : ℕ) (more : List ℕ) (t : Task)
    → reading l (front ++ (x ∷ more)) ≡ accepted t
    → reading l front ≡ rejected 1
prefix_gives_one l front x more t e = cut_short l front x more t e

-- An accepted file with bytes behind it gives 4.
pub bytes_behind_give_four :
    (l : Lengths) (file : List ℕ) (x : ℕ) (more : List ℕ) (t : Task)
    → OfBytes file
    → reading l file ≡ accepted t
    → reading l (file ++ (x ∷ more)) ≡ rejected 4
bytes_behind_give_four l file x more t bytes e = bytes_follow l file x more t (bytes_each file bytes.byte) e

-- No task's file is the beginning of another's: where it is, the tasks are one and nothing is left.
pub no_file_begins_another :
    (t u : Task) (rest : List ℕ)
    → Rules t
    → Rules u
    → file_of t ++ rest ≡ file_of u
    → (t ≡ u) × (rest ≡ [])
no_file_begins_another t u rest rules others e = apart t u rest rules.checked others.checked e
