-- The two calls undo each other, from what they answer: a file of the length that writing told is read as the same head and words, and what was
-- read is written as the same bytes. Assumes nothing.
use Prim.Native.Nat.{ℕ, ◌-◌, ◌*◌, ◌≤◌}
use native.Mathlib.Omega.{arith}
use mathlib.Core.Path.{◌≡◌, refl, sym, ap, ◌∙◌}
use mathlib.Core.Bool.{Bool, true, false, cond}
use mathlib.Core.List.{List}
use lib.ListN.{length, take, replicate}
use lib.Seq.{take-append_seam, length-take-le}
use lib.Dec.{leb, eqb}
use borrow.Author.Tests.{leb-true, le-leb, eqb-true}
use Rattle.task.specs.declared.Head.{Head}
use Rattle.task.specs.Bounded.{upto}
use Rattle.task.specs.Table.{Lent, Task, lent, row_at, operator_at, task_of, operator_width}
use Rattle.task.specs.Check.{refusal}
use Rattle.task.specs.Rules.{LongEnough, HasRoom}
use Rattle.task.specs.Words.{padded, head_of, words_of, operator_words}
use Rattle.task.proofs.Held.{length_formulas, length_effects, length_operators}
use Rattle.task.proofs.Kept.{kept_rules}
use Rattle.task.proofs.Words.{length_words, length_operator_words}
use Rattle.task.proofs.Fronts.{rows_front, operators_front}
use Rattle.file_format.specs.Bytes.{file_of}
use Rattle.file_format.specs.Reading.{Lengths, Verdict, accepted, rejected, reading}
use Rattle.file_format.proofs.Parse.{Bytes}
use Rattle.task_file.specs.Outcome.{Read, ReadOutcome, outcome_of, read_outcome}
use Rattle.task_writer.specs.Writing.{WriteOutcome, Written, NotWritten, wrote, file_outcome, write_outcome}
use Rattle.task_writer.proofs.WriteWays.{same_head}
use Rattle.task_writer.proofs.Calls.{read_after_write, write_after_read}

-- What the answer "written, so many bytes" says.
pub record WrittenTold (l : Lent) (n k : ℕ) : Type 0 where
  pub passed : refusal l ≡ 0
  pub fits : length (file_of (task_of l)) ≤ n
  pub counted : k ≡ length (file_of (task_of l))

pub written_told : (l : Lent) (n k : ℕ) → (write_outcome l n).answer ≡ Written k → WrittenTold l n k
unfolding write_outcome file_outcome
written_told l n k e = go (eqb (refusal l) 0) (leb (length file) n) refl refl e
  where
    file : List ℕ
    file = file_of (task_of l)

    go :
        (b c : Bool)
        → eqb (refusal l) 0 ≡ b
        → leb (length file) n ≡ c
        → (cond b (cond c (wrote (Written (length file)) (padded n file)) (wrote (NotWritten 20) (replicate n 0)))
        (wrote (NotWritten (refusal l)) (replicate n 0))
        ).answer
        ≡ Written k
        → WrittenTold l n k
    go true true x y q =
        record { passed = eqb-true (refusal l) 0 x; fits = leb-true (length file) n y; counted = cc }
    go true false x y q = absurd (let z : ◌≡◌ {A = ℕ} 0 1 = cc in omega arith)
    go false c x y q = absurd (let z : ◌≡◌ {A = ℕ} 0 1 = cc in omega arith)

-- What the answer "read, this head" says.
pub record ReadTold (lengths : Lengths) (file : List ℕ) (h : Head) : Type 0 where
  pub task : Task
  pub read : reading lengths file ≡ accepted task
  pub head : h ≡ head_of task

pub read_told : (lengths : Lengths) (file : List ℕ) (h : Head) → (read_outcome lengths file).answer ≡ Read h → ReadTold lengths file h
unfolding read_outcome outcome_of
read_told lengths file h e = go (reading lengths file) refl e
  where
    go : (o : Verdict) → reading lengths file ≡ o → (outcome_of lengths o).answer ≡ Read h → ReadTold lengths file h
    go (accepted t) q r = record { task = t; read = q; head = cc }
    go (rejected n) q r = absurd (let z : ◌≡◌ {A = ℕ} 0 1 = cc in omega arith)

-- what stands in front of a table
front : (n k : ℕ) (words : List ℕ) → length words ≡ k → take k (padded n words) ≡ words
unfolding padded
front n k words e = rw (← e) (take-append_seam words (replicate (n - length words) 0))

-- Tables that were written into n bytes, k of them, and read again.
module _
    (l : Lent) (n k : ℕ) (lengths : Lengths)
    (told : (write_outcome l n).answer ≡ Written k) (room : HasRoom lengths (task_of l))
  where
    long : LongEnough l
    long = (kept_rules l (written_told l n k told).passed).0

    same_outcome : read_outcome lengths (take k (write_outcome l n).out) ≡ outcome_of lengths (accepted (task_of l))
    same_outcome =
        let w = written_told l n k told in
        rw w.counted (read_after_write l n lengths w.passed w.fits room)

    pub head_again : (read_outcome lengths (take k (write_outcome l n).out)).answer ≡ Read l.head
    unfolding outcome_of
    head_again = ap (λ (o : ReadOutcome). o.answer) same_outcome ∙ ap Read (same_head l long)

    pub initial_again :
        take l.head.variables (read_outcome lengths (take k (write_outcome l n).out)).initial
        ≡ take l.head.variables l.initial
    unfolding outcome_of task_of
    initial_again =
        ap (λ (o : ReadOutcome). take l.head.variables o.initial) same_outcome
        ∙ front lengths.initial l.head.variables (take l.head.variables l.initial)
        (length-take-le l.head.variables l.initial long.initial)

    pub twins_again :
        take l.head.twins (read_outcome lengths (take k (write_outcome l n).out)).twins
        ≡ take l.head.twins l.twins
    unfolding outcome_of task_of
    twins_again =
        ap (λ (o : ReadOutcome). take l.head.twins o.twins) same_outcome
        ∙ front lengths.twins l.head.twins (take l.head.twins l.twins)
        (length-take-le l.head.twins l.twins long.twins)

    pub formulas_again :
        take (3 * l.head.formulas) (read_outcome lengths (take k (write_outcome l n).out)).formulas
        ≡ take (3 * l.head.formulas) l.formulas
    unfolding outcome_of task_of
    formulas_again =
        let rows = upto l.head.formulas (row_at l.formulas) in
        ap (λ (o : ReadOutcome). take (3 * l.head.formulas) o.formulas) same_outcome
        ∙ front lengths.formulas (3 * l.head.formulas) (words_of rows)
        (length_words rows ∙ ap (λ (i : ℕ). 3 * i) (length_formulas l))
        ∙ sym (rows_front l.formulas l.head.formulas long.formulas)

    pub effects_again :
        take (3 * l.head.effects) (read_outcome lengths (take k (write_outcome l n).out)).effects
        ≡ take (3 * l.head.effects) l.effects
    unfolding outcome_of task_of
    effects_again =
        let rows = upto l.head.effects (row_at l.effects) in
        ap (λ (o : ReadOutcome). take (3 * l.head.effects) o.effects) same_outcome
        ∙ front lengths.effects (3 * l.head.effects) (words_of rows)
        (length_words rows ∙ ap (λ (i : ℕ). 3 * i) (length_effects l))
        ∙ sym (rows_front l.effects l.head.effects long.effects)

    pub operators_again :
        take (operator_width * l.head.operators) (read_outcome lengths (take k (write_outcome l n).out)).operators
        ≡ take (operator_width * l.head.operators) l.operators
    unfolding outcome_of task_of
    operators_again =
        let rows = upto l.head.operators (operator_at l.operators) in
        ap (λ (o : ReadOutcome). take (operator_width * l.head.operators) o.operators) same_outcome
        ∙ front lengths.operators (operator_width * l.head.operators) (operator_words rows)
        (length_operator_words rows ∙ ap (λ (i : ℕ). operator_width * i) (length_operators l))
        ∙ sym (operators_front l.operators l.head.operators long.operators)

-- A file that was read, written again into n bytes.
module _
    (lengths : Lengths) (file : List ℕ) (h : Head) (n : ℕ)
    (bytes : Bytes file) (told : (read_outcome lengths file).answer ≡ Read h) (fits : length file ≤ n)
  where
    written_again :
        let o = read_outcome lengths file in
        write_outcome (lent h o.initial o.twins o.formulas o.effects o.operators) n
        ≡ wrote (Written (length file)) (padded n file)
    unfolding file_outcome
    written_again =
        let r = read_told lengths file h told in
        rw r.head
        (write_after_read lengths file r.task n bytes r.read ∙ rw (le-leb (length file) n fits))

    pub length_again :
        let o = read_outcome lengths file in
        (write_outcome (lent h o.initial o.twins o.formulas o.effects o.operators) n).answer
        ≡ Written (length file)
    length_again = ap (λ (w : WriteOutcome). w.answer) written_again

    pub bytes_again :
        let o = read_outcome lengths file in
        take (length file) (write_outcome (lent h o.initial o.twins o.formulas o.effects o.operators) n).out
        ≡ file
    bytes_again =
        ap (λ (w : WriteOutcome). take (length file) w.out) written_again ∙ front n (length file) file refl
