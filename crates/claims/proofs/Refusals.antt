-- What every call leaves: after a refusal every output buffer is all 0; after success, all past the answer is 0; scratch always ends as 0; a refused
-- step or run leaves the state unchanged and reports 0 steps, cost 0 and no goal. One theorem a call, over the definition that its contract cites.
use Prim.Native.Nat.{ℕ, zero, suc, ◌+◌, ◌-◌, ◌*◌, ◌%◌, ◌≤◌}
use native.Mathlib.Omega.{arith}
use mathlib.Core.Path.{◌≡◌, refl, ap, ◌∙◌}
use mathlib.Core.Logic.{⊎_elim}
use mathlib.Core.Bool.{Bool, true, false, cond, ◌&&◌}
use mathlib.Core.List.{List, [], ◌∷◌, ◌++◌}
use lib.ListN.{length, get_or, replicate, length-append, length-replicate, get_or-replicate}
use lib.Seq.{get_or-append-add}
use lib.Dec.{leb, eqb}
use borrow.Author.Tests.{leb-true}
use Rattle.task.specs.Table.{Row, Operator, Lent, Task, task_of, operator_width}
use Rattle.task.specs.Check.{state_kept, sequence_kept, refusal, unless}
use Rattle.task.specs.Run.{Run, Stop, ended, stopped, plain_run}
use Rattle.task.specs.Words.{padded, head_of, words_of, operator_words}
use Rattle.task.proofs.Bounded.{and_left, and_right}
use Rattle.task.proofs.Words.{length_words, length_operator_words}
use Rattle.file_format.specs.Bytes.{file_of}
use Rattle.file_format.specs.Reading.{Lengths, accepted, rejected, reading, Verdict as Reading}
use Rattle.file_format.proofs.RoundTrip.{written_read}
use Rattle.file_format.proofs.Numbers.{rejected_by}
use Rattle.task_file.specs.Outcome.{outcome_of, read_outcome}
use Rattle.task_writer.specs.Writing.{Written, NotWritten, wrote, file_outcome, write_outcome}
use Rattle.stepper.specs.Stepped.{early_refusal, step_refused, step_told, step_by, stepped}
use Rattle.plan.specs.Outcome.{Refused as RunRefused, run_refusal, run_refused, end_of, run_answer, run_told, run_by, ran}
use Rattle.normal_form.specs.Finished.{finished}
use Rattle.normal_form.specs.Compiled.{Room, nothing_given, task_given, compiling}
use Rattle.normal_form.proofs.Compiled.{given_compiles, given_outcome, given_head, refused_leaves, scratch_ends}
use Rattle.entry_tables.specs.Own.{own, compile_number}
use Rattle.layouts.specs.Layout.{low_bytes, numbers_of, run_number, stop_number, run_bytes, tables_bytes, laid_by, laid}
use Rattle.layouts.proofs.RunWays.{free_of, low_length}
use Rattle.layouts.proofs.Sizes.{length_tables_bytes, length_run_bytes}
use Rattle.read_entry.specs.Entry.{read_entry_by, read_entry}
use Rattle.run_entry.specs.Entry.{run_given, run_entry_by, run_entry}
use Rattle.compiled_file.specs.Filed.{no_file, filed_by, filed, compiled_file_by, compiled_file}
use Rattle.compile_entry.specs.Entry.{compile_entry_by, compile_entry}
use Rattle.claims.proofs.FileNumbers.{told_some, told_apart}
use Rattle.claims.specs.Statements.{OfBytes}
use Rattle.claims.proofs.DemandTwoRuns.{stopped_where}
use Rattle.claims.specs.Zero.{AllZero, ZeroPast, ReadLeaves, WriteLeaves, CompileLeaves, StepLeaves, RunLeaves, ReadEntryLeaves, CompileEntryLeaves, RunNumber, not_stopped, stopped_outside, stopped_not_applicable, RunEntryLeaves}
use Rattle.file_format.proofs.OfBytes.{bytes_each}

-- what zeros are, and words with zeros behind them
pub all_zero : (n : ℕ) → AllZero n (replicate n 0)
all_zero n = record { size = length-replicate n 0; zeros = λ i h. get_or-replicate n i 0 0 h }

pub zero_past :
    (n : ℕ) (words : List ℕ) (k : ℕ)
    → length words ≡ k
    → k ≤ n
    → ZeroPast k n (words ++ replicate (n - length words) 0)
zero_past n words k e h =
    let rest : List ℕ = replicate (n - length words) 0 in
    record {
      size = length-append words rest ∙ omega (arith, length-replicate {A = ℕ} (n - length words) 0);
      inside = h;
      zeros =
          λ i past below.
          let split : i ≡ length words + (i - length words) = omega arith in
          ap (λ (j : ℕ). get_or (words ++ rest) j 0) split
          ∙ get_or-append-add words rest (i - length words) 0
          ∙ get_or-replicate (n - length words) (i - length words) 0 0 (omega arith);
    }

pub words_past : (n : ℕ) (words : List ℕ) → length words ≤ n → ZeroPast (length words) n (words ++ replicate (n - length words) 0)
words_past n words h = zero_past n words (length words) refl h

rows_past :
    (n : ℕ) (rows : List Row)
    → 3 * length rows ≤ n
    → ZeroPast (3 * length rows) n (words_of rows ++ replicate (n - length (words_of rows)) 0)
rows_past n rows h = zero_past n (words_of rows) (3 * length rows) (length_words rows) h

operators_past :
    (n : ℕ) (operators : List Operator)
    → operator_width * length operators ≤ n
    → ZeroPast (operator_width * length operators) n (operator_words operators ++ replicate (n - length (operator_words operators)) 0)
operators_past n operators h =
    zero_past n (operator_words operators) (operator_width * length operators) (length_operator_words operators) h

-- read: a refusal leaves all five tables 0; a task that is read leaves 0 past V bytes, W originals and three words a row.
pub read_leaves : (l : Lengths) (file : List ℕ) → OfBytes file → ReadLeaves l (read_outcome l file)
unfolding read_outcome outcome_of padded
read_leaves l file bytes = go (reading l file) refl
  where
    go : (x : Reading) → reading l file ≡ x → ReadLeaves l (outcome_of l x)
    go (accepted t) q =
        let room = (written_read l file t (bytes_each file bytes.byte) q).roomy in
        record {
          after_refusal = λ n e. absurd (let z : ◌≡◌ {A = ℕ} 0 1 = cc in omega arith);
          after_success =
              λ h e.
              let same : head_of t ≡ h = cc in
              rw (← same)
              (unfold head_of in
              record {
                initial = words_past l.initial t.initial room.initial;
                twins = words_past l.twins t.originals room.twins;
                formulas = rows_past l.formulas t.formulas room.formulas;
                effects = rows_past l.effects t.effects room.effects;
                operators = operators_past l.operators t.operators room.operators;
              });
        }
    go (rejected k) q =
        record {
          after_refusal =
              λ n e.
              record {
                initial = all_zero l.initial;
                twins = all_zero l.twins;
                formulas = all_zero l.formulas;
                effects = all_zero l.effects;
                operators = all_zero l.operators;
              };
          after_success = λ h e. absurd (let z : ◌≡◌ {A = ℕ} 0 1 = cc in omega arith);
        }

nothing_written : (n k : ℕ) → WriteLeaves n (wrote (NotWritten k) (replicate n 0))
nothing_written n k =
    record {
      after_refusal = λ m e. all_zero n;
      after_success = λ m e. absurd (let z : ◌≡◌ {A = ℕ} 0 1 = cc in omega arith);
    }

file_leaves : (file : List ℕ) (n : ℕ) → WriteLeaves n (file_outcome file n)
unfolding file_outcome padded
file_leaves file n = go (leb (length file) n) refl
  where
    go :
        (b : Bool)
        → leb (length file) n ≡ b
        → WriteLeaves n (cond b (wrote (Written (length file)) (padded n file)) (wrote (NotWritten 20) (replicate n 0)))
    go true fits =
        record {
          after_refusal = λ k e. absurd (let z : ◌≡◌ {A = ℕ} 0 1 = cc in omega arith);
          after_success =
              λ k e.
              let same : length file ≡ k = cc in
              zero_past n file k same (omega (arith, leb-true (length file) n fits));
        }
    go false fits = nothing_written n 20

-- write: a refusal leaves the output all 0, 20 too; a file of k bytes leaves 0 past them.
pub write_leaves : (l : Lent) (n : ℕ) → WriteLeaves n (write_outcome l n)
unfolding write_outcome
write_leaves l n = go (eqb (refusal l) 0)
  where
    go :
        (b : Bool)
        → WriteLeaves n (cond b (file_outcome (file_of (task_of l)) n) (wrote (NotWritten (refusal l)) (replicate n 0)))
    go true = file_leaves (file_of (task_of l)) n
    go false = nothing_written n (refusal l)

-- compile: the five tables as after reading, and scratch all 0 on every way out.
pub compile_leaves : (l : Lent) (room : Room) → CompileLeaves room (compiling l room)
unfolding nothing_given task_given padded
compile_leaves l room =
    record {
      after_refusal =
          λ n e.
          rw (refused_leaves l room n e)
          (record {
            initial = all_zero room.initial;
            twins = all_zero room.twins;
            formulas = all_zero room.formulas;
            effects = all_zero room.effects;
            operators = all_zero room.operators;
          });
      after_success =
          λ h e.
          let t = finished (task_of l) in
          let fits = (given_compiles l room h e).fits in
          rw (given_outcome l room h e, given_head l room h e)
          (unfold head_of in
          record {
            initial = words_past room.initial t.initial fits.tables.initial;
            twins = words_past room.twins t.originals fits.tables.twins;
            formulas = rows_past room.formulas t.formulas fits.tables.formulas;
            effects = rows_past room.effects t.effects fits.tables.effects;
            operators = operators_past room.operators t.operators fits.tables.operators;
          });
      scratch = rw (scratch_ends l room) (all_zero room.scratch);
    }

-- step: whatever refuses it, 17 and 18 too, it leaves the state as it was and tells 0 steps, cost 0 and no goal; scratch is all 0 on every way out.
pub step_leaves : (l : Lent) (s : List ℕ) (o : ℕ) (scratch : List ℕ) → StepLeaves s scratch (stepped l s o scratch)
unfolding stepped step_by step_told step_refused
step_leaves l s o scratch = go (early_refusal l s scratch)
  where
    nothing-done : (n : ℕ) → StepLeaves s scratch (step_refused n s scratch)
    nothing-done n =
        record {
          after_refusal = λ d. record { state = refl; no_steps = refl; no_cost = refl; no_goal = refl };
          scratch = all_zero (length scratch);
        }

    told : (stop : Stop) (r : Run) → StepLeaves s scratch (step_told stop r s scratch)
    told ended r = record { after_refusal = λ d. absurd (d refl); scratch = all_zero (length scratch) }
    told (stopped n) r = nothing-done n

    go : (n : ℕ) → StepLeaves s scratch (step_by n l s o scratch)
    go zero =
        let r = plain_run (task_of l) s (o ∷ []) in
        told r.stop r
    go (suc n) = nothing-done (suc n)

-- run: the same of a refused run; a run that 17 or 18 stops is none.
pub run_leaves : (l : Lent) (s numbers scratch : List ℕ) → RunLeaves s scratch (ran l s numbers scratch)
unfolding ran run_by run_told run_answer run_refused end_of
run_leaves l s numbers scratch = go (run_refusal l s numbers scratch)
  where
    not_refused : (stop : Stop) (steps : ℕ) (goal : Bool) (n : ℕ) → end_of stop steps goal ≡ RunRefused n → ⊥
    not_refused ended steps goal n e = let z : ◌≡◌ {A = ℕ} 0 1 = cc in omega arith
    not_refused (stopped k) steps goal n e = let z : ◌≡◌ {A = ℕ} 0 1 = cc in omega arith

    go : (n : ℕ) → RunLeaves s scratch (run_by n l s numbers scratch)
    go zero =
        let r = plain_run (task_of l) s numbers in
        record {
          after_refusal = λ n e. absurd (not_refused r.stop r.steps r.goal n e);
          scratch = all_zero (length scratch);
        }
    go (suc n) =
        record {
          after_refusal = λ m e. record { state = refl; no_steps = refl; no_cost = refl; no_goal = refl };
          scratch = all_zero (length scratch);
        }

-- pnf_read: a number other than 0 leaves the buffer all 0; with 0 a task was read, and past its layout all is 0.
pub read_entry_leaves : (file : List ℕ) (n : ℕ) → ReadEntryLeaves file n (read_entry file n)
unfolding read_entry read_entry_by laid laid_by padded
read_entry_leaves file n = go (reading own file) refl
  where
    given :
        (t : Task)
        → reading own file ≡ accepted t
        → (b : Bool)
        → leb (length (tables_bytes t)) n ≡ b
        → ReadEntryLeaves file n (laid_by (unless b 20 0) (tables_bytes t) n)
    given t q true fits =
        let size = length_tables_bytes t in
        record {
          after_refusal = λ d. absurd (d refl);
          after_success =
              λ e.
              record {
                task = t;
                read = q;
                bytes = zero_past n (tables_bytes t) _ size (omega (arith, leb-true (length (tables_bytes t)) n fits));
              };
        }
    given t q false fits = record { after_refusal = λ d. all_zero n; after_success = λ e. absurd (omega arith) }

    go : (x : Reading) → reading own file ≡ x → ReadEntryLeaves file n (read_entry_by x n)
    go (accepted t) q = given t q (leb (length (tables_bytes t)) n) refl
    go (rejected k) q =
        record {
          after_refusal = λ d. all_zero n;
          after_success = λ e. absurd (omega (arith, told_some (rejected_by own file k q)));
        }

-- pnf_compile: a number other than 0 leaves both outputs all 0; with 0 a task was read, and past its compiled task's file, and past the 4 bytes of
-- the file's length, all is 0.
pub compile_entry_leaves : (file : List ℕ) (o r : ℕ) → CompileEntryLeaves file o r (compile_entry file o r)
unfolding compile_entry compile_entry_by compiled_file compiled_file_by filed filed_by padded
compile_entry_leaves file o r = go (reading own file) refl
  where
    no_answer : (k : ℕ) → 1 ≤ k → CompileEntryLeaves file o r (no_file k o r)
    no_answer k h =
        record {
          after_refusal = λ d. record { out = all_zero o; result = all_zero r };
          after_success = λ e. absurd (omega arith);
        }

    given :
        (t : Task)
        → reading own file ≡ accepted t
        → (b : Bool)
        → leb (length (file_of (finished t))) o && leb 4 r ≡ b
        → CompileEntryLeaves file o r (filed_by (unless b 20 0) (file_of (finished t)) o r)
    given t q true fits =
        let f = file_of (finished t) in
        record {
          after_refusal = λ d. absurd (d refl);
          after_success =
              λ e.
              record {
                task = t;
                read = q;
                out = words_past o f (leb-true (length f) o (and_left (leb (length f) o) (leb 4 r) fits));
                result =
                    zero_past r (low_bytes 4 (length f)) 4 (low_length 4 (length f))
                    (leb-true 4 r (and_right (leb (length f) o) (leb 4 r) fits));
              };
        }
    given t q false fits = no_answer 20 (omega arith)

    by_number : (t : Task) → reading own file ≡ accepted t → (k : ℕ) → CompileEntryLeaves file o r (compiled_file_by k (finished t) o r)
    by_number t q zero = given t q (leb (length (file_of (finished t))) o && leb 4 r) refl
    by_number t q (suc k) = no_answer (suc k) (omega arith)

    go : (x : Reading) → reading own file ≡ x → CompileEntryLeaves file o r (compile_entry_by x o r)
    go (accepted t) q = by_number t q (compile_number t)
    go (rejected k) q = no_answer k (told_some (rejected_by own file k q))

-- pnf_run: a number other than 0, 17 and 18 leaves the state as it was and the result all 0; with these a run was made, and past its 16 bytes all is 0.
pub run_entry_leaves : (file s q : List ℕ) (n : ℕ) → RunEntryLeaves s n (run_entry file s q n)
unfolding run_entry run_entry_by run_given run_number padded stop_number
run_entry_leaves file s q n = go (reading own file) refl
  where
    between : (k : ℕ) → 1 ≤ k → RunNumber k → (17 ≤ k) × (k ≤ 18)
    between k h (not_stopped e) = absurd (omega arith)
    between k h (stopped_outside e) = (omega arith, omega arith)
    between k h (stopped_not_applicable e) = (omega arith, omega arith)

    no_answer : (k : ℕ) → (RunNumber k → ⊥) → RunEntryLeaves s n (record { number = k; state = s; result = replicate n 0 })
    no_answer k d =
        record {
          after_refusal = λ m. record { state = refl; result = all_zero n };
          after_run = λ m. absurd (d m);
        }

    made : (t : Task) (stop : Stop) → (plain_run t s (numbers_of q)).stop ≡ stop → RunNumber (stop_number stop)
    made t ended e = not_stopped refl
    made t (stopped k) e =
        ⊎_elim (λ r. stopped_outside r.0) (λ r. stopped_not_applicable r.0) (stopped_where t s (numbers_of q) k e).reason

    refusing : (x y z : Bool) (k : ℕ) → unless x 16 (unless y 19 (unless z 20 0)) ≡ suc k → RunNumber (suc k) → ⊥
    refusing true true true k e m = omega arith
    refusing true true false k e m = omega (arith, between (suc k) (omega arith) m)
    refusing true false z k e m = omega (arith, between (suc k) (omega arith) m)
    refusing false y z k e m = omega (arith, between (suc k) (omega arith) m)

    by_number : (t : Task) (k : ℕ) → run_number (length t.initial) s q n ≡ k → RunEntryLeaves s n (run_given k t s q n)
    by_number t zero e =
        let r = plain_run t s (numbers_of q) in
        record {
          after_refusal = λ d. absurd (d (made t r.stop refl));
          after_run =
              λ m. zero_past n (run_bytes r) 16 (length_run_bytes r) (free_of (length t.initial) s q n e).room;
        }
    by_number t (suc k) e =
        no_answer (suc k)
        (refusing
        (state_kept (length t.initial) s)
        (eqb (length q % 2) 0 && sequence_kept (numbers_of q))
        (leb 16 n) k e)

    go : (x : Reading) → reading own file ≡ x → RunEntryLeaves s n (run_entry_by x s q n)
    go (accepted t) e = by_number t (run_number (length t.initial) s q n) refl
    go (rejected k) e =
        let b = rejected_by own file k e in
        no_answer k (λ m. let r = between k (told_some b) m in told_apart b (omega (arith, r)) (omega (arith, r)))
