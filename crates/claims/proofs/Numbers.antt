-- Demand 1, of every call: the number that it gives is that of the first rule in 01's order that is broken, and 0 exactly if all are kept. So a stepper that
-- refused every state of more than 100 variables, say, would break `step_gives_the_first`.
use Prim.Native.Nat.{ℕ, zero, suc, ◌+◌, ◌*◌, ◌%◌, ◌≤◌, ◌<◌}
use native.Mathlib.Omega.{arith}
use mathlib.Core.Path.{◌≡◌, refl, sym, ap, ◌∙◌}
use mathlib.Core.Logic.{◌↔◌, ⊎_elim}
use mathlib.Core.Bool.{Bool, true, false, ◌&&◌, false≢true}
use mathlib.Core.List.{List, [], append-nil}
use lib.ListN.{length, get_or}
use lib.Dec.{leb, ltb, eqb}
use borrow.Author.Tests.{leb-true, le-leb, ltb-true, lt-ltb, eqb-true, eq-eqb, ne_eqb}
use Rattle.task.specs.Bounded.{every, or_else, first_number}
use Rattle.task.specs.Table.{Operator, Lent, Task, operator_at, task_of}
use Rattle.task.specs.Check.{counts_kept, goal_kept, long_enough, initial_kept, twins_kept, formulas_kept, effects_kept, operator_kept, percent_kept, operator_number, operators_number, state_kept, sequence_kept, unless, refusal}
use Rattle.task.specs.Rules.{OperatorRule, Limits, Checked, Rules, LongEnough}
use Rattle.task.specs.Words.{head_of}
use Rattle.task.specs.Semantics.{holds}
use Rattle.task.specs.Tree.{formula_of}
use Rattle.task.specs.Run.{operator_of, applicable, answer, run_on, Stop, ended, stopped, plain_run}
use Rattle.task.proofs.Bounded.{and_left, and_right, and_both, every_at, every_from, first_at}
use Rattle.task.proofs.RowRules.{operator_told}
use Rattle.task.proofs.Held.{length_operators, operator_held}
use Rattle.task.proofs.Kept.{kept_rules, rules_kept}
use Rattle.task.proofs.Passed.{Passed, passed, not_refused, counts_tested, goal_tested, lengths_tested, initial_tested, twins_tested, formulas_tested, effects_tested, operators_tested}
use Rattle.file_format.specs.Bytes.{file_of}
use Rattle.file_format.specs.Reading.{accepted, rejected, Verdict, reading}
use Rattle.task_writer.specs.Writing.{file_outcome, write_outcome}
use Rattle.stepper.specs.Stepped.{step_scratch_kept, first_of, early_refusal, step_refused, step_told, step_by, stepped}
use Rattle.plan.specs.Outcome.{run_refusal, run_refused, end_of, run_answer, run_told, run_by, ran}
use Rattle.normal_form.specs.Compiled.{Room, compile_scratch_kept as compile-scratch, fits, compile_refusal, nothing_given, task_given, outcome_by, compiling}
use Rattle.normal_form.specs.Finished.{finished}
use Rattle.normal_form.proofs.Compiled.{fits_tested}
use Rattle.file_format.proofs.Numbers.{rejected_by}
use Rattle.entry_tables.specs.Own.{own, compile_number}
use Rattle.layouts.specs.Layout.{tables_bytes, numbers_of, run_number, stop_number, laid_by, laid}
use Rattle.read_entry.specs.Entry.{read_entry, read_entry_by}
use Rattle.compiled_file.specs.Filed.{filed_by, filed, compiled_file_by, compiled_file}
use Rattle.compile_entry.specs.Entry.{compile_entry, compile_entry_by}
use Rattle.run_entry.specs.Entry.{run_given, run_entry, run_entry_by}
use Rattle.claims.specs.Statements.{OfBytes}
use Rattle.claims.specs.Numbers.{PartsRule, broken_row, OperatorRows, first_broken, all_keep}
use Rattle.claims.specs.Numbers.{Given, broken, keeps, no_rule_left, tables_numbers, write_number, compile_answer_number, end_number, write_numbers, compile_numbers, StateRule, state_numbers, step_numbers, run_numbers, FileNumber, not_read}
use Rattle.claims.specs.Numbers.{was_read, read_entry_numbers, FileFits, compile_entry_numbers, SequenceRule, StopNumber, no_stop, stopped_by, run_entry_numbers, WriteKept, StateKept, StepKept, RunKept, ReadEntryKept, CompileEntryKept, RunEntryKept}
use Rattle.claims.proofs.FileNumbers.{told_some}
use Rattle.claims.proofs.DemandTwoFiles.{file_accepted_exactly_if, reading_what_was_written, no_file_begins_another}
use Rattle.claims.proofs.DemandTwoProgram.{own_fits}
use Rattle.claims.proofs.DemandTwoRuns.{stopped_where}

-- a test and its rule
pub given :
    (b : Bool) (number m : ℕ) {rule : Type 0} {behind : ℕ → Type 0}
    → (b ≡ true ↔ rule)
    → (rule → behind m)
    → Given rule number behind (unless b number m)
given true number m e rest =
    let r = e.0 refl in
    keeps r (rest r)
given false number m e rest = broken (λ r. false≢true (e.1 r)) refl

-- tests of two numbers
pub at_most : (a b : ℕ) → leb a b ≡ true ↔ a ≤ b
at_most a b = (leb-true a b, le-leb a b)

below : (a b : ℕ) → ltb a b ≡ true ↔ a < b
below a b = (ltb-true a b, lt-ltb a b)

same : (a b : ℕ) → eqb a b ≡ true ↔ a ≡ b
same a b = (eqb-true a b, eq-eqb a b)

-- the tables' own numbers, and what stands behind them
tables_first :
    (a b c d e f g : Bool) (r m : ℕ)
    → first_of (unless a 6 (unless b 7 (unless c 5 (unless d 8 (unless e 9 (unless f 10 (unless g 11 r))))))) m
    ≡ unless a 6 (unless b 7 (unless c 5 (unless d 8 (unless e 9 (unless f 10 (unless g 11 (first_of r m)))))))
tables_first false b c d e f g r m = refl
tables_first true false c d e f g r m = refl
tables_first true true false d e f g r m = refl
tables_first true true true false e f g r m = refl
tables_first true true true true false f g r m = refl
tables_first true true true true true false g r m = refl
tables_first true true true true true true false r m = refl
tables_first true true true true true true true r m = refl

parts_tested : (f e : ℕ) (o : Operator) → operator_kept f e o ≡ true ↔ PartsRule f e o
unfolding operator_kept
parts_tested f e o = (
  λ q.
      let a = ltb o.precondition f in
      let b = ltb o.effect e in
      record { formula = ltb-true o.precondition f (and_left a b q); changes = ltb-true o.effect e (and_right a b q) },
  λ r. and_both (lt-ltb o.precondition f r.formula) (lt-ltb o.effect e r.changes),
)

percent_tested : (o : Operator) → percent_kept o ≡ true ↔ o.percent ≤ 200
unfolding percent_kept
percent_tested o = at_most o.percent 200

-- the number of an operator row that breaks a rule
row_broken : (f e : ℕ) (o : Operator) (n : ℕ) → operator_number f e o ≡ suc n → broken_row f e o (suc n)
unfolding operator_number
row_broken f e o n is = go (operator_kept f e o) refl (percent_kept o) refl is
  where
    go : (a : Bool) → operator_kept f e o ≡ a → (b : Bool) → percent_kept o ≡ b → unless a 12 (unless b 24 0) ≡ suc n → broken_row f e o (suc n)
    go false p b q is = broken (λ r. false≢true (sym p ∙ (parts_tested f e o).1 r)) (sym is)
    go true p false q is = keeps ((parts_tested f e o).0 p) (broken (λ r. false≢true (sym q ∙ (percent_tested o).1 r)) (sym is))
    go true p true q is = absurd (omega arith)

-- where the first number that is not 0 stands
record Found (n : ℕ) (f : ℕ → ℕ) (number : ℕ) : Type 0 where
  at : ℕ
  below : at < n
  clear : (k : ℕ) → k < at → f k ≡ 0
  here : f at ≡ number

first_found : (n : ℕ) (f : ℕ → ℕ) (number : ℕ) → first_number n f ≡ suc number → Found n f (suc number)
unfolding first_number or_else
first_found zero f number e = absurd (omega arith)
first_found (suc n) f number e = go (first_number n f) refl (first_found n f number) e
  where
    go :
        (r : ℕ)
        → first_number n f ≡ r
        → (first_number n f ≡ suc number → Found n f (suc number))
        → or_else r (f n) ≡ suc number
        → Found (suc n) f (suc number)
    go zero q before e = record { at = n; below = omega arith; clear = first_at n f q; here = e }
    go (suc r) q before e =
        let w = before (q ∙ e) in
        record { at = w.at; below = omega (arith, w.below); clear = w.clear; here = w.here }

-- the operators' number, and what stands behind it
operators_given : (l : Lent) (behind : ℕ → Type 0) (m : ℕ) → (operators_number l ≡ 0 → behind m) → OperatorRows l behind (first_of (operators_number l) m)
operators_given l behind m rest = go (operators_number l) refl
  where
    go : (r : ℕ) → operators_number l ≡ r → OperatorRows l behind (first_of r m)
    go zero q = all_keep ((operators_tested l).0 q) (rest q)
    go (suc r) q =
        let f = l.head.formulas in
        let e = l.head.effects in
        let w = first_found l.head.operators (λ i. operator_number f e (operator_at l.operators i)) r (unfold operators_number in q) in
        first_broken w.at w.below (λ k b. operator_told f e (operator_at l.operators k) (w.clear k b))
        (row_broken f e (operator_at l.operators w.at) r w.here)

module _ (l : Lent) where
  -- what stands behind them may rest on their passing
  pub tables_given_passed : (behind : ℕ → Type 0) (m : ℕ) → (Passed l → behind m) → tables_numbers l behind (first_of (refusal l) m)
  unfolding refusal
  tables_given_passed behind m rest =
      rw (tables_first (counts_kept l.head) (goal_kept l.head) (long_enough l) (initial_kept l) (twins_kept l) (formulas_kept l)
      (effects_kept l) (operators_number l) m)
      (given (counts_kept l.head) 6 _ (counts_tested l.head) (λ r6.
      given (goal_kept l.head) 7 _ (goal_tested l.head) (λ r7.
      given (long_enough l) 5 _ (lengths_tested l) (λ r5.
      given (initial_kept l) 8 _ (initial_tested l) (λ r8.
      given (twins_kept l) 9 _ (twins_tested l) (λ r9.
      given (formulas_kept l) 10 _ (formulas_tested l) (λ r10.
      given (effects_kept l) 11 _ (effects_tested l) (λ r11.
      operators_given l behind m (λ r12.
      rest
      (record {
        counts = (counts_tested l.head).1 r6;
        goal = (goal_tested l.head).1 r7;
        lengths = (lengths_tested l).1 r5;
        initial = (initial_tested l).1 r8;
        twins = (twins_tested l).1 r9;
        formulas = (formulas_tested l).1 r10;
        effects = (effects_tested l).1 r11;
        operators = r12;
      }))))))))))

  tables_given : (behind : ℕ → Type 0) (m : ℕ) → behind m → tables_numbers l behind (first_of (refusal l) m)
  tables_given behind m rest = tables_given_passed behind m (λ _. rest)

alone : (n : ℕ) → first_of n 0 ≡ n
alone zero = refl
alone (suc n) = refl

-- The check.
pub check_gives_the_first : (l : Lent) → tables_numbers l no_rule_left (refusal l)
check_gives_the_first l = rw (alone (refusal l)) at (tables_given l no_rule_left 0 refl)

not_zero : (n : ℕ) → eqb (suc n) 0 ≡ false
not_zero n = ne_eqb (suc n) 0 (λ e. omega arith)

-- Writing.
write_told : (l : Lent) (n : ℕ) → write_number (write_outcome l n).answer ≡ first_of (refusal l) (unless (leb (length (file_of (task_of l))) n) 20 0)
unfolding write_outcome file_outcome
write_told l n = go (refusal l) refl (leb (length (file_of (task_of l))) n) refl
  where
    go :
        (r : ℕ)
        → refusal l ≡ r
        → (b : Bool)
        → leb (length (file_of (task_of l))) n ≡ b
        → write_number (write_outcome l n).answer ≡ first_of (refusal l) (unless (leb (length (file_of (task_of l))) n) 20 0)
    go zero e true f = rw (e, f)
    go zero e false f = rw (e, f)
    go (suc r) e b f = rw (e, not_zero r)

pub write_gives_the_first : (l : Lent) (n : ℕ) → write_numbers l n (write_number (write_outcome l n).answer)
write_gives_the_first l n =
    rw (write_told l n)
    (tables_given l (Given (length (file_of (task_of l)) ≤ n) 20 no_rule_left) _
    (given (leb (length (file_of (task_of l))) n) 20 0 (at_most (length (file_of (task_of l))) n) (λ _. refl)))

-- Compiling.
compile_told : (n : ℕ) (t : Task) (room : Room) → compile_answer_number (outcome_by n t room).answer ≡ n
unfolding outcome_by task_given nothing_given
compile_told zero t room = refl
compile_told (suc n) t room = refl

behind_tables : (r m : ℕ) → unless (eqb r 0) r m ≡ first_of r m
behind_tables zero m = refl
behind_tables (suc r) m = rw (not_zero r)

pub compile_gives_the_first : (l : Lent) (room : Room) → compile_numbers l room (compile_answer_number (compiling l room).answer)
unfolding compiling compile_refusal compile-scratch
compile_gives_the_first l room =
    let h = l.head in
    rw (
      compile_told (compile_refusal l room) (finished (task_of l)) room,
      behind_tables (refusal l) (unless (eqb h.twins 0) 13 (unless (compile-scratch h room) 14 (unless (fits (finished (task_of l)) room) 15 0))),
    )
    (tables_given l _ _
    (given (eqb h.twins 0) 13 _ (same h.twins 0) (λ _.
    given (compile-scratch h room) 14 _ (at_most (2 * h.formulas + 2 * h.effects) room.scratch) (λ _.
    given (fits (finished (task_of l)) room) 15 0 (fits_tested (finished (task_of l)) room) (λ _. refl)))))

-- Stepping and running.
pub state_tested : (v : ℕ) (s : List ℕ) → state_kept v s ≡ true ↔ StateRule v s
unfolding state_kept
state_tested v s = (
  λ e.
      record {
        size = eqb-true (length s) v (and_left (eqb (length s) v) (every (length s) bit) e);
        bits = λ x h. leb-true (get_or s x 0) 1 (every_at (length s) bit (and_right (eqb (length s) v) (every (length s) bit) e) x h);
      },
  λ r. and_both (eq-eqb (length s) v r.size) (every_from (length s) bit (λ x h. le-leb (get_or s x 0) 1 (r.bits x h))),
)
  where
    bit : ℕ → Bool
    bit x = leb (get_or s x 0) 1

-- a number behind the tables' own, 16 and 14
early_first : (r m : ℕ) (a b : Bool) → first_of (first_of r (unless a 16 (unless b 14 0))) m ≡ first_of r (unless a 16 (unless b 14 m))
early_first zero m true true = refl
early_first zero m true false = refl
early_first zero m false b = refl
early_first (suc r) m a b = refl

module _ (l : Lent) (s scratch : List ℕ) where
  state_given : (behind : ℕ → Type 0) (m : ℕ) → behind m → state_numbers l s scratch behind (first_of (early_refusal l s scratch) m)
  unfolding early_refusal step_scratch_kept
  state_given behind m rest =
      let h = l.head in
      rw (early_first (refusal l) m (state_kept h.variables s) (leb (h.formulas + h.effects) (length scratch)))
      (tables_given l _ _
      (given (state_kept h.variables s) 16 _ (state_tested h.variables s) (λ _.
      given (leb (h.formulas + h.effects) (length scratch)) 14 m (at_most (h.formulas + h.effects) (length scratch)) (λ _. rest))))

  module _ (o : ℕ) where
    there : length (task_of l).operators ≡ l.head.operators
    there = length_operators l

    applicable_is :
        o < l.head.operators
        → applicable (task_of l) s o ≡ holds s (formula_of (task_of l).formulas (operator_at l.operators o).precondition)
    unfolding applicable operator_of
    applicable_is h = rw (there, lt-ltb o l.head.operators h, operator_held l o h)

    step_number_told :
        (stepped l s o scratch).answer.refusal
        ≡ first_of (early_refusal l s scratch) (unless (ltb o l.head.operators) 17 (unless (applicable (task_of l) s o) 18 0))
    unfolding stepped step_by step_told step_refused plain_run run_on answer
    step_number_told = go (early_refusal l s scratch) refl (ltb o l.head.operators) refl (applicable (task_of l) s o) refl
      where
        go :
            (r : ℕ)
            → early_refusal l s scratch ≡ r
            → (b : Bool)
            → ltb o l.head.operators ≡ b
            → (c : Bool)
            → applicable (task_of l) s o ≡ c
            → (stepped l s o scratch).answer.refusal
            ≡ first_of (early_refusal l s scratch) (unless (ltb o l.head.operators) 17 (unless (applicable (task_of l) s o) 18 0))
        go zero e true f true g = rw (e, there, f, g)
        go zero e true f false g = rw (e, there, f, g)
        go zero e false f c g = rw (e, there, f)
        go (suc r) e b f c g = rw e

    pub step_gives_the_first : step_numbers l s o scratch (stepped l s o scratch).answer.refusal
    step_gives_the_first =
        rw step_number_told
        (state_given _ _
        (given (ltb o l.head.operators) 17 _ (below o l.head.operators) (λ h.
        given (applicable (task_of l) s o) 18 0 (λ e. sym (applicable_is h) ∙ e, λ e. applicable_is h ∙ e) (λ _. refl))))

  module _ (numbers : List ℕ) where
    run_number_told : end_number (ran l s numbers scratch).answer.end ≡ run_refusal l s numbers scratch
    unfolding ran run_by run_told run_refused run_answer end_of
    run_number_told = go (run_refusal l s numbers scratch) refl (plain_run (task_of l) s numbers).stop refl
      where
        go :
            (r : ℕ)
            → run_refusal l s numbers scratch ≡ r
            → (stop : Stop)
            → (plain_run (task_of l) s numbers).stop ≡ stop
            → end_number (ran l s numbers scratch).answer.end ≡ run_refusal l s numbers scratch
        go zero e ended f = rw (e, f)
        go zero e (stopped n) f = rw (e, f)
        go (suc r) e stop f = rw e

    pub run_gives_the_first : run_numbers l s numbers scratch (end_number (ran l s numbers scratch).answer.end)
    unfolding run_refusal sequence_kept
    run_gives_the_first =
        rw run_number_told
        (state_given _ _ (given (leb (length numbers) 65535) 19 0 (at_most (length numbers) 65535) (λ _. refl)))

-- The C entries.
laid_told : (k : ℕ) (bytes : List ℕ) (n : ℕ) → (laid_by k bytes n).number ≡ k
unfolding laid_by
laid_told zero bytes n = refl
laid_told (suc k) bytes n = refl

limits_kept : (t : Task) → counts_kept (head_of t) ≡ true ↔ Limits t
unfolding head_of
limits_kept t = counts_tested (head_of t)

file_tested : (t : Task) (o r : ℕ) → leb (length (file_of t)) o && leb 4 r ≡ true ↔ FileFits t o r
file_tested t o r =
    let n = length (file_of t) in (
      λ e.
          record {
            file = leb-true n o (and_left (leb n o) (leb 4 r) e);
            result = leb-true 4 r (and_right (leb n o) (leb 4 r) e);
          },
      λ f. and_both (le-leb n o f.file) (le-leb 4 r f.result),
    )

compiled_told :
    (t : Task) (o r : ℕ)
    → (compiled_file t o r).number
    ≡ unless (eqb (length t.originals) 0) 13
    (unless (counts_kept (head_of (finished t))) 15 (unless (leb (length (file_of (finished t))) o && leb 4 r) 20 0))
unfolding compiled_file compile_number compiled_file_by filed filed_by
compiled_told t o r =
    go (eqb (length t.originals) 0) refl (counts_kept (head_of (finished t))) refl (leb (length (file_of (finished t))) o && leb 4 r) refl
  where
    go :
        (a : Bool)
        → eqb (length t.originals) 0 ≡ a
        → (b : Bool)
        → counts_kept (head_of (finished t)) ≡ b
        → (c : Bool)
        → leb (length (file_of (finished t))) o && leb 4 r ≡ c
        → (compiled_file t o r).number
        ≡ unless (eqb (length t.originals) 0) 13
        (unless (counts_kept (head_of (finished t))) 15 (unless (leb (length (file_of (finished t))) o && leb 4 r) 20 0))
    go false e b f c g = rw e
    go true e false f c g = rw (e, f)
    go true e true f false g = rw (e, f, g)
    go true e true f true g = rw (e, f, g)

pub sequence_tested : (q : List ℕ) → eqb (length q % 2) 0 && sequence_kept (numbers_of q) ≡ true ↔ SequenceRule q
unfolding sequence_kept
sequence_tested q =
    let half = eqb (length q % 2) 0 in
    let few = leb (length (numbers_of q)) 65535 in (
      λ e.
          record {
            whole = eqb-true (length q % 2) 0 (and_left half few e);
            few = leb-true (length (numbers_of q)) 65535 (and_right half few e);
          },
      λ r. and_both (eq-eqb (length q % 2) 0 r.whole) (le-leb (length (numbers_of q)) 65535 r.few),
    )

run_told_number :
    (t : Task) (s q : List ℕ) (r : ℕ) (a b c : Bool)
    → (run_given (unless a 16 (unless b 19 (unless c 20 0))) t s q r).number
    ≡ unless a 16 (unless b 19 (unless c 20 (stop_number (plain_run t s (numbers_of q)).stop)))
unfolding run_given
run_told_number t s q r true true true = refl
run_told_number t s q r true true false = refl
run_told_number t s q r true false c = refl
run_told_number t s q r false b c = refl

stop_told : (stop : Stop) → StopNumber stop (stop_number stop)
unfolding stop_number
stop_told ended = no_stop refl refl
stop_told (stopped n) = stopped_by refl

module _ (file : List ℕ) (bytes : OfBytes file) where
  pub file_given :
      (behind : Task → ℕ → Type 0) (number : Verdict → ℕ)
      → ((k : ℕ) → number (rejected k) ≡ k)
      → ((t : Task) → Rules t → behind t (number (accepted t)))
      → FileNumber file behind (number (reading own file))
  file_given behind number refusal-told rest = go (reading own file) refl
    where
      go : (o : Verdict) → reading own file ≡ o → FileNumber file behind (number (reading own file))
      go (accepted t) e =
          let a = (file_accepted_exactly_if own file t bytes).0 e in
          was_read t a.0 a.1 (rw e (rest t a.1))
      go (rejected k) e =
          let n : number (reading own file) ≡ k = ap number e ∙ refusal-told k in
          not_read (rw n e) (λ z. omega (arith, told_some (rejected_by own file k e), n, z))

  pub read_entry_gives_the_first : (n : ℕ) → read_entry_numbers file n (read_entry file n).number
  unfolding read_entry read_entry_by laid
  read_entry_gives_the_first n =
      file_given (λ t. Given (length (tables_bytes t) ≤ n) 20 no_rule_left) (λ o. (read_entry_by o n).number) (λ k. refl) (λ t r.
      rw (laid_told (unless (leb (length (tables_bytes t)) n) 20 0) (tables_bytes t) n)
      (given (leb (length (tables_bytes t)) n) 20 0 (at_most (length (tables_bytes t)) n) (λ _. refl)))

  pub compile_entry_gives_the_first : (o r : ℕ) → compile_entry_numbers file o r (compile_entry file o r).number
  unfolding compile_entry compile_entry_by
  compile_entry_gives_the_first o r =
      file_given _ (λ v. (compile_entry_by v o r).number) (λ k. refl) (λ t rules.
      let u = finished t in
      let n = length (file_of u) in
      rw (compiled_told t o r)
      (given (eqb (length t.originals) 0) 13 _ (same (length t.originals) 0) (λ _.
      given (counts_kept (head_of u)) 15 _ (limits_kept u) (λ _. given (leb n o && leb 4 r) 20 0 (file_tested u o r) (λ _. refl)))))

  pub run_entry_gives_the_first :
      (state sequence : List ℕ) (r : ℕ)
      → run_entry_numbers file state sequence r (run_entry file state sequence r).number
  unfolding run_entry run_entry_by run_number
  run_entry_gives_the_first state sequence r =
      file_given _ (λ v. (run_entry_by v state sequence r).number) (λ k. refl) (λ t rules.
      let v = length t.initial in
      rw (run_told_number t state sequence r (state_kept v state) (eqb (length sequence % 2) 0 && sequence_kept (numbers_of sequence)) (leb 16 r))
      (given (state_kept v state) 16 _ (state_tested v state) (λ _.
      given (eqb (length sequence % 2) 0 && sequence_kept (numbers_of sequence)) 19 _ (sequence_tested sequence) (λ _.
      given (leb 16 r) 20 _ (at_most 16 r) (λ _. stop_told (plain_run t state (numbers_of sequence)).stop)))))

-- Refused by no number exactly if all rules are kept: read off the theorems above, since no rule has the number 0.
pub passed_on : {rule : Type 0} (k : ℕ) {behind : ℕ → Type 0} {n : ℕ} → Given rule (suc k) behind n → n ≡ 0 → rule × behind n
passed_on k (broken r e) z = absurd (omega arith)
passed_on k (keeps r b) z = (r, b)

pub behind_kept : {rule : Type 0} {k : ℕ} {behind : ℕ → Type 0} {n : ℕ} → Given rule k behind n → rule → behind n
behind_kept (broken d e) r = absurd (d r)
behind_kept (keeps r b) q = b

row_told : (f e : ℕ) (o : Operator) {n : ℕ} → broken_row f e o n → (n ≡ 0 → ⊥) × (OperatorRule f e o → ⊥)
row_told f e o (broken r q) = (λ z. omega arith, λ rule. r (record { formula = rule.formula; changes = rule.changes }))
row_told f e o (keeps p (broken r q)) = (λ z. omega arith, λ rule. r rule.percent)
row_told f e o (keeps p (keeps r q)) = absurd q

abbrev RowRules : Lent → Type 0
RowRules l = (i : ℕ) → i < l.head.operators → OperatorRule l.head.formulas l.head.effects (operator_at l.operators i)

module _ (l : Lent) {behind : ℕ → Type 0} {n : ℕ} where
  rows_passed : OperatorRows l behind n → n ≡ 0 → RowRules l × behind n
  rows_passed (first_broken i h before b) z = absurd ((row_told l.head.formulas l.head.effects (operator_at l.operators i) b).0 z)
  rows_passed (all_keep r b) z = (r, b)

  rows_behind : OperatorRows l behind n → RowRules l → behind n
  rows_behind (first_broken i h before b) r = absurd ((row_told l.head.formulas l.head.effects (operator_at l.operators i) b).1 (r i h))
  rows_behind (all_keep r b) q = b

module _ (l : Lent) {behind : ℕ → Type 0} {n : ℕ} (g : tables_numbers l behind n) where
  pub tables_passed : n ≡ 0 → (LongEnough l × Checked (task_of l)) × behind n
  tables_passed z =
      let g6 = passed_on 5 g z in
      let g7 = passed_on 6 g6.1 z in
      let g5 = passed_on 4 g7.1 z in
      let g8 = passed_on 7 g5.1 z in
      let g9 = passed_on 8 g8.1 z in
      let g10 = passed_on 9 g9.1 z in
      let g11 = passed_on 10 g10.1 z in
      let g12 = rows_passed l g11.1 z in
      let p : Passed l =
      record {
        counts = (counts_tested l.head).1 g6.0;
        goal = (goal_tested l.head).1 g7.0;
        lengths = (lengths_tested l).1 g5.0;
        initial = (initial_tested l).1 g8.0;
        twins = (twins_tested l).1 g9.0;
        formulas = (formulas_tested l).1 g10.0;
        effects = (effects_tested l).1 g11.0;
        operators = (operators_tested l).1 g12.0;
      }
      in
      (kept_rules l (not_refused l p), g12.1)

  pub tables_behind : LongEnough l × Checked (task_of l) → behind n
  tables_behind k =
      let p = passed l (rules_kept l k.0 k.1) in
      rows_behind l
      (behind_kept
      (behind_kept
      (behind_kept
      (behind_kept
      (behind_kept
      (behind_kept (behind_kept g ((counts_tested l.head).0 p.counts)) ((goal_tested l.head).0 p.goal))
      ((lengths_tested l).0 p.lengths))
      ((initial_tested l).0 p.initial))
      ((twins_tested l).0 p.twins))
      ((formulas_tested l).0 p.formulas))
      ((effects_tested l).0 p.effects))
      ((operators_tested l).0 p.operators)

module _ (l : Lent) (s scratch : List ℕ) {behind : ℕ → Type 0} {n : ℕ} (g : state_numbers l s scratch behind n) where
  state_passed : n ≡ 0 → StateKept l s scratch × behind n
  state_passed z =
      let t = tables_passed l g z in
      let g16 = passed_on 15 t.1 z in
      let g14 = passed_on 13 g16.1 z in
      (record { tables = t.0; state = g16.0; scratch_there = g14.0 }, g14.1)

  state_behind : StateKept l s scratch → behind n
  state_behind k = behind_kept (behind_kept (tables_behind l g k.tables) k.state) k.scratch_there

pub written_exactly_if : (l : Lent) (n : ℕ) → write_number (write_outcome l n).answer ≡ 0 ↔ WriteKept l n
written_exactly_if l n =
    let g = write_gives_the_first l n in (
      λ z.
          let t = tables_passed l g z in
          record { tables = t.0; output = (passed_on 19 t.1 z).0 },
      λ k. behind_kept (tables_behind l g k.tables) k.output,
    )

pub stepped_exactly_if :
    (l : Lent) (s : List ℕ) (o : ℕ) (scratch : List ℕ)
    → (stepped l s o scratch).answer.refusal ≡ 0
    ↔ StepKept l s o scratch
stepped_exactly_if l s o scratch =
    let g = step_gives_the_first l s scratch o in (
      λ z.
          let t = state_passed l s scratch g z in
          let g17 = passed_on 16 t.1 z in
          record { early = t.0; inside = g17.0; precondition = (passed_on 17 g17.1 z).0 },
      λ k. behind_kept (behind_kept (state_behind l s scratch g k.early) k.inside) k.precondition,
    )

pub ran_exactly_if :
    (l : Lent) (s numbers scratch : List ℕ)
    → end_number (ran l s numbers scratch).answer.end ≡ 0
    ↔ RunKept l s numbers scratch
ran_exactly_if l s numbers scratch =
    let g = run_gives_the_first l s scratch numbers in (
      λ z.
          let t = state_passed l s scratch g z in
          record { early = t.0; few = (passed_on 18 t.1 z).0 },
      λ k. behind_kept (state_behind l s scratch g k.early) k.few,
    )

-- of the C entries
same_task : (t u : Task) → Rules t → Rules u → file_of t ≡ file_of u → t ≡ u
same_task t u r q e = (no_file_begins_another t u [] r q (append-nil (file_of t) ∙ e)).0

pub file_behind :
    {file : List ℕ} {behind : Task → ℕ → Type 0} {n : ℕ}
    → FileNumber file behind n
    → (t : Task)
    → file ≡ file_of t
    → Rules t
    → behind t n
file_behind {file} (not_read e d) t same rules =
    let q = reading_what_was_written own t rules (own_fits t rules) in
    let z : accepted t ≡ rejected _ = sym q ∙ ap (reading own) (sym same) ∙ e in
    absurd (let y : ◌≡◌ {A = ℕ} 0 1 = cc in omega arith)
file_behind (was_read u e r b) t same rules = rw (same_task u t r rules (sym e ∙ same)) at b

stop_not_zero : (t : Task) (s numbers : List ℕ) {m : ℕ} → (plain_run t s numbers).stop ≡ stopped m → m ≡ 0 → ⊥
stop_not_zero t s numbers {m} e z =
    ⊎_elim (λ r. omega (arith, r.0)) (λ r. omega (arith, r.0)) (stopped_where t s numbers m e).reason

module _ (file : List ℕ) (bytes : OfBytes file) where
  pub read_for_c_exactly_if : (n : ℕ) → (read_entry file n).number ≡ 0 ↔ ReadEntryKept file n
  read_for_c_exactly_if n = (λ z. told (read_entry_gives_the_first file bytes n) z, λ k. kept-zero k)
    where
      told : {m : ℕ} → read_entry_numbers file n m → m ≡ 0 → ReadEntryKept file n
      told (not_read e d) z = absurd (d z)
      told (was_read t e r b) z = record { task = t; same = e; rules = r; output = (passed_on 19 b z).0 }

      kept-zero : ReadEntryKept file n → (read_entry file n).number ≡ 0
      kept-zero k = behind_kept (file_behind (read_entry_gives_the_first file bytes n) k.task k.same k.rules) k.output

  pub compiled_for_c_exactly_if : (o r : ℕ) → (compile_entry file o r).number ≡ 0 ↔ CompileEntryKept file o r
  compiled_for_c_exactly_if o r = (λ z. told (compile_entry_gives_the_first file bytes o r) z, λ k. kept-zero k)
    where
      told : {m : ℕ} → compile_entry_numbers file o r m → m ≡ 0 → CompileEntryKept file o r
      told (not_read e d) z = absurd (d z)
      told (was_read t e q b) z =
          let g13 = passed_on 12 b z in
          let g15 = passed_on 14 g13.1 z in
          record { task = t; same = e; rules = q; untwinned = g13.0; limits = g15.0; outputs = (passed_on 19 g15.1 z).0 }

      kept-zero : CompileEntryKept file o r → (compile_entry file o r).number ≡ 0
      kept-zero k =
          behind_kept
          (behind_kept
          (behind_kept (file_behind (compile_entry_gives_the_first file bytes o r) k.task k.same k.rules) k.untwinned)
          k.limits)
          k.outputs

  -- a run gives 0 exactly if its rules are kept and it is not stopped
  pub run_for_c_exactly_if :
      (state sequence : List ℕ) (r : ℕ)
      → (run_entry file state sequence r).number ≡ 0
      ↔ RunEntryKept file state sequence r
  run_for_c_exactly_if state sequence r = (λ z. told (run_entry_gives_the_first file bytes state sequence r) z, λ k. kept-zero k)
    where
      unstopped : (t : Task) {m : ℕ} → StopNumber (plain_run t state (numbers_of sequence)).stop m → m ≡ 0 → (plain_run t state (numbers_of sequence)).stop ≡ ended
      unstopped t (no_stop e q) z = e
      unstopped t (stopped_by e) z = absurd (stop_not_zero t state (numbers_of sequence) e z)

      told : {m : ℕ} → run_entry_numbers file state sequence r m → m ≡ 0 → RunEntryKept file state sequence r
      told (not_read e d) z = absurd (d z)
      told (was_read t e q b) z =
          let g16 = passed_on 15 b z in
          let g19 = passed_on 18 g16.1 z in
          let g20 = passed_on 19 g19.1 z in
          record {
            task = t;
            same = e;
            rules = q;
            start = g16.0;
            numbers = g19.0;
            output = g20.0;
            unstopped = unstopped t g20.1 z;
          }

      number-zero : {stop : Stop} {m : ℕ} → StopNumber stop m → stop ≡ ended → m ≡ 0
      number-zero (no_stop e q) z = q
      number-zero (stopped_by e) z = absurd (let y : ◌≡◌ {A = ℕ} 0 1 = cc in omega arith)

      kept-zero : RunEntryKept file state sequence r → (run_entry file state sequence r).number ≡ 0
      kept-zero k =
          number-zero
          (behind_kept
          (behind_kept
          (behind_kept (file_behind (run_entry_gives_the_first file bytes state sequence r) k.task k.same k.rules) k.start)
          k.numbers)
          k.output)
          k.unstopped
