-- The run's entry: one law for each way out. Assumes nothing.
use Prim.Native.Nat.{ℕ, zero, suc, ◌+◌, ◌/◌, ◌≤◌}
use native.Mathlib.Omega.{arith}
use mathlib.Core.Path.{◌≡◌, refl, sym, ap, ◌∙◌, subst}
use mathlib.Core.Bool.{Bool, true, false, cond, not}
use mathlib.Core.List.{List, [], ◌∷◌, ◌++◌}
use lib.ListN.{length, take, drop, replicate}
use lib.Seq.{take_at}
use lib.Dec.{leb, ltb, eqb}
use borrow.Author.Tests.{le-leb, leb-true}
use Rattle.task.specs.Table.{Lent, Task, task_of}
use Rattle.task.specs.Check.{refusal}
use Rattle.task.specs.Run.{applicable, Progress, after_step, Run, Stop, ended, stopped, answer, run_on, unstopped, is_plan, plain_run}
use Rattle.task.proofs.Bounded.{and_left, and_right}
use Rattle.task.proofs.Held.{length_initial}
use Rattle.task.proofs.Kept.{kept_rules}
use Rattle.task.proofs.Passed.{passed, counts_tested}
use Rattle.file_format.specs.Reading.{Lengths, Verdict, accepted, rejected, reading}
use Rattle.std.specs.Prelude.{Result, Ok, Err}
use Rattle.std.specs.Result.{IsOk, IsErrAnd, IfOk, result_eq}
use Rattle.task.specs.declared.refusal.Refusal.{Refusal}
use Rattle.task.specs.declared.refusal.Refusal.TheVariants as r
use Rattle.task.specs.contracts.refusal.RefusalPartialEq.TheImpl.{eq-value}
use Rattle.task.specs.contracts.refusal.Refusal.{the_type}
use denote.Enum.Bare.{same_true}
use borrow.Author.Rules.{rules}
use Rattle.task.specs.Refused.{number_of}
use Rattle.task.proofs.Refusals.{number_some}
use Rattle.plan.specs.declared.outcome.RunOutcome.{RunOutcome as Outcome}
use Rattle.plan.specs.Outcome.{RunOutcome, Refused, run_answered, state_kept, step_scratch_kept, sequence_kept, early_refusal, run_refusal, end_of, run_answer, run_told, run_by, ran, RunGives}
use Rattle.task.specs.Words.{padded}
use Rattle.layouts.specs.Layout.{low_bytes, numbers_of, run_number, flag, stop_number, run_bytes}
use Rattle.layouts.specs.Inner.Giving.{stop_of, plan_of, outcome_bytes, ResultGives}
use Rattle.layouts.proofs.RunWays.{numbers_length, free_of}
use Rattle.entry_tables.proofs.Reading.{ReadAs, same_reading}
use Rattle.run_entry.specs.Entry.{run_given, run_entry, run_entry_by, RunEntryGives}
use Rattle.run_entry.specs.Inner.Giving.{FreeRun, RunIn, small_run, answered, RunTold}

-- a refusal that `?` returns onward
refused : {A : Type 0} (r : Result A Refusal) (e : Refusal) → IsErrAnd r (λ x. x ≡ e) → r ≡ Err e
refused (Ok x) e given = absurd given
refused (Err x) e given = ap Err given

-- room for a run that nothing refuses: by its limits, or by its few numbers and rows
pub full_room : {l : Lent} {s q : List ℕ} {r : ℕ} → FreeRun l s q r → RunIn l s q 65535 8192 r
full_room {l} {s} {q} {r} run =
    let c = (counts_tested l.head).0 (passed l run.kept).counts in
    record {
      run = run;
      words = omega (arith, numbers_length q, leb-true (length (numbers_of q)) 65535 (free_of l.head.variables s q r run.free).few);
      bytes = omega (arith, c.formulas, c.effects);
      words_limit = omega arith;
      bytes_limit = omega arith;
    }

pub small_room : {l : Lent} {s q : List ℕ} {r : ℕ} → FreeRun l s q r → small_run l.head (length q) ≡ true → RunIn l s q 256 256 r
unfolding small_run
small_room {l} {s} {q} run small =
    let rows : ℕ = l.head.formulas + l.head.effects in
    let few = leb-true (length q) 512 (and_left (leb (length q) 512) (leb rows 256) small) in
    record {
      run = run;
      words = omega (arith, few);
      bytes = leb-true rows 256 (and_right (leb (length q) 512) (leb rows 256) small);
      words_limit = omega arith;
      bytes_limit = omega arith;
    }

pub result_room : {l : Lent} {s q : List ℕ} {words bytes r : ℕ} → RunIn l s q words bytes r → 16 ≤ r
result_room {l} {s} {q} {r = r} i = (free_of l.head.variables s q r i.run.free).room

not_refused : (l : Lent) (s q scratch : List ℕ) (words r : ℕ) → RunIn l s q words (length scratch) r → run_refusal l s (numbers_of q) scratch ≡ 0
unfolding run_refusal early_refusal state_kept step_scratch_kept sequence_kept
not_refused l s q scratch words r i =
    let f = free_of l.head.variables s q r i.run.free in
    let room : leb (l.head.formulas + l.head.effects) (length scratch) ≡ true =
    le-leb (l.head.formulas + l.head.effects) (length scratch) i.bytes
    in
    rw (i.run.kept, f.state, room, f.few)

same_stop : (e : Stop) (steps : ℕ) (goal : Bool) → stop_of (end_of e steps goal) ≡ stop_number e
unfolding end_of stop_number
same_stop ended steps goal = refl
same_stop (stopped n) steps goal = refl

same_plan : (r : Run) → plan_of (end_of r.stop r.steps r.goal) ≡ is_plan r
unfolding end_of is_plan unstopped
same_plan r = go r.stop refl
  where
    go : (e : Stop) → r.stop ≡ e → plan_of (end_of r.stop r.steps r.goal) ≡ is_plan r
    go ended x = rw x
    go (stopped n) x = rw x

told_bytes : (r : Run) → outcome_bytes (run_answer r) ≡ run_bytes r
unfolding outcome_bytes run_answer run_bytes
told_bytes r =
    λ j. low_bytes 4 r.steps ++ (low_bytes 8 r.cost ++ (flag r.goal ∷ flag (same_plan r j) ∷ low_bytes 2 (same_stop r.stop r.steps r.goal j)))

-- no run ends so that it was refused
not_end : (e : Stop) (steps k : ℕ) (goal : Bool) → Refused k ≡ end_of e steps goal → ⊥
unfolding end_of
not_end ended steps k goal q = cc
not_end (stopped m) steps k goal q = cc

-- the plain run of the numbers that stand in front, whatever is behind them
module _
    (l : Lent) (s q numbers scratch : List ℕ) (n : ℕ) (decoded : List ℕ) {s' rest : List ℕ} (o : Result Outcome Refusal)
    {words bytes : ℕ} (i : RunIn l s q words bytes n) (same : length scratch ≡ bytes)
    (whole : decoded ≡ numbers_of q ++ drop (length q / 2) numbers)
    (g : RunGives (ran l s (take (length q / 2) decoded) scratch) (run_answered o) s' rest) where
  ran_told : ran l s (take (length q / 2) decoded) scratch ≡ run_told (plain_run (task_of l) s (numbers_of q)) scratch
  unfolding ran run_by
  ran_told =
      let e : take (length q / 2) decoded ≡ numbers_of q =
      ap (take (length q / 2)) whole ∙ take_at (numbers_of q) (drop (length q / 2) numbers) (length q / 2) (numbers_length q)
      in
      ap (λ (x : List ℕ). ran l s x scratch) e ∙ rw (not_refused l s q scratch words n (rw (← same) at i))

  answer_told : run_answered o ≡ run_answer (plain_run (task_of l) s (numbers_of q))
  unfolding run_told
  answer_told = g.answer ∙ ap (λ x. x.answer) ran_told

  pub not_refused_there : IsOk o
  unfolding run_answer
  not_refused_there = go o answer_told
    where
      run : Run
      run = plain_run (task_of l) s (numbers_of q)

      go : (o : Result Outcome Refusal) → run_answered o ≡ run_answer run → IsOk o
      go (Ok x) q = refl
      go (Err e) q = absurd (not_end run.stop run.steps (number_of e) run.goal (ap (λ (x : RunOutcome). x.end) q))

  pub run_free :
      {x : Outcome} {r : ℕ} {result : List ℕ}
      → o ≡ Ok x
      → ResultGives (run_answered (Ok x)) n r result
      → RunEntryGives (run_given zero (task_of l) s q n) r s' result
  unfolding run_given run_told run_answer
  run_free {x} {r} is h =
      let run = plain_run (task_of l) s (numbers_of q) in
      let a : run_answered (Ok x) ≡ run_answer run = ap run_answered (sym is) ∙ answer_told in
      record {
        told = h.told ∙ ap (λ (x : RunOutcome). stop_of x.end) a ∙ same_stop run.stop run.steps run.goal;
        left = g.state ∙ ap (λ x. x.state) ran_told;
        held = h.held ∙ ap (λ (x : RunOutcome). padded n (outcome_bytes x)) a ∙ ap (padded n) (told_bytes run);
      }

-- the number of a task in tables that pass
number_same : (l : Lent) (s q : List ℕ) (n : ℕ) → refusal l ≡ 0 → run_number (length (task_of l).initial) s q n ≡ run_number l.head.variables s q n
number_same l s q n e = rw (length_initial l (kept_rules l e).0)

-- a run stops with 17 or 18, and so not with 5
stop_not_five : (t : Task) (p : Progress) (q : List ℕ) → stop_number (run_on t p q).stop ≡ 5 → ⊥
unfolding run_on answer stop_number
stop_not_five t p [] e = omega arith
stop_not_five t p (o ∷ q) e =
    go (ltb o (length t.operators)) (applicable t p.state o) (stop_not_five t (after_step t p o) q) e
  where
    go :
        (b c : Bool)
        → (stop_number (run_on t (after_step t p o) q).stop ≡ 5 → ⊥)
        → stop_number (cond b (cond c (run_on t (after_step t p o) q) (answer t p (stopped 18))) (answer t p (stopped 17))).stop ≡ 5
        → ⊥
    go true true rest e = rest e
    go true false rest e = omega arith
    go false c rest e = omega arith

pub run_kept :
    (l : Lent) (s q : List ℕ) (n : ℕ) {r : ℕ} {s' result : List ℕ}
    → refusal l ≡ 0
    → 0 ≡ run_number l.head.variables s q n
    → RunEntryGives (run_given zero (task_of l) s q n) r s' result
    → RunTold (run_given (run_number (length (task_of l).initial) s q n) (task_of l) s q n) (Ok r) s' result
unfolding run_given plain_run
run_kept l s q n e m g =
    rw (number_same l s q n e ∙ sym m)
    (record {
      told = g.told;
      left = g.left;
      stops = λ five. stop_not_five (task_of l) (record { state = s; steps = 0; cost = 0 }) (numbers_of q) (sym g.told ∙ five);
      held = g.held;
    })

pub run_refused :
    (l : Lent) (s q : List ℕ) (n : ℕ) (e : Refusal) (r : Result ℕ Refusal) {result : List ℕ}
    → refusal l ≡ 0
    → number_of e ≡ run_number l.head.variables s q n
    → IsErrAnd r (λ x. x ≡ e)
    → length result ≡ n
    → RunTold (run_given (run_number (length (task_of l).initial) s q n) (task_of l) s q n) r s result
unfolding run_given
run_refused l s q n e r {result} kept m given size =
    rw (refused r e given, number_same l s q n kept ∙ sym m) (go (number_of e) refl (number_some e))
  where
    go : (k : ℕ) → number_of e ≡ k → (k ≡ 0 → ⊥) → RunTold (run_given k (task_of l) s q n) (Err e) s result
    go zero x d = absurd (d refl)
    go (suc k) x d = record { told = x; left = refl; stops = tt; held = ap (λ (i : ℕ). replicate i 0) (sym size) }

-- the two ways out by the file
pub run_read :
    {m : Lengths} {file : List ℕ} (s q : List ℕ) (n : ℕ) {l : Lent} {r : Result ℕ Refusal} {s' result : List ℕ}
    → ReadAs m file l
    → RunTold (run_given (run_number (length (task_of l).initial) s q n) (task_of l) s q n) r s' result
    → RunTold (run_entry_by (reading m file) s q n) r s' result
unfolding run_entry_by
run_read s q n t g = rw t.read g

pub run_no_file :
    (m : Lengths) (file s q : List ℕ) (n : ℕ) (e : Refusal) (r : Result ℕ Refusal) {result : List ℕ}
    → reading m file ≡ rejected (number_of e)
    → IsErrAnd r (λ x. x ≡ e)
    → length result ≡ n
    → RunTold (run_entry_by (reading m file) s q n) r s result
unfolding run_entry_by
run_no_file m file s q n e r is given size =
    rw (refused r e given, is) (record { told = refl; left = refl; stops = tt; held = ap (λ (i : ℕ). replicate i 0) (sym size) })

-- 5 is the number of too short a table alone
short_only : (e : Refusal) → number_of e ≡ 5 → e ≡ r.ShortTable
short_only r.CutShort h = cc
short_only r.SpareBit h = cc
short_only r.NeedlessField h = cc
short_only r.BytesBehind h = cc
short_only r.ShortTable h = refl
short_only r.Counts h = cc
short_only r.Goal h = cc
short_only r.InitialByte h = cc
short_only r.Twin h = cc
short_only r.Formula h = cc
short_only r.Effect h = cc
short_only r.Operator h = cc
short_only r.SourceTwins h = cc
short_only r.ShortScratch h = cc
short_only r.NoRoom h = cc
short_only r.State h = cc
short_only r.NoOperator h = cc
short_only r.NotApplicable h = cc
short_only r.LongSequence h = cc
short_only r.ShortOutput h = cc
short_only r.ManyVariables h = cc
short_only r.NoPlan h = cc
short_only r.LongPlan h = cc
short_only r.Percent h = cc
short_only r.ValueCount h = cc
short_only r.Value h = cc

-- the test of the code: whether an answer is that a table is too short
pub not_short :
    (x : Result ℕ Refusal)
    → true ≡ not (result_eq eqb eq-value.it x (Err r.ShortTable))
    → IfOk x (λ stop. stop ≡ 5 → ⊥)
    → answered x ≡ 5
    → ⊥
not_short (Ok n) h stops five = stops five
not_short (Err e) h stops five = let same = short_only e five in let g = rw same at h in cc

pub short : (x : Result ℕ Refusal) → false ≡ not (result_eq eqb eq-value.it x (Err r.ShortTable)) → answered x ≡ 5
short (Ok n) h = cc
short (Err e) h = ap number_of (same_true the_type (search rules) e r.ShortTable (flipped (eq-value.it e r.ShortTable) h))
  where
    flipped : (b : Bool) → false ≡ not b → b ≡ true
    flipped true h = refl
    flipped false h = cc

module _
    (m : Lengths) (file s q : List ℕ) (n : ℕ) {r : Result ℕ Refusal} {s' result : List ℕ}
    (g : RunTold (run_entry_by (reading m file) s q n) r s' result) where
  -- through tables of any lengths, any answer but 5 is the entry's
  pub run_settled : (answered r ≡ 5 → ⊥) → RunTold (run_entry file s q n) r s' result
  unfolding run_entry run_entry_by
  run_settled d =
      subst (λ (x : Verdict). RunTold (run_entry_by x s q n) r s' result)
      (same_reading m file (λ e. d (g.told ∙ ap (λ (x : Verdict). (run_entry_by x s q n).number) e)))
      g

  -- .. and after 5 the state is as it was: nothing ran
  pub not_run : answered r ≡ 5 → s' ≡ s
  unfolding run_entry_by run_given
  not_run five = go (reading m file) refl
    where
      by_number : (t : Task) (k : ℕ) → RunTold (run_given k t s q n) r s' result → s' ≡ s
      by_number t zero h =
          absurd
          (unfold plain_run in stop_not_five t (record { state = s; steps = 0; cost = 0 }) (numbers_of q) (sym h.told ∙ five))
      by_number t (suc k) h = h.left

      go : (x : Verdict) → reading m file ≡ x → s' ≡ s
      go (accepted t) e = by_number t (run_number (length t.initial) s q n) (rw e at g)
      go (rejected k) e =
          let h : RunTold (run_entry_by (rejected k) s q n) r s' result = rw e at g in
          h.left

-- the state and the result's length, as a call before left them
pub run_again :
    (file q : List ℕ) {s s' : List ℕ} {n n' : ℕ} {r : Result ℕ Refusal} {after result : List ℕ}
    → s ≡ s'
    → n ≡ n'
    → RunTold (run_entry file s q n) r after result
    → RunTold (run_entry file s' q n') r after result
run_again file q p e g = rw (← p, ← e) g
