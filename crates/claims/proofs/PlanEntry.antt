-- K1, of the C entry: which number it gives, and what it leaves; and a task's file and its compiled task's file have the same cheapest plan.
use Prim.Native.Nat.{ℕ, zero, ◌-◌, ◌*◌, ◌^◌, ◌≤◌}
use native.Mathlib.Omega.{arith}
use mathlib.Core.Path.{◌≡◌, refl, sym, ap, ◌∙◌}
use mathlib.Core.Logic.{◌↔◌}
use mathlib.Core.Bool.{Bool, true, false, cond}
use mathlib.Core.List.{List, ◌++◌}
use lib.ListN.{length, take, drop, replicate}
use lib.Pow.{pow_mono}
use lib.Seq.{take_at, length-take-le}
use lib.Dec.{leb}
use borrow.Author.Tests.{leb-true, le-leb}
use Rattle.task.specs.Table.{Task}
use Rattle.task.specs.Rules.{Checked}
use Rattle.task.specs.Check.{unless}
use Rattle.task.specs.Words.{joined, head_of, padded}
use Rattle.file_format.specs.Bytes.{word_bytes, file_of}
use Rattle.file_format.specs.Reading.{Verdict, accepted, rejected, reading}
use Rattle.file_format.proofs.Numbers.{rejected_by}
use Rattle.normal_form.specs.Finished.{finished}
use Rattle.normal_form.proofs.Demand.{finished_keeps}
use Rattle.cheapest_plan.specs.Cheapest.{Pick, no_plan, plan_of, cheapest}
use Rattle.cheapest_plan.specs.Order.{Plan, cost_of}
use Rattle.cheapest_plan.specs.Planned.{few_variables}
use Rattle.cheapest_plan.proofs.Cheapest.{cheapest_is_plan, cheapest_is_least, no_plan_exactly_if, least_is_cheapest}
use Rattle.entry_tables.specs.Own.{own}
use Rattle.layouts.specs.Layout.{low_bytes, numbers_of, run_number, stop_number, run_bytes}
use Rattle.layouts.proofs.Sizes.{length_word_bytes}
use Rattle.run_entry.specs.Entry.{run_given, run_entry_by, run_entry}
use Rattle.plan_entry.specs.Entry.{PlanEntry, nothing_planned, plan_bytes, plan_laid, plan_picked, plan_number, plan_given, plan_entry_by, plan_entry}
use Rattle.plan_entry.proofs.PlanBytes.{numbers_of_words}
use Rattle.claims.proofs.FileNumbers.{told_some}
use Rattle.claims.specs.Statements.{OfBytes, Compiles}
use Rattle.claims.specs.Numbers.{Given, broken, keeps, no_rule_left, not_read, was_read, SequenceRule}
use Rattle.claims.specs.CheapestPlan.{HasPlan, PlanBytesFit, plan_entry_numbers, PlanEntryKept, PlanForC, PlanEntryLeaves, PlanRuns}
use Rattle.claims.proofs.Numbers.{given as given-rule, at_most, state_tested, sequence_tested, file_given, passed_on, behind_kept, file_behind}
use Rattle.claims.proofs.Refusals.{all_zero, zero_past}
use Rattle.claims.proofs.DemandTwoFiles.{file_accepted_exactly_if, reading_what_was_written}
use Rattle.claims.proofs.DemandTwoRuns.{unstopped_run_does_all, plan_exactly_if, plan_byte_exactly_if}
use Rattle.claims.proofs.DemandTwoProgram.{own_fits}
use Rattle.claims.proofs.CheapestPlan.{given_is_cheapest, same_cheapest_plan}

-- 23
bytes_tested :
    (t : Task)
    → Checked t
    → {p : List ℕ} {c : ℕ}
    → cheapest t ≡ plan_of p c
    → (o : ℕ)
    → leb (2 * length p) o ≡ true ↔ PlanBytesFit t o
bytes_tested t passes {p} {c} e o = (
  λ b.
      record {
        fits =
            λ q least.
            let one = least_is_cheapest t passes least in
            let same : q ≡ p = cc in
            rw same (leb-true (2 * length p) o b);
      },
  λ f. le-leb (2 * length p) o (f.fits p (cheapest_is_least t passes e)),
)

-- 22, 23
picked_number :
    (t : Task) (o r : ℕ)
    → Checked t
    → Given (HasPlan t) 22 (Given (PlanBytesFit t o) 23 no_rule_left) (plan_picked (cheapest t) o r).number
unfolding plan_picked plan_laid
picked_number t o r passes = go (cheapest t) refl
  where
    number : (p : List ℕ) (c : ℕ) (b : Bool) → (cond b (plan_laid p c o r) (nothing_planned 23 o r)).number ≡ unless b 23 0
    number p c true = refl
    number p c false = refl

    go : (a : Pick) → cheapest t ≡ a → Given (HasPlan t) 22 (Given (PlanBytesFit t o) 23 no_rule_left) (plan_picked a o r).number
    go no_plan e = broken (λ h. (no_plan_exactly_if t passes).0 e h.numbers h.plan) refl
    go (plan_of p c) e =
        keeps (record { numbers = p; plan = (cheapest_is_plan t passes e).0 })
        (rw (number p c (leb (2 * length p) o)) (given-rule (leb (2 * length p) o) 23 0 (bytes_tested t passes e o) (λ _. refl)))

-- 21, 20
number_told :
    (t : Task) (o r : ℕ) (a b : Bool)
    → (plan_given (unless a 21 (unless b 20 0)) t o r).number
    ≡ unless a 21 (unless b 20 (plan_picked (cheapest t) o r).number)
unfolding plan_given
number_told t o r true true = refl
number_told t o r true false = refl
number_told t o r false b = refl

-- a run of the numbers of a plan
run_of_plan :
    (t : Task) (q : List ℕ) (w : PlanEntry) {p : List ℕ} {c : ℕ}
    → numbers_of q ≡ p
    → Plan t p
    → c ≡ cost_of t p
    → take 4 w.result ≡ low_bytes 4 (length p)
    → take 8 (drop 4 w.result) ≡ low_bytes 8 c
    → PlanRuns w (run_given zero t t.initial q 16)
unfolding run_given padded run_bytes low_bytes stop_number
run_of_plan t q w {p} {c} e plan charged steps cost =
    let ends = (plan_exactly_if t t.initial p).0 plan in
    rw e
    (record {
      number = rw ends.0;
      plan = (plan_byte_exactly_if t t.initial p).1 ends;
      same_steps = ap (low_bytes 4) (unstopped_run_does_all t t.initial p ends.0) ∙ sym steps;
      same_cost = ap (low_bytes 8) (sym charged) ∙ sym cost;
    })

module _ (file : List ℕ) (bytes : OfBytes file) (o r : ℕ) where
  -- the number that is given is that of the first rule in order that is broken
  pub plan_entry_gives_the_first : plan_entry_numbers file o r (plan_entry file o r).number
  unfolding plan_entry plan_entry_by plan_number few_variables head_of
  plan_entry_gives_the_first =
      file_given file bytes _ (λ v. (plan_entry_by v o r).number) (λ k. refl) (λ t rules.
      let v = length t.initial in
      rw (number_told t o r (leb v 10) (leb 12 r))
      (given-rule (leb v 10) 21 _ (at_most v 10) (λ _.
      given-rule (leb 12 r) 20 _ (at_most 12 r) (λ _. picked_number t o r rules.checked))))

  -- .. and 0 exactly if all are kept
  pub planned_for_c_exactly_if : (plan_entry file o r).number ≡ 0 ↔ PlanEntryKept file o r
  planned_for_c_exactly_if = (λ z. told plan_entry_gives_the_first z, λ k. kept-zero k)
    where
      told : {m : ℕ} → plan_entry_numbers file o r m → m ≡ 0 → PlanEntryKept file o r
      told (not_read e d) z = absurd (d z)
      told (was_read t e q b) z =
          let g21 = passed_on 20 b z in
          let g20 = passed_on 19 g21.1 z in
          let g22 = passed_on 21 g20.1 z in
          let g23 = passed_on 22 g22.1 z in
          record {
            task = t;
            same = e;
            rules = q;
            few_variables = g21.0;
            result = g20.0;
            exists = g22.0;
            output = g23.0;
          }

      kept-zero : PlanEntryKept file o r → (plan_entry file o r).number ≡ 0
      kept-zero k =
          behind_kept
          (behind_kept
          (behind_kept
          (behind_kept (file_behind plan_entry_gives_the_first k.task k.same k.rules) k.few_variables)
          k.result)
          k.exists)
          k.output

  -- What the entry leaves.
  pub plan_entry_leaves : PlanEntryLeaves file o r (plan_entry file o r)
  unfolding plan_entry plan_entry_by plan_given plan_picked plan_laid plan_bytes padded plan_number few_variables head_of low_bytes
  plan_entry_leaves = go (reading own file) refl
    where
      no_answer : (k : ℕ) → 1 ≤ k → PlanEntryLeaves file o r (nothing_planned k o r)
      no_answer k h =
          record {
            after_refusal = λ d. record { out = all_zero o; result = all_zero r };
            after_success = λ e. absurd (omega arith);
          }

      given :
          (t : Task)
          → reading own file ≡ accepted t
          → length t.initial ≤ 10
          → 12 ≤ r
          → {p : List ℕ} {c : ℕ}
          → cheapest t ≡ plan_of p c
          → (b : Bool)
          → leb (2 * length p) o ≡ b
          → PlanEntryLeaves file o r (cond b (plan_laid p c o r) (nothing_planned 23 o r))
      given t q few room {p} {c} e true fits =
          let words : List ℕ = joined word_bytes p in
          let twice : length words ≡ 2 * length p = length_word_bytes p in
          let best = given_is_cheapest t ((file_accepted_exactly_if own file t bytes).0 q).1.checked e in
          let states : 2 ^ length t.initial ≤ 1024 = pow_mono few in
          record {
            after_refusal = λ d. absurd (d refl);
            after_success =
                λ z.
                record {
                  task = t;
                  read = q;
                  numbers = p;
                  cost = c;
                  cheapest = best;
                  written = ap numbers_of (take_at words (replicate (o - length words) 0) (2 * length p) twice) ∙ numbers_of_words p;
                  steps = refl;
                  charged = refl;
                  few_steps = omega (arith, best.short, states);
                  out = zero_past o words (2 * length p) twice (leb-true (2 * length p) o fits);
                  result = zero_past r (low_bytes 4 (length p) ++ low_bytes 8 c) 12 refl room;
                };
          }
      given t q few room e false fits = no_answer 23 (omega arith)

      picked :
          (t : Task)
          → reading own file ≡ accepted t
          → length t.initial ≤ 10
          → 12 ≤ r
          → (a : Pick)
          → cheapest t ≡ a
          → PlanEntryLeaves file o r (plan_picked a o r)
      picked t q few room no_plan e = no_answer 22 (omega arith)
      picked t q few room (plan_of p c) e = given t q few room e (leb (2 * length p) o) refl

      by_number :
          (t : Task)
          → reading own file ≡ accepted t
          → (a b : Bool)
          → leb (length t.initial) 10 ≡ a
          → leb 12 r ≡ b
          → PlanEntryLeaves file o r (plan_given (unless a 21 (unless b 20 0)) t o r)
      by_number t q true true d e = picked t q (leb-true (length t.initial) 10 d) (leb-true 12 r e) (cheapest t) refl
      by_number t q true false d e = no_answer 20 (omega arith)
      by_number t q false b d e = no_answer 21 (omega arith)

      go : (x : Verdict) → reading own file ≡ x → PlanEntryLeaves file o r (plan_entry_by x o r)
      go (accepted t) q = by_number t q (leb (length t.initial) 10) (leb 12 r) refl refl
      go (rejected k) q = no_answer k (told_some (rejected_by own file k q))

  -- The numbers that were given, run from the initial state on the same file, are a plan, and running tells the steps and the cost that planning told.
  pub given_plan_runs :
      (g : PlanForC file o r (plan_entry file o r))
      → let w = plan_entry file o r in
      PlanRuns w (run_entry file g.task.initial (take (2 * length g.numbers) w.out) 16)
  unfolding run_entry run_entry_by run_number
  given_plan_runs g =
      let t = g.task in
      let s : List ℕ = t.initial in
      let w = plan_entry file o r in
      let twice : ℕ = 2 * length g.numbers in
      let q : List ℕ = take twice w.out in
      let rules = ((file_accepted_exactly_if own file t bytes).0 g.read).1 in
      let size : length q ≡ twice = length-take-le twice w.out (omega (arith, g.out.size, g.out.inside)) in
      let whole : SequenceRule q = record { whole = omega (arith, size); few = omega (arith, ap length g.written, g.few_steps) } in
      rw (g.read, (state_tested (length s) s).1 (record { size = refl; bits = rules.checked.initial_bits }), (sequence_tested q).1 whole)
      (run_of_plan t q w g.written g.cheapest.plan g.cheapest.charged g.steps g.charged)

-- Source and compiled task: where both have at most 10 variables, the entry leaves the same on either file, number, plan, steps and cost.
pub plans_for_c_alike :
    (t : Task)
    → Compiles t
    → length t.initial ≤ 10
    → length (finished t).initial ≤ 10
    → (o r : ℕ)
    → plan_entry (file_of t) o r ≡ plan_entry (file_of (finished t)) o r
unfolding plan_entry plan_entry_by plan_number few_variables head_of
plans_for_c_alike t c few few' o r =
    let u = finished t in
    let rules = finished_keeps t c.rules c.room in
    let read = reading_what_was_written own t c.rules (own_fits t c.rules) in
    let read' = reading_what_was_written own u rules (own_fits u rules) in
    rw (read, read', le-leb (length t.initial) 10 few, le-leb (length u.initial) 10 few') (alike (leb 12 r))
  where
    alike : (b : Bool) → plan_given (unless b 20 0) t o r ≡ plan_given (unless b 20 0) (finished t) o r
    alike true = unfold plan_given in ap (λ (a : Pick). plan_picked a o r) (same_cheapest_plan t c)
    alike false = unfold plan_given in refl
