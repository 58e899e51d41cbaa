-- The cheapest plan's entry: one law for each way out. Assumes nothing.
use Prim.Native.Nat.{ℕ, zero, suc, ◌+◌, ◌-◌, ◌*◌, ◌/◌, ◌^◌, ◌<◌, ◌≤◌}
use native.Mathlib.Omega.{arith}
use mathlib.Core.Path.{◌≡◌, refl, sym, ap, ◌∙◌, subst}
use mathlib.Core.Bool.{Bool, true, false}
use mathlib.Core.List.{List, ◌++◌}
use lib.ListN.{length, take, replicate, length-append, length-replicate}
use lib.Pow.{pow_mono}
use lib.Seq.{length-take-le, take-append_seam}
use lib.Dec.{leb}
use borrow.Author.Tests.{le-leb, lt-leb, leb-true}
use prog.Memory.{up}
use Rattle.std.specs.Prelude.{Result, Ok, Err}
use Rattle.task.specs.declared.refusal.Refusal.{Refusal}
use Rattle.task.specs.declared.refusal.Refusal.TheVariants as f
use Rattle.task.specs.Refused.{told}
use Rattle.task.specs.declared.Head.{Head}
use Rattle.task.specs.Table.{Task, Lent, task_of}
use Rattle.task.specs.Check.{refusal, unless}
use Rattle.task.specs.Rules.{Checked}
use Rattle.task.specs.Words.{joined, head_of, padded}
use Rattle.task.proofs.Bounded.{and_left, and_right}
use Rattle.task.proofs.Held.{length_initial}
use Rattle.task.proofs.Kept.{kept_rules}
use Rattle.task.proofs.Passed.{passed, counts_tested}
use Rattle.file_format.specs.Bytes.{word_bytes}
use Rattle.file_format.specs.Reading.{Lengths, Verdict, accepted, rejected, reading}
use Rattle.task_writer.specs.Inner.Putting.{Put}
use Rattle.task_writer.proofs.Puts.{put_then}
use Rattle.stepper.specs.Stepped.{step_scratch_kept}
use Rattle.cheapest_plan.specs.Cheapest.{Pick, no_plan, plan_of, cheapest}
use Rattle.cheapest_plan.specs.Planned.{few_variables, search_scratch_kept, search_refusal, CheapestOutcome, plan_refused, plan_written, plan_told, planned_by, planned, Planned, PlanGives}
use Rattle.cheapest_plan.proofs.Cheapest.{plan_is_short}
use Rattle.layouts.specs.Layout.{low_bytes, zeros}
use Rattle.layouts.proofs.LayWays.{put_padded, size}
use Rattle.layouts.proofs.RunWays.{low_next}
use Rattle.layouts.proofs.Sizes.{length_word_bytes}
use Rattle.entry_tables.proofs.Reading.{ReadAs, same_reading}
use Rattle.plan_entry.specs.Entry.{nothing_planned, plan_bytes, plan_laid, plan_picked, plan_number, plan_given, plan_entry_by, plan_entry, PlanEntryGives}
use Rattle.plan_entry.specs.Inner.Giving.{Clear, FreePlan, PlanIn, small_plan}

-- a refusal leaves outputs that were clear
pub nothing : {out result : List ℕ} {number n : ℕ} → Clear out result → n ≡ number → PlanEntryGives (nothing_planned number (length out) (length result)) n out result
nothing clear told = record { told = told; written = clear.out_clear; held = clear.result_clear }

-- outputs that were cleared
pub cleared_now : {out result : List ℕ} (o r : ℕ) → out ≡ zeros o → result ≡ zeros r → Clear out result
cleared_now o r e d =
    record {
      out_clear = e ∙ ap zeros (sym (length-replicate {A = ℕ} o 0)) ∙ ap (λ (x : List ℕ). zeros (length x)) (sym e);
      result_clear = d ∙ ap zeros (sym (length-replicate {A = ℕ} r 0)) ∙ ap (λ (x : List ℕ). zeros (length x)) (sym d);
    }

-- what no refusal says
pub record Free (h : Head) (r : ℕ) : Type 0 where
  pub few : h.variables ≤ 10
  pub room : 12 ≤ r

pub free_of : (h : Head) (r : ℕ) → plan_number h r ≡ 0 → Free h r
unfolding plan_number few_variables
free_of h r e = go (leb h.variables 10) (leb 12 r) refl refl e
  where
    go :
        (x y : Bool)
        → leb h.variables 10 ≡ x
        → leb 12 r ≡ y
        → unless x 21 (unless y 20 0) ≡ 0
        → Free h r
    go true true a b e = record { few = leb-true h.variables 10 a; room = leb-true 12 r b }
    go true false a b e = absurd (omega arith)
    go false y a b e = absurd (omega arith)

-- 2 to at most 10 is at most 1,024
few_states : (v : ℕ) → v ≤ 10 → 2 ^ v ≤ 1024
few_states v h = pow_mono h

-- room for a search that nothing refuses before it begins: by the limits, or by its few variables and rows
pub full_room : {l : Lent} {r : ℕ} → FreePlan l r → PlanIn l 1023 8192 4096 r
full_room {l} {r} plan =
    let c = (counts_tested l.head).0 (passed l plan.kept).counts in
    let f = free_of l.head r plan.free in
    record {
      plan = plan;
      steps = omega (arith, few_states l.head.variables f.few);
      bytes = omega (arith, c.formulas, c.effects);
      states = omega (arith, few_states l.head.variables f.few);
      few = (omega arith, omega arith, omega arith);
    }

pub small_room : {l : Lent} {r : ℕ} → FreePlan l r → small_plan l.head ≡ true → PlanIn l 63 256 256 r
unfolding small_plan
small_room {l} {r} plan small =
    let v : ℕ = l.head.variables in
    let rows : ℕ = l.head.formulas + l.head.effects in
    let few : 2 ^ v ≤ 64 = pow_mono (leb-true v 6 (and_left (leb v 6) (leb rows 256) small)) in
    record {
      plan = plan;
      steps = omega (arith, few);
      bytes = leb-true rows 256 (and_right (leb v 6) (leb rows 256) small);
      states = omega (arith, few);
      few = (omega arith, omega arith, omega arith);
    }

-- the room of its own is of these sizes
pub room_own :
    {l : Lent} {a b c r : ℕ}
    → PlanIn l a b c r
    → PlanIn l (length (replicate {A = ℕ} a 0)) (length (replicate {A = ℕ} b 0)) (length (replicate {A = ℕ} c 0)) r
room_own {a = a} {b} {c} i = rw (length-replicate {A = ℕ} a 0, length-replicate {A = ℕ} b 0, length-replicate {A = ℕ} c 0) i

-- tables of one's own fit the memory
pub own_fits :
    {twins words operators : ℕ}
    → (twins ≤ 256) × (words ≤ 12288) × (operators ≤ 1024)
    → up 2 (up 2 (up 2 (up 2 (512 + twins * 2) + words * 2) + words * 2) + operators * 2) < 9223372036854775808
own_fits {twins} {words} {operators} h =
    let a = up_two (512 + twins * 2) in
    let b = up_two (up 2 (512 + twins * 2) + words * 2) in
    let c = up_two (up 2 (up 2 (512 + twins * 2) + words * 2) + words * 2) in
    let d = up_two (up 2 (up 2 (up 2 (512 + twins * 2) + words * 2) + words * 2) + operators * 2) in
    omega (arith, h)
  where
    up_two : (e : ℕ) → up 2 e ≤ e + 1
    up_two e = omega arith

-- no refusal but one is told as 5
pub told_five : (r : Result (Unit {0}) Refusal) → told r ≡ 5 → r ≡ Err f.ShortTable
told_five (Ok x) e = cc
told_five (Err f.CutShort) e = cc
told_five (Err f.SpareBit) e = cc
told_five (Err f.NeedlessField) e = cc
told_five (Err f.BytesBehind) e = cc
told_five (Err f.ShortTable) e = refl
told_five (Err f.Counts) e = cc
told_five (Err f.Goal) e = cc
told_five (Err f.InitialByte) e = cc
told_five (Err f.Twin) e = cc
told_five (Err f.Formula) e = cc
told_five (Err f.Effect) e = cc
told_five (Err f.Operator) e = cc
told_five (Err f.SourceTwins) e = cc
told_five (Err f.ShortScratch) e = cc
told_five (Err f.NoRoom) e = cc
told_five (Err f.State) e = cc
told_five (Err f.NoOperator) e = cc
told_five (Err f.NotApplicable) e = cc
told_five (Err f.LongSequence) e = cc
told_five (Err f.ShortOutput) e = cc
told_five (Err f.ManyVariables) e = cc
told_five (Err f.NoPlan) e = cc
told_five (Err f.LongPlan) e = cc
told_five (Err f.Percent) e = cc
told_five (Err f.ValueCount) e = cc
told_five (Err f.Value) e = cc

-- a plan that is given, or is too long for the output
module _ (numbers out result : List ℕ) (steps cost : ℕ) (inside : steps ≤ length numbers) where
  abbrev plan : List ℕ
  plan = take steps numbers

  whole : length plan ≡ steps
  whole = length-take-le steps numbers inside

  abbrev Given : (r : ℕ) → (out' result' : List ℕ) → Type 0
  Given r out' result' = PlanEntryGives (plan_picked (plan_of (take steps numbers) cost) (length out) (length result)) r out' result'

  pub too_long : length out / 2 < steps → Clear out result → Given 23 out result
  unfolding plan_picked
  too_long h clear =
      rw (lt-leb (2 * length plan) (length out) (omega (arith, whole)))
      (record { told = refl; written = clear.out_clear; held = clear.result_clear })

  pub gives_plan :
      {out' part result' : List ℕ} {a b c : ℕ}
      → steps ≤ length out / 2
      → 12 ≤ length result
      → Clear out result
      → Put (joined word_bytes plan) 0 a out out'
      → Put (low_bytes 4 steps) 0 b result part
      → Put (low_bytes 8 cost) b c part result'
      → Given 0 out' result'
  unfolding plan_picked plan_laid plan_bytes
  gives_plan {out'} {part} {result'} {a} {b} {c} h room clear p q s =
      let bytes : List ℕ = low_bytes 4 steps ++ low_bytes 8 cost in
      let both : Put bytes 0 c result result' = put_then q s in
      let end : a ≡ 2 * steps = omega (arith, p.next, length_word_bytes plan, whole) in
      let fits : leb (2 * length plan) (length out) ≡ true = le-leb (2 * length plan) (length out) (omega (arith, whole)) in
      let last : c ≡ 12 = omega (arith, low_next 4 steps q, low_next 8 cost s) in
      rw (fits, whole)
      (record {
        told = refl;
        written =
            put_padded (joined word_bytes plan) out clear.out_clear p
            (omega (arith, size (joined word_bytes plan) out clear.out_clear p));
        held = put_padded bytes result clear.result_clear both (omega (arith, size bytes result clear.result_clear both));
      })

-- the search's answer, where nothing refuses it before it begins
module _ (l : Lent) (numbers scratch words : List ℕ) (r : ℕ) (i : PlanIn l (length numbers) (length scratch) (length words) r) where
  checked : Checked (task_of l)
  checked = (kept_rules l i.plan.kept).1

  not_refused : search_refusal l scratch words ≡ 0
  unfolding search_refusal few_variables search_scratch_kept step_scratch_kept
  not_refused =
      let h = l.head in
      rw (
        i.plan.kept,
        le-leb h.variables 10 (free_of h r i.plan.free).few,
        le-leb (h.formulas + h.effects) (length scratch) i.bytes,
        le-leb (4 * 2 ^ h.variables) (length words) i.states,
      )

  -- a plan has at most 2^V - 1 steps, so there is room for it
  short : {p : List ℕ} {c : ℕ} → cheapest (task_of l) ≡ plan_of p c → length p ≤ 2 ^ l.head.variables - 1
  short {p} {c} e =
      subst (λ (v : ℕ). length p ≤ 2 ^ v - 1) (length_initial l (kept_rules l i.plan.kept).0)
      (plan_is_short (task_of l) checked e)

  module _ {o : CheapestOutcome} {numbers' scratch' words' : List ℕ} (g : PlanGives (planned l numbers scratch words) o numbers' scratch' words') where
    searched : planned l numbers scratch words ≡ plan_told (cheapest (task_of l)) numbers scratch words
    unfolding planned planned_by
    searched = rw not_refused

    -- no refusal: the cheapest plan stands in front
    pub record Found : Type 0 where
      pub same : cheapest (task_of l) ≡ plan_of (take o.steps numbers') o.cost
      pub few : o.steps ≤ 1023
      pub inside : o.steps ≤ length numbers'

    pub found : o.refusal ≡ 0 → Found
    unfolding plan_told plan_refused plan_written padded
    found z = go (cheapest (task_of l)) refl
      where
        fits : {p : List ℕ} {c : ℕ} → cheapest (task_of l) ≡ plan_of p c → leb (length p) (length numbers) ≡ true
        fits {p} e = le-leb (length p) (length numbers) (omega (arith, short e, i.steps))

        go : (a : Pick) → cheapest (task_of l) ≡ a → Found
        go no_plan e =
            let w : planned l numbers scratch words ≡ plan_refused 22 numbers scratch words = searched ∙ rw e in
            let n : o.refusal ≡ 22 = ap (λ (x : CheapestOutcome). x.refusal) g.answer ∙ ap (λ (x : Planned). x.answer.refusal) w in
            absurd (omega (arith, n, z))
        go (plan_of p c) e =
            let w : planned l numbers scratch words ≡ plan_written p c numbers scratch words = searched ∙ rw (e, fits e) in
            let steps : o.steps ≡ length p = ap (λ (x : CheapestOutcome). x.steps) g.answer ∙ ap (λ (x : Planned). x.answer.steps) w in
            let cost : o.cost ≡ c = ap (λ (x : CheapestOutcome). x.cost) g.answer ∙ ap (λ (x : Planned). x.answer.cost) w in
            let left : numbers' ≡ p ++ replicate (length numbers - length p) 0 = g.plan ∙ ap (λ (x : Planned). x.plan) w in
            let front : take o.steps numbers' ≡ p =
            (λ j. take (steps j) (left j)) ∙ take-append_seam p (replicate (length numbers - length p) 0)
            in
            record {
              same = e ∙ (λ j. plan_of (sym front j) (sym cost j));
              few = omega (arith, steps, short e, few_states l.head.variables (free_of l.head r i.plan.free).few);
              inside = omega (arith, steps, ap length left, length-append p (replicate (length numbers - length p) 0));
            }

    pub found_plan :
        (m : ℕ) {n : ℕ} {out' result' : List ℕ}
        → Found
        → PlanEntryGives (plan_picked (plan_of (take o.steps numbers') o.cost) m r) n out' result'
        → PlanEntryGives (plan_picked (cheapest (task_of l)) m r) n out' result'
    found_plan m f given = rw f.same given

    -- a refusal: there is no plan
    pub not_found :
        (m : ℕ) {n : ℕ} {out' result' : List ℕ}
        → (o.refusal ≡ 0 → ⊥)
        → PlanEntryGives (nothing_planned o.refusal m r) n out' result'
        → PlanEntryGives (plan_picked (cheapest (task_of l)) m r) n out' result'
    unfolding plan_told plan_refused plan_written plan_picked
    not_found m {n} {out'} {result'} d given = go (cheapest (task_of l)) refl
      where
        go : (a : Pick) → cheapest (task_of l) ≡ a → PlanEntryGives (plan_picked (cheapest (task_of l)) m r) n out' result'
        go no_plan e =
            let w : planned l numbers scratch words ≡ plan_refused 22 numbers scratch words = searched ∙ rw e in
            let k : o.refusal ≡ 22 = ap (λ (x : CheapestOutcome). x.refusal) g.answer ∙ ap (λ (x : Planned). x.answer.refusal) w in
            rw e (rw k at given)
        go (plan_of p c) e =
            let fits : leb (length p) (length numbers) ≡ true = le-leb (length p) (length numbers) (omega (arith, short e, i.steps)) in
            let w : planned l numbers scratch words ≡ plan_written p c numbers scratch words = searched ∙ rw (e, fits) in
            absurd (d (ap (λ (x : CheapestOutcome). x.refusal) g.answer ∙ ap (λ (x : Planned). x.answer.refusal) w))

-- by the refusals before the search
number_kept : (l : Lent) (r : ℕ) → refusal l ≡ 0 → plan_number (head_of (task_of l)) r ≡ plan_number l.head r
unfolding plan_number few_variables head_of
number_kept l r kept = rw (length_initial l (kept_rules l kept).0)

module _ (l : Lent) (o r : ℕ) (kept : refusal l ≡ 0) {number : ℕ} (told : number ≡ plan_number l.head r) {n : ℕ} {out' result' : List ℕ} where
  pub plan_kept :
      number ≡ 0
      → PlanEntryGives (plan_picked (cheapest (task_of l)) o r) n out' result'
      → PlanEntryGives (plan_given (plan_number (head_of (task_of l)) r) (task_of l) o r) n out' result'
  unfolding plan_given
  plan_kept z g = rw (number_kept l r kept ∙ sym told ∙ z) g

  pub plan_not_begun :
      (number ≡ 0 → ⊥)
      → PlanEntryGives (nothing_planned number o r) n out' result'
      → PlanEntryGives (plan_given (plan_number (head_of (task_of l)) r) (task_of l) o r) n out' result'
  unfolding plan_given
  plan_not_begun d g = rw (number_kept l r kept ∙ sym told) (go number d g)
    where
      go :
          (k : ℕ)
          → (k ≡ 0 → ⊥)
          → PlanEntryGives (nothing_planned k o r) n out' result'
          → PlanEntryGives (plan_given k (task_of l) o r) n out' result'
      go zero d g = absurd (d refl)
      go (suc k) d g = g

-- the two ways out by the file
pub plan_read :
    {m : Lengths} {file : List ℕ} (o r : ℕ) {l : Lent} {n : ℕ} {out' result' : List ℕ}
    → ReadAs m file l
    → PlanEntryGives (plan_given (plan_number (head_of (task_of l)) r) (task_of l) o r) n out' result'
    → PlanEntryGives (plan_entry_by (reading m file) o r) n out' result'
unfolding plan_entry_by
plan_read o r t g = rw t.read g

pub plan_no_file :
    (m : Lengths) (file : List ℕ) (o r : ℕ) {k n : ℕ} {out' result' : List ℕ}
    → reading m file ≡ rejected k
    → PlanEntryGives (nothing_planned k o r) n out' result'
    → PlanEntryGives (plan_entry_by (reading m file) o r) n out' result'
unfolding plan_entry_by
plan_no_file m file o r e g = rw e g

-- the same told of `plan_entry_by` itself, for the tactics
pub by_accepted :
    (t : Task) (o r : ℕ) → plan_entry_by (accepted t) o r ≡ plan_given (plan_number (head_of t) r) t o r
unfolding plan_entry_by
by_accepted t o r = refl

pub by_rejected : (k o r : ℕ) → plan_entry_by (rejected k) o r ≡ nothing_planned k o r
unfolding plan_entry_by
by_rejected k o r = refl

-- through tables of any lengths, any answer but 5 is the entry's
pub plan_settled :
    (m : Lengths) (file : List ℕ) (o r : ℕ) {n : ℕ} {out' result' : List ℕ}
    → (n ≡ 5 → ⊥)
    → PlanEntryGives (plan_entry_by (reading m file) o r) n out' result'
    → PlanEntryGives (plan_entry file o r) n out' result'
unfolding plan_entry plan_entry_by
plan_settled m file o r {n} {out'} {result'} d g =
    subst (λ (x : Verdict). PlanEntryGives (plan_entry_by x o r) n out' result')
    (same_reading m file (λ e. d (g.told ∙ ap (λ (x : Verdict). (plan_entry_by x o r).number) e)))
    g

-- the outputs' lengths, as a call before left them
pub plan_again :
    (file : List ℕ) {o o' r r' n : ℕ} {out result : List ℕ}
    → o ≡ o'
    → r ≡ r'
    → PlanEntryGives (plan_entry file o r) n out result
    → PlanEntryGives (plan_entry file o' r') n out result
plan_again file p q g = rw (← p, ← q) g
