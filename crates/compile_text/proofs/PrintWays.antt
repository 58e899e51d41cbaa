-- Printing into the program's buffer: every text fits. Assumes nothing.
use Prim.Native.Nat.{ℕ, ◌+◌, ◌-◌, ◌≤◌, ◌<◌}
use native.Mathlib.Nat.{min-eq_left}
use native.Mathlib.Omega.{arith}
use mathlib.Core.Path.{◌≡◌, refl, sym, ap, ◌∙◌}
use mathlib.Core.List.{List, ◌++◌}
use lib.ListN.{length, get_or, replicate, length-append, length-take}
use Rattle.std.specs.Prelude.{Result, Ok, Err, IsOk}
use Rattle.task.specs.declared.refusal.Refusal.{Refusal}
use Rattle.task.specs.declared.refusal.Refusal.TheVariants as r
use Rattle.task.specs.Refused.{number_of}
use Rattle.task.specs.Table.{Lent, task_of}
use Rattle.task.specs.Check.{refusal}
use Rattle.task.specs.Words.{padded}
use Rattle.task.proofs.Stores.{cost_among}
use Rattle.printing.specs.Lines.{lines, refusal_line}
use Rattle.printing.specs.Printing.{Printed, PrintOutcome, print_answered, printing, printing_refusal, PrintGives as Prints}
use Rattle.printing.proofs.Suffices.{task_printed, refusal_printed}
use Rattle.compile_text.specs.Text.{most, TextGives}

number_below : (e : Refusal) → number_of e < 65536
number_below r.CutShort = omega arith
number_below r.SpareBit = omega arith
number_below r.NeedlessField = omega arith
number_below r.BytesBehind = omega arith
number_below r.ShortTable = omega arith
number_below r.Counts = omega arith
number_below r.Goal = omega arith
number_below r.InitialByte = omega arith
number_below r.Twin = omega arith
number_below r.Formula = omega arith
number_below r.Effect = omega arith
number_below r.Operator = omega arith
number_below r.SourceTwins = omega arith
number_below r.ShortScratch = omega arith
number_below r.NoRoom = omega arith
number_below r.State = omega arith
number_below r.NoOperator = omega arith
number_below r.NotApplicable = omega arith
number_below r.LongSequence = omega arith
number_below r.ShortOutput = omega arith
number_below r.ManyVariables = omega arith
number_below r.NoPlan = omega arith
number_below r.LongPlan = omega arith
number_below r.Percent = omega arith
number_below r.ValueCount = omega arith
number_below r.Value = omega arith

-- what was printed whole was not refused
not_refused : (r : Result ℕ Refusal) {n : ℕ} → print_answered r ≡ Printed n → IsOk r
not_refused (Ok m) q = refl
not_refused (Err e) {n} q = absurd (let z : ◌≡◌ {A = ℕ} 0 1 = cc in omega arith)

-- and is a text in the program's buffer
module _ (text : List ℕ) {o : PrintOutcome} (r : Result ℕ Refusal) {out : List ℕ}
    (whole : o ≡ record { answer = Printed (length text); out = padded most text }) (prints : Prints o (print_answered r) out) where
  answer_is : print_answered r ≡ Printed (length text)
  answer_is = prints.answered ∙ ap (λ (x : PrintOutcome). x.answer) whole

  is_printed : IsOk r
  is_printed = not_refused r answer_is

  printed_whole : {n : ℕ} → r ≡ Ok n → length out ≡ most → TextGives text n out
  unfolding padded
  printed_whole {n} ok long =
      let held : out ≡ text ++ replicate (most - length text) 0 = prints.left ∙ ap (λ (x : PrintOutcome). x.out) whole in
      let told : Printed n ≡ Printed (length text) = sym (ap print_answered ok) ∙ answer_is in
      let same : n ≡ length text = cc in
      let sum : length out ≡ length text + length (replicate {A = ℕ} (most - length text) 0) = ap length held ∙ length-append text _ in
      let fits : n ≤ length out = omega (arith, same, sum, long) in
      record { counted = same; held = held; fits = fits; front = sym (length-take n out ∙ min-eq_left fits) }

-- a refusal's line
module _ (e : Refusal) (r : Result ℕ Refusal) {out : List ℕ} {n : ℕ} (full : n ≡ most)
    (prints : Prints (printing_refusal (number_of e) n) (print_answered r) out) where
  line_whole :
      printing_refusal (number_of e) n
      ≡ record { answer = Printed (length (refusal_line (number_of e))); out = padded most (refusal_line (number_of e)) }
  line_whole = ap (printing_refusal (number_of e)) full ∙ refusal_printed (number_of e) most (number_below e) (omega arith)

  pub line_printed : IsOk r
  line_printed = is_printed (refusal_line (number_of e)) r line_whole prints

  pub line_given : {m : ℕ} → r ≡ Ok m → length out ≡ most → TextGives (refusal_line (number_of e)) m out
  line_given = printed_whole (refusal_line (number_of e)) r line_whole prints

-- a task's lines
module _ (l : Lent) (r : Result ℕ Refusal) {out : List ℕ} {n : ℕ} (full : n ≡ most) (passes : refusal l ≡ 0)
    (words : (i : ℕ) → get_or l.operators i 0 < 65536) (prints : Prints (printing l n) (print_answered r) out) where
  lines_whole : printing l n ≡ record { answer = Printed (length (lines (task_of l))); out = padded most (lines (task_of l)) }
  lines_whole = ap (printing l) full ∙ task_printed l most passes (λ i h. cost_among (λ c. c < 65536) l.operators i words) (omega arith)

  pub lines_printed : IsOk r
  lines_printed = is_printed (lines (task_of l)) r lines_whole prints

  pub task_given : {m : ℕ} → r ≡ Ok m → length out ≡ most → TextGives (lines (task_of l)) m out
  task_given = printed_whole (lines (task_of l)) r lines_whole prints
