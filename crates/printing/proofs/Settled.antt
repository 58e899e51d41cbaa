-- What a buffer holds in the end, and what the calls answer. Assumes nothing.
use Prim.Native.Nat.{ℕ, ◌+◌, ◌-◌, ◌≤◌, ◌<◌}
use native.Mathlib.Nat.{zero-add}
use native.Mathlib.Omega.{arith}
use mathlib.Core.Path.{◌≡◌, refl, ap, ap₂, ◌∙◌}
use mathlib.Core.Bool.{Bool, cond}
use mathlib.Core.List.{List, [], ◌++◌, append-nil}
use lib.ListN.{length, take, drop, replicate, length-drop, drop_of_length-le}
use lib.Seq.{sets-eq, take-append_seam}
use borrow.Rule.Slice.PartMut.{put_mid}
use borrow.Author.Tests.{le-leb, lt-leb, eq-eqb, ne_eqb}
use Rattle.std.specs.Prelude.{Result, Ok, Err}
use Rattle.std.specs.Result.{IsErrAnd}
use Rattle.task.specs.declared.refusal.Refusal.{Refusal}
use Rattle.task.specs.Refused.{number_of}
use Rattle.task.proofs.Refusals.{number_some}
use Rattle.task.specs.Table.{Lent, task_of}
use Rattle.task.specs.Check.{refusal}
use Rattle.task.specs.Words.{padded}
use Rattle.printing.specs.Lines.{lines}
use Rattle.printing.specs.Printing.{PrintAnswer, Printed, Refused, print_answered, PrintGives, not_printed, placed, printing}
use Rattle.printing.specs.Inner.Put.{Put}
use Rattle.printing.proofs.Puts.{put_length}

module _ (text : List ℕ) (n : ℕ) where
  pub placed_whole :
      length text ≤ n
      → placed text n ≡ record { answer = Printed (length text); out = padded n text }
  unfolding placed
  placed_whole h =
      ap
      (λ (b : Bool).
      cond b
      (record { answer = Printed (length text); out = padded n text })
      (not_printed 20 n))
      (le-leb (length text) n h)

  placed_over : n < length text → placed text n ≡ not_printed 20 n
  unfolding placed
  placed_over h =
      ap
      (λ (b : Bool).
      cond b
      (record { answer = Printed (length text); out = padded n text })
      (not_printed 20 n))
      (lt-leb (length text) n h)

module _ (before text : List ℕ) {most last : ℕ} {out : List ℕ} (p : Put before 0 text most out last) where
  same_length : length out ≡ length before
  same_length = put_length p

  whole : last ≡ length text
  whole = p.counted ∙ zero-add (length text)

  pub settled_whole :
      last ≤ length out
      → {zeros : List ℕ} {m : ℕ}
      → zeros ≡ replicate m 0
      → m ≡ length out - last
      → PrintGives (placed text (length before)) (Printed last) (put_mid last (length out - last) out zeros)
  unfolding padded
  settled_whole h {zeros} e s =
      let fits : length text ≤ length before = omega (arith, same_length, whole) in
      let front : take last out ≡ text =
      ap₂ take whole (p.stored ∙ sets-eq text before 0 (omega arith)) ∙ take-append_seam text (drop (0 + length text) before)
      in
      let behind : drop (length out - last) (drop last out) ≡ [] =
      drop_of_length-le (drop last out) (omega (arith, length-drop last out))
      in
      let rest : zeros ++ drop (length out - last) (drop last out) ≡ replicate (length before - length text) 0 =
      ap (λ (x : List ℕ). zeros ++ x) behind
      ∙ append-nil zeros
      ∙ e
      ∙ ap (λ (k : ℕ). replicate {A = ℕ} k 0) (s ∙ ap₂ ◌-◌ same_length whole)
      in
      rw (placed_whole text (length before) fits) (record { answered = ap Printed whole; left = ap₂ ◌++◌ front rest })

  pub settled_over :
      length out < last
      → {after : List ℕ}
      → after ≡ replicate (length out) 0
      → PrintGives (placed text (length before)) (Refused 20) after
  unfolding not_printed
  settled_over h e =
      let over : length before < length text = omega (arith, same_length, whole) in
      rw (placed_over text (length before) over)
      (record { answered = refl; left = e ∙ ap (λ (j : ℕ). replicate {A = ℕ} j 0) same_length })

module _ (l : Lent) (n : ℕ) where
  stopped : (refusal l ≡ 0 → ⊥) → printing l n ≡ not_printed (refusal l) n
  unfolding printing
  stopped h =
      ap (λ (b : Bool). cond b (placed (lines (task_of l)) n) (not_printed (refusal l) n)) (ne_eqb (refusal l) 0 h)

  pub passes : refusal l ≡ 0 → printing l n ≡ placed (lines (task_of l)) n
  unfolding printing
  passes e =
      ap (λ (b : Bool). cond b (placed (lines (task_of l)) n) (not_printed (refusal l) n)) (eq-eqb (refusal l) 0 e)

  module _ {out : List ℕ} where
    pub printing_refused :
        (r : Result ℕ Refusal) (e : Refusal)
        → IsErrAnd r (λ x. x ≡ e)
        → number_of e ≡ refusal l
        → out ≡ replicate n 0
        → PrintGives (printing l n) (print_answered r) out
    unfolding not_printed
    printing_refused (Ok x) e given is z = absurd given
    printing_refused (Err x) e given is z =
        let same : number_of x ≡ refusal l = ap number_of given ∙ is in
        rw (stopped (λ k. number_some x (same ∙ k))) (record { answered = ap Refused same; left = z })

    pub printing_passed :
        {m : ℕ} (answer : PrintAnswer)
        → refusal l ≡ 0
        → m ≡ n
        → PrintGives (placed (lines (task_of l)) m) answer out
        → PrintGives (printing l n) answer out
    printing_passed answer e s g = rw (passes e, ← s) g
