-- Compiling through lent room: one law for each way out. Assumes nothing.
use Prim.Native.Nat.{ℕ, zero, suc, ◌+◌, ◌*◌}
use native.Mathlib.Omega.{arith}
use mathlib.Core.Path.{◌≡◌, refl, sym, ap, ◌∙◌, subst}
use mathlib.Core.Bool.{true}
use mathlib.Core.List.{List}
use lib.ListN.{replicate, length-replicate}
use borrow.Author.Tests.{le-leb}
use Rattle.std.specs.Prelude.{Result, Ok, Err}
use Rattle.task.specs.declared.Head.{Head}
use Rattle.task.specs.declared.refusal.Refusal.{Refusal}
use Rattle.task.specs.declared.refusal.Refusal.TheVariants as r
use Rattle.task.specs.Refused.{number_of, told}
use Rattle.task.specs.Table.{Lent, lent, task_of}
use Rattle.task.specs.Check.{refusal}
use Rattle.task.proofs.Kept.{kept_rules}
use Rattle.file_format.specs.Bytes.{file_of}
use Rattle.normal_form.specs.Finished.{finished}
use Rattle.normal_form.specs.Compiled.{Room, compile_scratch_kept, compile_refusal, not_compiled, CompileOutcome, compiling, given}
use Rattle.normal_form.proofs.Compiled.{given_task, given_passes}
use Rattle.compiler.specs.Left.{tables, room_of, answer_of, compile_left}
use Rattle.entry_tables.specs.Own.{own_room, compile_number}
use Rattle.entry_tables.specs.Inner.Answers.{refused_compile}
use Rattle.entry_tables.proofs.Compiling.{own_number, same_refusal, number_told, not_zero}
use Rattle.compiled_file.specs.Filed.{no_file, filed, compiled_file_by, compiled_file, CompileGives}
use Rattle.compiled_file.specs.Inner.Giving.{compile_through, room_in, small_room, SmallSource}

module _ (l : Lent) (kept : refusal l ≡ 0) (o n : ℕ) {code : ℕ} {out result : List ℕ} where
  by_number : (room : Room) → compile_refusal l room ≡ compile_number (task_of l) → CompileGives (compile_through l room o n) code out result → CompileGives (compiled_file (task_of l) o n) code out result
  unfolding compile_through compiled_file
  by_number room same g =
      subst (λ (k : ℕ). CompileGives (compiled_file_by k (finished (task_of l)) o n) code out result) same g

  pub full_given : CompileGives (compile_through l own_room o n) code out result → CompileGives (compiled_file (task_of l) o n) code out result
  full_given g = by_number own_room (own_number l kept) g

  -- through room of any lengths, with scratch enough, any answer but 15 stands
  settled :
      (room : Room)
      → compile_scratch_kept l.head room ≡ true
      → (code ≡ 15 → ⊥)
      → CompileGives (compile_through l room o n) code out result
      → CompileGives (compiled_file (task_of l) o n) code out result
  unfolding compile_through compiled_file_by
  settled room enough d g =
      by_number room
      (same_refusal l kept room enough (λ e. d (g.told ∙ ap (λ (k : ℕ). (compiled_file_by k (finished (task_of l)) o n).number) e)))
      g

module _ (l : Lent) (room : Room) {r : Result Head Refusal} {i w f e p s : List ℕ} (leaves : compile_left r (tables i w f e p s) ≡ compiling l room) where
  answered : {q : Result Head Refusal} → r ≡ q → (compiling l room).answer ≡ answer_of q
  answered q = sym (ap (λ (x : CompileOutcome). x.answer) leaves) ∙ ap answer_of q

  pub no_task_compiled :
      (o n : ℕ) {e : Refusal} {code : ℕ} {out result : List ℕ}
      → r ≡ Err e
      → CompileGives (no_file (number_of e) o n) code out result
      → CompileGives (compile_through l room o n) code out result
  unfolding compile_through compiled_file_by
  no_task_compiled o n {e} {code} {out} {result} q none = go (number_of e) (answered q) none
    where
      go : (k : ℕ) → (compiling l room).answer ≡ not_compiled k → CompileGives (no_file k o n) code out result → CompileGives (compile_through l room o n) code out result
      go zero e none = absurd (not_zero l room e)
      go (suc m) e none = rw (number_told l room ∙ ap refused_compile e) none

  module _ {head : Head} (q : r ≡ Ok head) where
    its_tables : lent head i w f e p ≡ given head (compiling l room)
    its_tables = ap (given head) leaves

    pub compiled_kept : refusal (lent head i w f e p) ≡ 0
    compiled_kept = ap refusal its_tables ∙ given_passes l room head (answered q)

    pub compiled_given :
        (o n : ℕ) {code : ℕ} {out result : List ℕ}
        → CompileGives (filed (file_of (task_of (lent head i w f e p))) o n) code out result
        → CompileGives (compile_through l room o n) code out result
    unfolding compile_through compiled_file_by
    compiled_given o n g =
        let t : task_of (lent head i w f e p) ≡ finished (task_of l) =
        ap task_of its_tables ∙ given_task l room head (answered q)
        in
        rw (number_told l room ∙ ap refused_compile (answered q), ← t) g

-- 15 is the number of one refusal alone
no_room : (e : Refusal) → number_of e ≡ 15 → e ≡ r.NoRoom
no_room r.CutShort h = cc
no_room r.SpareBit h = cc
no_room r.NeedlessField h = cc
no_room r.BytesBehind h = cc
no_room r.ShortTable h = cc
no_room r.Counts h = cc
no_room r.Goal h = cc
no_room r.InitialByte h = cc
no_room r.Twin h = cc
no_room r.Formula h = cc
no_room r.Effect h = cc
no_room r.Operator h = cc
no_room r.SourceTwins h = cc
no_room r.ShortScratch h = cc
no_room r.NoRoom h = refl
no_room r.State h = cc
no_room r.NoOperator h = cc
no_room r.NotApplicable h = cc
no_room r.LongSequence h = cc
no_room r.ShortOutput h = cc
no_room r.ManyVariables h = cc
no_room r.NoPlan h = cc
no_room r.LongPlan h = cc
no_room r.Percent h = cc
no_room r.ValueCount h = cc
no_room r.Value h = cc

pub told_no_room : {A : Type 0} (a : Result A Refusal) → told a ≡ 15 → a ≡ Err r.NoRoom
told_no_room (Ok x) h = cc
told_no_room (Err e) h = ap Err (no_room e h)

-- the room that tables of these sizes are
pub room_is :
    (w o s : ℕ)
    → room_of (tables (replicate 512 0) (replicate 256 0) (replicate w 0) (replicate w 0) (replicate o 0) (replicate s 0)) ≡ room_in w o s
room_is w o s =
    λ j.
    record {
      initial = length-replicate {A = ℕ} 512 0 j;
      twins = length-replicate {A = ℕ} 256 0 j;
      formulas = length-replicate {A = ℕ} w 0 j;
      effects = length-replicate {A = ℕ} w 0 j;
      operators = length-replicate {A = ℕ} o 0 j;
      scratch = length-replicate {A = ℕ} s 0 j;
    }

-- a source in small tables through small room
pub small_settled :
    {l : Lent} (o n : ℕ) {code : ℕ} {out result : List ℕ}
    → SmallSource l
    → (code ≡ 15 → ⊥)
    → CompileGives (compile_through l small_room o n) code out result
    → CompileGives (compiled_file (task_of l) o n) code out result
unfolding compile_scratch_kept small_room
small_settled {l} o n small d g =
    let long = (kept_rules l small.kept).0 in
    settled l small.kept o n small_room
    (le-leb (2 * l.head.formulas + 2 * l.head.effects) 512 (omega (arith, small.few, long.formulas, long.effects)))
    d g
