-- Compiling into the program's own tables: the text is the compiled task's or the number's. Assumes nothing.
use Prim.Native.Nat.{ℕ, zero, suc}
use mathlib.Core.Path.{◌≡◌, sym, ap, ◌∙◌, subst}
use mathlib.Core.List.{List}
use lib.ListN.{replicate, length-replicate}
use Rattle.std.specs.Prelude.{Ok, Err}
use Rattle.task.specs.declared.Head.{Head}
use Rattle.task.specs.declared.refusal.Refusal.{Refusal}
use Rattle.task.specs.Refused.{number_of}
use Rattle.task.specs.Table.{Lent, lent, task_of}
use Rattle.task.specs.Check.{refusal}
use Rattle.normal_form.specs.Finished.{finished}
use Rattle.normal_form.specs.Compiled.{compiled_head, not_compiled, CompileOutcome, compiling, given}
use Rattle.normal_form.proofs.Compiled.{given_task, given_passes}
use Rattle.compiler.specs.Left.{tables, room_of, compile_left}
use Rattle.printing.specs.Lines.{lines, refusal_line}
use Rattle.entry_tables.specs.Own.{own_room, compile_number}
use Rattle.entry_tables.specs.Inner.Answers.{refused_compile}
use Rattle.entry_tables.proofs.Compiling.{own_number, number_told, not_zero}
use Rattle.compile_text.specs.Text.{compiled_text_by, compiled_text, TextGives}

module _ (l : Lent) (kept : refusal l ≡ 0) where
  number_is : compile_number (task_of l) ≡ refused_compile (compiling l own_room).answer
  number_is = sym (own_number l kept) ∙ number_told l own_room

  line_told : (n : ℕ) → (compiling l own_room).answer ≡ not_compiled n → compiled_text (task_of l) ≡ refusal_line n
  unfolding compiled_text compiled_text_by
  line_told zero q = absurd (not_zero l own_room q)
  line_told (suc n) q = ap (λ (k : ℕ). compiled_text_by k (task_of l)) (number_is ∙ ap refused_compile q)

  lines_told : {h : Head} → (compiling l own_room).answer ≡ compiled_head h → compiled_text (task_of l) ≡ lines (finished (task_of l))
  unfolding compiled_text compiled_text_by
  lines_told q = ap (λ (k : ℕ). compiled_text_by k (task_of l)) (number_is ∙ ap refused_compile q)

-- tables of one's own, as long as the limits ask for
pub room_own :
    room_of
    (tables (replicate 512 0) (replicate 256 0) (replicate 12288 0) (replicate 12288 0) (replicate 1024 0) (replicate 16384 0))
    ≡ own_room
unfolding own_room
room_own = λ j.
    record {
      initial = length-replicate {A = ℕ} 512 0 j;
      twins = length-replicate {A = ℕ} 256 0 j;
      formulas = length-replicate {A = ℕ} 12288 0 j;
      effects = length-replicate {A = ℕ} 12288 0 j;
      operators = length-replicate {A = ℕ} 1024 0 j;
      scratch = length-replicate {A = ℕ} 16384 0 j;
    }

module _ (l : Lent) (kept : refusal l ≡ 0) {v o f x w s : List ℕ} where
  -- the two ways out of compiling
  pub number_given :
      (e : Refusal) {m : ℕ} {out : List ℕ}
      → compile_left (Err e) (tables v o f x w s) ≡ compiling l own_room
      → TextGives (refusal_line (number_of e)) m out
      → TextGives (compiled_text (task_of l)) m out
  number_given e {m} {out} leaves g =
      let answer = sym (ap (λ (y : CompileOutcome). y.answer) leaves) in
      subst (λ (text : List ℕ). TextGives text m out) (sym (line_told l kept (number_of e) answer)) g

  module _ {h : Head} (leaves : compile_left (Ok h) (tables v o f x w s) ≡ compiling l own_room) where
    answered : (compiling l own_room).answer ≡ compiled_head h
    answered = sym (ap (λ (y : CompileOutcome). y.answer) leaves)

    its_tables : lent h v o f x w ≡ given h (compiling l own_room)
    its_tables = ap (given h) leaves

    pub outputs_pass : refusal (lent h v o f x w) ≡ 0
    outputs_pass = ap refusal its_tables ∙ given_passes l own_room h answered

    pub lines_given : {m : ℕ} {out : List ℕ} → TextGives (lines (task_of (lent h v o f x w))) m out → TextGives (compiled_text (task_of l)) m out
    lines_given {m} {out} g =
        let task : task_of (lent h v o f x w) ≡ finished (task_of l) = ap task_of its_tables ∙ given_task l own_room h answered in
        subst (λ (text : List ℕ). TextGives text m out) (ap lines task ∙ sym (lines_told l kept answered)) g
