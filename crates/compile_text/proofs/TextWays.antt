-- The text of an input: the ways out of reading, and that what is cut off changes nothing. Assumes nothing.
use Prim.Native.Nat.{ℕ, ◌≤◌}
use mathlib.Core.Path.{◌≡◌, sym, ap, subst}
use mathlib.Core.List.{List}
use lib.ListN.{take}
use Rattle.task.specs.declared.refusal.Refusal.{Refusal}
use Rattle.task.specs.Refused.{number_of}
use Rattle.task.specs.Table.{Lent, task_of}
use Rattle.file_format.specs.Reading.{rejected, reading}
use Rattle.printing.specs.Lines.{refusal_line}
use Rattle.entry_tables.specs.Own.{own}
use Rattle.entry_tables.proofs.Reading.{ReadAs}
use Rattle.compile_text.specs.Text.{compiled_text, text_by, text_of, TextGives}
use Rattle.compile_text.proofs.Cut.{cut_input}

-- the two answers of reading, through tables with room for every task
pub text_refused :
    (file : List ℕ) (e : Refusal) {m : ℕ} {out : List ℕ}
    → reading own file ≡ rejected (number_of e)
    → TextGives (refusal_line (number_of e)) m out
    → TextGives (text_of file) m out
unfolding text_of text_by
text_refused file e {m} {out} q g = subst (λ (text : List ℕ). TextGives text m out) (sym (ap text_by q)) g

pub text_read : {file : List ℕ} {l : Lent} {m : ℕ} {out : List ℕ} → ReadAs own file l → TextGives (compiled_text (task_of l)) m out → TextGives (text_of file) m out
unfolding text_of text_by
text_read {file} {l} {m} {out} t g = subst (λ (text : List ℕ). TextGives text m out) (sym (ap text_by t.read)) g

-- a program that reads 43,854 bytes or more of its input prints the text of the whole
pub cut_text : (input : List ℕ) (n : ℕ) → 43854 ≤ n → text_of (take n input) ≡ text_of input
unfolding text_of
cut_text input n h = ap text_by (cut_input own input n h)
