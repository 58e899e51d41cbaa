-- What the program prints, from the bytes of its input alone: the compiled task's lines t, i, w, f, e, o, or only r and the number (01, end of
-- "Sheets to try").
use Rattle.std.specs.Prelude.{ℕ, zero, suc, ◌≤◌, List, ◌≡◌, length, take}
use Rattle.task.specs.Table.{Task}
use Rattle.file_format.specs.Reading.{Verdict, accepted, rejected, reading}
use Rattle.normal_form.specs.Finished.{finished}
use Rattle.printing.specs.Lines.{lines, refusal_line}
use Rattle.entry_tables.specs.Own.{own, compile_number}
use Rattle.task.specs.Words.{padded}

-- by compiling's number: the finished task's lines, or the number's
unfoldable pub compiled_text_by : ℕ → Task → List ℕ
compiled_text_by zero t = lines (finished t)
compiled_text_by (suc n) t = refusal_line (suc n)

unfoldable pub compiled_text : Task → List ℕ
compiled_text t = compiled_text_by (compile_number t) t

unfoldable pub text_by : Verdict → List ℕ
text_by (accepted t) = compiled_text t
text_by (rejected n) = refusal_line n

-- THE text of an input. The tables and the scratch are the program's own, with room for every task: neither 5 nor 14 is given.
unfoldable pub text_of : List ℕ → List ℕ
text_of file = text_by (reading own file)

-- room for every text: printing's Suffices
abbrev pub most : ℕ
most = 165408

-- A text was given: its length, and the buffer at exit, 0 past the text. That it is the front of the buffer follows, and is told for a
-- caller who passes that part on.
pub record TextGives (text : List ℕ) (r : ℕ) (out : List ℕ) : Type 0 where
  pub counted : r ≡ length text
  pub held : out ≡ padded most text
  pub fits : r ≤ length out
  pub front : r ≡ length (take r out)
