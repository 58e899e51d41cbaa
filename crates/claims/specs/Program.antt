-- What the program prints, and of which inputs.
use Rattle.std.specs.Prelude.{ℕ, ◌≡◌, List}
use Rattle.task.specs.Table.{Task}
use Rattle.file_format.specs.Bytes.{file_of}
use Rattle.normal_form.specs.Finished.{finished}
use Rattle.printing.specs.Lines.{lines, refusal_line}
use Rattle.claims.specs.Statements.{Compiles}

-- The input is the file of a task that compiles, and the text its compiled task's lines.
pub record PrintsCompiled (input text : List ℕ) : Type 0 where
  pub task : Task
  pub compiles : Compiles task
  pub file : input ≡ file_of task
  pub printed : text ≡ lines (finished task)

-- That, or the text is only r and a number.
pub data Prints (input text : List ℕ) : Type 0 where
  prints_task : PrintsCompiled input text → Prints input text
  prints_refusal : (n : ℕ) → (n ≡ 0 → ⊥) → text ≡ refusal_line n → Prints input text
