-- Compiling's entry: one law for each way out. Assumes nothing.
use Prim.Native.Nat.{ℕ}
use mathlib.Core.Path.{◌≡◌, ap, ◌∙◌, subst}
use mathlib.Core.List.{List}
use Rattle.task.specs.Table.{Lent, task_of}
use Rattle.file_format.specs.Reading.{Lengths, Verdict, rejected, reading}
use Rattle.entry_tables.proofs.Reading.{ReadAs, same_reading}
use Rattle.compiled_file.specs.Filed.{no_file, compiled_file, CompileGives}
use Rattle.compile_entry.specs.Entry.{compile_entry_by, compile_entry}

-- the two ways out by the file
pub compile_read :
    {m : Lengths} {file : List ℕ} (o n : ℕ) {l : Lent} {r : ℕ} {out result : List ℕ}
    → ReadAs m file l
    → CompileGives (compiled_file (task_of l) o n) r out result
    → CompileGives (compile_entry_by (reading m file) o n) r out result
unfolding compile_entry_by
compile_read o n t g = rw t.read g

pub compile_no_file :
    (m : Lengths) (file : List ℕ) (o n k : ℕ) {r : ℕ} {out result : List ℕ}
    → reading m file ≡ rejected k
    → CompileGives (no_file k o n) r out result
    → CompileGives (compile_entry_by (reading m file) o n) r out result
unfolding compile_entry_by
compile_no_file m file o n k e none = rw e none

-- through tables of any lengths, any answer but 5 is the entry's
pub compile_settled :
    (m : Lengths) (file : List ℕ) (o n : ℕ) {r : ℕ} {out result : List ℕ}
    → (r ≡ 5 → ⊥)
    → CompileGives (compile_entry_by (reading m file) o n) r out result
    → CompileGives (compile_entry file o n) r out result
unfolding compile_entry compile_entry_by
compile_settled m file o n {r} {out} {result} d g =
    subst (λ (x : Verdict). CompileGives (compile_entry_by x o n) r out result)
    (same_reading m file (λ e. d (g.told ∙ ap (λ (x : Verdict). (compile_entry_by x o n).number) e)))
    g
