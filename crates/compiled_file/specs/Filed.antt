-- What a compiling for C leaves, once a task is read: the number and both outputs at exit, from the task and the outputs' lengths alone.
use Rattle.std.specs.Prelude.{ℕ, zero, suc, ◌&&◌, List, length, leb, ◌≡◌}
use Rattle.task.specs.Table.{Task}
use Rattle.task.specs.Check.{unless}
use Rattle.file_format.specs.Bytes.{file_of}
use Rattle.normal_form.specs.Finished.{finished}
use Rattle.task.specs.Words.{padded}
use Rattle.entry_tables.specs.Own.{compile_number}
use Rattle.layouts.specs.Layout.{low_bytes, zeros}

pub record CompileEntry : Type 0 where
  pub number : ℕ
  pub out : List ℕ
  pub result : List ℕ

-- a refusal: both outputs all 0
abbrev pub no_file : (number out result : ℕ) → CompileEntry
no_file k o r = record { number = k; out = zeros o; result = zeros r }

-- by the number: a file and its length, or all 0
unfoldable pub filed_by : ℕ → List ℕ → (out result : ℕ) → CompileEntry
filed_by zero file o r = record { number = 0; out = padded o file; result = padded r (low_bytes 4 (length file)) }
filed_by (suc k) file o r = no_file (suc k) o r

-- 20: one of the outputs is too short
unfoldable pub filed : List ℕ → (out result : ℕ) → CompileEntry
filed file o r = filed_by (unless (leb (length file) o && leb 4 r) 20 0) file o r

-- by compiling's number: the finished task's file, or all 0
unfoldable pub compiled_file_by : ℕ → Task → (out result : ℕ) → CompileEntry
compiled_file_by zero t o r = filed (file_of t) o r
compiled_file_by (suc k) t o r = no_file (suc k) o r

-- of a source: 13, 15, then 20
unfoldable pub compiled_file : Task → (out result : ℕ) → CompileEntry
compiled_file t o r = compiled_file_by (compile_number t) (finished t) o r

pub record CompileGives (w : CompileEntry) (r : ℕ) (out result : List ℕ) : Type 0 where
  pub told : r ≡ w.number
  pub written : out ≡ w.out
  pub held : result ≡ w.result
