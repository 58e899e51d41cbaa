-- What compiling's entry for C leaves: the number and both outputs at exit, from the file's bytes and the outputs' lengths alone.
use Rattle.std.specs.Prelude.{ℕ, List}
use Rattle.file_format.specs.Reading.{Verdict, accepted, rejected, reading}
use Rattle.entry_tables.specs.Own.{own}
use Rattle.compiled_file.specs.Filed.{CompileEntry, no_file, compiled_file}

unfoldable pub compile_entry_by : Verdict → (out result : ℕ) → CompileEntry
compile_entry_by (accepted t) o r = compiled_file t o r
compile_entry_by (rejected k) o r = no_file k o r

unfoldable pub compile_entry : List ℕ → (out result : ℕ) → CompileEntry
compile_entry file o r = compile_entry_by (reading own file) o r
