-- What reading's entry for C leaves: the number and the buffer at exit, from the file's bytes and the buffer's length alone.
use Rattle.std.specs.Prelude.{ℕ, List}
use Rattle.file_format.specs.Reading.{Verdict, accepted, rejected, reading}
use Rattle.entry_tables.specs.Own.{own}
use Rattle.layouts.specs.Layout.{tables_bytes, Laid, zeros, laid}

-- 20: the buffer is shorter than the layout
unfoldable pub read_entry_by : Verdict → ℕ → Laid
read_entry_by (accepted t) n = laid (tables_bytes t) n
read_entry_by (rejected k) n = record { number = k; bytes = zeros n }

unfoldable pub read_entry : List ℕ → ℕ → Laid
read_entry file n = read_entry_by (reading own file) n
