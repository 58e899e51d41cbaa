-- Tables and scratch of one's own, as long as the limits ask for, and compiling's number with them.
use Rattle.std.specs.Prelude.{ℕ, ◌*◌, length, eqb}
use Rattle.task.specs.Table.{Task, operator_width}
use Rattle.task.specs.Check.{counts_kept, unless}
use Rattle.task.specs.Words.{head_of}
use Rattle.file_format.specs.Reading.{Lengths}
use Rattle.normal_form.specs.Finished.{finished}
use Rattle.normal_form.specs.Compiled.{Room}

-- tables with room for every task: 5 is never given
unfoldable pub own : Lengths
own = record { initial = 512; twins = 256; formulas = 12288; effects = 12288; operators = operator_width * 256 }

-- small tables, which are tried first on a short file
unfoldable pub small : Lengths
small = record { initial = 512; twins = 64; formulas = 384; effects = 384; operators = operator_width * 128 }

-- room for every compiled task, and for scratch
unfoldable pub own_room : Room
own_room =
    record { initial = 512; twins = 256; formulas = 12288; effects = 12288; operators = operator_width * 256; scratch = 16384 }

-- 13, then 15, of a task that was read. With room of its own 14 is never given, and 15 is about the limits alone.
unfoldable pub compile_number : Task → ℕ
compile_number t = unless (eqb (length t.originals) 0) 13 (unless (counts_kept (head_of (finished t))) 15 0)
