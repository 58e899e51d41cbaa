-- What the code asks and gives, in the terms of specs/Filed.
use Rattle.std.specs.Prelude.{ℕ, ◌+◌, ◌*◌, ◌≤◌, ◌≡◌, length}
use Rattle.task.specs.Table.{Lent, task_of, operator_width}
use Rattle.task.specs.Check.{refusal}
use Rattle.normal_form.specs.Finished.{finished}
use Rattle.normal_form.specs.Compiled.{Room, compile_refusal}
use Rattle.compiled_file.specs.Filed.{CompileEntry, compiled_file_by}

-- what compiling through lent room comes to
unfoldable pub compile_through : Lent → Room → (o r : ℕ) → CompileEntry
compile_through l room o r = compiled_file_by (compile_refusal l room) (finished (task_of l)) o r

-- tables of these sizes to compile through
abbrev pub room_in : (words operators scratch : ℕ) → Room
room_in w o s = record { initial = 512; twins = 256; formulas = w; effects = w; operators = o; scratch = s }

-- sizes that a frame has room for
pub record Sizes (words operators scratch : ℕ) : Type 0 where
  pub rows : words ≤ 65536
  pub operator_rows : operators ≤ 65536
  pub notes : scratch ≤ 65536

-- small room, which is tried first for a source in small tables
unfoldable pub small_room : Room
small_room =
    record { initial = 512; twins = 256; formulas = 1536; effects = 1536; operators = operator_width * 128; scratch = 512 }

-- tables that pass, and are small
pub record SmallSource (l : Lent) : Type 0 where
  pub kept : refusal l ≡ 0
  pub few : length l.formulas + length l.effects ≤ 768
