-- The smallest file (01, "The task file"): goal true, hexadecimal 04 01 00 10. Assumes nothing.
use mathlib.Core.Path.{◌≡◌, refl}
use mathlib.Core.List.{[], ◌∷◌}
use Rattle.task.specs.Bounded.{upto}
use Rattle.task.specs.Table.{Task}
use Rattle.task.specs.Words.{joined, head_of}
use Rattle.file_format.specs.Bytes.{file_of, head_bytes, head_fields, map_of, number, present, fields_bytes, field_bytes, word_bytes, row_bytes, packed, bytes_for}

abbrev pub smallest : Task
smallest =
    record {
      initial = [];
      originals = [];
      formulas = record { kind = 1; a = 0; b = 0 } ∷ [];
      effects = [];
      operators = [];
      goal = 0;
    }

pub smallest_file : file_of smallest ≡ 0x04 ∷ 0x01 ∷ 0x00 ∷ 0x10 ∷ []
unfolding file_of head_bytes head_fields map_of number present fields_bytes field_bytes word_bytes row_bytes packed bytes_for head_of joined upto
smallest_file = refl
