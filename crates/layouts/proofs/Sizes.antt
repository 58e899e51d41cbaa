-- How long the layouts are. Assumes nothing.
use Prim.Native.Nat.{ℕ, ◌+◌, ◌*◌}
use native.Mathlib.Omega.{arith}
use mathlib.Core.Path.{◌≡◌, refl}
use mathlib.Core.List.{List, [], ◌∷◌, ◌++◌}
use lib.ListN.{length, length-append}
use Rattle.task.specs.Table.{Task, operator_width}
use Rattle.task.specs.Run.{Run}
use Rattle.task.specs.Words.{joined, words_of, operator_words, head_of}
use Rattle.task.proofs.Words.{length_words, length_operator_words}
use Rattle.file_format.specs.Bytes.{word_bytes, head_fields}
use Rattle.layouts.specs.Layout.{low_bytes, tables_bytes, run_bytes}

pub length_word_bytes : (words : List ℕ) → length (joined word_bytes words) ≡ 2 * length words
unfolding joined word_bytes
length_word_bytes [] = refl
length_word_bytes (w ∷ words) = omega (arith, length_word_bytes words)

pub length_tables_bytes :
    (t : Task)
    → length (tables_bytes t)
    ≡ 12
    + length t.initial
    + 2 * length t.originals
    + 6 * length t.formulas
    + 6 * length t.effects
    + 2 * (operator_width * length t.operators)
unfolding tables_bytes head_fields
length_tables_bytes t =
    let h = joined word_bytes (head_fields (head_of t)) in
    let w = joined word_bytes t.originals in
    let f = joined word_bytes (words_of t.formulas) in
    let e = joined word_bytes (words_of t.effects) in
    let o = joined word_bytes (operator_words t.operators) in
    omega (
      arith,
      length-append h (t.initial ++ (w ++ (f ++ (e ++ o)))),
      length-append t.initial (w ++ (f ++ (e ++ o))),
      length-append w (f ++ (e ++ o)),
      length-append f (e ++ o),
      length-append e o,
      length_word_bytes (head_fields (head_of t)),
      length_word_bytes t.originals,
      length_word_bytes (words_of t.formulas),
      length_word_bytes (words_of t.effects),
      length_word_bytes (operator_words t.operators),
      length_words t.formulas,
      length_words t.effects,
      length_operator_words t.operators,
    )

pub length_run_bytes : (r : Run) → length (run_bytes r) ≡ 16
unfolding run_bytes low_bytes
length_run_bytes r = refl
