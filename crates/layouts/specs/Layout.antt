-- The layouts that cross to C: all integers little-endian, a task as its file, operator numbers as 16 bits.
use Rattle.std.specs.Prelude.{ℕ, zero, suc, ◌+◌, ◌*◌, ◌/◌, ◌%◌, Bool, true, false, ◌&&◌, List, [], ◌∷◌, ◌++◌, length, get_or, replicate, leb, eqb, ◌≡◌}
use Rattle.task.specs.Bounded.{upto}
use Rattle.task.specs.Table.{Task}
use Rattle.task.specs.Check.{state_kept, sequence_kept, unless}
use Rattle.task.specs.Words.{joined, words_of, operator_words, head_of, padded}
use Rattle.task.specs.Run.{Run, Stop, ended, stopped, is_plan}
use Rattle.file_format.specs.Bytes.{word_bytes, head_fields}

-- the n low bytes of a number, the lowest first
unfoldable pub low_bytes : ℕ → ℕ → List ℕ
low_bytes zero x = []
low_bytes (suc n) x = x % 256 ∷ low_bytes n (x / 256)

-- a task's tables: six head words (V W F E O goal), V initial bytes, W originals, then the formula, effect and operator rows
unfoldable pub tables_bytes : Task → List ℕ
tables_bytes t =
    joined word_bytes (head_fields (head_of t))
    ++ (t.initial
    ++ (joined word_bytes t.originals
    ++ (joined word_bytes (words_of t.formulas)
    ++ (joined word_bytes (words_of t.effects) ++ joined word_bytes (operator_words t.operators)))))

-- the operator numbers of a sequence of bytes: two bytes each
unfoldable pub numbers_of : List ℕ → List ℕ
numbers_of bytes = upto (length bytes / 2) (λ i. get_or bytes (2 * i) 0 + 256 * get_or bytes (2 * i + 1) 0)

-- what refuses a run for C, over v variables, with r bytes for its result: 16, then 19 (also for half a number), then 20, all before the run
unfoldable pub run_number : (v : ℕ) → (state sequence : List ℕ) → (r : ℕ) → ℕ
run_number v state sequence r =
    unless (state_kept v state) 16
    (unless (eqb (length sequence % 2) 0 && sequence_kept (numbers_of sequence)) 19 (unless (leb 16 r) 20 0))

unfoldable pub flag : Bool → ℕ
flag false = 0
flag true = 1

-- the number of a stop, 0 without one
unfoldable pub stop_number : Stop → ℕ
stop_number ended = 0
stop_number (stopped number) = number

-- a run's result: steps in 4 bytes, cost in 8, whether the goal holds, whether it is a plan, the stop number in 2
unfoldable pub run_bytes : Run → List ℕ
run_bytes r =
    low_bytes 4 r.steps
    ++ (low_bytes 8 r.cost ++ (flag r.goal ∷ flag (is_plan r) ∷ low_bytes 2 (stop_number r.stop)))

-- Bytes laid into an output: the number, and the output at exit.
pub record Laid : Type 0 where
  pub number : ℕ
  pub bytes : List ℕ

abbrev pub zeros : ℕ → List ℕ
zeros n = replicate {A = ℕ} n 0

-- by the number: the bytes and 0 past them, or all 0
unfoldable pub laid_by : ℕ → List ℕ → ℕ → Laid
laid_by zero bytes n = record { number = 0; bytes = padded n bytes }
laid_by (suc k) bytes n = record { number = suc k; bytes = zeros n }

-- 20: the output of n bytes is too short
unfoldable pub laid : List ℕ → ℕ → Laid
laid bytes n = laid_by (unless (leb (length bytes) n) 20 0) bytes n

pub record Lays (w : Laid) (r : ℕ) (after : List ℕ) : Type 0 where
  pub told : r ≡ w.number
  pub held : after ≡ w.bytes
