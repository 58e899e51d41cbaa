-- What running's entry for C leaves: the number, the state and the result at exit, from the bytes that come in and the result's length alone.
use Rattle.std.specs.Prelude.{ℕ, zero, suc, List, length, ◌≡◌}
use Rattle.task.specs.Table.{Task}
use Rattle.task.specs.Run.{plain_run}
use Rattle.file_format.specs.Reading.{Verdict, accepted, rejected, reading}
use Rattle.task.specs.Words.{padded}
use Rattle.entry_tables.specs.Own.{own}
use Rattle.layouts.specs.Layout.{numbers_of, run_number, stop_number, run_bytes, zeros}

pub record RunEntry : Type 0 where
  pub number : ℕ
  pub state : List ℕ
  pub result : List ℕ

-- a run that is not refused gives its stop's number, 17 or 18, or 0; its state and result are the plain run's
unfoldable pub run_given : ℕ → Task → (state sequence : List ℕ) → ℕ → RunEntry
run_given zero t state sequence r =
    let run = plain_run t state (numbers_of sequence) in
    record { number = stop_number run.stop; state = run.state; result = padded r (run_bytes run) }
run_given (suc k) t state sequence r = record { number = suc k; state = state; result = zeros r }

unfoldable pub run_entry_by : Verdict → (state sequence : List ℕ) → ℕ → RunEntry
run_entry_by (accepted t) state sequence r = run_given (run_number (length t.initial) state sequence r) t state sequence r
run_entry_by (rejected k) state sequence r = record { number = k; state = state; result = zeros r }

unfoldable pub run_entry : (file state sequence : List ℕ) → ℕ → RunEntry
run_entry file state sequence r = run_entry_by (reading own file) state sequence r

pub record RunEntryGives (w : RunEntry) (r : ℕ) (after result : List ℕ) : Type 0 where
  pub told : r ≡ w.number
  pub left : after ≡ w.state
  pub held : result ≡ w.result
