-- What the code of running's entry asks and gives, in the terms of specs/Entry.
use Rattle.std.specs.Prelude.{ℕ, ◌+◌, ◌/◌, ◌≤◌, ◌≡◌, Bool, ◌&&◌, Result, Ok, Err, IfOk, MatchResult, List, length, replicate, leb}
use Rattle.task.specs.declared.Head.{Head}
use Rattle.task.specs.declared.refusal.Refusal.{Refusal}
use Rattle.task.specs.Refused.{number_of}
use Rattle.task.specs.Table.{Lent}
use Rattle.task.specs.Check.{refusal}
use Rattle.layouts.specs.Layout.{run_number}
use Rattle.run_entry.specs.Entry.{RunEntry}

-- a run that nothing refuses
pub record FreeRun (l : Lent) (state sequence : List ℕ) (r : ℕ) : Type 0 where
  pub kept : refusal l ≡ 0
  pub free : run_number l.head.variables state sequence r ≡ 0

-- .. with room for its numbers and for scratch
pub record RunIn (l : Lent) (state sequence : List ℕ) (numbers scratch r : ℕ) : Type 0 where
  pub run : FreeRun l state sequence r
  pub words : length sequence / 2 ≤ numbers
  pub bytes : l.head.formulas + l.head.effects ≤ scratch
  pub words_limit : numbers ≤ 65535
  pub bytes_limit : scratch ≤ 8192

-- at most 256 numbers, in so many bytes, on few rows
unfoldable pub small_run : Head → ℕ → Bool
small_run h bytes = leb bytes 512 && leb (h.formulas + h.effects) 256

-- the number that an answer comes to: of a run's stop, or of what refuses it
abbrev pub answered : Result ℕ Refusal → ℕ
answered (Ok stop) = stop
answered (Err e) = number_of e

-- what a run leaves before a refusal clears the result
pub record RunTold (w : RunEntry) (r : Result ℕ Refusal) (after result : List ℕ) : Type 0 where
  pub told : answered r ≡ w.number
  pub left : after ≡ w.state
  pub stops : IfOk r (λ stop. stop ≡ 5 → ⊥)
  pub held : MatchResult r (λ stop. result ≡ w.result) (λ e. w.result ≡ replicate (length result) 0)
