-- Compiling into room of one's own: with scratch enough, room matters for 15 alone, and one's own for the limits alone. Assumes nothing.
use Prim.Native.Nat.{ℕ, zero, suc, ◌+◌, ◌*◌}
use native.Mathlib.Omega.{arith}
use mathlib.Core.Path.{◌≡◌, refl, ◌∙◌}
use mathlib.Core.Bool.{Bool, true, false}
use lib.Dec.{eqb}
use borrow.Author.Tests.{le-leb}
use Rattle.task.specs.Table.{Lent, Task, task_of}
use Rattle.task.specs.Check.{counts_kept, refusal, room as has_room}
use Rattle.task.specs.Words.{head_of}
use Rattle.task.proofs.Bounded.{and_left}
use Rattle.task.proofs.Held.{length_originals}
use Rattle.task.proofs.Kept.{kept_rules}
use Rattle.task.proofs.Passed.{passed, counts_tested}
use Rattle.normal_form.specs.Finished.{finished}
use Rattle.normal_form.specs.Compiled.{Room, compile_scratch_kept, output_lengths, fits, compile_refusal, compiled_head, not_compiled, nothing_given, task_given, outcome_by, compiling}
use Rattle.entry_tables.specs.Own.{own, own_room, compile_number}
use Rattle.entry_tables.specs.Inner.Answers.{refused_compile}
use Rattle.entry_tables.proofs.Reading.{limits_room}

-- a task fits one's own room if it keeps the limits
limits_alone : (t : Task) → fits t own_room ≡ counts_kept (head_of t)
unfolding fits own_room has_room own
limits_alone t = go (counts_kept (head_of t)) refl
  where
    go : (b : Bool) → counts_kept (head_of t) ≡ b → fits t own_room ≡ counts_kept (head_of t)
    go false e = rw e
    go true e = rw e (limits_room (head_of t) e)

module _ (l : Lent) (kept : refusal l ≡ 0) where
  -- 14 never: scratch is as long as the limits ask for
  own_scratch : compile_scratch_kept l.head own_room ≡ true
  unfolding compile_scratch_kept own_room
  own_scratch =
      let c = (counts_tested l.head).0 (passed l kept).counts in
      le-leb (2 * l.head.formulas + 2 * l.head.effects) 16384 (omega (arith, c.formulas, c.effects))

  pub own_number : compile_refusal l own_room ≡ compile_number (task_of l)
  unfolding compile_refusal compile_number
  own_number =
      rw (kept, length_originals l (kept_rules l kept).0, own_scratch, limits_alone (finished (task_of l)))

  -- any other room that has scratch enough comes to 15 or to the same: what fits it keeps the limits
  pub same_refusal : (room : Room) → compile_scratch_kept l.head room ≡ true → (compile_refusal l room ≡ 15 → ⊥) → compile_refusal l room ≡ compile_number (task_of l)
  unfolding compile_refusal
  same_refusal room enough d = go (eqb l.head.twins 0) (fits source room) refl refl ∙ own_number
    where
      source : Task
      source = finished (task_of l)

      go : (a b : Bool) → eqb l.head.twins 0 ≡ a → fits source room ≡ b → compile_refusal l room ≡ compile_refusal l own_room
      go false b x y = rw (kept, x)
      go true false x y = absurd (d (rw (kept, x, enough, y)))
      go true true x y =
          let limits : counts_kept (head_of source) ≡ true =
          unfold fits in and_left (counts_kept (head_of source)) (has_room (output_lengths room) (head_of source)) y
          in
          rw (kept, x, enough, y, own_scratch, limits_alone source, limits)

-- the number in compiling's answer is the refusal's
module _ (l : Lent) (room : Room) where
  pub number_told : compile_refusal l room ≡ refused_compile (compiling l room).answer
  unfolding compiling
  number_told = go (compile_refusal l room)
    where
      go : (n : ℕ) → n ≡ refused_compile (outcome_by n (finished (task_of l)) room).answer
      go zero = unfold outcome_by task_given in refl
      go (suc n) = unfold outcome_by nothing_given in refl

  pub not_zero : (compiling l room).answer ≡ not_compiled 0 → ⊥
  unfolding compiling
  not_zero = go (compile_refusal l room)
    where
      go : (n : ℕ) → (outcome_by n (finished (task_of l)) room).answer ≡ not_compiled 0 → ⊥
      go zero e =
          let g : compiled_head (head_of (finished (task_of l))) ≡ not_compiled 0 = unfold outcome_by task_given in e in
          let z : ◌≡◌ {A = ℕ} 0 1 = cc in
          omega arith
      go (suc n) e =
          let g : not_compiled (suc n) ≡ not_compiled 0 = unfold outcome_by nothing_given in e in
          let z : suc n ≡ 0 = cc in
          omega (arith, z)
