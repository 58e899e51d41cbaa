-- The numbers that are known before anything is built. Assumes nothing.
use Prim.Native.Nat.{ℕ, zero, suc, ◌+◌, ◌*◌, ◌≤◌, ◌<◌}
use native.Mathlib.Omega.{arith}
use mathlib.Core.Path.{◌≡◌, refl, sym}
use mathlib.Core.Logic.{◌⊎◌, inl, inr}
use lib.ListN.{length}
use Rattle.task.specs.Table.{Lent, Task, task_of, operator_width}
use Rattle.task.specs.Check.{refusal}
use Rattle.task.proofs.Held.{length_operators}
use Rattle.normal_form.specs.Assembly.{unassembled}
use Rattle.normal_form.specs.Finished.{built, assembled, finished}
use Rattle.normal_form.specs.Compiled.{Room, Fits, nothing_given, compiling}
use Rattle.normal_form.proofs.Growth.{longer}
use Rattle.normal_form.proofs.Compiled.{by_tables, by_twins, by_scratch, by_room}
use Rattle.normal_form.proofs.ShapeAssembled.{assemble_effects}
use Rattle.normal_form.proofs.ShapeFinished.{finished_operators}
use Rattle.normal_form.proofs.ShapePassed.{finished_variables}
use Rattle.compiler.specs.Inner.Numbers.{Numbered}
use Rattle.compiler.proofs.Source.{its_variables}

module _ (l : Lent) (room : Room) where
  refused : (n : ℕ) → compiling l room ≡ nothing_given (suc n) room → Numbered l room (suc n)
  refused n e = record { refuses = λ _. e; passed = λ z. absurd (omega (arith, z)) }

  pub by_the_check : (n : ℕ) → n ≡ refusal l → (n ≡ 0 → ⊥) → Numbered l room n
  by_the_check zero e d = absurd (d refl)
  by_the_check (suc n) e d = refused n (by_tables l room n (sym e))

  module _ (passes : refusal l ≡ 0) where
    pub some_twins : (l.head.twins ≡ 0 → ⊥) → Numbered l room 13
    some_twins d = refused 12 (by_twins l room passes d)

    module _ (none : l.head.twins ≡ 0) where
      pub short-scratch : room.scratch < 2 * l.head.formulas + 2 * l.head.effects → Numbered l room 14
      short-scratch h = refused 13 (by_scratch l room passes none h)

      module _ (memo : 2 * l.head.formulas + 2 * l.head.effects ≤ room.scratch) where
        abbrev t : Task
        t = task_of l

        no_room : (Fits (finished (task_of l)) room → ⊥) → Numbered l room 15
        no_room n = refused 14 (by_room l room passes none memo n)

        short-initial : room.initial < l.head.variables → Numbered l room 15
        short-initial h = no_room (λ fit. omega (arith, fit.tables.initial, finished_variables t, its_variables l passes))

        short-operators : room.operators < operator_width * l.head.operators → Numbered l room 15
        short-operators h = no_room (λ fit. omega (arith, fit.tables.operators, finished_operators t, length_operators l))

        one_effect : 1 ≤ length (finished (task_of l)).effects
        unfolding finished assembled unassembled
        one_effect =
            longer unassembled.effects (assembled t).effects
            (assemble_effects (length t.initial) (built t).st.twins unassembled (built t).value.operators)

        short-effects : room.effects < 3 → Numbered l room 15
        short-effects h = no_room (λ fit. omega (arith, fit.tables.effects, one_effect))

        -- a table is too short for what every finished task has
        pub no_room_for :
            (room.initial < l.head.variables) ⊎ ((room.operators < operator_width * l.head.operators) ⊎ (room.effects < 3))
            → Numbered l room 15
        no_room_for (inl h) = short-initial h
        no_room_for (inr (inl h)) = short-operators h
        no_room_for (inr (inr h)) = short-effects h

        pub no_number :
            l.head.variables ≤ room.initial
            → operator_width * l.head.operators ≤ room.operators
            → 3 ≤ room.effects
            → Numbered l room 0
        no_number i o e =
            record {
              refuses = λ d. absurd (d refl);
              passed = λ _.
                  record { passes = passes; untwinned = none; memo = memo; initial = i; operators = o; effects = e };
            }
