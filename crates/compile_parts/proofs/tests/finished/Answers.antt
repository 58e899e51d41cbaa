-- What `finish` asks holds of the small task. Assumes nothing.
use Prim.Native.Nat.{ℕ}
use native.Mathlib.Omega.{arith}
use mathlib.Core.Path.{refl, ap, ◌∙◌}
use mathlib.Core.List.{List}
use Rattle.task.specs.Inner.Stored.{three}
use Rattle.compile_parts.proofs.SmallTask.{first, bits, room, in_order}
use Rattle.compile_parts.proofs.tests.finished.Goals as goal

pub finish-left-requires : goal.finish-left-requires
finish-left-requires c =
    let made = c.store-2.ensures ∙ ap (λ (t : List ℕ). three t 256 0 1 2) c.store.ensures in
    record {
      assembles =
          record {
            words = omega arith;
            limit = omega arith;
            room = room c.store-2.new.table made;
            in_order = in_order c.store-2.new.table made;
            variables = omega arith;
            one = c.requires.0;
            rows_limit = omega (arith, c.requires.1);
            space = omega (arith, c.requires.1);
            operator_space = omega arith;
            blank = refl;
            blank_operators = refl;
          };
      twinned = record { twins = omega arith; below = first _ (omega arith) };
      initial_ready =
          record {
            values = omega arith;
            twins = omega arith;
            space = omega arith;
            below = first _ (omega arith);
            bits = bits;
          };
      limit = omega arith;
      there = omega arith;
      space = omega arith;
      twins_space = omega arith;
    }
