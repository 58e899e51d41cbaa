-- The tables of each frame are long enough. Assumes nothing.
use Prim.Native.Nat.{ℕ, ◌+◌, ◌*◌, ◌/◌, ◌≤◌}
use native.Mathlib.Omega.{arith}
use native.Mathlib.Nat.{mul-le-mul}
use mathlib.Core.Path.{◌≡◌}
use mathlib.Core.Bool.{Bool, true}
use Rattle.std.specs.Prelude.{min}
use Rattle.task.specs.Table.{Lent}
use Rattle.formula_builder.specs.declared.Frame.{Frame}
use Rattle.atom_sets.specs.Inner.Sets.{sets_end, set_words}
use Rattle.compile_parts.specs.declared.Counts.{Counts}
use Rattle.compiler.specs.Tables.{Tables}
use Rattle.compiler.specs.Inner.Sizes.{with_rows, Small}
use Rattle.compiler.specs.Inner.Fills.{Counted, counted, lent_of, Begins, Enough}
use Rattle.compiler.proofs.Source.{few_effects}

-- so much room the sets take, with the words before them
sets_room :
    (frame : Frame) (s e : ℕ)
    → (frame.variables + 31) / 32 * 4 ≤ s
    → frame.effects ≤ e
    → sets_end frame ≤ s * e + 4 * e
unfolding sets_end set_words
sets_room frame s e h g =
    let x : (frame.variables + 31) / 32 * 4 * frame.effects ≤ s * e = mul-le-mul {n₂ = s} {m₂ = e} h g in
    omega (arith, x, g)

-- the large frame is enough for every source, the small one for a small source with few rows
pub large_enough : {g : Counted} {x : Tables} → Begins g x → Enough 37376 610304 g x
large_enough {g} b =
    record {
      begins = b;
      rows_limit = omega arith;
      notes_limit = omega arith;
      rows_fit = omega (arith, b.rows_limit, b.variables_limit);
      notes_fit =
          omega (arith, sets_room g.frame 64 4096 (omega (arith, b.variables_limit)) (few_effects (lent_of g) b.passes));
    }

few_rows : {c : Counts} (l : Lent) {x : Tables} → Begins (counted c l) x → Begins (counted (with_rows c (min c.frame.rows 512)) l) x
few_rows l b =
    record {
      passes = b.passes;
      blank = b.blank;
      memo = b.memo;
      rows_space = omega (arith, b.rows_space);
      rows_limit = omega arith;
      twins_space = b.twins_space;
      variables_limit = b.variables_limit;
      initial_space = b.initial_space;
      effects_space = b.effects_space;
      effects_limit = b.effects_limit;
      one_effect = b.one_effect;
      operators_space = b.operators_space;
    }

pub small_enough :
    {c : Counts} (l : Lent) {x : Tables} {m : Bool}
    → Small c m
    → m ≡ true
    → Begins (counted c l) x
    → Enough 4736 14336 (counted (with_rows c (min c.frame.rows 512)) l) x
small_enough {c} l s q b =
    record {
      begins = few_rows l b;
      rows_limit = omega arith;
      notes_limit = omega arith;
      rows_fit = omega (arith, s.few_variables q);
      notes_fit =
          let words = sets_room (with_rows c (min c.frame.rows 512)).frame 16 512 (omega (arith, s.few_variables q)) (s.few_effects q) in
          omega (arith, words);
    }
