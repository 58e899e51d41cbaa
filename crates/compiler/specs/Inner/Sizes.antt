-- How much of the lent tables is used, and how large a frame is tried.
use Rattle.std.specs.Prelude.{ℕ, ◌-◌, ◌/◌, ◌≤◌, ◌≡◌, min, Bool, true}
use Rattle.task.specs.declared.Head.{Head}
use Rattle.normal_form.specs.Compiled.{Room}
use Rattle.compile_parts.specs.declared.Counts.{Counts}
use Rattle.compiler.specs.declared.Lengths.{Lengths}

-- the lengths of the lent tables
abbrev pub room_by : Lengths → Room
room_by n =
    record {
      initial = n.values;
      twins = n.originals;
      formulas = n.table;
      effects = n.out;
      operators = n.written;
      scratch = n.scratch;
    }

-- a source's counts, with room for so many rows, twins and effect rows
abbrev pub counts_by : Head → (rows twins room : ℕ) → Counts
counts_by h rows twins room =
    record {
      frame = record { variables = h.variables; formulas = h.formulas; effects = h.effects; rows = rows; twins = twins };
      operators = h.operators;
      goal = h.goal;
      room = room;
    }

-- and with as much room as the limits and the lent tables allow
abbrev pub counts_in : Head → Lengths → Counts
counts_in h n =
    counts_by h (min (n.table / 3) 4096) (min (min n.originals (n.values - h.variables)) (512 - h.variables)) (min (n.out / 3) 4096)

-- the same counts, with room for so many rows
abbrev pub with_rows : Counts → ℕ → Counts
with_rows c rows =
    record {
      frame =
          record {
            variables = c.frame.variables;
            formulas = c.frame.formulas;
            effects = c.frame.effects;
            rows = rows;
            twins = c.frame.twins;
          };
      operators = c.operators;
      goal = c.goal;
      room = c.room;
    }

-- a source that a small frame is tried for: which ones is left open, since filling comes to the same either way (`Fills`); what the frame needs of it holds
pub record Small (c : Counts) (r : Bool) : Type 0 where
  pub few_effects : r ≡ true → c.frame.effects ≤ 512
  pub few_variables : r ≡ true → c.frame.variables ≤ 128
