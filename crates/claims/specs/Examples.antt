-- The worked examples: every entry that 01 marks P in "Sheets to try", as one table of what is asked and what is told.
-- proofs/Examples.antt has the one theorem that computes the table.
use Rattle.std.specs.Prelude.{ℕ, true, List, [], ◌∷◌, replicate}
use Rattle.task.specs.Table.{Row, Operator, Lent, Task, task_of, operator}
use Rattle.task.specs.Check.{refusal}
use Rattle.task.specs.Words.{lent_of}
use Rattle.printing.specs.Lines.{bytes}
use Rattle.plan.specs.Outcome.{RunOutcome, Ended, ran}
use Rattle.normal_form.specs.Compiled.{Room, Answer, compiled_head, not_compiled, CompileOutcome, compiling, given}
use Rattle.compile_text.specs.Text.{text_of}

-- What is asked: the check of tables; a run on tables, from a state; the compiling of tables into what is lent; the compiling
-- program, given a file.
pub data Asked : Type 0 where
  check : Lent → Asked
  run : Lent → (state numbers scratch : List ℕ) → Asked
  compile : Lent → Room → Asked
  program : (file : List ℕ) → Asked

-- What is told: a number; the outcome of a run and the state that it left; the compiled task; a text.
pub data Told : Type 0 where
  told_number : ℕ → Told
  answers : RunOutcome → (state : List ℕ) → Told
  compiled_task : Task → Told
  printed : List ℕ → Told

-- what a compiling told: the task in the tables that it gave, or its number
abbrev pub gave : Answer → CompileOutcome → Told
gave (compiled_head h) o = compiled_task (task_of (given h o))
gave (not_compiled n) o = told_number n

-- by the definitions that the calls are held to
unfoldable pub outcome : Asked → Told
outcome (check l) = told_number (refusal l)
outcome (run l s numbers scratch) =
    let r = ran l s numbers scratch in
    answers r.answer r.state
outcome (compile l enough_room) =
    let o = compiling l enough_room in
    gave o.answer o
outcome (program file) = printed (text_of file)

pub record Example : Type 0 where
  pub asked : Asked
  pub told : Told

-- a row: kind, a, b
abbrev pub a_row : (kind a b : ℕ) → Row
a_row k a b = record { kind = k; a = a; b = b }

-- tables without twins: initial values, formulas, effects, operators, goal
abbrev pub task_tables : List ℕ → (formulas effects : List Row) → List Operator → (goal : ℕ) → Lent
task_tables i f e o g =
    lent_of (record { initial = i; originals = []; formulas = f; effects = e; operators = o; goal = g })

-- n variables and the goal true
abbrev pub variables : ℕ → Lent
variables n = task_tables (replicate n 0) (a_row 1 0 0 ∷ []) [] [] 0

-- formulas v0; true; and the goal with this number
abbrev pub with_goal : ℕ → Lent
with_goal g = task_tables (0 ∷ []) (a_row 2 0 0 ∷ a_row 1 0 0 ∷ []) [] [] g

-- three variables, and in row 3 "not a"
abbrev pub not_in_row_three : ℕ → Lent
not_in_row_three a = task_tables (0 ∷ 0 ∷ 0 ∷ []) (a_row 2 0 0 ∷ a_row 2 1 0 ∷ a_row 2 2 0 ∷ a_row 3 a 0 ∷ []) [] [] 3

-- set and clear v0 together: effects set v0; clear v0; both
abbrev pub set_and_clear : Lent
set_and_clear =
    task_tables (0 ∷ []) (a_row 1 0 0 ∷ []) (a_row 1 0 0 ∷ a_row 2 0 0 ∷ a_row 3 0 1 ∷ []) (operator 0 2 0 100 ∷ []) 0

-- v0 sets v1, v1 always cleared: formulas v0; true. Effects set v1; 0 under v0; clear v1; both 1 and 2
abbrev pub set_overrules : Lent
set_overrules =
    task_tables (0 ∷ 0 ∷ []) (a_row 2 0 0 ∷ a_row 1 0 0 ∷ [])
    (a_row 1 1 0 ∷ a_row 4 0 0 ∷ a_row 2 1 0 ∷ a_row 3 1 2 ∷ [])
    (operator 1 3 5 100 ∷ [])
    0

-- set v0 under not v0, clear v0 under v0: formulas v0; not 0; true. Effects set v0; 0 under 1; clear v0; 2 under 0; both 1 and 3
abbrev pub flip : Lent
flip =
    task_tables (0 ∷ []) (a_row 2 0 0 ∷ a_row 3 0 0 ∷ a_row 1 0 0 ∷ [])
    (a_row 1 0 0 ∷ a_row 4 1 0 ∷ a_row 2 0 0 ∷ a_row 4 0 2 ∷ a_row 3 1 3 ∷ [])
    (operator 2 4 0 100 ∷ [])
    2

-- a formula over an empty effect: formulas v0; not 0; true. Effects empty; 0 under 1
abbrev pub over_empty : Lent
over_empty =
    task_tables (0 ∷ []) (a_row 2 0 0 ∷ a_row 3 0 0 ∷ a_row 1 0 0 ∷ []) (a_row 0 0 0 ∷ a_row 4 1 0 ∷ []) (operator 2 1 0 100 ∷ []) 2

-- one variable, formula true, effect set v0, and these operators (02, K2)
abbrev pub with_operators : List Operator → Lent
with_operators operators = task_tables (0 ∷ []) (a_row 1 0 0 ∷ []) (a_row 1 0 0 ∷ []) operators 0

-- the whole example: formulas v0; v1; not 0; not 1; 0 and 3. Effects set v0; clear v1; 1 under 1; both 0 and 2. Operator (2, 3, cost 3, percent 100). Goal 4
abbrev pub whole : Lent
whole =
    task_tables (0 ∷ 1 ∷ []) (a_row 2 0 0 ∷ a_row 2 1 0 ∷ a_row 3 0 0 ∷ a_row 3 1 0 ∷ a_row 4 0 3 ∷ [])
    (a_row 1 0 0 ∷ a_row 2 1 0 ∷ a_row 4 1 1 ∷ a_row 3 0 2 ∷ [])
    (operator 2 3 3 100 ∷ [])
    4

-- its file
abbrev pub whole_file : List ℕ
whole_file =
    -- the head's map, V, F, E, O, goal; the initial state
    0x3d ∷ 0x02 ∷ 0x00 ∷ 0x05 ∷ 0x00 ∷ 0x04 ∷ 0x00 ∷ 0x01 ∷ 0x00 ∷ 0x04 ∷ 0x00 ∷ 0x02
    -- formulas
    ∷ 0x20 ∷ 0x21 ∷ 0x01 ∷ 0x00 ∷ 0x30 ∷ 0x31 ∷ 0x01 ∷ 0x00 ∷ 0x42 ∷ 0x03 ∷ 0x00
    -- effects
    ∷ 0x10 ∷ 0x21 ∷ 0x01 ∷ 0x00 ∷ 0x43 ∷ 0x01 ∷ 0x00 ∷ 0x01 ∷ 0x00 ∷ 0x32 ∷ 0x02 ∷ 0x00
    -- the operator
    ∷ 0x07 ∷ 0x02 ∷ 0x00 ∷ 0x03 ∷ 0x00 ∷ 0x03 ∷ 0x00 ∷ []

-- its compiled task, with the rows that 01 prints
abbrev pub whole_compiled : Task
whole_compiled =
    record {
      initial = 0 ∷ 1 ∷ 1 ∷ 0 ∷ [];
      originals = 0 ∷ 1 ∷ [];
      formulas =
          a_row 0 0 0
          ∷ a_row 1 0 0
          ∷ a_row 2 2 0
          ∷ a_row 2 1 0
          ∷ a_row 2 0 0
          ∷ a_row 2 3 0
          ∷ a_row 4 4 5
          ∷ [];
      effects =
          a_row 0 0 0
          ∷ a_row 1 0 0
          ∷ a_row 4 1 1
          ∷ a_row 2 2 0
          ∷ a_row 4 1 3
          ∷ a_row 3 2 4
          ∷ a_row 2 1 0
          ∷ a_row 4 3 6
          ∷ a_row 3 5 7
          ∷ a_row 1 3 0
          ∷ a_row 4 3 9
          ∷ a_row 3 8 10
          ∷ [];
      operators = operator 2 11 3 100 ∷ [];
      goal = 6;
    }

-- room that the whole example's compiled task just fills
abbrev pub enough_room : Room
enough_room = record { initial = 4; twins = 2; formulas = 21; effects = 36; operators = 4; scratch = 18 }

abbrev pub table : List Example
table =
    -- F 0 gives 6
    record { asked = check (task_tables [] [] [] [] 0); told = told_number 6 }
    -- goal F gives 7, goal F − 1 passes
    ∷ record { asked = check (with_goal 2); told = told_number 7 }
    ∷ record { asked = check (with_goal 1); told = told_number 0 }
    -- V 512 passes, 513 gives 6
    ∷ record { asked = check (variables 512); told = told_number 0 }
    ∷ record { asked = check (variables 513); told = told_number 6 }
    -- row 3 "not 3" gives 10, "not 2" passes
    ∷ record { asked = check (not_in_row_three 3); told = told_number 10 }
    ∷ record { asked = check (not_in_row_three 2); told = told_number 0 }
    -- percent 200 passes, 201 gives 24; 12 comes before 24 in a row, and a row before the next (02, K2)
    ∷ record { asked = check (with_operators (operator 0 0 1 200 ∷ [])); told = told_number 0 }
    ∷ record { asked = check (with_operators (operator 0 0 1 201 ∷ [])); told = told_number 24 }
    ∷ record { asked = check (with_operators (operator 0 1 1 201 ∷ [])); told = told_number 12 }
    ∷ record { asked = check (with_operators (operator 0 0 1 201 ∷ operator 0 1 1 0 ∷ [])); told = told_number 24 }
    -- cost 1 at 50 percent is charged 1, at 49 nothing; cost 9 at 0 nothing, cost 65,535 at 200 percent 131,070
    ∷ record {
      asked =
          run (with_operators (operator 0 0 1 50 ∷ operator 0 0 1 49 ∷ operator 0 0 9 0 ∷ operator 0 0 65535 200 ∷ []))
          (0 ∷ []) (0 ∷ 1 ∷ 2 ∷ 3 ∷ []) (replicate 2 0);
      told = answers (record { steps = 4; cost = 131071; goal = true; end = Ended true }) (1 ∷ []);
    }
    -- O 0, goal true: the empty run is a plan (it ended with the goal true) of cost 0
    ∷ record {
      asked = run (variables 0) [] [] (0 ∷ []);
      told = answers (record { steps = 0; cost = 0; goal = true; end = Ended true }) [];
    }
    -- set and clear v together: v becomes 1, whichever it was ..
    ∷ record {
      asked = run set_and_clear (0 ∷ []) (0 ∷ []) (replicate 4 0);
      told = answers (record { steps = 1; cost = 0; goal = true; end = Ended true }) (1 ∷ []);
    }
    ∷ record {
      asked = run set_and_clear (1 ∷ []) (0 ∷ []) (replicate 4 0);
      told = answers (record { steps = 1; cost = 0; goal = true; end = Ended true }) (1 ∷ []);
    }
    -- .. and no clear rule is built
    ∷ record {
      asked = compile set_and_clear enough_room;
      told =
          compiled_task
          (record {
            initial = 0 ∷ [];
            originals = [];
            formulas = a_row 0 0 0 ∷ a_row 1 0 0 ∷ [];
            effects = a_row 0 0 0 ∷ a_row 1 0 0 ∷ a_row 4 1 1 ∷ [];
            operators = operator 1 2 0 100 ∷ [];
            goal = 1;
          });
    }
    -- v0 sets v1, v1 always cleared: the clear's condition (effect row 4) is v0's twin, formula row 3
    ∷ record {
      asked = compile set_overrules enough_room;
      told =
          compiled_task
          (record {
            initial = 0 ∷ 0 ∷ 1 ∷ [];
            originals = 0 ∷ [];
            formulas = a_row 0 0 0 ∷ a_row 1 0 0 ∷ a_row 2 0 0 ∷ a_row 2 2 0 ∷ [];
            effects = a_row 0 0 0 ∷ a_row 1 1 0 ∷ a_row 4 2 1 ∷ a_row 2 1 0 ∷ a_row 4 3 3 ∷ a_row 3 2 4 ∷ [];
            operators = operator 1 5 5 100 ∷ [];
            goal = 2;
          });
    }
    -- set v under not v, clear v under v: the clear's condition (effect row 7) is the row "v and v", formula row 4
    ∷ record {
      asked = compile flip enough_room;
      told =
          compiled_task
          (record {
            initial = 0 ∷ 1 ∷ [];
            originals = 0 ∷ [];
            formulas = a_row 0 0 0 ∷ a_row 1 0 0 ∷ a_row 2 1 0 ∷ a_row 2 0 0 ∷ a_row 4 3 3 ∷ [];
            effects =
                a_row 0 0 0
                ∷ a_row 1 0 0
                ∷ a_row 4 2 1
                ∷ a_row 2 1 0
                ∷ a_row 4 2 3
                ∷ a_row 3 2 4
                ∷ a_row 2 0 0
                ∷ a_row 4 4 6
                ∷ a_row 3 5 7
                ∷ a_row 1 1 0
                ∷ a_row 4 4 9
                ∷ a_row 3 8 10
                ∷ [];
            operators = operator 1 11 0 100 ∷ [];
            goal = 1;
          });
    }
    -- a formula over an empty effect builds nothing
    ∷ record {
      asked = compile over_empty enough_room;
      told =
          compiled_task
          (record {
            initial = 0 ∷ [];
            originals = [];
            formulas = a_row 0 0 0 ∷ a_row 1 0 0 ∷ [];
            effects = a_row 0 0 0 ∷ [];
            operators = operator 1 0 0 100 ∷ [];
            goal = 1;
          });
    }
    -- the whole example: its tables compiled, and what the program prints, given its file
    ∷ record { asked = compile whole enough_room; told = compiled_task whole_compiled }
    ∷ record {
      asked = program whole_file;
      told =
          printed
          (bytes
          "t 4 2 7 12 1 6\ni 0110\nw 2 0\nw 3 1\nf 0 0 0 0\nf 1 1 0 0\nf 2 2 2 0\nf 3 2 1 0\nf 4 2 0 0\nf 5 2 3 0\nf 6 4 4 5\ne 0 0 0 0\ne 1 1 0 0\ne 2 4 1 1\ne 3 2 2 0\ne 4 4 1 3\ne 5 3 2 4\ne 6 2 1 0\ne 7 4 3 6\ne 8 3 5 7\ne 9 1 3 0\ne 10 4 3 9\ne 11 3 8 10\no 0 2 11 3 100\n");
    }
    ∷ []
