-- The outcome of compiling 01's whole example, by computing the definition: in tables that are exactly long enough, one longer, one short.
use mathlib.Core.Path.{◌≡◌, refl}
use mathlib.Core.List.{[], ◌∷◌}
use Rattle.task.specs.Bounded.{every, or_else, first_number}
use Rattle.task.specs.Table.{Lent, formula_kind, effect_kind, row_at, operator_at}
use Rattle.task.specs.Check.{counts_kept, goal_kept, room as has_room, long_enough, initial_kept, twin_kept, twins_kept, formula_words_kept, formula_kept, formulas_kept, effect_words_kept, effect_kept, effects_kept, operator_kept, percent_kept, operator_number, operators_number, refusal}
use Rattle.task.specs.Words.{joined, row_words, operator_row_words, words_of, operator_words, head_of, padded}
use Rattle.normal_form.specs.Compiled.{Room, compile_scratch_kept, fits, compile_refusal, compiled_head, not_compiled, CompileOutcome, nothing_given, task_given, outcome_by, compiling}
use Rattle.normal_form.proofs.Examples.{source, whole}

-- the definition, computed
outcome : Lent → Room → CompileOutcome
unfolding
    every formula_kind effect_kind row_at operator_at counts_kept goal_kept long_enough initial_kept twin_kept twins_kept formula_words_kept
    formula_kept formulas_kept effect_words_kept effect_kept effects_kept operator_kept percent_kept operator_number operators_number first_number or_else refusal joined row_words
    operator_row_words words_of operator_words head_of compile_scratch_kept has_room fits compile_refusal padded nothing_given
    task_given outcome_by compiling
outcome l room = compiling l room

-- exactly as many bytes and words as the finished task needs, and as compiling asks
abbrev exact : Room
exact = record { initial = 4; twins = 2; formulas = 21; effects = 36; operators = 4; scratch = 18 }

pub exactly :
    compiling source exact
    ≡ record {
      answer = compiled_head (record { variables = 4; twins = 2; formulas = 7; effects = 12; operators = 1; goal = 6 });
      initial = 0 ∷ 1 ∷ 1 ∷ 0 ∷ [];
      twins = 0 ∷ 1 ∷ [];
      formulas =
          0 ∷ 0 ∷ 0 ∷ 1 ∷ 0 ∷ 0 ∷ 2 ∷ 2 ∷ 0 ∷ 2 ∷ 1 ∷ 0 ∷ 2 ∷ 0 ∷ 0 ∷ 2 ∷ 3 ∷ 0 ∷ 4 ∷ 4 ∷ 5 ∷ [];
      effects =
          0 ∷ 0 ∷ 0 ∷ 1 ∷ 0 ∷ 0 ∷ 4 ∷ 1 ∷ 1 ∷ 2 ∷ 2 ∷ 0 ∷ 4 ∷ 1 ∷ 3 ∷ 3 ∷ 2 ∷ 4
          ∷ 2 ∷ 1 ∷ 0 ∷ 4 ∷ 3 ∷ 6 ∷ 3 ∷ 5 ∷ 7 ∷ 1 ∷ 3 ∷ 0 ∷ 4 ∷ 3 ∷ 9 ∷ 3 ∷ 8 ∷ 10 ∷ [];
      operators = 2 ∷ 11 ∷ 3 ∷ 100 ∷ [];
      scratch = 0 ∷ 0 ∷ 0 ∷ 0 ∷ 0 ∷ 0 ∷ 0 ∷ 0 ∷ 0 ∷ 0 ∷ 0 ∷ 0 ∷ 0 ∷ 0 ∷ 0 ∷ 0 ∷ 0 ∷ 0 ∷ [];
    }
unfolding outcome
exactly = rw whole

-- past the answer all is 0
pub longer_twins :
    (compiling source (record { initial = 4; twins = 4; formulas = 21; effects = 36; operators = 4; scratch = 18 })).twins
    ≡ 0 ∷ 1 ∷ 0 ∷ 0 ∷ []
unfolding outcome
longer_twins = rw whole

-- each table one short
pub initial_short :
    (compiling source (record { initial = 3; twins = 2; formulas = 21; effects = 36; operators = 4; scratch = 18 })).answer
    ≡ not_compiled 15
unfolding outcome
initial_short = rw whole

pub twins_short :
    (compiling source (record { initial = 4; twins = 1; formulas = 21; effects = 36; operators = 4; scratch = 18 })).answer
    ≡ not_compiled 15
unfolding outcome
twins_short = rw whole

pub formulas_short :
    (compiling source (record { initial = 4; twins = 2; formulas = 20; effects = 36; operators = 4; scratch = 18 })).answer
    ≡ not_compiled 15
unfolding outcome
formulas_short = rw whole

pub effects_short :
    (compiling source (record { initial = 4; twins = 2; formulas = 21; effects = 35; operators = 4; scratch = 18 })).answer
    ≡ not_compiled 15
unfolding outcome
effects_short = rw whole

-- after a refusal every output is all 0
pub operators_short :
    compiling source (record { initial = 4; twins = 2; formulas = 3; effects = 0; operators = 3; scratch = 18 })
    ≡ record {
      answer = not_compiled 15;
      initial = 0 ∷ 0 ∷ 0 ∷ 0 ∷ [];
      twins = 0 ∷ 0 ∷ [];
      formulas = 0 ∷ 0 ∷ 0 ∷ [];
      effects = [];
      operators = 0 ∷ 0 ∷ 0 ∷ [];
      scratch = 0 ∷ 0 ∷ 0 ∷ 0 ∷ 0 ∷ 0 ∷ 0 ∷ 0 ∷ 0 ∷ 0 ∷ 0 ∷ 0 ∷ 0 ∷ 0 ∷ 0 ∷ 0 ∷ 0 ∷ 0 ∷ [];
    }
unfolding outcome
operators_short = rw whole

-- 14 comes before 15, and is about the source's counts
abbrev nothing_lent : Room
nothing_lent = record { initial = 0; twins = 0; formulas = 0; effects = 0; operators = 0; scratch = 2 }

pub scratch_short : compiling source nothing_lent ≡ nothing_given 14 nothing_lent
unfolding outcome
scratch_short = refl

-- 13 comes before 14: v1 is the twin of v0
pub twinned :
    (compiling
    (record {
      head = record { variables = 2; twins = 1; formulas = 1; effects = 1; operators = 0; goal = 0 };
      initial = 0 ∷ 1 ∷ [];
      twins = 0 ∷ [];
      formulas = 1 ∷ 0 ∷ 0 ∷ [];
      effects = 0 ∷ 0 ∷ 0 ∷ [];
      operators = [];
    })
    nothing_lent
    ).answer
    ≡ not_compiled 13
unfolding outcome
twinned = refl

-- the tables' own number comes first: W 1 of V 1 is no count
pub counts_first :
    (compiling
    (record {
      head = record { variables = 1; twins = 1; formulas = 1; effects = 1; operators = 0; goal = 0 };
      initial = 0 ∷ [];
      twins = 0 ∷ [];
      formulas = 1 ∷ 0 ∷ 0 ∷ [];
      effects = 0 ∷ 0 ∷ 0 ∷ [];
      operators = [];
    })
    nothing_lent
    ).answer
    ≡ not_compiled 6
unfolding outcome
counts_first = refl
