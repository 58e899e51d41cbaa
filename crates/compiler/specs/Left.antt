-- What compiling leaves, as one value; and, passed on, the six tables that it is lent.
use Rattle.std.specs.Prelude.{Result, Ok, Err}
use Rattle.task.specs.declared.Head.{Head}
use Rattle.task.specs.declared.refusal.Refusal.{Refusal}
use Rattle.task.specs.Refused.{number_of}
use Rattle.normal_form.specs.Compiled.{Answer, compiled_head, not_compiled, CompileOutcome}
pub use Rattle.compiler.specs.Tables.{Tables, tables, room_of}

abbrev pub answer_of : Result Head Refusal → Answer
answer_of (Ok h) = compiled_head h
answer_of (Err e) = not_compiled (number_of e)

-- the answer, and every table at exit
abbrev pub compile_left : Result Head Refusal → Tables → CompileOutcome
compile_left r y =
    record {
      answer = answer_of r;
      initial = y.initial;
      twins = y.twins;
      formulas = y.formulas;
      effects = y.effects;
      operators = y.operators;
      scratch = y.scratch;
    }
