-- What the exported compiling leaves, from what `compiling` yields.
use Rattle.std.specs.Prelude.{ℕ, ◌≡◌, List}
use Rattle.task.specs.declared.Head.{Head}
use Rattle.normal_form.specs.Compiled.{Answer, compiled_head, not_compiled, CompileOutcome}
use Rattle.compiler.specs.Left.{Tables}
use Rattle.test_calls.specs.Buffers.{told_words, head_words, no_head}

abbrev pub compile_told : Answer → ℕ
compile_told (compiled_head head) = 0
compile_told (not_compiled number) = number

abbrev pub compile_head : Answer → Head
compile_head (compiled_head head) = head
compile_head (not_compiled number) = no_head

pub record CompileTells (w : CompileOutcome) (before : List ℕ) (r : ℕ) (head : List ℕ) (y : Tables) : Type 0 where
  pub number : r ≡ compile_told w.answer
  pub head_left : head ≡ told_words (head_words (compile_head w.answer)) before
  pub initial_left : y.initial ≡ w.initial
  pub twins_left : y.twins ≡ w.twins
  pub formulas_left : y.formulas ≡ w.formulas
  pub effects_left : y.effects ≡ w.effects
  pub operators_left : y.operators ≡ w.operators
  pub scratch_left : y.scratch ≡ w.scratch
