-- A task's lines are never a refusal's line: the one text begins with t, the other with r.
use Prim.Native.Nat.{ℕ}
use native.Mathlib.Omega.{arith}
use mathlib.Core.Path.{◌≡◌}
use Rattle.task.specs.Table.{Task}
use Rattle.printing.specs.Lines.{line, head_line, lines, refusal_line}

pub lines_no_refusal : (t : Task) (n : ℕ) → lines t ≡ refusal_line n → ⊥
unfolding lines head_line line refusal_line
lines_no_refusal t n e =
    let z : ◌≡◌ {A = ℕ} 116 114 = cc in
    omega arith
