-- Words stored into a table as one of its rows.
use Rattle.std.specs.Prelude.{ℕ, ◌+◌, ◌*◌, List, set}
use Rattle.task.specs.Table.{Operator, operator_width}

-- three words x, y, z stored as row i
abbrev pub three : List ℕ → (i x y z : ℕ) → List ℕ
three t i x y z = set (set (set t (3 * i) x) (3 * i + 1) y) (3 * i + 2) z

-- an operator stored as row i
abbrev pub operator_stored : List ℕ → ℕ → Operator → List ℕ
operator_stored t i o =
    let at = operator_width * i in
    set (set (set (set t at o.precondition) (at + 1) o.effect) (at + 2) o.cost) (at + 3) o.percent
