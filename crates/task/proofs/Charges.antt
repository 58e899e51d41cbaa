-- What an operator of words is charged at most: cost 65,535 at 200 percent. Assumes nothing.
use Prim.Native.Nat.{◌*◌, ◌≤◌}
use native.Mathlib.Nat.{mul-le-mul}
use native.Mathlib.Omega.{arith}
use Rattle.task.specs.Table.{Operator}
use Rattle.task.specs.Run.{charge_of}

pub charge_most : (o : Operator) → o.cost ≤ 65535 → o.percent ≤ 200 → charge_of o ≤ 131070
unfolding charge_of
charge_most o c p =
    let m : o.cost * o.percent ≤ 65535 * 200 = mul-le-mul {n₂ = 65535} {m₂ = 200} c p in
    omega arith
