-- The small task of the tests: its records keep the order that finishing asks for. Assumes nothing.
use Prim.Native.Nat.{ℕ, zero, suc, ◌≤◌, ◌<◌}
use native.Mathlib.Omega.{arith}
use mathlib.Core.Path.{◌≡◌, refl}
use mathlib.Core.List.{List, [], ◌∷◌}
use lib.ListN.{length, get_or, replicate}
use Rattle.task.specs.Table.{row_at}
use Rattle.task.specs.Inner.Stored.{three}
use Rattle.change_records.specs.Inner.Recorded.{change_at}
use Rattle.assembling.specs.Inner.Assembles.{begins_at, InOrder}

-- what is below 1 is 0
pub first : (P : ℕ → Type 0) → P 0 → (o : ℕ) → o < 1 → P o
first P p zero h = p
first P p (suc o) h = absurd (omega (arith, h))

-- the initial values
pub bits : (i : ℕ) → i < 2 → get_or (1 ∷ 0 ∷ []) i 0 ≤ 1
bits zero h = omega arith
bits (suc zero) h = omega arith
bits (suc (suc i)) h = absurd (omega (arith, h))

-- the records: operator 0 has row 2, and its changes end at 1; change 0 is of variable 0
module _ (records : List ℕ) (e : records ≡ three (three (replicate 6912 0) 0 2 1 0) 256 0 1 2) where
  pub room : 6912 ≤ length records
  room = rw e (omega arith)

  end : (row_at records 0).a ≡ 1
  unfolding row_at
  end = rw e refl

  variable : (change_at records 0).variable ≡ 0
  unfolding row_at change_at
  variable = rw e refl

  pub in_order : (o : ℕ) → o < 1 → InOrder 2 records (begins_at records o) (row_at records o).a
  unfolding begins_at
  in_order =
      first _
      (record {
        order = omega arith;
        limit = omega (arith, end);
        below = λ i least h. first (λ k. (change_at records k).variable < 2) (omega (arith, variable)) i (omega (arith, end, h));
      })
