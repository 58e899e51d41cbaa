-- The tables' own numbers: at most 12, or 24. Assumes nothing.
use Prim.Native.Nat.{ℕ, zero, suc, ◌≤◌, ◌<◌}
use native.Mathlib.Omega.{arith}
use mathlib.Core.Path.{◌≡◌, refl}
use mathlib.Core.Bool.{Bool, true, false}
use Rattle.task.specs.Bounded.{or_else, first_number}
use Rattle.task.specs.Table.{Operator, Lent}
use Rattle.task.specs.Check.{unless, counts_kept, goal_kept, long_enough, initial_kept, twins_kept, formulas_kept, effects_kept, operator_kept, percent_kept, operator_number, operators_number, refusal}

pub data Own (n : ℕ) : Type 0 where
  low : n ≤ 12 → Own n
  high : n ≡ 24 → Own n

unless_own : (b : Bool) (n rest : ℕ) → n ≤ 12 → Own rest → Own (unless b n rest)
unless_own true n rest p q = q
unless_own false n rest p q = low p

first_own : (n : ℕ) (f : ℕ → ℕ) → ((i : ℕ) → Own (f i)) → Own (first_number n f)
unfolding first_number or_else
first_own zero f each = low (omega arith)
first_own (suc n) f each = go (first_number n f) (first_own n f each)
  where
    go : (k : ℕ) → Own k → Own (or_else k (f n))
    go zero own = each n
    go (suc k) own = own

operator_own : (f e : ℕ) (o : Operator) → Own (operator_number f e o)
unfolding operator_number
operator_own f e o = go (operator_kept f e o) (percent_kept o)
  where
    go : (a b : Bool) → Own (unless a 12 (unless b 24 0))
    go true true = low (omega arith)
    go true false = high refl
    go false b = low (omega arith)

pub refusal_own : (l : Lent) → Own (refusal l)
unfolding refusal operators_number
refusal_own l =
    unless_own (counts_kept l.head) 6 _ (omega arith)
    (unless_own (goal_kept l.head) 7 _ (omega arith)
    (unless_own (long_enough l) 5 _ (omega arith)
    (unless_own (initial_kept l) 8 _ (omega arith)
    (unless_own (twins_kept l) 9 _ (omega arith)
    (unless_own (formulas_kept l) 10 _ (omega arith)
    (unless_own (effects_kept l) 11 _ (omega arith)
    (first_own l.head.operators _ (λ i. operator_own l.head.formulas l.head.effects _))))))))

-- so none of the numbers between
pub not_between : {n : ℕ} → Own n → 12 < n → n < 24 → ⊥
not_between (low p) a b = omega arith
not_between (high e) a b = omega arith
