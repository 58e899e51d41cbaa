-- More numbers than values: two of them have the same value. Assumes nothing.
use Prim.Native.Nat.{ℕ, zero, suc, ◌-◌, ◌<◌}
use native.Mathlib.Nat.{not-suc-le-zero}
use native.Mathlib.Omega.{arith}
use native.Mathlib.Decide.{dec_lt, ℕ_discrete}
use mathlib.Core.Path.{◌≡◌}
use mathlib.Core.Bool.{cond}
use mathlib.Core.Logic.{◌⊎◌, inl, inr}
use lib.Dec.{ltb}
use borrow.Author.Tests.{lt-ltb, le-ltb}

-- two of the numbers below n that f takes to the same value
pub record Twice (f : ℕ → ℕ) (n : ℕ) : Type 0 where
  pub first : ℕ
  pub second : ℕ
  pub less : first < second
  pub below : second < n
  pub same : f first ≡ f second

-- a value is met below n, or it is not
record Met (f : ℕ → ℕ) (x n : ℕ) : Type 0 where
  at : ℕ
  below : at < n
  is : f at ≡ x

meet : (f : ℕ → ℕ) (x n : ℕ) → Met f x n ⊎ ((k : ℕ) → k < n → f k ≡ x → ⊥)
meet f x zero = inr (λ k l e. not-suc-le-zero l)
meet f x (suc n) = go (ℕ_discrete (f n) x) (meet f x n)
  where
    go :
        Dec (f n ≡ x)
        → Met f x n ⊎ ((k : ℕ) → k < n → f k ≡ x → ⊥)
        → Met f x (suc n) ⊎ ((k : ℕ) → k < suc n → f k ≡ x → ⊥)
    go (yes e) m = inl (record { at = n; below = omega arith; is = e })
    go (no e) (inl m) = let l = m.below in inl (record { at = m.at; below = omega arith; is = m.is })
    go (no e) (inr m) = inr (λ k l is. last k (dec_lt k n) l is)
      where
        last : (k : ℕ) → Dec (k < n) → k < suc n → f k ≡ x → ⊥
        last k (yes lower) l is = m k lower is
        last k (no lower) l is = let same : k ≡ n = omega arith in e (rw same at is)

-- values without x, those above it one lower
lower : ℕ → ℕ → ℕ
lower x y = cond (ltb y x) y (y - 1)

data Lowered (x y : ℕ) : Type 0 where
  under : y < x → lower x y ≡ y → Lowered x y
  over : x < y → lower x y ≡ y - 1 → Lowered x y

lowered : (x y : ℕ) → (y ≡ x → ⊥) → Lowered x y
unfolding lower
lowered x y other = go (dec_lt y x)
  where
    go : Dec (y < x) → Lowered x y
    go (yes l) = under l (rw (lt-ltb y x l))
    go (no l) = over (omega arith) (rw (le-ltb y x (omega arith)))

lower_below : {x y m : ℕ} → Lowered x y → x < suc m → y < suc m → lower x y < m
lower_below (under l e) p q = omega arith
lower_below (over l e) p q = omega arith

lower_same : {x y z : ℕ} → Lowered x y → Lowered x z → lower x y ≡ lower x z → y ≡ z
lower_same (under l e) (under m f) p = omega arith
lower_same (under l e) (over m f) p = absurd (omega arith)
lower_same (over l e) (under m f) p = absurd (omega arith)
lower_same (over l e) (over m f) p = omega arith

pub pigeonhole : (m n : ℕ) (f : ℕ → ℕ) → ((k : ℕ) → k < n → f k < m) → m < n → Twice f n
pigeonhole zero n f bound less = absurd (not-suc-le-zero (bound 0 less))
pigeonhole (suc m) zero f bound less = absurd (not-suc-le-zero less)
pigeonhole (suc m) (suc n) f bound less = go (meet f (f n) n) (λ g. λ b. pigeonhole m n g b (omega arith))
  where
    go :
        Met f (f n) n ⊎ ((k : ℕ) → k < n → f k ≡ f n → ⊥)
        → ((g : ℕ → ℕ) → ((k : ℕ) → k < n → g k < m) → Twice g n)
        → Twice f (suc n)
    go (inl met) smaller =
        record { first = met.at; second = n; less = met.below; below = omega arith; same = met.is }
    go (inr other) smaller =
        let low : (k : ℕ) → k < n → Lowered (f n) (f k) = λ k l. lowered (f n) (f k) (other k l) in
        let at : (k : ℕ) → k < n → lower (f n) (f k) < m =
        λ k l. lower_below (low k l) (bound n (omega arith)) (bound k (omega arith)) in
        let w = smaller (λ k. lower (f n) (f k)) at in
        let below = w.below in
        let less = w.less in
        record {
          first = w.first;
          second = w.second;
          less = less;
          below = omega arith;
          same = lower_same (low w.first (omega arith)) (low w.second below) w.same;
        }
