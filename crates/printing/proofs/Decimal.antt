-- Decimal numbers: the last digit behind those of the tenth part; how many digits there are; they read back; no 0 leads. Assumes nothing.
use Prim.Native.Nat.{ℕ, zero, suc, ◌+◌, ◌-◌, ◌*◌, ◌/◌, ◌%◌, ◌^◌, ◌≤◌, ◌<◌}
use native.Mathlib.Nat.{not-suc-le-zero, div-lt_iff_lt-mul, pow-suc}
use native.Mathlib.Omega.{arith}
use mathlib.Core.Path.{◌≡◌, refl, ap, ◌∙◌}
use mathlib.Core.Bool.{Bool, true, false, cond}
use mathlib.Core.List.{List, [], ◌∷◌, ◌++◌}
use lib.ListN.{length, get_or, length-append}
use lib.Dec.{ltb}
use borrow.Author.Tests.{ltb-true, ltb-false, lt-ltb, le-ltb}
use Rattle.printing.specs.Lines.{digit, digits_within, decimal}

-- more digits than are asked for change nothing
digits_enough : (d e n : ℕ) → n < d → n < e → digits_within d n ≡ digits_within e n
unfolding digits_within
digits_enough zero e n p q = absurd (not-suc-le-zero p)
digits_enough (suc d) zero n p q = absurd (not-suc-le-zero q)
digits_enough (suc d) (suc e) n p q =
    go (ltb n 10) refl (λ h. digits_enough d e (n / 10) (omega arith) (omega arith))
  where
    go : (b : Bool)
        → ltb n 10 ≡ b
        → (10 ≤ n → digits_within d (n / 10) ≡ digits_within e (n / 10))
        → cond b [] (digits_within d (n / 10)) ++ (digit (n % 10) ∷ [])
        ≡ cond b [] (digits_within e (n / 10)) ++ (digit (n % 10) ∷ [])
    go true t r = refl
    go false t r = ap (λ (x : List ℕ). x ++ (digit (n % 10) ∷ [])) (r (ltb-false n 10 t))

pub decimal_digit : (n : ℕ) → n < 10 → decimal n ≡ digit n ∷ []
unfolding decimal digits_within
decimal_digit n h =
    let same : n % 10 ≡ n = omega arith in
    ap (λ (b : Bool). cond b [] (digits_within n (n / 10)) ++ (digit (n % 10) ∷ [])) (lt-ltb n 10 h)
    ∙ ap (λ (k : ℕ). digit k ∷ []) same

pub decimal_more : (n : ℕ) → 10 ≤ n → decimal n ≡ decimal (n / 10) ++ (digit (n % 10) ∷ [])
unfolding decimal digits_within
decimal_more n h =
    ap (λ (b : Bool). cond b [] (digits_within n (n / 10)) ++ (digit (n % 10) ∷ [])) (le-ltb n 10 h)
    ∙ ap (λ (x : List ℕ). x ++ (digit (n % 10) ∷ [])) (digits_enough n (suc (n / 10)) (n / 10) (omega arith) (omega arith))

-- a number below 10, 100, 1,000 .. has at most 1, 2, 3 .. digits
pub decimal_short : (k n : ℕ) → n < 10 ^ suc k → length (decimal n) ≤ suc k
decimal_short zero n h = omega (arith, ap length (decimal_digit n h))
decimal_short (suc k) n h = go (ltb n 10) refl (decimal_short k (n / 10))
  where
    go : (b : Bool)
        → ltb n 10 ≡ b
        → (n / 10 < 10 ^ suc k → length (decimal (n / 10)) ≤ suc k)
        → length (decimal n) ≤ suc (suc k)
    go true t r = omega (arith, ap length (decimal_digit n (ltb-true n 10 t)))
    go false t r =
        let below : n < 10 ^ suc k * 10 = rw (pow-suc 10 (suc k)) at h in
        let tenth : n / 10 < 10 ^ suc k = (div-lt_iff_lt-mul {k = 10} {x = n} {y = 10 ^ suc k} (omega arith)).1 below in
        omega (arith, r tenth, ap length (decimal_more n (ltb-false n 10 t)), length-append (decimal (n / 10)) (digit (n % 10) ∷ []))

-- what digits stand for, read from the front
unfoldable pub value_behind : ℕ → List ℕ → ℕ
value_behind n [] = n
value_behind n (d ∷ rest) = value_behind (10 * n + (d - 48)) rest

value_last : (n : ℕ) (xs : List ℕ) (d : ℕ) → value_behind n (xs ++ (d ∷ [])) ≡ 10 * value_behind n xs + (d - 48)
unfolding value_behind
value_last n [] d = refl
value_last n (x ∷ xs) d = value_last (10 * n + (x - 48)) xs d

value_within : (d n : ℕ) → n < d → value_behind 0 (digits_within d n) ≡ n
unfolding digits_within value_behind
value_within zero n p = absurd (not-suc-le-zero p)
value_within (suc d) n p = go (ltb n 10) refl (λ h. value_within d (n / 10) (omega arith))
  where
    go : (b : Bool)
        → ltb n 10 ≡ b
        → (10 ≤ n → value_behind 0 (digits_within d (n / 10)) ≡ n / 10)
        → value_behind 0 (cond b [] (digits_within d (n / 10)) ++ (digit (n % 10) ∷ [])) ≡ n
    go true t r =
        let below : n < 10 = ltb-true n 10 t in
        omega arith
    go false t r =
        value_last 0 (digits_within d (n / 10)) (digit (n % 10)) ∙ omega (arith, r (ltb-false n 10 t))

-- a number reads back from its digits
pub decimal_reads : (n : ℕ) → value_behind 0 (decimal n) ≡ n
unfolding decimal
decimal_reads n = value_within (suc n) n (omega arith)

led : (xs ys : List ℕ) → 49 ≤ get_or xs 0 0 → 49 ≤ get_or (xs ++ ys) 0 0
led [] ys h = absurd (omega arith)
led (x ∷ xs) ys h = h

leads_within : (d n : ℕ) → n < d → 1 ≤ n → 49 ≤ get_or (digits_within d n) 0 0
unfolding digits_within
leads_within zero n p h = absurd (not-suc-le-zero p)
leads_within (suc d) n p h = go (ltb n 10) refl (λ k. leads_within d (n / 10) (omega arith) (omega arith))
  where
    go : (b : Bool)
        → ltb n 10 ≡ b
        → (10 ≤ n → 49 ≤ get_or (digits_within d (n / 10)) 0 0)
        → 49 ≤ get_or (cond b [] (digits_within d (n / 10)) ++ (digit (n % 10) ∷ [])) 0 0
    go true t r =
        let below : n < 10 = ltb-true n 10 t in
        omega arith
    go false t r = led (digits_within d (n / 10)) (digit (n % 10) ∷ []) (r (ltb-false n 10 t))

-- no 0 leads, but for 0 itself
pub decimal_leads : (n : ℕ) → 1 ≤ n → 49 ≤ get_or (decimal n) 0 0
unfolding decimal
decimal_leads n h = leads_within (suc n) n (omega arith) h
