-- What holds of, or is made from, each number below a bound: the loops of every definition.
use Rattle.std.specs.Prelude.{ℕ, zero, suc, Bool, true, ◌&&◌, List, [], ◌∷◌, ◌++◌}

-- each of 0 .. n - 1 passes the test
unfoldable pub every : ℕ → (ℕ → Bool) → Bool
every zero test = true
every (suc n) test = every n test && test n

-- f 0, f 1 .. f (n - 1)
unfoldable pub upto : {A : Type 0} → ℕ → (ℕ → A) → List A
upto zero f = []
upto (suc n) f = upto n f ++ (f n ∷ [])

-- the first of f 0, f 1 .. f (n - 1) that is not 0; 0 if none is
unfoldable pub or_else : ℕ → ℕ → ℕ
or_else zero rest = rest
or_else (suc number) rest = suc number

unfoldable pub first_number : ℕ → (ℕ → ℕ) → ℕ
first_number zero f = 0
first_number (suc n) f = or_else (first_number n f) (f n)
