-- Building for each number below a bound: as many values, each from its number.
use Prim.Native.Nat.{ℕ, zero, suc, ◌<◌}
use native.Mathlib.Nat.{not-suc-le-zero}
use native.Mathlib.Numerals.{add-one}
use native.Mathlib.Omega.{arith}
use mathlib.Core.Path.{◌≡◌, refl, ◌∙◌}
use mathlib.Core.List.{List, [], ◌∷◌, ◌++◌}
use lib.ListN.{length, get_or, length-append}
use Rattle.task.specs.Semantics.{Effect}
use Rattle.normal_form.specs.Builder.{St, Build, give, bind, each}
use Rattle.normal_form.specs.Operators.{Changes, changes_of}
use Rattle.normal_form.proofs.Place.{one_more}

pub each_length : {A : Type 0} (n : ℕ) (f : ℕ → Build A) (s : St) → length (each n f s).value ≡ n
unfolding each bind give
each_length zero f s = refl
each_length (suc n) f s =
    length-append (each n f s).value ((f n (each n f s).st).value ∷ []) ∙ rw (each_length n f s) (add-one n)

-- what every value of number k keeps, whatever the state
pub each_values :
    {A : Type 0} (P : ℕ → A → Type 0) (d : A) (f : ℕ → Build A)
    → ((k : ℕ) (s : St) → P k (f k s).value)
    → (n : ℕ) (s : St) (k : ℕ)
    → k < n
    → P k (get_or (each n f s).value k d)
unfolding each bind give
each_values P d f h zero s k b = absurd (not-suc-le-zero b)
each_values P d f h (suc n) s k b =
    let l = (each n f s).value in
    let x = (f n (each n f s).st).value in
    let e = each_length n f s in
    one_more P d l x (λ i c. each_values P d f h n s i (omega arith)) (rw e (h n (each n f s).st)) k
    (omega (arith, length-append l (x ∷ [])))

-- Changes of the variables below a bound, upwards.
pub data Upwards : ℕ → List Changes → Type 0 where
  start : Upwards 0 []
  next : {m : ℕ} {cs : List Changes} (c : Changes) → c.variable ≡ m → Upwards m cs → Upwards (suc m) (cs ++ (c ∷ []))

pub changes_upwards : (n m : ℕ) (e : Effect) (s : St) → Upwards m (each m (changes_of n e) s).value
unfolding each bind give changes_of
changes_upwards n zero e s = start
changes_upwards n (suc m) e s =
    next (changes_of n e m (each m (changes_of n e) s).st).value refl (changes_upwards n m e s)
