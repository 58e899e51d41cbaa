-- The small try before the large one. Assumes nothing.
use Prim.Native.Nat.{ℕ}
use mathlib.Core.Path.{◌≡◌}
use mathlib.Core.Bool.{false, true≢false}
use mathlib.Core.List.{List}
use Rattle.std.specs.Prelude.{Result, Ok, Err, is_ok}
use Rattle.compile_parts.specs.declared.Filled.{Filled}
use Rattle.compiler.specs.Tables.{Tables, tables}
use Rattle.compiler.specs.Inner.Fills.{Counted, Roomy, Unfilled, Tries, Fills}

pub same_tables :
    {i w f e o s i2 w2 f2 e2 o2 s2 : List ℕ}
    → i2 ≡ i
    → w2 ≡ w
    → f2 ≡ f
    → e2 ≡ e
    → o2 ≡ o
    → s2 ≡ s
    → tables i2 w2 f2 e2 o2 s2 ≡ tables i w f e o s
same_tables a b c d e f = λ i. tables (a i) (b i) (c i) (d i) (e i) (f i)

-- a try without room leaves the tables as they came
pub kept : {E : Type 0} (g : Counted) {x y : Tables} (r : Result Filled E) → is_ok r ≡ false → Tries g x y r → y ≡ x
kept g (Ok z) q t = absurd (true≢false q)
kept g (Err e) q t = t.same

-- and a try with all that the tables allow is the answer
pub answered : {E : Type 0} {g : Counted} {x v : Tables} (y : Tables) (r : Result Filled E) → v ≡ x → Roomy g x → Tries g v y r → Fills g x y r
answered y (Ok z) same b t = rw same at t
answered {g = g} {x = x} y (Err e) same b t =
    let unfilled : Unfilled g x y = rw same at t in record { same = unfilled.same; misfit = unfilled.misfit b.allows }
