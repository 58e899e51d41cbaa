-- The finished task keeps all limits if it has room for its variables, formulas and effects: there are never more twins than source variables.
use Prim.Native.Nat.{ℕ, zero, suc, ◌+◌, ◌≤◌, ◌<◌}
use native.Mathlib.Nat.{not-suc-le-zero}
use native.Mathlib.Omega.{arith}
use native.Mathlib.Decide.{dec_lt}
use mathlib.Core.Path.{◌≡◌, refl, sym, ◌∙◌}
use mathlib.Core.Bool.{Bool, true, false, cond}
use mathlib.Core.List.{List, [], ◌∷◌}
use lib.ListN.{length, get_or}
use lib.Dec.{eqb}
use borrow.Author.Tests.{eqb-true, eq-eqb, ne_eqb}
use Rattle.task.specs.Table.{Task}
use Rattle.task.specs.Rules.{Limits, Checked}
use Rattle.normal_form.specs.Finished.{built, finished}
use Rattle.normal_form.proofs.ShapeFinished.{finished_operators}
use Rattle.normal_form.proofs.ShapePassed.{finished_variables, finished_fine}

-- f 0 + f 1 + .. + f (n - 1)
sum : ℕ → (ℕ → ℕ) → ℕ
sum zero f = 0
sum (suc n) f = sum n f + f n

-- how often v stands in a list
one_if : ℕ → ℕ → ℕ
one_if x v = cond (eqb x v) 1 0

one_other : (x v : ℕ) → (x ≡ v → ⊥) → one_if x v ≡ 0
unfolding one_if
one_other x v n = rw (ne_eqb x v n)

one_same : (x v : ℕ) → x ≡ v → one_if x v ≡ 1
unfolding one_if
one_same x v e = rw (eq-eqb x v e)

count : ℕ → List ℕ → ℕ
count v [] = 0
count v (x ∷ xs) = one_if x v + count v xs

sum_none : (n : ℕ) → sum n (λ v. 0) ≡ 0
unfolding sum
sum_none zero = refl
sum_none (suc n) = omega (arith, sum_none n)

sum_both : (n : ℕ) (f g : ℕ → ℕ) → sum n (λ v. f v + g v) ≡ sum n f + sum n g
unfolding sum
sum_both zero f g = refl
sum_both (suc n) f g = omega (arith, sum_both n f g)

sum_past : (n x : ℕ) → n ≤ x → sum n (one_if x) ≡ 0
unfolding sum
sum_past zero x h = refl
sum_past (suc n) x h = omega (arith, one_other x n (λ e. omega arith), sum_past n x (omega arith))

sum_one : (n x : ℕ) → x < n → sum n (one_if x) ≡ 1
unfolding sum
sum_one zero x h = absurd (not-suc-le-zero h)
sum_one (suc n) x h = go (dec_lt x n) (sum_one n x)
  where
    go : Dec (x < n) → (x < n → sum n (one_if x) ≡ 1) → sum n (one_if x) + one_if x n ≡ 1
    go (yes l) more = omega (arith, one_other x n (λ e. omega arith), more l)
    go (no l) more = omega (arith, one_same x n (omega arith), sum_past n x (omega arith))

-- each number of a list is counted once
sum_counts : (n : ℕ) (l : List ℕ) → ((k : ℕ) → k < length l → get_or l k 0 < n) → sum n (λ v. count v l) ≡ length l
unfolding count
sum_counts n [] h = sum_none n
sum_counts n (x ∷ xs) h =
    sum_both n (one_if x) (λ v. count v xs)
    ∙ omega (arith, sum_one n x (h 0 (omega arith)), sum_counts n xs (λ k b. h (suc k) (omega arith)))

sum_few : (n : ℕ) (f : ℕ → ℕ) → ((v : ℕ) → f v ≤ 1) → sum n f ≤ n
unfolding sum
sum_few zero f h = omega arith
sum_few (suc n) f h = omega (arith, sum_few n f h, h n)

count_none : (v : ℕ) (l : List ℕ) → ((k : ℕ) → k < length l → get_or l k 0 ≡ v → ⊥) → count v l ≡ 0
unfolding count
count_none v [] h = refl
count_none v (x ∷ xs) h =
    omega (arith, one_other x v (h 0 (omega arith)), count_none v xs (λ k b. h (suc k) (omega arith)))

-- each of a list at one place only
abbrev pub Once : List ℕ → Type 0
Once l = (j k : ℕ) → j < k → k < length l → get_or l j 0 ≡ get_or l k 0 → ⊥

count_once : (v : ℕ) (l : List ℕ) → Once l → count v l ≤ 1
unfolding count one_if
count_once v [] once = omega arith
count_once v (x ∷ xs) once = go (eqb x v) refl (count_once v xs (λ j k l b. once (suc j) (suc k) (omega arith) (omega arith)))
  where
    go : (b : Bool) → eqb x v ≡ b → count v xs ≤ 1 → cond b 1 0 + count v xs ≤ 1
    go true e h =
        omega (
          arith,
          count_none v xs (λ k b f. once 0 (suc k) (omega arith) (omega arith) (eqb-true x v e ∙ sym f)),
        )
    go false e h = omega arith

-- numbers below n, each once, are at most n
pub once_few : (n : ℕ) (l : List ℕ) → ((k : ℕ) → k < length l → get_or l k 0 < n) → Once l → length l ≤ n
once_few n l below once =
    rw (sum_counts n l below) at (sum_few n (λ v. count v l) (λ v. count_once v l once))

pub twins_few : (t : Task) → Checked t → length (finished t).originals ≤ length t.initial
unfolding finished
twins_few t source =
    let f = finished_fine t source in
    once_few (length t.initial) (built t).st.twins f.twin_below f.twin_once

pub finished_limits :
    (t : Task)
    → Checked t
    → length t.initial + length (finished t).originals ≤ 512
    → length (finished t).formulas ≤ 4096
    → length (finished t).effects ≤ 4096
    → Limits (finished t)
finished_limits t source v f e =
    record {
      variables = omega (arith, finished_variables t);
      twins = omega (arith, finished_variables t, twins_few t source);
      one_formula = two_rows;
      formulas = f;
      effects = e;
      operators = omega (arith, finished_operators t, source.limits.operators);
    }
  where
    two_rows : 1 ≤ length (finished t).formulas
    two_rows = unfold finished in omega (arith, (finished_fine t source).two)
