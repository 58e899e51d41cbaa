-- A row stored behind n rows: the table then holds one row more. Assumes nothing.
use Prim.Native.Nat.{ℕ, zero, suc, ◌+◌, ◌*◌, ◌≤◌, ◌<◌}
use native.Mathlib.Numerals.{add-one}
use native.Mathlib.Omega.{arith}
use mathlib.Core.Path.{◌≡◌, refl, ap₂, ◌∙◌}
use mathlib.Core.List.{List, [], ◌∷◌, ◌++◌}
use lib.ListN.{length, get_or, take, set, length-set}
use lib.Seq.{get_or-set_same, get_or-set_other, take-suc-set}
use Rattle.task.specs.Bounded.{upto}
use Rattle.task.specs.Table.{Row, row_at}
use Rattle.formula_builder.specs.Inner.Index.{three}

pub upto_same : {A : Type 0} (n : ℕ) (f g : ℕ → A) → ((k : ℕ) → k < n → f k ≡ g k) → upto n f ≡ upto n g
unfolding upto
upto_same zero f g same = refl
upto_same {A} (suc n) f g same =
    ap₂ (λ (l : List A) (x : A). l ++ (x ∷ [])) (upto_same n f g (λ k h. same k (omega arith))) (same n (omega arith))

pub upto_more : {A : Type 0} (n : ℕ) (f : ℕ → A) → upto (n + 1) f ≡ upto n f ++ (f n ∷ [])
unfolding upto
upto_more n f = rw (add-one n)

module _ (t : List ℕ) (n : ℕ) (r : Row) where
  pub length_three : length (three t n r) ≡ length t
  length_three = simp length-set

  pub three_other :
      (j : ℕ) → (j ≡ 3 * n → ⊥) → (j ≡ 3 * n + 1 → ⊥) → (j ≡ 3 * n + 2 → ⊥) → get_or (three t n r) j 0 ≡ get_or t j 0
  three_other j p q s =
      let one = set t (3 * n) r.kind in
      let two = set one (3 * n + 1) r.a in
      get_or-set_other two (3 * n + 2) j r.b 0 s
      ∙ get_or-set_other one (3 * n + 1) j r.a 0 q
      ∙ get_or-set_other t (3 * n) j r.kind 0 p

  pub three_before : (k : ℕ) → k < n → row_at (three t n r) k ≡ row_at t k
  unfolding row_at
  three_before k h =
      λ i.
      record {
        kind = three_other (3 * k) (omega arith) (omega arith) (omega arith) i;
        a = three_other (3 * k + 1) (omega arith) (omega arith) (omega arith) i;
        b = three_other (3 * k + 2) (omega arith) (omega arith) (omega arith) i;
      }

  module _ (room : 3 * n + 3 ≤ length t) where
    pub three_at : row_at (three t n r) n ≡ r
    unfolding row_at
    three_at =
        let one = set t (3 * n) r.kind in
        let two = set one (3 * n + 1) r.a in
        let kind : get_or (three t n r) (3 * n) 0 ≡ r.kind =
        get_or-set_other two (3 * n + 2) (3 * n) r.b 0 (omega arith)
        ∙ get_or-set_other one (3 * n + 1) (3 * n) r.a 0 (omega arith)
        ∙ get_or-set_same t (3 * n) r.kind 0 (omega arith) in
        let a : get_or (three t n r) (3 * n + 1) 0 ≡ r.a =
        get_or-set_other two (3 * n + 2) (3 * n + 1) r.b 0 (omega arith)
        ∙ get_or-set_same one (3 * n + 1) r.a 0 (omega (arith, length-set t (3 * n) r.kind)) in
        let b : get_or (three t n r) (3 * n + 2) 0 ≡ r.b =
        get_or-set_same two (3 * n + 2) r.b 0
        (omega (arith, length-set one (3 * n + 1) r.a, length-set t (3 * n) r.kind)) in
        λ i. record { kind = kind i; a = a i; b = b i }

-- a word stored behind w words
module _ (o : List ℕ) (w v : ℕ) where
  pub one_more : w < length o → take (w + 1) (set o w v) ≡ take w o ++ (v ∷ [])
  one_more h = rw (add-one w) (take-suc-set o w v h)

  pub one_past : ((j : ℕ) → w ≤ j → get_or o j 0 ≡ 0) → (j : ℕ) → w + 1 ≤ j → get_or (set o w v) j 0 ≡ 0
  one_past zeros j h = get_or-set_other o w j v 0 (omega arith) ∙ zeros j (omega arith)
