-- Laws of the check's definitions, one for each way out of the functions that are held to them. Assumes nothing.
use Prim.Native.Nat.{ℕ, zero, suc, ◌≤◌, ◌<◌}
use native.Mathlib.Omega.{arith}
use mathlib.Core.Path.{◌≡◌, refl, sym, ap, ap₂, ◌∙◌}
use mathlib.Core.Bool.{Bool, true, false}
use mathlib.Core.List.{List}
use lib.ListN.{length, get_or, take}
use lib.Seq.{length-take-le, get_or-take}
use lib.Dec.{ltb}
use Rattle.std.specs.Bool.{MatchBool}
use Rattle.std.specs.List.{AllWithin, HoldsAt, zip}
use Rattle.std.proofs.lemmas.Slice.Zip.{length-zip, get_or-zip}
use Rattle.task.specs.Bounded.{every}
use Rattle.task.specs.declared.Head.{Head}
use Rattle.task.specs.declared.Table.{Table}
use Rattle.task.specs.declared.Table.TheVariants.{Formulas, Effects, Operators}
use Rattle.task.specs.declared.TableRow.{TableRow}
use Rattle.task.specs.Table.{row_at, operator_at, formula_kind, effect_kind}
use Rattle.task.specs.Check.{unless, formula_words_kept, effect_words_kept}
use Rattle.task.specs.Inner.Tables.{words_at}
use Rattle.task.proofs.Bounded.{every_from, every_fails, every_same}
use Rattle.finite_domain.specs.Table.{finite_formula_kind, finite_effect_kind}
use Rattle.finite_domain.specs.Check.{value_kept, finite_formula_kept, formula_value_kept, finite_formula_number, finite_effect_kept, effect_value_kept, finite_effect_number}
use Rattle.finite_domain.specs.Inner.Tables.{finite_words_number, finite_row_number}

-- a test of each of some items
module _ {A : Type 0} (xs : List A) (d : A) (test : A → Bool) where
  pub every_item :
      (r : Bool)
      → MatchBool r (AllWithin (λ x. test x ≡ true) xs 0 (length xs)) ((k : ℕ) × (k < length xs) × HoldsAt (λ x. test x ≡ false) xs k)
      → r ≡ every (length xs) (λ k. test (get_or xs k d))
  every_item true all = sym (every_from (length xs) (λ k. test (get_or xs k d)) (λ k h. all k d (omega arith) h))
  every_item false (k, h, one) = sym (every_fails (length xs) (λ k. test (get_or xs k d)) k h (one d))

-- a variable's value below its count
abbrev pub below : ℕ × ℕ → Bool
below p = ltb p.0 p.1

module _ (counts initial : List ℕ) where
  -- values beside their counts
  pub every_value :
      length counts ≡ length initial
      → every (length (zip initial counts)) (λ a. below (get_or (zip initial counts) a (0, 0)))
      ≡ every (length initial) (λ a. value_kept counts a (get_or initial a 0))
  unfolding value_kept
  every_value same =
      let long : length (zip initial counts) ≡ length initial = length-zip initial counts ∙ omega arith in
      rw long
      (every_same (length initial) _ _ (λ a h.
      ap below (get_or-zip initial counts a (0, 0) h (omega arith))))

  -- the first v of both
  pub values_first :
      (v : ℕ)
      → v ≤ length counts
      → v ≤ length initial
      → every (length (take v initial)) (λ a. value_kept (take v counts) a (get_or (take v initial) a 0))
      ≡ every v (λ a. value_kept counts a (get_or initial a 0))
  unfolding value_kept
  values_first v there room =
      rw (length-take-le v initial room)
      (every_same v _ _ (λ a h.
      ap₂ ltb (get_or-take v initial a 0 h) (get_or-take v counts a 0 h)))

-- a formula row by its kind
module _ (counts : List ℕ) (v i a b : ℕ) where
  abbrev Formula_number : ℕ → ℕ
  Formula_number kind = finite_formula_number counts v i (record { kind = kind; a = a; b = b })

  pub formula_leaf :
      (kind : ℕ) → kind ≡ 8 → unless (ltb a v) 10 (unless (value_kept counts a b) 26 0) ≡ Formula_number kind
  unfolding finite_formula_number finite_formula_kind finite_formula_kept formula_value_kept
  formula_leaf kind e = rw e

  pub formula_no_leaf : (kind : ℕ) → kind ≡ 2 → 10 ≡ Formula_number kind
  unfolding finite_formula_number finite_formula_kind finite_formula_kept
  formula_no_leaf kind e = rw e

  pub formula_other :
      (kind : ℕ)
      → (kind ≡ 8 → ⊥)
      → (kind ≡ 2 → ⊥)
      → unless (formula_words_kept v i (formula_kind kind) a b) 10 0 ≡ Formula_number kind
  unfolding formula_words_kept formula_kind finite_formula_number finite_formula_kind finite_formula_kept formula_value_kept
  formula_other zero l h = refl
  formula_other (suc zero) l h = refl
  formula_other (suc (suc zero)) l h = absurd (h refl)
  formula_other (suc (suc (suc zero))) l h = refl
  formula_other (suc (suc (suc (suc zero)))) l h = refl
  formula_other (suc (suc (suc (suc (suc zero))))) l h = refl
  formula_other (suc (suc (suc (suc (suc (suc zero)))))) l h = refl
  formula_other (suc (suc (suc (suc (suc (suc (suc zero))))))) l h = refl
  formula_other (suc (suc (suc (suc (suc (suc (suc (suc zero)))))))) l h = absurd (l refl)
  formula_other (suc (suc (suc (suc (suc (suc (suc (suc (suc n))))))))) l h = refl

-- an effect row by its kind
module _ (counts : List ℕ) (v f i a b : ℕ) where
  abbrev Effect_number : ℕ → ℕ
  Effect_number kind = finite_effect_number counts v f i (record { kind = kind; a = a; b = b })

  pub effect_leaf :
      (kind : ℕ) → kind ≡ 5 → unless (ltb a v) 11 (unless (value_kept counts a b) 26 0) ≡ Effect_number kind
  unfolding finite_effect_number finite_effect_kind finite_effect_kept effect_value_kept
  effect_leaf kind e = rw e

  pub effect_no_atom : (kind : ℕ) → 1 ≤ kind → kind ≤ 2 → 11 ≡ Effect_number kind
  unfolding finite_effect_number finite_effect_kind finite_effect_kept
  effect_no_atom zero g h = absurd (omega arith)
  effect_no_atom (suc zero) g h = refl
  effect_no_atom (suc (suc zero)) g h = refl
  effect_no_atom (suc (suc (suc n))) g h = absurd (omega arith)

  pub effect_other :
      (kind : ℕ)
      → (kind ≡ 5 → ⊥)
      → (kind ≡ 1 → ⊥)
      → (kind ≡ 2 → ⊥)
      → unless (effect_words_kept v f i (effect_kind kind) a b) 11 0 ≡ Effect_number kind
  unfolding effect_words_kept effect_kind finite_effect_number finite_effect_kind finite_effect_kept effect_value_kept
  effect_other zero l g h = refl
  effect_other (suc zero) l g h = absurd (g refl)
  effect_other (suc (suc zero)) l g h = absurd (h refl)
  effect_other (suc (suc (suc zero))) l g h = refl
  effect_other (suc (suc (suc (suc zero)))) l g h = refl
  effect_other (suc (suc (suc (suc (suc zero))))) l g h = absurd (l refl)
  effect_other (suc (suc (suc (suc (suc (suc n)))))) l g h = refl

-- a row of any of the three tables is tested by its words
pub finite_row_tested :
    (t : Table) (h : Head) (counts words : List ℕ) (i : ℕ) {r : TableRow} {n : ℕ}
    → r ≡ words_at t words i
    → n ≡ finite_words_number t h counts i r
    → finite_row_number t h counts words i ≡ n
finite_row_tested t h counts words i read tested = sym (tested ∙ ap (finite_words_number t h counts i) read ∙ same t)
  where
    same : (t : Table) → finite_words_number t h counts i (words_at t words i) ≡ finite_row_number t h counts words i
    same Formulas = unfold row_at in refl
    same Effects = unfold row_at in refl
    same Operators = unfold operator_at in refl
