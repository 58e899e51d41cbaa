-- The invariant of a building state: rows 0 and 1 in place, rows positive with references that go down, twins of source variables, each once.
use Prim.Native.Nat.{ℕ, ◌+◌, ◌<◌, ◌≤◌}
use native.Mathlib.Nat.{not-suc-le-zero}
use native.Mathlib.Omega.{arith}
use mathlib.Core.Path.{◌≡◌, refl, sym, ◌∙◌}
use mathlib.Core.List.{[], ◌∷◌, ◌++◌}
use lib.ListN.{length, get_or, length-append, get_or-append}
use lib.Dec.{eqb}
use borrow.Author.Tests.{eqb-false}
use Rattle.task.specs.Table.{Row, formula_kind}
use Rattle.task.specs.Rules.{no_row}
use Rattle.task.specs.Inner.Rows.{FormulaKept, FormulasDown}
use Rattle.task.proofs.Down.{formulas_none, formulas_more, formulas_wider}
use Rattle.normal_form.specs.Builder.{St, including, same_row, row, twin, start}
pub use Rattle.normal_form.specs.Positive.{PositiveKind}
use Rattle.normal_form.proofs.Place.{one_more, Placed, found, added, placed, place_below, place_has, same_row_alike}

-- a building state over n source variables
pub record Fine (n : ℕ) (s : St) : Type 0 where
  pub two : 2 ≤ length s.rows
  pub row_false : get_or s.rows 0 no_row ≡ record { kind = 0; a = 0; b = 0 }
  pub row_true : get_or s.rows 1 no_row ≡ record { kind = 1; a = 0; b = 0 }
  pub down : FormulasDown (n + length s.twins) s.rows
  pub positive : (i : ℕ) → i < length s.rows → PositiveKind (formula_kind (get_or s.rows i no_row).kind)
  pub twin_below : (k : ℕ) → k < length s.twins → get_or s.twins k 0 < n
  pub twin_once :
      (j k : ℕ) → j < k → k < length s.twins → get_or s.twins j 0 ≡ get_or s.twins k 0 → ⊥

pub fine_start : (n : ℕ) → Fine n start
unfolding start formula_kind
fine_start n =
    record {
      two = omega arith;
      row_false = refl;
      row_true = refl;
      down =
          formulas_more (n + 0) (record { kind = 0; a = 0; b = 0 } ∷ []) (record { kind = 1; a = 0; b = 0 })
          (formulas_more (n + 0) [] (record { kind = 0; a = 0; b = 0 }) (formulas_none (n + 0)) (refl, refl))
          (refl, refl);
      positive =
          one_more (λ i q. PositiveKind (formula_kind q.kind)) no_row (record { kind = 0; a = 0; b = 0 } ∷ [])
          (record { kind = 1; a = 0; b = 0 })
          (one_more (λ i q. PositiveKind (formula_kind q.kind)) no_row [] (record { kind = 0; a = 0; b = 0 })
          (λ i h. absurd (not-suc-le-zero h)) tt)
          tt;
      twin_below = λ k h. absurd (not-suc-le-zero h);
      twin_once = λ j k l h. absurd (not-suc-le-zero h);
    }

-- one more row, that keeps the rule of the place behind the last
pub fine_more :
    (n : ℕ) (s : St) (r : Row)
    → Fine n s
    → FormulaKept (n + length s.twins) (length s.rows) r
    → PositiveKind (formula_kind r.kind)
    → Fine n (record { rows = s.rows ++ (r ∷ []); twins = s.twins })
fine_more n s r f rule p =
    record {
      two = omega (arith, length-append s.rows (r ∷ []), f.two);
      row_false = get_or-append s.rows (r ∷ []) no_row 0 (omega (arith, f.two)) ∙ f.row_false;
      row_true = get_or-append s.rows (r ∷ []) no_row 1 (omega (arith, f.two)) ∙ f.row_true;
      down = formulas_more (n + length s.twins) s.rows r f.down rule;
      positive = one_more (λ i q. PositiveKind (formula_kind q.kind)) no_row s.rows r f.positive p;
      twin_below = f.twin_below;
      twin_once = f.twin_once;
    }

pub fine_row :
    (n : ℕ) (s : St) (r : Row)
    → Fine n s
    → FormulaKept (n + length s.twins) (length s.rows) r
    → PositiveKind (formula_kind r.kind)
    → Fine n (row r s).st
unfolding row
fine_row n s r f rule p = go (placed same_row r s.rows)
  where
    go : Placed same_row r s.rows → Fine n (record { rows = including same_row r s.rows; twins = s.twins })
    go (found h k) = rw k f
    go (added h k e) = rw k (fine_more n s r f rule p)

pub row_below : (r : Row) (s : St) → (row r s).value < length (row r s).st.rows
unfolding row
row_below r s = place_below same_row r s.rows

pub row_has : (r : Row) (s : St) → get_or (row r s).st.rows (row r s).value no_row ≡ r
unfolding row
row_has r s = place_has same_row r (λ y. same_row_alike y r) no_row s.rows

-- one more twin, of a source variable that has none
pub fine_more_twins :
    (n : ℕ) (s : St) (v : ℕ)
    → Fine n s
    → v < n
    → ((j : ℕ) → j < length s.twins → get_or s.twins j 0 ≡ v → ⊥)
    → Fine n (record { rows = s.rows; twins = s.twins ++ (v ∷ []) })
fine_more_twins n s v f h new =
    record {
      two = f.two;
      row_false = f.row_false;
      row_true = f.row_true;
      down =
          formulas_wider (n + length (s.twins ++ (v ∷ []))) (omega (arith, length-append s.twins (v ∷ [])))
          f.down;
      positive = f.positive;
      twin_below = one_more (λ k w. w < n) 0 s.twins v f.twin_below h;
      twin_once = λ j k l b.
          one_more (λ k w. j < k → get_or (s.twins ++ (v ∷ [])) j 0 ≡ w → ⊥) 0 s.twins v
          (λ k b m e. f.twin_once j k m b (sym (get_or-append s.twins (v ∷ []) 0 j (omega arith)) ∙ e))
          (λ m e. new j m (sym (get_or-append s.twins (v ∷ []) 0 j (omega arith)) ∙ e)) k b l;
    }

pub fine_twin : (n : ℕ) (s : St) (v : ℕ) → Fine n s → v < n → Fine n (twin v s).st
unfolding twin
fine_twin n s v f h = go (placed eqb v s.twins)
  where
    go : Placed eqb v s.twins → Fine n (record { rows = s.rows; twins = including eqb v s.twins })
    go (found b k) = rw k f
    go (added b k e) = rw k (fine_more_twins n s v f h (λ j l. eqb-false (get_or s.twins j 0) v (e 0 j l)))
