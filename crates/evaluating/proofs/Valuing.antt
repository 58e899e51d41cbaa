-- Laws of the values of the rows: what each arm of the code gives, and what each turn of the loop leaves. Assumes nothing.
use Prim.Native.Nat.{ℕ, zero, suc, ◌+◌, ◌-◌, ◌*◌, ◌/◌, ◌%◌, ◌^◌, ◌≤◌, ◌<◌}
use native.Mathlib.Nat.{add-zero, add-suc}
use native.Mathlib.Omega.{arith}
use mathlib.Core.Path.{◌≡◌, refl, sym, ap, ◌∙◌}
use mathlib.Core.Bool.{true, false, cond}
use mathlib.Core.Logic.{◌⊎◌, inl, inr}
use mathlib.Core.List.{List, [], ◌∷◌}
use lib.ListN.{length, get_or, set, drop, length-set}
use lib.Seq.{drop-drop, drop-set-lt}
use lib.Dec.{eqb}
use Rattle.std.specs.Prelude.{Result, Ok, Err}
use Rattle.std.specs.Result.{IsOk}
use Rattle.task.specs.declared.Table.TheVariants.{Formulas}
use Rattle.task.specs.declared.TableRow.{TableRow}
use Rattle.task.specs.declared.kinds.FormulaKind.{FormulaKind as Kind}
use Rattle.task.specs.declared.kinds.FormulaKind.TheVariants as k
use Rattle.task.specs.declared.kinds.UnknownKind.{UnknownKind}
use Rattle.task.specs.Kinds.{formula_number, FormulaKindOf}
use Rattle.task.specs.Inner.Tables.{words_at}
use Rattle.task.specs.Bounded.{upto}
use Rattle.task.specs.Table.{FormulaKind, row_at, formula_kind}
use Rattle.task.specs.Rules.{no_row, FormulaRule}
use Rattle.task.specs.Semantics.{holds}
use Rattle.task.specs.Tree.{formula_of}
use Rattle.task.proofs.Bounded.{length_upto, getD_upto}
use Rattle.task.proofs.Trees.{formula_grows}
use Rattle.task.specs.Inner.Rows.{FormulasDown}
use Rattle.task.proofs.Values.{bit_small, values_stored}
use Rattle.task.specs.Inner.Values.{bit, told, kind_value, row_value, Values}
use Rattle.evaluating.specs.Inner.Values.{joins, truth_table, rows_of, RowReady, Valuable, Valued}

-- a bit is 0 or 1
by_bit : (P : Type 0) (x : ℕ) → x ≤ 1 → (x ≡ 0 → P) → (x ≡ 1 → P) → P
by_bit P zero h no-bit one_bit = no-bit refl
by_bit P (suc n) h no-bit one_bit = one_bit (omega arith)

pub bit_told : (x : ℕ) → x ≤ 1 → x ≡ bit (eqb x 1)
unfolding bit
bit_told x h = by_bit (x ≡ cond (eqb x 1) 1 0) x h (λ e. rw e) (λ e. rw e)

all_small :
    (k : FormulaKind)
    → (bit (joins k false false) ≤ 1) × (bit (joins k false true) ≤ 1) × (bit (joins k true false) ≤ 1) × (bit (joins k true true) ≤ 1)
all_small k =
    (bit_small (joins k false false), bit_small (joins k false true), bit_small (joins k true false), bit_small (joins k true true))

-- a truth table tells each of its cases
pub table_tells :
    (k : FormulaKind) (n x y : ℕ)
    → n ≡ truth_table k
    → x ≤ 1
    → y ≤ 1
    → (n / 2 ^ (2 * x + y)) % 2 ≡ bit (joins k (eqb x 1) (eqb y 1))
unfolding truth_table
table_tells k n zero zero e hx hy = omega (arith, all_small k)
table_tells k n zero (suc zero) e hx hy = omega (arith, all_small k)
table_tells k n (suc zero) zero e hx hy = omega (arith, all_small k)
table_tells k n (suc zero) (suc zero) e hx hy = omega (arith, all_small k)
table_tells k n zero (suc (suc y)) e hx hy = absurd (omega arith)
table_tells k n (suc zero) (suc (suc y)) e hx hy = absurd (omega arith)
table_tells k n (suc (suc x)) y e hx hy = absurd (omega arith)

-- the kinds that name no formula and no variable, and those that name formulas
abbrev pub Constant : Kind → Type 0
Constant kind = (kind ≡ k.False) ⊎ (kind ≡ k.True)

abbrev pub Joining : Kind → Type 0
Joining kind = (kind ≡ k.Not) ⊎ ((kind ≡ k.And) ⊎ ((kind ≡ k.Or) ⊎ ((kind ≡ k.Implies) ⊎ (kind ≡ k.Equivalent))))

-- a row that keeps its rule is of a known kind
no_rule : (v i a b n : ℕ) → 8 ≤ n → FormulaRule v i (formula_kind n) a b → ⊥
unfolding formula_kind
no_rule v i a b n h rule =
    let m : n ≡ suc (suc (suc (suc (suc (suc (suc (suc (n - 8)))))))) = omega arith in
    rw m at rule

pub known :
    {words : List ℕ} {i : ℕ} {s values : List ℕ}
    → RowReady words i s values
    → {row : TableRow}
    → row ≡ words_at Formulas words i
    → (r : Result Kind UnknownKind)
    → FormulaKindOf row.first r
    → IsOk r
known ready read (Ok kind) tried = refl
known {words} {i} {s} ready read (Err e) tried =
    let w = row_at words i in
    absurd (no_rule (length s) i w.a w.b w.kind (rw read at tried) ready.rule)

-- the arms of `value_of`, from the words that it reads
module _
    {words : List ℕ} {i : ℕ} {s values : List ℕ} (ready : RowReady words i s values)
    {row : TableRow} (read : row ≡ words_at Formulas words i)
    {r : Result Kind UnknownKind} (tried : FormulaKindOf row.first r)
    {kind : Kind} (unwrapped : r ≡ Ok kind) where
  number : (row_at words i).kind ≡ formula_number kind
  number =
      let of : FormulaKindOf row.first (Ok kind) = rw unwrapped at tried in
      sym (ap (λ (x : TableRow). x.first) read) ∙ of

  kept : FormulaRule (length s) i (formula_kind (formula_number kind)) row.second row.third
  kept = rw (read, ← number) ready.rule

  value : {x : ℕ} → x ≡ bit (kind_value s values (formula_kind (formula_number kind)) row.second row.third) → x ≡ bit (row_value s values (row_at words i))
  unfolding row_value
  value e = rw number (e ∙ rw read)

  pub constant_row :
      Constant kind
      → {x : ℕ}
      → x ≡ bit (joins (formula_kind (formula_number kind)) false false)
      → x ≡ bit (row_value s values (row_at words i))
  unfolding joins kind_value formula_kind
  constant_row (inl e) d = value (rw e (rw e at d))
  constant_row (inr e) d = value (rw e (rw e at d))

  pub variable_ref : kind ≡ k.Variable → row.second < length s
  unfolding formula_kind
  variable_ref e = (rw e at kept).0

  pub variable_row : kind ≡ k.Variable → get_or s row.second 0 ≡ bit (row_value s values (row_at words i))
  unfolding kind_value formula_kind
  variable_row e = value (rw e (bit_told (get_or s row.second 0) (ready.state_bits row.second (variable_ref e))))

  pub join_refs : Joining kind → (row.second < i) × (row.third < i)
  unfolding formula_kind
  join_refs (inl e) = let r = rw e at kept in (r.0, omega (arith, r))
  join_refs (inr (inl e)) = rw e at kept
  join_refs (inr (inr (inl e))) = rw e at kept
  join_refs (inr (inr (inr (inl e)))) = rw e at kept
  join_refs (inr (inr (inr (inr e)))) = rw e at kept

  pub join_bits : Joining kind → (get_or values row.second 0 ≤ 1) × (get_or values row.third 0 ≤ 1)
  join_bits j = (ready.value_bits row.second (join_refs j).0, ready.value_bits row.third (join_refs j).1)

  pub join_row :
      Joining kind
      → {x : ℕ}
      → x ≡ bit (joins (formula_kind (formula_number kind)) (told values row.second) (told values row.third))
      → x ≡ bit (row_value s values (row_at words i))
  unfolding joins kind_value formula_kind
  join_row (inl e) d = value (rw e (rw e at d))
  join_row (inr (inl e)) d = value (rw e (rw e at d))
  join_row (inr (inr (inl e))) d = value (rw e (rw e at d))
  join_row (inr (inr (inr (inl e)))) d = value (rw e (rw e at d))
  join_row (inr (inr (inr (inr e)))) d = value (rw e (rw e at d))

-- what the loop has done before row i
pub record Evaluating (words : List ℕ) (n : ℕ) (s before : List ℕ) (i : ℕ) (t : List ℕ) : Type 0 where
  pub inside : i ≤ n
  pub same : length t ≡ length before
  pub known : Values s (rows_of n words) i t
  pub behind : drop i t ≡ drop i before

module _ {words : List ℕ} {from n : ℕ} {s scratch : List ℕ} (able : Valuable words from n s scratch) where
  down : (m : ℕ) → m ≤ n → FormulasDown (length s) (rows_of m words)
  down m b =
      record {
        row =
            λ i h.
            let l : i < m = rw (length_upto m (row_at words)) at h in
            rw (getD_upto m (row_at words) i no_row l) (able.rule i (omega arith));
      }

  -- rows behind do not change a row's formula
  same_formula :
      (m d j : ℕ) → m + d ≤ n → j < m → formula_of (rows_of (m + d) words) j ≡ formula_of (rows_of m words) j
  unfolding upto
  same_formula m zero j h l = rw (add-zero m)
  same_formula m (suc d) j h l =
      rw (add-suc m d)
      (formula_grows (length s) (rows_of (m + d) words) (down (m + d) (omega arith)) (row_at words (m + d) ∷ []) j
      (rw (length_upto (m + d) (row_at words)) (omega arith))
      ∙ same_formula m d j (omega arith) l)

  pub same_holds :
      (m j : ℕ)
      → m ≤ n
      → j < m
      → holds s (formula_of (rows_of m words) j) ≡ holds s (formula_of (rows_of n words) j)
  same_holds m j b l =
      let e : m + (n - m) ≡ n = omega arith in
      ap (holds s)
      (sym (same_formula m (n - m) j (omega arith) l) ∙ ap (λ (k : ℕ). formula_of (rows_of k words) j) e)

  pub same_values :
      (m : ℕ) (t : List ℕ) → m ≤ n → Values s (rows_of m words) m t → Values s (rows_of n words) m t
  same_values m t b v = record { at = λ j l. v.at j l ∙ ap bit (same_holds m j b l) }

  -- the loop over the rows from .. n - 1
  pub begin : Evaluating words n s scratch from scratch
  begin = record { inside = able.order; same = refl; known = able.below; behind = refl }

  module _ {i : ℕ} {t : List ℕ} (h : i < n) (so_far : Evaluating words n s scratch i t) where
    pub row_ready : RowReady words i s t
    row_ready =
        record {
          there = omega (arith, able.there);
          rule = able.rule i h;
          state_bits = able.state_bits;
          room = omega (arith, able.room, so_far.same);
          value_bits = λ j l. rw (so_far.known.at j l) (bit_small (holds s (formula_of (rows_of n words) j)));
        }

    pub one_more :
        {x : ℕ} → x ≡ bit (row_value s t (row_at words i)) → Evaluating words n s scratch (i + 1) (set t i x)
    one_more {x} e =
        record {
          inside = omega arith;
          same = length-set t i x ∙ so_far.same;
          known =
              rw (e, ← getD_upto n (row_at words) i no_row h)
              (values_stored (length s) (rows_of n words) (down n (omega arith)) s i t
              (rw (length_upto n (row_at words)) h) (omega (arith, able.room, so_far.same)) so_far.known);
          behind =
              drop-set-lt (i + 1) t i x (omega arith)
              ∙ sym (drop-drop 1 i t)
              ∙ ap (drop 1) so_far.behind
              ∙ drop-drop 1 i scratch;
        }

pub evaluated :
    {words : List ℕ} {n : ℕ} {s before t : List ℕ}
    → Evaluating words n s before n t
    → Valued words n s before t
evaluated done = record { known = done.known; behind = done.behind }
