-- Loops that read a table row by row into words. Assumes nothing.
use Prim.Native.Nat.{ℕ, zero, suc, ◌+◌, ◌*◌, ◌<◌, ◌≤◌}
use native.Mathlib.Numerals.{add-one}
use native.Mathlib.Decide.{dec_lt}
use native.Mathlib.Omega.{arith}
use mathlib.Core.Path.{◌≡◌, refl, sym, ap, ◌∙◌}
use mathlib.Core.List.{List, [], ◌∷◌, ◌++◌, append-nil}
use lib.ListN.{length, take}
use Rattle.std.proofs.lemmas.List.{take_all}
use Rattle.task.specs.declared.Head.{Head}
use Rattle.task.specs.declared.Table.{Table}
use Rattle.task.specs.declared.Table.TheVariants.{Formulas, Effects, Operators}
use Rattle.task.specs.declared.TableRow.{TableRow}
use Rattle.task.specs.Words.{joined, row_words, operator_row_words, words_of, operator_words}
use Rattle.task.specs.Inner.Tables.{width, listed, row_stored}
use Rattle.task.proofs.Words.{joined_append}
use Rattle.task.proofs.Stores.{row_there, row_front}
use Rattle.file_format.specs.Parse.{Parsed, parsed, unparsed, next, table_read}
use Rattle.file_format.specs.Reading.{formula_read, effect_read, operator_read}
use Rattle.task_file.specs.Inner.Tables.{kept_words_read, words_read}

-- a table of n rows is one of n - 1 rows and the last row
module _ (p : ℕ → Parsed (List ℕ)) (q : ℕ → List ℕ → List ℕ → Parsed (List ℕ))
    (step : (i : ℕ) → p (suc i) ≡ next (p i) (λ ws rest. next (q i ws rest) (λ x. parsed (ws ++ x)))) where
  pub one_more : (i : ℕ) {ws rest x rest' : List ℕ} → p i ≡ parsed ws rest → q i ws rest ≡ parsed x rest' → p (i + 1) ≡ parsed (ws ++ x) rest'
  unfolding next
  one_more i e f = rw (add-one i, step i, e, f)

  still_refused : (i : ℕ) {n : ℕ} → p i ≡ unparsed n → p (suc i) ≡ unparsed n
  unfolding next
  still_refused i e = rw (step i, e)

  from_there : (i : ℕ) {n : ℕ} → p i ≡ unparsed n → (count : ℕ) → i ≤ count → p count ≡ unparsed n
  from_there i e zero h = rw (← (lt-one i h)) e
    where
      lt-one : (k : ℕ) → k ≤ 0 → k ≡ 0
      lt-one k h = omega arith
  from_there i {n} e (suc count) h = go (from_there i e count) (dec_lt count i)
    where
      go : (i ≤ count → p count ≡ unparsed n) → Dec (count < i) → p (suc count) ≡ unparsed n
      go ih (yes l) =
          let same : i ≡ suc count = omega arith in
          rw (← same) e
      go ih (no m) = still_refused count (ih (omega arith))

  pub stopped : (i : ℕ) {ws rest : List ℕ} {n : ℕ} → p i ≡ parsed ws rest → q i ws rest ≡ unparsed n → (count : ℕ) → i < count → p count ≡ unparsed n
  unfolding next
  stopped i e f count h = from_there (suc i) (rw (step i, e, f)) count h

-- rows of a table as words
module _ {A : Type 0} (row : List ℕ → Parsed A) (words : A → List ℕ) where
  snoc_words : (done : List A) (r : A) → joined words (done ++ (r ∷ [])) ≡ joined words done ++ words r
  unfolding joined
  snoc_words done r = joined_append words done (r ∷ []) ∙ ap (λ (l : List ℕ). joined words done ++ l) (append-nil (words r))

  more_words :
      (o : Parsed (List A))
      → next (next o (λ done rest. next (row rest) (λ r. parsed (done ++ (r ∷ []))))) (λ rows. parsed (joined words rows))
      ≡ next (next o (λ rows. parsed (joined words rows))) (λ ws rest. next (next (row rest) (λ r. parsed (words r))) (λ x. parsed (ws ++ x)))
  unfolding next
  more_words (unparsed n) = refl
  more_words (parsed done rest) = go (row rest)
    where
      go :
          (o : Parsed A)
          → next (next o (λ r. parsed (done ++ (r ∷ [])))) (λ rows. parsed (joined words rows))
          ≡ next (next o (λ r. parsed (words r))) (λ x. parsed (joined words done ++ x))
      go (unparsed n) = refl
      go (parsed r rest') = ap {B = Parsed (List ℕ)} (λ (l : List ℕ). parsed l rest') (snoc_words done r)

rows_step :
    (h : Head) (bytes : List ℕ) (table : Table) (i : ℕ)
    → words_read table h (suc i) bytes
    ≡ next (words_read table h i bytes) (λ ws rest. next (kept_words_read table h i rest) (λ x. parsed (ws ++ x)))
unfolding table_read words_of operator_words formula_read effect_read operator_read
rows_step h bytes Formulas i = more_words (formula_read h.variables i []) row_words (table_read (formula_read h.variables) i bytes)
rows_step h bytes Effects i = more_words (effect_read h.variables h.formulas i []) row_words (table_read (effect_read h.variables h.formulas) i bytes)
rows_step h bytes Operators i = more_words (operator_read h.formulas h.effects i []) operator_row_words (table_read (operator_read h.formulas h.effects) i bytes)

-- What the loop over the rows of a table has done before row i: the words of the rows before it stand in front.
abbrev pub RowsDone : (table : Table) (h : Head) (bytes words rest : List ℕ) (i : ℕ) → Type 0
RowsDone table h bytes words rest i = words_read table h i bytes ≡ parsed (take (width table * i) words) rest

pub rows_begin : (table : Table) (h : Head) (bytes words : List ℕ) → RowsDone table h bytes words bytes 0
unfolding table_read next words_of operator_words joined
rows_begin Formulas h bytes words = refl
rows_begin Effects h bytes words = refl
rows_begin Operators h bytes words = refl

module _ (table : Table) (h : Head) (count : ℕ) (bytes words rest : List ℕ) (i : ℕ) (done : RowsDone table h bytes words rest i) where
  pub row_lost : {n : ℕ} → i < count → kept_words_read table h i rest ≡ unparsed n → words_read table h count bytes ≡ unparsed n
  row_lost here e =
      stopped (λ i. words_read table h i bytes) (λ i ws rest. kept_words_read table h i rest) (rows_step h bytes table) i done e count here

  module _ (size : length words ≡ width table * count) where
    pub row_more :
        (r : TableRow) {rest' : List ℕ}
        → i < count
        → kept_words_read table h i rest ≡ parsed (listed table r) rest'
        → RowsDone table h bytes (row_stored table words i r) rest' (i + 1)
    row_more r {rest'} here e =
        one_more (λ i. words_read table h i bytes) (λ i ws rest. kept_words_read table h i rest) (rows_step h bytes table) i done e
        ∙ ap {B = Parsed (List ℕ)} (λ (ws : List ℕ). parsed ws rest') (sym (row_front table words i r (row_there table here (omega arith))))

    pub rows_end : count ≡ i → words_read table h count bytes ≡ parsed words rest
    rows_end e = rw (← e) at done ∙ ap {B = Parsed (List ℕ)} (λ (ws : List ℕ). parsed ws rest) (take_all (width table * count) words (omega arith))
