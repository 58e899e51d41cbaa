-- Rows stored into tables: one more behind those that stand, and nothing else. Assumes nothing.
use Prim.Native.Nat.{ℕ, suc, ◌+◌, ◌-◌, ◌*◌, ◌≤◌, ◌<◌}
use native.Mathlib.Nat.{mul-suc, mul-le-mul}
use native.Mathlib.Omega.{arith}
use mathlib.Core.Path.{◌≡◌, refl, sym, ap, ◌∙◌}
use mathlib.Core.List.{List, [], ◌∷◌, ◌++◌, append_assoc, append-nil}
use lib.ListN.{length, get_or, take, drop, set, replicate, length-append, length-set}
use lib.Seq.{append_snoc, set_at, sets, sets-eq, take_at, length-take-le, drop-set-lt}
use Rattle.task.specs.declared.Table.{Table}
use Rattle.task.specs.declared.Table.TheVariants.{Formulas, Effects, Operators}
use Rattle.task.specs.declared.TableRow.{TableRow}
use Rattle.task.specs.Table.{Row, Operator, operator_width, operator, operator_at}
use Rattle.task.specs.Words.{joined, row_words, operator_row_words, words_of, operator_words, padded}
use Rattle.task.specs.Inner.Stored.{three, operator_stored}
use Rattle.task.specs.Inner.Tables.{width, listed, row_stored}
use Rattle.task.proofs.Words.{length_words, length_operator_words, words_append, operator_words_append}

-- row i of so many is wholly inside a table that has room for them
pub row_there :
    (table : Table) {i n size : ℕ} → i < n → width table * n ≤ size → width table * i + width table ≤ size
row_there Formulas b h = omega arith
row_there Effects b h = omega arith
row_there Operators b h = omega arith

pub length_operator_stored : (t : List ℕ) (i : ℕ) (o : Operator) → length (operator_stored t i o) ≡ length t
length_operator_stored t i o = simp length-set

-- a word stored behind those that stand
padded_word :
    (n : ℕ) (words : List ℕ) (i x : ℕ) → length words ≡ i → i < n → set (padded n words) i x ≡ padded n (words ++ (x ∷ []))
unfolding padded
padded_word n words i x e h =
    let m = n - (i + 1) in
    let here : n - length words ≡ suc m = omega arith in
    let more : n - length (words ++ (x ∷ [])) ≡ m = omega (arith, length-append words (x ∷ [])) in
    rw (here, more) (set_at words 0 (replicate m 0) x i e ∙ sym (append_snoc words x (replicate m 0)))

-- words stored one after the other, behind those that stand
padded_sets :
    (n : ℕ) (words : List ℕ) (i : ℕ) (ws : List ℕ)
    → length words ≡ i
    → i + length ws ≤ n
    → sets (padded n words) i ws ≡ padded n (words ++ ws)
padded_sets n words i [] e h = ap (padded n) (sym (append-nil words))
padded_sets n words i (w ∷ ws) e h =
    ap (λ (t : List ℕ). sets t (suc i) ws) (padded_word n words i w e (omega arith))
    ∙ padded_sets n (words ++ (w ∷ [])) (suc i) ws (omega (arith, length-append words (w ∷ []))) (omega arith)
    ∙ ap (padded n) (append_assoc words (w ∷ []) ws)

-- rows as words stored one after the other
three_sets : (t : List ℕ) (i x y z : ℕ) → three t i x y z ≡ sets t (3 * i) (x ∷ y ∷ z ∷ [])
three_sets t i x y z =
    let one : 3 * i + 1 ≡ suc (3 * i) = omega arith in
    let two : 3 * i + 2 ≡ suc (suc (3 * i)) = omega arith in
    rw (one, two) refl

pub four_sets :
    (t : List ℕ) (i : ℕ) (o : Operator)
    → operator_stored t i o ≡ sets t (operator_width * i) (o.precondition ∷ o.effect ∷ o.cost ∷ o.percent ∷ [])
four_sets t i o =
    let at = operator_width * i in
    let one : at + 1 ≡ suc at = omega arith in
    let two : at + 2 ≡ suc (suc at) = omega arith in
    let three : at + 3 ≡ suc (suc (suc at)) = omega arith in
    rw (one, two, three) refl

pub padded_row :
    (n : ℕ) (rows : List Row) (i : ℕ) (r : Row)
    → length rows ≡ i
    → 3 * i + 3 ≤ n
    → three (padded n (words_of rows)) i r.kind r.a r.b ≡ padded n (words_of (rows ++ (r ∷ [])))
padded_row n rows i r e h =
    three_sets (padded n (words_of rows)) i r.kind r.a r.b
    ∙ padded_sets n (words_of rows) (3 * i) (r.kind ∷ r.a ∷ r.b ∷ []) (omega (arith, length_words rows)) h
    ∙ ap (padded n) (one ∙ sym (words_append rows (r ∷ [])))
  where
    one : words_of rows ++ (r.kind ∷ r.a ∷ r.b ∷ []) ≡ words_of rows ++ words_of (r ∷ [])
    one = unfold words_of joined row_words in refl

pub padded_operator :
    (n : ℕ) (operators : List Operator) (i : ℕ) (o : Operator)
    → length operators ≡ i
    → operator_width * i + operator_width ≤ n
    → operator_stored (padded n (operator_words operators)) i o
    ≡ padded n (operator_words (operators ++ (o ∷ [])))
padded_operator n operators i o e h =
    four_sets (padded n (operator_words operators)) i o
    ∙ padded_sets n (operator_words operators) (operator_width * i) (o.precondition ∷ o.effect ∷ o.cost ∷ o.percent ∷ [])
    (omega (arith, length_operator_words operators)) h
    ∙ ap (padded n) (one ∙ sym (operator_words_append operators (o ∷ [])))
  where
    one :
        operator_words operators ++ (o.precondition ∷ o.effect ∷ o.cost ∷ o.percent ∷ [])
        ≡ operator_words operators ++ operator_words (o ∷ [])
    one = unfold operator_words joined operator_row_words in refl

-- what stands in front of words that were stored, and what behind them
sets_front : (t : List ℕ) (k : ℕ) (ws : List ℕ) → k + length ws ≤ length t → take (k + length ws) (sets t k ws) ≡ take k t ++ ws
sets_front t k ws h =
    let front = take k t ++ ws in
    let size : length front ≡ k + length ws = length-append (take k t) ws ∙ ap (λ (x : ℕ). x + length ws) (length-take-le k t (omega arith)) in
    ap (take (k + length ws)) (sets-eq ws t k h)
    ∙ take_at front (drop (k + length ws) t) (k + length ws) size

sets_behind : (t : List ℕ) (k : ℕ) (ws : List ℕ) (n : ℕ) → k + length ws ≤ n → drop n (sets t k ws) ≡ drop n t
sets_behind t k [] n h = refl
sets_behind t k (w ∷ ws) n h = sets_behind (set t k w) (suc k) ws n (omega arith) ∙ drop-set-lt n t k w (omega arith)

-- The same of row i of any of the three tables.
pub length_row_stored : (table : Table) (t : List ℕ) (i : ℕ) (r : TableRow) → length (row_stored table t i r) ≡ length t
length_row_stored Formulas t i r = simp length-set
length_row_stored Effects t i r = simp length-set
length_row_stored Operators t i r = simp length-set

-- a row is stored as its words
row_sets : (table : Table) (t : List ℕ) (i : ℕ) (r : TableRow) → row_stored table t i r ≡ sets t (width table * i) (listed table r)
row_sets Formulas t i r = three_sets t i r.first r.second r.third
row_sets Effects t i r = three_sets t i r.first r.second r.third
row_sets Operators t i r = four_sets t i (operator r.first r.second r.third r.fourth)

listed_length : (table : Table) (r : TableRow) → length (listed table r) ≡ width table
listed_length Formulas r = refl
listed_length Effects r = refl
listed_length Operators r = refl

pub row_front :
    (table : Table) (t : List ℕ) (i : ℕ) (r : TableRow)
    → width table * i + width table ≤ length t
    → take (width table * (i + 1)) (row_stored table t i r) ≡ take (width table * i) t ++ listed table r
row_front table t i r h =
    let size = listed_length table r in
    let e : width table * (i + 1) ≡ width table * i + length (listed table r) = omega (arith, mul-suc (width table) i) in
    rw (row_sets table t i r, e) (sets_front t (width table * i) (listed table r) (omega arith))

pub row_behind :
    (table : Table) (t : List ℕ) (i : ℕ) (r : TableRow) (n : ℕ)
    → i < n
    → drop (width table * n) (row_stored table t i r) ≡ drop (width table * n) t
row_behind table t i r n h =
    let size = listed_length table r in
    let room : width table * (i + 1) ≤ width table * n =
    mul-le-mul {n₁ = width table} {m₁ = i + 1} {n₂ = width table} {m₂ = n} (omega arith) (omega arith) in
    rw (row_sets table t i r) (sets_behind t (width table * i) (listed table r) (width table * n) (omega (arith, mul-suc (width table) i)))

-- a cost is one of the words
pub cost_among : (P : ℕ → Type 0) (t : List ℕ) (i : ℕ) → ((k : ℕ) → P (get_or t k 0)) → P (operator_at t i).cost
unfolding operator_at
cost_among P t i each = each (operator_width * i + 2)
