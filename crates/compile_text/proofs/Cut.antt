-- Reading looks at 43,853 bytes at most, and no file is longer: an input that is cut behind them gets the number of the whole.
-- Assumes nothing.
use Prim.Native.Nat.{ℕ, ◌+◌, ◌-◌, ◌*◌, ◌≤◌}
use native.Mathlib.Nat.{min-eq_left}
use native.Mathlib.Omega.{arith}
use mathlib.Core.Path.{◌≡◌, refl, ap, ◌∙◌}
use mathlib.Core.Bool.{Bool, true, false}
use mathlib.Core.List.{List, [], ◌∷◌, ◌++◌}
use lib.ListN.{length, take, drop, length-take, take-append-drop}
use lib.Seq.{take_all}
use lib.Dec.{leb}
use borrow.Author.Tests.{leb-true, leb-false}
use Rattle.task.specs.declared.Head.{Head}
use Rattle.task.specs.Bounded.{upto}
use Rattle.task.specs.Table.{Row, Operator}
use Rattle.task.specs.Check.{counts_kept, goal_kept, twin_kept, formula_kept, effect_kept, operator_number}
use Rattle.task.specs.Rules.{Counts}
use Rattle.task.proofs.Passed.{counts_tested}
use Rattle.file_format.specs.Bytes.{head_defaults, row_defaults, operator_defaults, bytes_for}
use Rattle.file_format.specs.Parse.{Parsed, next, kept, byte_read, word_read, mapped_read, table_read}
use Rattle.file_format.specs.Reading.{Lengths, room, head_from, head_clear, head_read, head_kept, bit_of, spare_clear, initial_read, twin_read, row_clear}
use Rattle.file_format.specs.Reading.{row_from, row_read, formula_read, effect_read, operator_clear, operator_from, operator_right, operator_fields_read, operator_read, tables_read, task_read, at_end, reading}
use Rattle.compile_text.proofs.Looks.{Same, both_refused, both_parsed, Looks, wider, pure_looks, kept_looks, next_looks, byte_looks, word_looks, mapped_looks, table_looks}

initial_looks : (v : ℕ) → Looks (bytes_for v * 1 + 0) (initial_read v)
unfolding initial_read
initial_looks v =
    next_looks (table_read (λ i done. byte_read) (bytes_for v)) (λ packed. kept (spare_clear packed v) 2 (upto v (bit_of packed))) (bytes_for v * 1) 0
    (table_looks 1 (λ i done. byte_read) (λ i done. byte_looks) (bytes_for v))
    (λ packed. kept_looks (spare_clear packed v) 2 (upto v (bit_of packed)))

twin_looks : (bound k : ℕ) (done : List ℕ) → Looks 2 (twin_read bound k done)
unfolding twin_read
twin_looks bound k done =
    next_looks word_read (λ w. kept (twin_kept bound (done ++ (w ∷ [])) k) 9 w) 2 0 word_looks
    (λ w. kept_looks (twin_kept bound (done ++ (w ∷ [])) k) 9 w)

row_looks : Looks 5 row_read
unfolding row_read
row_looks = mapped_looks row_defaults row_clear row_from

formula_looks : (v i : ℕ) (done : List Row) → Looks 5 (formula_read v i done)
unfolding formula_read
formula_looks v i done =
    next_looks row_read (λ r. kept (formula_kept v i r) 10 r) 5 0 row_looks (λ r. kept_looks (formula_kept v i r) 10 r)

effect_looks : (v f i : ℕ) (done : List Row) → Looks 5 (effect_read v f i done)
unfolding effect_read
effect_looks v f i done =
    next_looks row_read (λ r. kept (effect_kept v f i r) 11 r) 5 0 row_looks (λ r. kept_looks (effect_kept v f i r) 11 r)

operator_looks : (f e i : ℕ) (done : List Operator) → Looks 9 (operator_read f e i done)
unfolding operator_read operator_fields_read
operator_looks f e i done =
    next_looks (mapped_read operator_defaults operator_clear operator_from) (λ o. kept (operator_right f e o) (operator_number f e o) o) 9 0
    (mapped_looks operator_defaults operator_clear operator_from)
    (λ o. kept_looks (operator_right f e o) (operator_number f e o) o)

-- what the tables behind a head take
tables_most : Head → ℕ
tables_most h =
    bytes_for h.variables * 1 + 0 + (h.twins * 2 + (h.formulas * 5 + (h.effects * 5 + (h.operators * 9 + 0))))

tables_looks : (h : Head) → Looks (tables_most h) (tables_read h)
unfolding tables_read tables_most
tables_looks h =
    next_looks (initial_read h.variables) _ (bytes_for h.variables * 1 + 0) _ (initial_looks h.variables)
    (λ i. next_looks (table_read (twin_read (h.variables - h.twins)) h.twins) _ (h.twins * 2) _
    (table_looks 2 (twin_read (h.variables - h.twins)) (twin_looks (h.variables - h.twins)) h.twins)
    (λ w. next_looks (table_read (formula_read h.variables) h.formulas) _ (h.formulas * 5) _
    (table_looks 5 (formula_read h.variables) (formula_looks h.variables) h.formulas)
    (λ f. next_looks (table_read (effect_read h.variables h.formulas) h.effects) _ (h.effects * 5) _
    (table_looks 5 (effect_read h.variables h.formulas) (effect_looks h.variables h.formulas) h.effects)
    (λ e. next_looks (table_read (operator_read h.formulas h.effects) h.operators) _ (h.operators * 9) 0
    (table_looks 9 (operator_read h.formulas h.effects) (operator_looks h.formulas h.effects) h.operators)
    (λ o. pure_looks _)))))

-- 64 bytes of values, 256 originals, 4,096 formulas, 4,096 effects and 256 operators
tables_limit : (h : Head) → Counts h → tables_most h ≤ 43840
unfolding tables_most bytes_for
tables_limit h c = omega (arith, c.variables, c.twins, c.formulas, c.effects, c.operators)

-- behind a rule that is kept, or its number
module _ {A B : Type 0} (m : ℕ) (f : A → List ℕ → Parsed B) where
  after_last : (b : Bool) (n : ℕ) (x : A) → (b ≡ true → Looks m (f x)) → Looks m (λ rest. next (kept b n x rest) f)
  unfolding kept next
  after_last true n x looks = looks refl
  after_last false n x looks = λ front more long. both_refused n refl refl

  after_kept : (b : Bool) (n : ℕ) (x : A) (g : A → List ℕ → Parsed A) → (b ≡ true → Looks m (λ rest. next (g x rest) f)) → Looks m (λ rest. next (next (kept b n x rest) g) f)
  unfolding kept next
  after_kept true n x g looks = looks refl
  after_kept false n x g looks = λ front more long. both_refused n refl refl

behind_head : (l : Lengths) (h : Head) → Looks 43840 (λ rest. next (head_kept l h rest) tables_read)
unfolding head_kept
behind_head l h =
    after_kept 43840 tables_read (counts_kept h) 6 h _
    (λ counts. after_kept 43840 tables_read (goal_kept h) 7 h _
    (λ goal. after_last 43840 tables_read (room l h) 5 h
    (λ roomy. wider (tables_most h) 43840 (tables_limit h ((counts_tested h).0 counts)) (tables_looks h))))

pub task_looks : (l : Lengths) → Looks 43853 (task_read l)
unfolding task_read head_read
task_looks l =
    next_looks (mapped_read head_defaults head_clear head_from) (λ h rest. next (head_kept l h rest) tables_read) 13 43840
    (mapped_looks head_defaults head_clear head_from)
    (behind_head l)

module _ (l : Lengths) (front more : List ℕ) (long : 43854 ≤ length front) where
  ends_alike : Same (task_read l) 43853 front more → at_end (task_read l front) ≡ at_end (task_read l (front ++ more))
  unfolding at_end
  ends_alike (both_refused n e f) = rw (e, f)
  ends_alike (both_parsed t [] e f b) = absurd (omega arith)
  ends_alike (both_parsed t (x ∷ rest) e f b) = rw (e, f)

  longer_read : reading l front ≡ reading l (front ++ more)
  unfolding reading
  longer_read = ends_alike (task_looks l front more (omega arith))

-- the bytes behind 43,854 change nothing
pub cut_input : (l : Lengths) (file : List ℕ) (n : ℕ) → 43854 ≤ n → reading l (take n file) ≡ reading l file
cut_input l file n h = go (leb n (length file)) refl
  where
    go : (b : Bool) → leb n (length file) ≡ b → reading l (take n file) ≡ reading l file
    go true e =
        let b = leb-true n (length file) e in
        let s : length (take n file) ≡ n = length-take n file ∙ min-eq_left b in
        longer_read l (take n file) (drop n file) (omega arith) ∙ ap (reading l) (take-append-drop n file)
    go false e =
        let b = leb-false n (length file) e in
        ap (reading l) (take_all n file (omega arith))
