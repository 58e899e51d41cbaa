-- Table words are unsigned 16-bit: of a task that passes the check only a cost could be larger. So with the costs in their range it keeps every rule,
-- and the words of its tables fit what a caller can lend. Assumes nothing.
use Prim.Native.Nat.{ℕ, zero, suc, ◌+◌, ◌-◌, ◌*◌, ◌≤◌, ◌<◌}
use native.Mathlib.Nat.{not-suc-le-zero}
use native.Mathlib.Omega.{arith}
use native.Mathlib.Decide.{dec_lt}
use mathlib.Core.Path.{◌≡◌}
use mathlib.Core.List.{List, [], ◌∷◌, ◌++◌}
use lib.ListN.{length, get_or, length-append, get_or-append}
use lib.Seq.{get_or-append-add}
use Rattle.task.specs.Table.{Row, Operator, operator_width, Lent, Task, operator_at, task_of, FormulaKind, false_kind, true_kind, variable_kind, not_kind, and_kind}
use Rattle.task.specs.Table.{or_kind, implies_kind, equivalent_kind, unknown_formula, formula_kind, EffectKind, empty_kind, set_kind, clear_kind, both_kind, under_kind, unknown_effect, effect_kind}
use Rattle.task.specs.Rules.{no_row, no_operator, FormulaRule, EffectRule, Checked, word_limit, RowWords, OperatorWords, Rules, LentWords, LongEnough}
use Rattle.task.specs.Words.{joined, row_words, operator_row_words, words_of, operator_words, lent_of}
use Rattle.task.proofs.KindNumbers.{HasFormulaNumber, formula_number, HasEffectNumber, effect_number}
use Rattle.task.proofs.Held.{length_operators, operator_held}

formula_small : (v i : ℕ) (r : Row) → v ≤ 512 → i < 4096 → FormulaRule v i (formula_kind r.kind) r.a r.b → RowWords r
formula_small v i r few row rule = go (formula_kind r.kind) (formula_number r.kind) rule
  where
    go : (k : FormulaKind) → HasFormulaNumber r.kind k → FormulaRule v i k r.a r.b → RowWords r
    go false_kind e h = omega (arith, e, h)
    go true_kind e h = omega (arith, e, h)
    go variable_kind e h = omega (arith, e, h)
    go not_kind e h = omega (arith, e, h)
    go and_kind e h = omega (arith, e, h)
    go or_kind e h = omega (arith, e, h)
    go implies_kind e h = omega (arith, e, h)
    go equivalent_kind e h = omega (arith, e, h)
    go unknown_formula e h = absurd h

effect_small :
    (v f i : ℕ) (r : Row) → v ≤ 512 → f ≤ 4096 → i < 4096 → EffectRule v f i (effect_kind r.kind) r.a r.b → RowWords r
effect_small v f i r few many row rule = go (effect_kind r.kind) (effect_number r.kind) rule
  where
    go : (k : EffectKind) → HasEffectNumber r.kind k → EffectRule v f i k r.a r.b → RowWords r
    go empty_kind e h = omega (arith, e, h)
    go set_kind e h = omega (arith, e, h)
    go clear_kind e h = omega (arith, e, h)
    go both_kind e h = omega (arith, e, h)
    go under_kind e h = omega (arith, e, h)
    go unknown_effect e h = absurd h

-- the kinds of rows that pass
pub formula_known : (t : Task) → Checked t → (i : ℕ) → i < length t.formulas → (get_or t.formulas i no_row).kind < 8
formula_known t c i h = go (formula_kind r.kind) (formula_number r.kind) (c.formula i h)
  where
    r : Row
    r = get_or t.formulas i no_row

    go : (k : FormulaKind) → HasFormulaNumber r.kind k → FormulaRule (length t.initial) i k r.a r.b → r.kind < 8
    go false_kind e h = omega (arith, e)
    go true_kind e h = omega (arith, e)
    go variable_kind e h = omega (arith, e)
    go not_kind e h = omega (arith, e)
    go and_kind e h = omega (arith, e)
    go or_kind e h = omega (arith, e)
    go implies_kind e h = omega (arith, e)
    go equivalent_kind e h = omega (arith, e)
    go unknown_formula e h = absurd h

pub effect_known : (t : Task) → Checked t → (i : ℕ) → i < length t.effects → (get_or t.effects i no_row).kind < 5
effect_known t c i h = go (effect_kind r.kind) (effect_number r.kind) (c.effect i h)
  where
    r : Row
    r = get_or t.effects i no_row

    go : (k : EffectKind) → HasEffectNumber r.kind k → EffectRule (length t.initial) (length t.formulas) i k r.a r.b → r.kind < 5
    go empty_kind e h = omega (arith, e)
    go set_kind e h = omega (arith, e)
    go clear_kind e h = omega (arith, e)
    go both_kind e h = omega (arith, e)
    go under_kind e h = omega (arith, e)
    go unknown_effect e h = absurd h

-- with the costs in their range, every rule
pub rules_with_costs :
    (t : Task)
    → Checked t
    → ((i : ℕ) → i < length t.operators → (get_or t.operators i no_operator).cost ≤ 65535)
    → Rules t
rules_with_costs t c costs =
    let l = c.limits in
    record {
      words =
          record {
            original = λ k h. omega (arith, (c.twin k h).below, l.variables);
            formula =
                λ i h. formula_small (length t.initial) i (get_or t.formulas i no_row) l.variables (omega (arith, l.formulas)) (c.formula i h);
            effect =
                λ i h.
                effect_small (length t.initial) (length t.formulas) i (get_or t.effects i no_row) l.variables l.formulas
                (omega (arith, l.effects)) (c.effect i h);
            operator =
                λ i h.
                record {
                  precondition = omega (arith, (c.operator i h).formula, l.formulas);
                  effect = omega (arith, (c.operator i h).changes, l.effects);
                  cost = omega (arith, costs i h);
                  percent = omega (arith, (c.operator i h).percent);
                };
          };
      cost = costs;
      checked = c;
    }

-- of lent words
pub lent_rules : (l : Lent) → LentWords l → LongEnough l → Checked (task_of l) → Rules (task_of l)
unfolding operator_at
lent_rules l words long c =
    rules_with_costs (task_of l) c (λ i h.
    let b : i < l.head.operators = rw (length_operators l) at h in
    rw (operator_held l i b) (omega (arith, words.operators (operator_width * i + 2) (omega (arith, long.operators)))))

-- what holds of each word of each element's words holds of each word of all
joined_each :
    {A : Type 0} (f : A → List ℕ) (d : A) (xs : List A)
    → ((i : ℕ) → i < length xs → (k : ℕ) → k < length (f (get_or xs i d)) → get_or (f (get_or xs i d)) k 0 < word_limit)
    → (j : ℕ)
    → j < length (joined f xs)
    → get_or (joined f xs) j 0 < word_limit
unfolding joined
joined_each f d [] each j h = absurd (not-suc-le-zero h)
joined_each f d (x ∷ xs) each j h =
    go (dec_lt j (length (f x))) (joined_each f d xs (λ i b. each (suc i) (omega arith)))
  where
    go :
        Dec (j < length (f x))
        → ((k : ℕ) → k < length (joined f xs) → get_or (joined f xs) k 0 < word_limit)
        → get_or (f x ++ joined f xs) j 0 < word_limit
    go (yes b) rest = rw (get_or-append (f x) (joined f xs) 0 j b) (each 0 (omega arith) j b)
    go (no b) rest =
        let k = j - length (f x) in
        let split : j ≡ length (f x) + k = omega arith in
        let all : j < length (f x) + length (joined f xs) = rw (length-append (f x) (joined f xs)) at h in
        rw (split, get_or-append-add (f x) (joined f xs) k 0) (rest k (omega arith))

three_small :
    (a b c k : ℕ) → a < word_limit → b < word_limit → c < word_limit → k < 3 → get_or (a ∷ b ∷ c ∷ []) k 0 < word_limit
three_small a b c zero p q r h = p
three_small a b c (suc zero) p q r h = q
three_small a b c (suc (suc zero)) p q r h = r
three_small a b c (suc (suc (suc k))) p q r h = absurd (omega arith)

four_small :
    (a b c d k : ℕ) → a < word_limit → b < word_limit → c < word_limit → d < word_limit → k < 4 → get_or (a ∷ b ∷ c ∷ d ∷ []) k 0 < word_limit
four_small a b c d zero p q r s h = p
four_small a b c d (suc zero) p q r s h = q
four_small a b c d (suc (suc zero)) p q r s h = r
four_small a b c d (suc (suc (suc zero))) p q r s h = s
four_small a b c d (suc (suc (suc (suc k)))) p q r s h = absurd (omega arith)

rows_small :
    (rows : List Row)
    → ((i : ℕ) → i < length rows → RowWords (get_or rows i no_row))
    → (j : ℕ)
    → j < length (words_of rows)
    → get_or (words_of rows) j 0 < word_limit
unfolding words_of row_words
rows_small rows small =
    joined_each row_words no_row rows (λ i h k b.
    let r = get_or rows i no_row in
    three_small r.kind r.a r.b k (small i h).kind (small i h).first (small i h).second b)

operators_small :
    (operators : List Operator)
    → ((i : ℕ) → i < length operators → OperatorWords (get_or operators i no_operator))
    → (j : ℕ)
    → j < length (operator_words operators)
    → get_or (operator_words operators) j 0 < word_limit
unfolding operator_words operator_row_words
operators_small operators small =
    joined_each operator_row_words no_operator operators (λ i h k b.
    let o = get_or operators i no_operator in
    four_small o.precondition o.effect o.cost o.percent k (small i h).precondition (small i h).effect (small i h).cost (small i h).percent b)

-- the words of a task's tables can be lent
pub words_lent : (t : Task) → Rules t → LentWords (lent_of t)
unfolding lent_of
words_lent t r =
    let w = r.words in
    record {
      twins = w.original;
      formulas = rows_small t.formulas w.formula;
      effects = rows_small t.effects w.effect;
      operators = operators_small t.operators w.operator;
    }
