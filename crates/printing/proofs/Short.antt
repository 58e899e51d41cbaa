-- The lines of a task that keeps the rules, with costs of 16 bits, take at most 165,408 bytes: a buffer of that length always suffices.
use Prim.Native.Nat.{ℕ, suc, ◌+◌, ◌-◌, ◌*◌, ◌^◌, ◌≤◌, ◌<◌}
use native.Mathlib.Nat.{add-zero, suc-mul}
use native.Mathlib.Omega.{arith}
use mathlib.Core.Path.{◌≡◌, refl}
use mathlib.Core.List.{List, [], ◌∷◌, ◌++◌, map}
use lib.ListN.{length, get_or, length-append, length-map, get_or-map}
use Rattle.task.specs.Table.{Task, FormulaKind, false_kind, true_kind, variable_kind, not_kind, and_kind, or_kind, implies_kind, equivalent_kind, unknown_formula, formula_kind, EffectKind, empty_kind, set_kind, clear_kind, both_kind, under_kind, unknown_effect, effect_kind}
use Rattle.task.specs.Rules.{no_row, no_operator, FormulaRule, EffectRule, Checked}
use Rattle.task.specs.Words.{joined, row_words, operator_row_words}
use Rattle.task.proofs.KindNumbers.{HasFormulaNumber, HasEffectNumber, formula_number, effect_number}
use Rattle.printing.specs.Lines.{newline, blank, digit, word, line, numbered, values, initial_line, head_line, twin_lines, lines, refusal_line}
use Rattle.printing.proofs.Decimal.{decimal_short}

-- a number below 10, 100, 1,000 .. takes at most 2, 3, 4 .. bytes with its blank
word_short : (k n : ℕ) → n < 10 ^ suc k → length (word n) ≤ suc (suc k)
unfolding word
word_short k n h = omega (arith, decimal_short k n h)

words_length : (n : ℕ) (ns : List ℕ) → length (joined word (n ∷ ns)) ≡ length (word n) + length (joined word ns)
unfolding joined
words_length n ns = length-append (word n) (joined word ns)

no_words : length (joined word []) ≡ 0
unfolding joined
no_words = refl

line_length : (letter : ℕ) (ns : List ℕ) → length (line letter ns) ≡ length (joined word ns) + 2
unfolding line
line_length letter ns = omega (arith, length-append (joined word ns) (newline ∷ []))

twin_line_short : (letter n o : ℕ) → n < 1000 → o < 1000 → length (line letter (n ∷ o ∷ [])) ≤ 10
twin_line_short letter n o p q =
    omega (
      arith,
      line_length letter (n ∷ o ∷ []),
      words_length n (o ∷ []),
      words_length o [],
      no_words,
      word_short 2 n p,
      word_short 2 o q,
    )

row_line_short :
    (letter i n a b : ℕ) → i < 10000 → n < 10 → a < 10000 → b < 10000 → length (line letter (i ∷ n ∷ a ∷ b ∷ [])) ≤ 19
row_line_short letter i n a b p q r s =
    omega (
      arith,
      line_length letter (i ∷ n ∷ a ∷ b ∷ []),
      words_length i (n ∷ a ∷ b ∷ []),
      words_length n (a ∷ b ∷ []),
      words_length a (b ∷ []),
      words_length b [],
      no_words,
      word_short 3 i p,
      word_short 0 n q,
      word_short 3 a r,
      word_short 3 b s,
    )

operator_line_short :
    (letter i p e c r : ℕ)
    → i < 1000
    → p < 10000
    → e < 10000
    → c < 100000
    → r < 1000
    → length (line letter (i ∷ p ∷ e ∷ c ∷ r ∷ [])) ≤ 26
operator_line_short letter i p e c r h1 h2 h3 h4 h5 =
    omega (
      arith,
      line_length letter (i ∷ p ∷ e ∷ c ∷ r ∷ []),
      words_length i (p ∷ e ∷ c ∷ r ∷ []),
      words_length p (e ∷ c ∷ r ∷ []),
      words_length e (c ∷ r ∷ []),
      words_length c (r ∷ []),
      words_length r [],
      no_words,
      word_short 2 i h1,
      word_short 3 p h2,
      word_short 3 e h3,
      word_short 4 c h4,
      word_short 2 r h5,
    )

pub refusal_line_short : (number : ℕ) → number < 65536 → length (refusal_line number) ≤ 8
unfolding refusal_line
refusal_line_short number h =
    omega (
      arith,
      line_length 114 (number ∷ []),
      words_length number [],
      no_words,
      word_short 4 number (omega arith),
    )

initial_line_length : (l : List ℕ) → length (initial_line l) ≤ length l + 3
unfolding initial_line values
initial_line_length [] = omega arith
initial_line_length (b ∷ rest) =
    omega (arith, length-append (blank ∷ map digit (b ∷ rest)) (newline ∷ []), length-map rest digit)

-- rows whose lines take at most k bytes each
numbered_short :
    (letter first : ℕ) (rows : List (List ℕ)) (d : List ℕ) (k : ℕ)
    → ((i : ℕ) → i < length rows → length (line letter ((first + i) ∷ get_or rows i d)) ≤ k)
    → length (numbered letter first rows) ≤ length rows * k
unfolding numbered
numbered_short letter first [] d k each = omega arith
numbered_short letter first (x ∷ rest) d k each =
    let here : length (line letter (first ∷ x)) ≤ k =
    rw (add-zero first) at (each 0 (omega arith))
    in
    let behind : length (numbered letter (suc first) rest) ≤ length rest * k =
    numbered_short letter (suc first) rest d k (λ i h.
    let e : first + suc i ≡ suc first + i = omega arith in
    rw e at (each (suc i) (omega arith)))
    in
    omega (
      arith,
      here,
      behind,
      length-append (line letter (first ∷ x)) (numbered letter (suc first) rest),
      suc-mul (length rest) k,
    )

-- the words of a row that keeps its rule
pub record SmallWords (kind a b : ℕ) : Type 0 where
  pub one_digit : kind < 10
  pub first : a < 10000
  pub second : b < 10000

formula_small :
    (v i n : ℕ) (k : FormulaKind) (a b : ℕ)
    → HasFormulaNumber n k
    → FormulaRule v i k a b
    → v ≤ 512
    → i < 4096
    → SmallWords n a b
formula_small v i n false_kind a b e r h j = omega arith
formula_small v i n true_kind a b e r h j = omega arith
formula_small v i n variable_kind a b e r h j = omega arith
formula_small v i n not_kind a b e r h j = omega arith
formula_small v i n and_kind a b e r h j = omega arith
formula_small v i n or_kind a b e r h j = omega arith
formula_small v i n implies_kind a b e r h j = omega arith
formula_small v i n equivalent_kind a b e r h j = omega arith
formula_small v i n unknown_formula a b e r h j = absurd r

effect_small :
    (v f i n : ℕ) (k : EffectKind) (a b : ℕ)
    → HasEffectNumber n k
    → EffectRule v f i k a b
    → v ≤ 512
    → f ≤ 4096
    → i < 4096
    → SmallWords n a b
effect_small v f i n empty_kind a b e r h g j = omega arith
effect_small v f i n set_kind a b e r h g j = omega arith
effect_small v f i n clear_kind a b e r h g j = omega arith
effect_small v f i n both_kind a b e r h g j = omega arith
effect_small v f i n under_kind a b e r h g j = omega arith
effect_small v f i n unknown_effect a b e r h g j = absurd r

-- a table of rows of which each, by its number, takes at most k bytes
table_short :
    {A : Type 0} (letter first : ℕ) (words : A → List ℕ) (rows : List A) (d : A) (k : ℕ)
    → ((i : ℕ) → i < length rows → length (line letter ((first + i) ∷ words (get_or rows i d))) ≤ k)
    → length (numbered letter first (map words rows)) ≤ length rows * k
table_short letter first words rows d k each =
    let short : length (numbered letter first (map words rows)) ≤ length (map words rows) * k =
    numbered_short letter first (map words rows) (words d) k (λ i h.
    let b : i < length rows = omega (arith, length-map rows words) in
    rw (get_or-map words rows i d) (each i b))
    in
    rw (length-map rows words) at short

module _ (t : Task) (r : Checked t) where
  head_short : length (head_line t) ≤ 29
  unfolding head_line
  head_short =
      let v = length t.initial in
      let w = length t.originals in
      let f = length t.formulas in
      let e = length t.effects in
      let o = length t.operators in
      let g = t.goal in
      let ns = v ∷ w ∷ f ∷ e ∷ o ∷ g ∷ [] in
      let limits = r.limits in
      let goal = r.goal_is_formula in
      omega (
        arith,
        line_length 116 ns,
        words_length v (w ∷ f ∷ e ∷ o ∷ g ∷ []),
        words_length w (f ∷ e ∷ o ∷ g ∷ []),
        words_length f (e ∷ o ∷ g ∷ []),
        words_length e (o ∷ g ∷ []),
        words_length o (g ∷ []),
        words_length g [],
        no_words,
        word_short 2 v (omega (arith, limits.variables)),
        word_short 2 w (omega (arith, limits.variables, limits.twins)),
        word_short 3 f (omega (arith, limits.formulas)),
        word_short 3 e (omega (arith, limits.effects)),
        word_short 2 o (omega (arith, limits.operators)),
        word_short 3 g (omega (arith, limits.formulas, goal)),
      )

  twins_short : length (twin_lines t) ≤ length t.originals * 10
  unfolding twin_lines
  twins_short =
      table_short 119 (length t.initial - length t.originals) (λ o. o ∷ []) t.originals 0 10 (λ k h.
      twin_line_short 119 (length t.initial - length t.originals + k) (get_or t.originals k 0)
      (omega (arith, r.limits.variables, r.limits.twins))
      (omega (arith, (r.twin k h).below, r.limits.variables)))

  formulas_short : length (numbered 102 0 (map row_words t.formulas)) ≤ length t.formulas * 19
  unfolding row_words
  formulas_short =
      table_short 102 0 row_words t.formulas no_row 19 (λ i h.
      let w = get_or t.formulas i no_row in
      let b : i < 4096 = omega (arith, r.limits.formulas) in
      let s =
      formula_small (length t.initial) i w.kind (formula_kind w.kind) w.a w.b (formula_number w.kind)
      (r.formula i h) r.limits.variables b
      in
      row_line_short 102 (0 + i) w.kind w.a w.b (omega arith) s.one_digit s.first s.second)

  effects_short : length (numbered 101 0 (map row_words t.effects)) ≤ length t.effects * 19
  unfolding row_words
  effects_short =
      table_short 101 0 row_words t.effects no_row 19 (λ i h.
      let w = get_or t.effects i no_row in
      let b : i < 4096 = omega (arith, r.limits.effects) in
      let s =
      effect_small (length t.initial) (length t.formulas) i w.kind (effect_kind w.kind) w.a w.b
      (effect_number w.kind) (r.effect i h) r.limits.variables r.limits.formulas b
      in
      row_line_short 101 (0 + i) w.kind w.a w.b (omega arith) s.one_digit s.first s.second)

  module _ (costs : (i : ℕ) → i < length t.operators → (get_or t.operators i no_operator).cost < 65536) where
    operators_short : length (numbered 111 0 (map operator_row_words t.operators)) ≤ length t.operators * 26
    unfolding operator_row_words
    operators_short =
        table_short 111 0 operator_row_words t.operators no_operator 26 (λ i h.
        let o = get_or t.operators i no_operator in
        let rule = r.operator i h in
        operator_line_short 111 (0 + i) o.precondition o.effect o.cost o.percent
        (omega (arith, r.limits.operators)) (omega (arith, rule.formula, r.limits.formulas)) (omega (arith, rule.changes, r.limits.effects))
        (omega (arith, costs i h)) (omega (arith, rule.percent)))

    pub lines_short : length (lines t) ≤ 165408
    unfolding lines
    lines_short =
        let a = head_line t in
        let b = initial_line t.initial in
        let c = twin_lines t in
        let d = numbered 102 0 (map row_words t.formulas) in
        let e = numbered 101 0 (map row_words t.effects) in
        let f = numbered 111 0 (map operator_row_words t.operators) in
        omega (
          arith,
          length-append a (b ++ (c ++ (d ++ (e ++ f)))),
          length-append b (c ++ (d ++ (e ++ f))),
          length-append c (d ++ (e ++ f)),
          length-append d (e ++ f),
          length-append e f,
          head_short,
          initial_line_length t.initial,
          twins_short,
          formulas_short,
          effects_short,
          operators_short,
          r.limits.variables,
          r.limits.twins,
          r.limits.formulas,
          r.limits.effects,
          r.limits.operators,
        )
