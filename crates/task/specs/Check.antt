-- The number that a set of tables gets (01, "Where each number is given"): 0, or the first in order that applies.
use Rattle.std.specs.Prelude.{ℕ, ◌+◌, ◌-◌, ◌*◌, Bool, true, false, not, ◌&&◌, List, length, get_or, leb, ltb, eqb}
use Rattle.task.specs.declared.Head.{Head}
use Rattle.task.specs.Bounded.{every, first_number}
use Rattle.task.specs.Table.{Row, Operator, Lent, operator_width, row_at, operator_at, FormulaKind, false_kind, true_kind, variable_kind, not_kind, and_kind, or_kind, implies_kind, equivalent_kind, unknown_formula, formula_kind, EffectKind, empty_kind, set_kind, clear_kind, both_kind, under_kind, unknown_effect, effect_kind}

-- the number, unless the rule is kept
abbrev pub unless : Bool → ℕ → ℕ → ℕ
unless true number rest = rest
unless false number rest = number

-- 6: V 512, F 1 to 4,096, E 4,096, O 256, W at most V − W. Over the integers: with V 0 and W 1, V − W in machine words would wrap and pass.
unfoldable pub counts_kept : Head → Bool
counts_kept h =
    leb h.variables 512
    && (leb (h.twins + h.twins) h.variables
    && (leb 1 h.formulas && (leb h.formulas 4096 && (leb h.effects 4096 && leb h.operators 256))))

-- 7
unfoldable pub goal_kept : Head → Bool
goal_kept h = ltb h.goal h.formulas

-- how many words each table has (of the initial state: bytes)
pub record Lengths : Type 0 where
  pub initial : ℕ
  pub twins : ℕ
  pub formulas : ℕ
  pub effects : ℕ
  pub operators : ℕ

abbrev pub lengths_of : Lent → Lengths
lengths_of l =
    record {
      initial = length l.initial;
      twins = length l.twins;
      formulas = length l.formulas;
      effects = length l.effects;
      operators = length l.operators;
    }

-- as many words as the counts ask: 5 of tables that are read or filled, 15 of those that compiling fills
unfoldable pub room : Lengths → Head → Bool
room n h =
    leb h.variables n.initial
    && (leb h.twins n.twins
    && (leb (3 * h.formulas) n.formulas
    && (leb (3 * h.effects) n.effects && leb (operator_width * h.operators) n.operators)))

-- 5
unfoldable pub long_enough : Lent → Bool
long_enough l = room (lengths_of l) l.head

-- 8
unfoldable pub initial_kept : Lent → Bool
initial_kept l = every l.head.variables (λ v. leb (get_or l.initial v 0) 1)

-- 9: twin row k names a variable below V − W (bound), and none that a twin row before it names. Not only the row just before: 0, 1, 0.
unfoldable pub twin_kept : ℕ → List ℕ → ℕ → Bool
twin_kept bound twins k = ltb (get_or twins k 0) bound && every k (λ j. not (eqb (get_or twins j 0) (get_or twins k 0)))

unfoldable pub twins_kept : Lent → Bool
twins_kept l = every l.head.twins (twin_kept (l.head.variables - l.head.twins) l.twins)

-- 10: row i of formulas over v variables, its kind and its words. Kinds 0 and 1 use no word, 2 names a variable, 3 one formula, 4 to 7 two;
-- a formula that is named has a lower number: row 3 "not 3" would be its own negation.
unfoldable pub formula_words_kept : (v i : ℕ) → FormulaKind → (a b : ℕ) → Bool
formula_words_kept v i false_kind a b = eqb a 0 && eqb b 0
formula_words_kept v i true_kind a b = eqb a 0 && eqb b 0
formula_words_kept v i variable_kind a b = ltb a v && eqb b 0
formula_words_kept v i not_kind a b = ltb a i && eqb b 0
formula_words_kept v i and_kind a b = ltb a i && ltb b i
formula_words_kept v i or_kind a b = ltb a i && ltb b i
formula_words_kept v i implies_kind a b = ltb a i && ltb b i
formula_words_kept v i equivalent_kind a b = ltb a i && ltb b i
formula_words_kept v i unknown_formula a b = false

unfoldable pub formula_kept : (v i : ℕ) → Row → Bool
formula_kept v i r = formula_words_kept v i (formula_kind r.kind) r.a r.b

unfoldable pub formulas_kept : Lent → Bool
formulas_kept l = every l.head.formulas (λ i. formula_kept l.head.variables i (row_at l.formulas i))

-- 11: row i of effects over v variables and f formulas. Kind 0 uses no word, 1 and 2 name a variable, 3 two effects, 4 a formula and an effect.
unfoldable pub effect_words_kept : (v f i : ℕ) → EffectKind → (a b : ℕ) → Bool
effect_words_kept v f i empty_kind a b = eqb a 0 && eqb b 0
effect_words_kept v f i set_kind a b = ltb a v && eqb b 0
effect_words_kept v f i clear_kind a b = ltb a v && eqb b 0
effect_words_kept v f i both_kind a b = ltb a i && ltb b i
effect_words_kept v f i under_kind a b = ltb a f && ltb b i
effect_words_kept v f i unknown_effect a b = false

unfoldable pub effect_kept : (v f i : ℕ) → Row → Bool
effect_kept v f i r = effect_words_kept v f i (effect_kind r.kind) r.a r.b

unfoldable pub effects_kept : Lent → Bool
effects_kept l =
    every l.head.effects (λ i. effect_kept l.head.variables l.head.formulas i (row_at l.effects i))

-- 12: an operator over f formulas and e effects. With E 0 no operator passes.
unfoldable pub operator_kept : (f e : ℕ) → Operator → Bool
operator_kept f e o = ltb o.precondition f && ltb o.effect e

-- 24 (02, K2): a percent above 200. 0 and 200 pass.
unfoldable pub percent_kept : Operator → Bool
percent_kept o = leb o.percent 200

-- 12, then 24: a row that breaks both rules gives 12
unfoldable pub operator_number : (f e : ℕ) → Operator → ℕ
operator_number f e o = unless (operator_kept f e o) 12 (unless (percent_kept o) 24 0)

-- row by row: 24 in row 0 comes before 12 in row 1. With all rows looked at for 12 first, that task would give 12.
unfoldable pub operators_number : Lent → ℕ
operators_number l =
    first_number l.head.operators
    (λ i. operator_number l.head.formulas l.head.effects (operator_at l.operators i))

-- 16, over v variables: a byte a variable, 0 or 1. Over V 1 the states [], [0, 0] and [2] are refused; tables may be longer than their counts, a state
-- may not.
unfoldable pub state_kept : (v : ℕ) → List ℕ → Bool
state_kept v s = eqb (length s) v && every (length s) (λ v. leb (get_or s v 0) 1)

-- 19: 65,536 numbers are too many, even if the first would stop.
unfoldable pub sequence_kept : List ℕ → Bool
sequence_kept numbers = leb (length numbers) 65535

unfoldable pub refusal : Lent → ℕ
refusal l =
    unless (counts_kept l.head) 6
    (unless (goal_kept l.head) 7
    (unless (long_enough l) 5
    (unless (initial_kept l) 8
    (unless (twins_kept l) 9
    (unless (formulas_kept l) 10 (unless (effects_kept l) 11 (operators_number l)))))))
