-- The tables of a task (01, "The tables"): flat words, as a caller lends them, and rows, as all that follows reads them.
use Rattle.std.specs.Prelude.{ℕ, ◌+◌, ◌*◌, List, [], ◌∷◌, cond, length, get_or, take, drop, leb}
use Rattle.task.specs.declared.Head.{Head}
use Rattle.task.specs.Bounded.{upto}

-- A formula's or an effect's row: three words.
pub record Row : Type 0 where
  pub kind : ℕ
  pub a : ℕ
  pub b : ℕ

-- 01, "Formula kinds": the number of a kind is its place in the list.
pub data FormulaKind : Type 0 where
  false_kind true_kind variable_kind not_kind and_kind or_kind implies_kind equivalent_kind unknown_formula : FormulaKind

unfoldable pub formula_kind : ℕ → FormulaKind
formula_kind n =
    get_or
    (false_kind
    ∷ true_kind
    ∷ variable_kind
    ∷ not_kind
    ∷ and_kind
    ∷ or_kind
    ∷ implies_kind
    ∷ equivalent_kind
    ∷ [])
    n
    unknown_formula

-- 01, "Effect kinds"
pub data EffectKind : Type 0 where
  empty_kind set_kind clear_kind both_kind under_kind unknown_effect : EffectKind

unfoldable pub effect_kind : ℕ → EffectKind
effect_kind n = get_or (empty_kind ∷ set_kind ∷ clear_kind ∷ both_kind ∷ under_kind ∷ []) n unknown_effect

-- An operator's row: four words (02, K2).
pub record Operator : Type 0 where
  pub precondition : ℕ
  pub effect : ℕ
  pub cost : ℕ
  pub percent : ℕ

abbrev pub operator_width : ℕ
operator_width = 4

-- the operator whose row has these words, in their order
abbrev pub operator : (precondition effect cost percent : ℕ) → Operator
operator p e c r = record { precondition = p; effect = e; cost = c; percent = r }

-- the same operator with another precondition and effect: cost and percent are kept
abbrev pub with_parts : Operator → (precondition effect : ℕ) → Operator
with_parts o p e = record { precondition = p; effect = e; cost = o.cost; percent = o.percent }

-- What a caller lends: the head, and for each table at least as many words (of the initial state: bytes) as the head counts.
pub record Lent : Type 0 where
  pub head : Head
  pub initial : List ℕ
  pub twins : List ℕ
  pub formulas : List ℕ
  pub effects : List ℕ
  pub operators : List ℕ

-- A task: the tables as rows. V is the length of the initial state and W that of the originals; "twin" is 01's word for an opposite
-- variable, and the twin row k names the original of variable V - W + k.
pub record Task : Type 0 where
  pub initial : List ℕ
  pub originals : List ℕ
  pub formulas : List Row
  pub effects : List Row
  pub operators : List Operator
  pub goal : ℕ

-- row i of a table of words: the words 3 × i, 3 × i + 1 and 3 × i + 2
unfoldable pub row_at : List ℕ → ℕ → Row
row_at words i = record { kind = get_or words (3 * i) 0; a = get_or words (3 * i + 1) 0; b = get_or words (3 * i + 2) 0 }

unfoldable pub operator_at : List ℕ → ℕ → Operator
operator_at words i =
    let at = operator_width * i in
    operator (get_or words at 0) (get_or words (at + 1) 0) (get_or words (at + 2) 0) (get_or words (at + 3) 0)

-- A row on request: that part of the lent table, its words; where the row is not wholly inside it, the empty part. Only the range is looked at.
unfoldable pub part : (width : ℕ) → List ℕ → ℕ → List ℕ
part width words i = cond (leb (width * i + width) (length words)) (take width (drop (width * i) words)) []

abbrev pub row_part : List ℕ → ℕ → List ℕ
row_part words i = part 3 words i

abbrev pub operator_part : List ℕ → ℕ → List ℕ
operator_part words i = part operator_width words i

-- what a call on tables is lent, from its arguments
abbrev pub lent : Head → (initial twins formulas effects operators : List ℕ) → Lent
lent h i w f e o = record { head = h; initial = i; twins = w; formulas = f; effects = e; operators = o }

-- The task that lent tables hold. What is lent beyond the counts does not belong to it.
unfoldable pub task_of : Lent → Task
task_of l =
    record {
      initial = take l.head.variables l.initial;
      originals = take l.head.twins l.twins;
      formulas = upto l.head.formulas (row_at l.formulas);
      effects = upto l.head.effects (row_at l.effects);
      operators = upto l.head.operators (operator_at l.operators);
      goal = l.head.goal;
    }
