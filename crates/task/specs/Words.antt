-- The words of a task's tables: what a writer reads, and what a reader or a compiler leaves in the tables that it is lent.
use Rattle.std.specs.Prelude.{ℕ, ◌-◌, List, [], ◌∷◌, ◌++◌, length, replicate}
use Rattle.task.specs.declared.Head.{Head}
use Rattle.task.specs.Table.{Row, Operator, Lent, Task}

-- what each element comes to, one after another
unfoldable pub joined : {A : Type 0} → (A → List ℕ) → List A → List ℕ
joined f [] = []
joined f (x ∷ rest) = f x ++ joined f rest

-- words at the front of n, and 0 in all past them: what a call leaves in a table or buffer of n that is longer than its answer
unfoldable pub padded : ℕ → List ℕ → List ℕ
padded n words = words ++ replicate (n - length words) 0

-- a formula's or an effect's row: its three words
unfoldable pub row_words : Row → List ℕ
row_words r = r.kind ∷ r.a ∷ r.b ∷ []

-- an operator's row: its four words
unfoldable pub operator_row_words : Operator → List ℕ
operator_row_words o = o.precondition ∷ o.effect ∷ o.cost ∷ o.percent ∷ []

-- a table of formulas or of effects, flat
unfoldable pub words_of : List Row → List ℕ
words_of rows = joined row_words rows

-- a table of operators, flat
unfoldable pub operator_words : List Operator → List ℕ
operator_words operators = joined operator_row_words operators

-- the counts of a task, and its goal
unfoldable pub head_of : Task → Head
head_of t =
    record {
      variables = length t.initial;
      twins = length t.originals;
      formulas = length t.formulas;
      effects = length t.effects;
      operators = length t.operators;
      goal = t.goal;
    }

-- a task as it is lent, in tables that are exactly long enough
unfoldable pub lent_of : Task → Lent
lent_of t =
    record {
      head = head_of t;
      initial = t.initial;
      twins = t.originals;
      formulas = words_of t.formulas;
      effects = words_of t.effects;
      operators = operator_words t.operators;
    }
