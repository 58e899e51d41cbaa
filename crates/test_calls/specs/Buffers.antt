-- Words that an exported call tells through a lent buffer.
use Rattle.std.specs.Prelude.{ℕ, Bool, cond, List, [], ◌∷◌, length, eqb}
use Rattle.task.specs.declared.Head.{Head}

-- the words, where the buffer has just their number; else what stood there
unfoldable pub told_words : {A : Type 0} → (words before : List A) → List A
told_words words before = cond (eqb (length before) (length words)) words before

-- a flag as a word
abbrev pub flag_word : Bool → ℕ
flag_word b = cond b 1 0

-- V W F E O goal
unfoldable pub head_words : Head → List ℕ
head_words h = h.variables ∷ h.twins ∷ h.formulas ∷ h.effects ∷ h.operators ∷ h.goal ∷ []

-- what a refusal tells for a head
abbrev pub no_head : Head
no_head = record { variables = 0; twins = 0; formulas = 0; effects = 0; operators = 0; goal = 0 }
