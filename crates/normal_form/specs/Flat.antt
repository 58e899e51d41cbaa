-- Flat effects (000, "Flat Effect"): a conjunctive effect whose conjuncts are atoms, each under its condition, and no atom occurs twice.
use Rattle.std.specs.Prelude.{◌≡◌, List, [], ◌∷◌, ◌++◌}
use Rattle.task.specs.Semantics.{Formula, Atom, Effect, empty, atomic, both, under}

-- Atoms under their conditions, joined by "both", and the atoms in their order. "set v0" alone is none: 000 makes every conjunct conditional.
pub data Conjuncts : Effect → List Atom → Type 0 where
  one : (p : Formula) (l : Atom) → Conjuncts (under p (atomic l)) (l ∷ [])
  more : {e f : Effect} {ls ms : List Atom} → Conjuncts e ls → Conjuncts f ms → Conjuncts (both e f) (ls ++ ms)

-- an atom is none of these
abbrev pub Absent : Atom → List Atom → Type 0
Absent l [] = Unit
Absent l (m ∷ ms) = (l ≡ m → ⊥) × Absent l ms

-- no atom twice: "set v0 under v1, and set v0 under v2" is not flat
abbrev pub Distinct : List Atom → Type 0
Distinct [] = Unit
Distinct (l ∷ ls) = Absent l ls × Distinct ls

-- flat: of no conjunct, the empty effect, or of one or more
pub data Flat : Effect → Type 0 where
  nothing : Flat empty
  conjunctive : {e : Effect} {atoms : List Atom} → Conjuncts e atoms → Distinct atoms → Flat e
