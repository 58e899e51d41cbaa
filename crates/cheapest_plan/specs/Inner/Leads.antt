-- Where a list of operator numbers leads, said without a run's counts: what laws of lists, and of the search, are stated over.
use Rattle.std.specs.Prelude.{ℕ, ◌+◌, ◌<◌, ◌≡◌, true, List, [], ◌∷◌}
use Rattle.task.specs.Table.{Task}
use Rattle.task.specs.Semantics.{apply}
use Rattle.task.specs.Run.{effect_of_operator, applicable, charge}

-- the state that operator o leaves
unfoldable pub next : Task → List ℕ → ℕ → List ℕ
next t s o = apply s (effect_of_operator t o)

-- the numbers are all carried out from s: they lead to the state `to`, and are charged c in all
pub data Leads (t : Task) : (s numbers to : List ℕ) → (c : ℕ) → Type 0 where
  stays : {s to : List ℕ} {c : ℕ} → s ≡ to → 0 ≡ c → Leads t s [] to c
  goes :
      {s to numbers : List ℕ} {o c d : ℕ}
      → applicable t s o ≡ true
      → Leads t (next t s o) numbers to d
      → charge t s o + d ≡ c
      → Leads t s (o ∷ numbers) to c

-- each number of a list is below o
pub data Below (o : ℕ) : List ℕ → Type 0 where
  nothing : Below o []
  number : {a : ℕ} {rest : List ℕ} → a < o → Below o rest → Below o (a ∷ rest)
