-- The queue of states: a tournament. Only the contracts of inner functions cite this file.
use Rattle.std.specs.Prelude.{ℕ, ◌+◌, ◌-◌, ◌*◌, ◌/◌, ◌≤◌, ◌<◌, ◌≡◌, Bool, true, false, cond, List, eqb, leb, ltb, length, get_or, set}

-- the cost by which a state is queued, from its word: the word is 0 if the state was taken, and else its cost and one
unfoldable pub queue_cost : ℕ → ℕ
queue_cost word = cond (eqb word 0) 4294967295 (word - 1)

-- a state is in the queue unless it was taken, or not reached, which is the largest word
unfoldable pub queued : ℕ → Bool
queued word = ltb (queue_cost word) 4294967294

-- what states are compared by: the cost, then the steps, of 32 bits
unfoldable pub key : List ℕ → ℕ → ℕ → ℕ
key words n s = queue_cost (get_or words s 0) * 4294967296 + get_or words (n + s) 0

-- the state that node i names; nodes n .. 2n - 1 are the states themselves
unfoldable pub winner : List ℕ → ℕ → ℕ → ℕ
winner words n i = cond (leb n i) (i - n) (get_or words (3 * n + i) 0)

-- of two states the one that comes first, a if none does
unfoldable pub better : List ℕ → (n a b : ℕ) → ℕ
better words n a b = cond (ltb (key words n b) (key words n a)) b a

-- node i stands over node m, or is m
pub data Over (m : ℕ) : ℕ → Type 0 where
  itself : (i : ℕ) → i ≡ m → Over m i
  parent : (i j : ℕ) → Over m j → i ≡ j / 2 → Over m i

-- Node i names a state below it that comes no later than any state below it.
pub record Plays (n : ℕ) (first key : ℕ → ℕ) (i : ℕ) : Type 0 where
  pub state : first i < n
  pub below : Over (n + first i) i
  pub least : (s : ℕ) → s < n → Over (n + s) i → key (first i) ≤ key s

-- n states, at most 1,024, and the words that they need
pub record Roomy (n : ℕ) (words : List ℕ) : Type 0 where
  pub some : 0 < n
  pub limit : n ≤ 1024
  pub room : 4 * n ≤ length words

-- every node plays
pub record Queue (words : List ℕ) (n : ℕ) : Type 0 where
  pub node : (i : ℕ) → 0 < i → i < n → Plays n (winner words n) (key words n) i

-- node i has children that name states
pub record Sets (words : List ℕ) (n i : ℕ) : Type 0 where
  pub some : 0 < i
  pub inner : i < n
  pub left : winner words n (2 * i) < n
  pub right : winner words n (2 * i + 1) < n

-- two nodes are the children of one
pub data Siblings (a : ℕ) : ℕ → Type 0 where
  right_of : (b : ℕ) → a ≡ 2 * (a / 2) → b ≡ 2 * (a / 2) + 1 → Siblings a b
  left_of : (b : ℕ) → a ≡ 2 * (a / 2) + 1 → b ≡ 2 * (a / 2) → Siblings a b

-- every node plays but those over one state
pub record Waits (words : List ℕ) (n state : ℕ) : Type 0 where
  pub there : state < n
  pub node : (i : ℕ) → 0 < i → i < n → (Over (n + state) i → ⊥) → Plays n (winner words n) (key words n) i

-- every node plays, one state aside
pub record NearlyPlays (n : ℕ) (first key : ℕ → ℕ) (state i : ℕ) : Type 0 where
  pub state_below : first i < n
  pub below : Over (n + first i) i
  pub least : (s : ℕ) → s < n → (s ≡ state → ⊥) → Over (n + s) i → key (first i) ≤ key s

pub record Nearly (words : List ℕ) (n state : ℕ) : Type 0 where
  pub there : state < n
  pub node : (i : ℕ) → 0 < i → i < n → NearlyPlays n (winner words n) (key words n) state i

-- a node that names a state, and a state that may be named there
pub record Climbs (words : List ℕ) (n state node : ℕ) : Type 0 where
  pub there : state < n
  pub inner : node < n
  pub named : winner words n node < n

-- what one node makes of it, and whether those above are looked at: it names the state already; it names it now; another state stays
pub data Climbed (n state node : ℕ) (before after : List ℕ) : Bool → Type 0 where
  named_already : winner before n node ≡ state → after ≡ before → Climbed n state node before after true
  named_now :
      key before n state < key before n (winner before n node)
      → after ≡ set before (3 * n + node) state
      → Climbed n state node before after true
  other_stays :
      (winner before n node ≡ state → ⊥)
      → key before n (winner before n node) ≤ key before n state
      → after ≡ before
      → Climbed n state node before after false

-- The cost and the steps of one state alone have changed, and what is said of how states were reached.
pub record Changed (n state : ℕ) (before after : List ℕ) : Type 0 where
  pub costs : (s : ℕ) → s < n → (s ≡ state → ⊥) → get_or after s 0 ≡ get_or before s 0
  pub steps : (s : ℕ) → s < n → (s ≡ state → ⊥) → get_or after (n + s) 0 ≡ get_or before (n + s) 0
  pub nodes : (i : ℕ) → i < n → get_or after (3 * n + i) 0 ≡ get_or before (3 * n + i) 0

-- Every node plays now, and the words of the states are as they were.
pub record Played (n : ℕ) (before after : List ℕ) : Type 0 where
  pub queue : Queue after n
  pub front : (j : ℕ) → j < 3 * n → get_or after j 0 ≡ get_or before j 0
