-- The code's words and tests are the definitions': costs, keys, nodes. Assumes nothing.
use Prim.Native.Nat.{ℕ, ◌+◌, ◌-◌, ◌*◌, ◌≤◌, ◌<◌}
use native.Mathlib.Omega.{arith}
use native.Mathlib.Decide.{dec_lt}
use mathlib.Core.Path.{◌≡◌, sym, ◌∙◌}
use mathlib.Core.Bool.{true, false}
use mathlib.Core.List.{List}
use lib.Dec.{ltb}
use lib.ListN.{length, get_or, set}
use lib.Seq.{get_or-set_same, get_or-set_other}
use borrow.Author.Tests.{le-leb, lt-leb, eq-eqb, ne_eqb}
use Rattle.state_queue.specs.Inner.Queue.{queue_cost, key, winner, better}

pub cost_taken : (word : ℕ) → word ≡ 0 → 4294967295 ≡ queue_cost word
unfolding queue_cost
cost_taken word e = rw (eq-eqb word 0 e)

pub cost_else : (word : ℕ) → (word ≡ 0 → ⊥) → word - 1 ≡ queue_cost word
unfolding queue_cost
cost_else word h = rw (ne_eqb word 0 h)

pub winner_state : (words : List ℕ) (n i : ℕ) → n ≤ i → i - n ≡ winner words n i
unfolding winner
winner_state words n i h = rw (le-leb n i h)

pub winner_node : (words : List ℕ) (n i : ℕ) → i < n → get_or words (3 * n + i) 0 ≡ winner words n i
unfolding winner
winner_node words n i h = rw (lt-leb n i h)

pub better_other : (words : List ℕ) (n a b : ℕ) → ltb (key words n b) (key words n a) ≡ true → b ≡ better words n a b
unfolding better
better_other words n a b e = rw e

pub better_first : (words : List ℕ) (n a b : ℕ) → ltb (key words n b) (key words n a) ≡ false → a ≡ better words n a b
unfolding better
better_first words n a b e = rw e

-- the words of the states decide the keys
pub key_front : {n : ℕ} (before after : List ℕ) → ((j : ℕ) → j < 3 * n → get_or after j 0 ≡ get_or before j 0) → (s : ℕ) → s < n → key after n s ≡ key before n s
unfolding key
key_front {n} before after same s h = rw (same s (omega arith), same (n + s) (omega arith))

-- a node is stored
module _ (words : List ℕ) (n node x : ℕ) where
  pub stored_front : (j : ℕ) → j < 3 * n → get_or (set words (3 * n + node) x) j 0 ≡ get_or words j 0
  stored_front j h = get_or-set_other words (3 * n + node) j x 0 (λ z. omega arith)

  pub stored_key : (s : ℕ) → s < n → key (set words (3 * n + node) x) n s ≡ key words n s
  stored_key s h = key_front words (set words (3 * n + node) x) stored_front s h

  pub stored_node : node < n → 3 * n + node < length words → winner (set words (3 * n + node) x) n node ≡ x
  stored_node h room =
      sym (winner_node (set words (3 * n + node) x) n node h) ∙ get_or-set_same words (3 * n + node) x 0 room

  pub stored_other : (i : ℕ) → (i ≡ node → ⊥) → winner (set words (3 * n + node) x) n i ≡ winner words n i
  stored_other i ne = go (dec_lt i n)
    where
      go : Dec (i < n) → winner (set words (3 * n + node) x) n i ≡ winner words n i
      go (yes h) =
          sym (winner_node (set words (3 * n + node) x) n i h)
          ∙ get_or-set_other words (3 * n + node) (3 * n + i) x 0 (λ z. ne (omega arith))
          ∙ winner_node words n i h
      go (no h) =
          let l : n ≤ i = omega arith in
          sym (winner_state (set words (3 * n + node) x) n i l) ∙ winner_state words n i l
