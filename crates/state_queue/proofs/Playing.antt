-- Nodes are set one after the other until all play: the steps of the three loops. Assumes nothing.
use Prim.Native.Nat.{ℕ, ◌+◌, ◌*◌, ◌/◌, ◌≤◌, ◌<◌}
use native.Mathlib.Omega.{arith}
use native.Mathlib.Decide.{dec_lt, ℕ_discrete}
use mathlib.Core.Path.{◌≡◌, refl, sym, ◌∙◌}
use mathlib.Core.Bool.{Bool, true, false}
use mathlib.Core.Logic.{◌⊎◌, inl, inr}
use mathlib.Core.List.{List}
use lib.Dec.{ltb}
use lib.ListN.{length, get_or, set, length-set}
use borrow.Author.Tests.{ltb-true, ltb-false}
use Rattle.state_queue.specs.Inner.Queue.{key, winner, better, Over, Plays, Roomy, Sets, Waits, Played}
use Rattle.state_queue.proofs.Keys.{winner_state, better_other, better_first, stored_front, stored_key, stored_node, stored_other}
use Rattle.state_queue.proofs.Tournament.{over_falls, over_parent, state_plays, left_plays, right_plays, plays_on}

-- The nodes for which this holds play, and the words of the states are as they were.
pub record Playing (n : ℕ) (before words : List ℕ) (holds : ℕ → Type 0) : Type 0 where
  pub long : length words ≡ length before
  pub front : (j : ℕ) → j < 3 * n → get_or words j 0 ≡ get_or before j 0
  pub node : (i : ℕ) → 0 < i → i < n → holds i → Plays n (winner words n) (key words n) i

pub all_played : {n : ℕ} {before words : List ℕ} {holds : ℕ → Type 0} → ((i : ℕ) → 0 < i → i < n → holds i) → Playing n before words holds → Played n before words
all_played h p = record { queue = record { node = λ i a b. p.node i a b (h i a b) }; front = p.front }

pub roomy_on : {n : ℕ} {before words : List ℕ} → Roomy n before → length words ≡ length before → Roomy n words
roomy_on r e = record { some = r.some; limit = r.limit; room = omega (arith, r.room, e) }

-- The state of a child of node i that comes no later than that of the other child.
pub data Chosen (words : List ℕ) (n i x : ℕ) : Type 0 where
  from_left : x ≡ winner words n (2 * i) → key words n (winner words n (2 * i)) ≤ key words n (winner words n (2 * i + 1)) → Chosen words n i x
  from_right : x ≡ winner words n (2 * i + 1) → key words n (winner words n (2 * i + 1)) ≤ key words n (winner words n (2 * i)) → Chosen words n i x

pub better_chosen : (words : List ℕ) (n i : ℕ) → Chosen words n i (better words n (winner words n (2 * i)) (winner words n (2 * i + 1)))
better_chosen words n i = go (ltb (key words n b) (key words n a)) refl
  where
    a : ℕ
    a = winner words n (2 * i)

    b : ℕ
    b = winner words n (2 * i + 1)

    go : (t : Bool) → ltb (key words n b) (key words n a) ≡ t → Chosen words n i (better words n a b)
    go true t =
        let l = ltb-true (key words n b) (key words n a) t in
        from_right (sym (better_other words n a b t)) (omega (arith, l))
    go false t = from_left (sym (better_first words n a b t)) (ltb-false (key words n b) (key words n a) t)

-- A node below which all play.
module _ {n i : ℕ} {before words : List ℕ} {holds : ℕ → Type 0} (p : Playing n before words holds) (some : 0 < i) (inner : i < n) (h : (c : ℕ) → i < c → c < n → holds c) where
  pub child : (c : ℕ) → i < c → c < 2 * n → Plays n (winner words n) (key words n) c
  child c l b = go (dec_lt c n)
    where
      go : Dec (c < n) → Plays n (winner words n) (key words n) c
      go (yes d) = p.node c (omega arith) d (h c l d)
      go (no d) =
          let m : n ≤ c = omega arith in
          state_plays m b (sym (winner_state words n c m))

  left : Plays n (winner words n) (key words n) (2 * i)
  left = child (2 * i) (omega arith) (omega arith)

  right : Plays n (winner words n) (key words n) (2 * i + 1)
  right = child (2 * i + 1) (omega arith) (omega arith)

  pub may_be_set : Sets words n i
  may_be_set = record { some = some; inner = inner; left = left.state; right = right.state }

  -- It is set to the state of a child that comes no later than the other's.
  module _ (r : Roomy n words) {after : List ℕ} {x : ℕ} (chosen : Chosen words n i x) (e : after ≡ set words (3 * n + i) x) where
    keeps_key : (s : ℕ) → s < n → key after n s ≡ key words n s
    keeps_key s h = rw e (stored_key words n i x s h)

    keeps_node : (c : ℕ) → (c ≡ i → ⊥) → winner after n c ≡ winner words n c
    keeps_node c ne = rw e (stored_other words n i x c ne)

    names : winner after n i ≡ x
    names = rw e (stored_node words n i x inner (omega (arith, r.room)))

    other : (c : ℕ) → (c ≡ i → ⊥) → Plays n (winner words n) (key words n) c → Plays n (winner after n) (key after n) c
    other c ne q = plays_on (keeps_node c ne) (λ s h o. keeps_key s h) q

    now_left : Plays n (winner after n) (key after n) (2 * i)
    now_left = other (2 * i) (λ z. omega arith) left

    now_right : Plays n (winner after n) (key after n) (2 * i + 1)
    now_right = other (2 * i + 1) (λ z. omega arith) right

    set_plays : Plays n (winner after n) (key after n) i
    set_plays = go chosen
      where
        at_left : winner after n (2 * i) ≡ winner words n (2 * i)
        at_left = keeps_node (2 * i) (λ z. omega arith)

        at_right : winner after n (2 * i + 1) ≡ winner words n (2 * i + 1)
        at_right = keeps_node (2 * i + 1) (λ z. omega arith)

        left_key : key after n (winner after n (2 * i)) ≡ key words n (winner words n (2 * i))
        left_key = rw at_left (keeps_key (winner words n (2 * i)) left.state)

        right_key : key after n (winner after n (2 * i + 1)) ≡ key words n (winner words n (2 * i + 1))
        right_key = rw at_right (keeps_key (winner words n (2 * i + 1)) right.state)

        go : Chosen words n i x → Plays n (winner after n) (key after n) i
        go (from_left q l) = left_plays some inner now_left now_right (names ∙ q ∙ sym at_left) (omega (arith, left_key, right_key, l))
        go (from_right q l) = right_plays some inner now_left now_right (names ∙ q ∙ sym at_right) (omega (arith, left_key, right_key, l))

    -- one node more plays
    pub set_playing : {holds' : ℕ → Type 0} → ((c : ℕ) → holds' c → (c ≡ i → ⊥) → holds c) → Playing n before after holds'
    set_playing {holds'} more =
        record {
          long = rw e (length-set words (3 * n + i) x ∙ p.long);
          front = λ j h. rw e (stored_front words n i x j h ∙ p.front j h);
          node = λ c a b x. go c a b x (ℕ_discrete c i);
        }
      where
        go : (c : ℕ) → 0 < c → c < n → holds' c → Dec (c ≡ i) → Plays n (winner after n) (key after n) c
        go c a b x (yes q) = rw q set_plays
        go c a b x (no q) = other c q (p.node c a b (more c x q))

-- The nodes over one state, from the lowest on: those that are not over `node` play.
abbrev pub Away : ℕ → ℕ → Type 0
Away node i = Over node i → ⊥

pub away_begin : {n state : ℕ} {words : List ℕ} → Waits words n state → Playing n words words (Away ((n + state) / 2))
away_begin {n} {state} w =
    record {
      long = refl;
      front = λ j h. refl;
      node = λ i a b away. w.node i a b (λ o. go i b away (over_parent o));
    }
  where
    go : (i : ℕ) → i < n → Away ((n + state) / 2) i → (i ≡ n + state) ⊎ Over ((n + state) / 2) i → ⊥
    go i b away (inl q) = omega arith
    go i b away (inr o) = away o

pub away_child : {node c : ℕ} → node < c → Away node c
away_child h o = omega (arith, over_falls o)

pub away_more : {node : ℕ} (c : ℕ) → Away (node / 2) c → (c ≡ node → ⊥) → Away node c
away_more {node} c away ne o = go (over_parent o)
  where
    go : (c ≡ node) ⊎ Over (node / 2) c → ⊥
    go (inl q) = ne q
    go (inr p) = away p

pub away_end : (i : ℕ) → 0 < i → Away 0 i
away_end i h o = omega (arith, over_falls o)
