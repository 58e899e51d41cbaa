-- The words of one state have changed: from the state up, each node over it is set. Assumes nothing.
use Prim.Native.Nat.{ℕ, ◌+◌, ◌-◌, ◌*◌, ◌/◌, ◌≤◌, ◌<◌}
use native.Mathlib.Omega.{arith}
use mathlib.Core.Path.{◌≡◌, refl, sym, ap, ◌∙◌}
use mathlib.Core.Logic.{◌⊎◌, inl, inr}
use mathlib.Core.List.{List}
use lib.ListN.{set}
use Rattle.state_queue.specs.Inner.Queue.{key, winner, Plays, Roomy, Siblings, right_of, left_of, Waits, Played}
use Rattle.state_queue.proofs.Keys.{winner_state, stored_key, stored_node}
use Rattle.state_queue.proofs.Playing.{Playing, Chosen, from_left, from_right, child, set_playing, all_played, Away, away_begin, away_child, away_more, away_end}

-- The loop's invariant: all play but the nodes over the one reached, which names `first`, of this key.
pub record Lowering (n : ℕ) (before words : List ℕ) (first first_key node : ℕ) : Type 0 where
  pub some : 0 < node
  pub bottom : node < 2 * n
  pub names : first ≡ winner words n node
  pub its_key : first_key ≡ key words n first
  pub playing : Playing n before words (Away (node / 2))

pub lowering_begin :
    {n state first_key : ℕ} {words : List ℕ}
    → Waits words n state
    → first_key ≡ key words n state
    → Lowering n words words state first_key (n + state)
lowering_begin {n} {state} {words = words} w e =
    let names : n + state - n ≡ winner words n (n + state) = winner_state words n (n + state) (omega arith) in
    record {
      some = omega (arith, w.there);
      bottom = omega (arith, w.there);
      names = omega (arith, names);
      its_key = e;
      playing = away_begin w;
    }

-- a node's sibling
pub beside_bottom : {node beside : ℕ} (n : ℕ) → Siblings node beside → node < 2 * n → beside < 2 * n
beside_bottom n (right_of b e f) h = omega arith
beside_bottom n (left_of b e f) h = omega arith

beside_below : {node beside : ℕ} → Siblings node beside → 1 < node → node / 2 < beside
beside_below (right_of b e f) h = omega arith
beside_below (left_of b e f) h = omega arith

-- the state that comes first of two siblings'
chosen_left :
    {n i : ℕ} (words : List ℕ) (a b x y : ℕ)
    → a ≡ 2 * i
    → b ≡ 2 * i + 1
    → x ≡ winner words n a
    → y ≡ winner words n b
    → key words n x ≤ key words n y
    → Chosen words n i x
chosen_left {n} {i} words a b x y e f p q l =
    let left : x ≡ winner words n (2 * i) = p ∙ ap (winner words n) e in
    let right : y ≡ winner words n (2 * i + 1) = q ∙ ap (winner words n) f in
    from_left left (rw (← left, ← right) l)

chosen_right :
    {n i : ℕ} (words : List ℕ) (a b x y : ℕ)
    → a ≡ 2 * i
    → b ≡ 2 * i + 1
    → x ≡ winner words n a
    → y ≡ winner words n b
    → key words n y ≤ key words n x
    → Chosen words n i y
chosen_right {n} {i} words a b x y e f p q l =
    let left : x ≡ winner words n (2 * i) = p ∙ ap (winner words n) e in
    let right : y ≡ winner words n (2 * i + 1) = q ∙ ap (winner words n) f in
    from_right right (rw (← left, ← right) l)

chosen :
    {n node beside x y : ℕ} (words : List ℕ)
    → Siblings node beside
    → x ≡ winner words n node
    → y ≡ winner words n beside
    → key words n x ≤ key words n y
    → Chosen words n (node / 2) x
chosen {node = node} {x = x} {y} words (right_of b e f) p q l = chosen_left words node b x y e f p q l
chosen {node = node} {x = x} {y} words (left_of b e f) p q l = chosen_right words b node y x f e q p l

chosen_beside :
    {n node beside x y : ℕ} (words : List ℕ)
    → Siblings node beside
    → x ≡ winner words n node
    → y ≡ winner words n beside
    → key words n y ≤ key words n x
    → Chosen words n (node / 2) y
chosen_beside {node = node} {x = x} {y} words (right_of b e f) p q l = chosen_right words node b x y e f p q l
chosen_beside {node = node} {x = x} {y} words (left_of b e f) p q l = chosen_left words b node y x f e q p l

-- a node above which there is another
module _ {n first first_key node : ℕ} {before words : List ℕ} (w : Lowering n before words first first_key node) (more : 1 < node) where
  above_child : (c : ℕ) → node / 2 < c → c < 2 * n → Plays n (winner words n) (key words n) c
  above_child c l b = child w.playing (omega arith) (omega (arith, w.bottom)) (λ c l b. away_child l) c l b

  lowering_first : first < n
  lowering_first =
      let p = above_child node (omega arith) w.bottom in
      omega (arith, w.names, p.state)

  -- the other state, and the one of the two that is named above
  module _ {beside other : ℕ} (s : Siblings node beside) (q : other ≡ winner words n beside) where
    pub lowering_other : other < n
    lowering_other =
        let p = above_child beside (beside_below s more) (beside_bottom n s w.bottom) in
        omega (arith, q, p.state)

    stored :
        Roomy n words
        → {x k : ℕ}
        → x < n
        → k ≡ key words n x
        → Chosen words n (node / 2) x
        → Lowering n before (set words (3 * n + node / 2) x) x k (node / 2)
    stored r {x} {k} there e c =
        let inner : node / 2 < n = omega (arith, w.bottom) in
        record {
          some = omega arith;
          bottom = omega (arith, w.bottom);
          names = sym (stored_node words n (node / 2) x inner (omega (arith, r.room)));
          its_key = e ∙ sym (stored_key words n (node / 2) x x there);
          playing = set_playing w.playing (omega arith) inner (λ c l b. away_child l) r c refl away_more;
        }

    -- the state that comes first and its key, by whether the other comes before
    module _ {other_key x k : ℕ} where
      pub lowering_named :
          ((other_key < first_key) × (x ≡ other) × (k ≡ other_key)) ⊎ ((first_key ≤ other_key) × (x ≡ first) × (k ≡ first_key)) → x < n
      lowering_named (inl c) = rw c.1 lowering_other
      lowering_named (inr c) = rw c.1 lowering_first

      pub lowering_on :
          Roomy n words
          → other_key ≡ key words n other
          → ((other_key < first_key) × (x ≡ other) × (k ≡ other_key)) ⊎ ((first_key ≤ other_key) × (x ≡ first) × (k ≡ first_key))
          → Lowering n before (set words (3 * n + node / 2) x) x k (node / 2)
      lowering_on r e (inl c) =
          let l = c.0 in
          rw (c.1, c.2) (stored r lowering_other e (chosen_beside words s w.names q (omega (arith, w.its_key, e, l))))
      lowering_on r e (inr c) =
          let l = c.0 in
          rw (c.1, c.2) (stored r lowering_first w.its_key (chosen words s w.names q (omega (arith, w.its_key, e, l))))

-- at the root
pub lowered : {n first first_key node : ℕ} {before words : List ℕ} → Lowering n before words first first_key node → node ≤ 1 → Played n before words
lowered {node = node} w l =
    let z : node / 2 ≡ 0 = omega (arith, l) in
    all_played (λ i a b. rw z (away_end i a)) w.playing
