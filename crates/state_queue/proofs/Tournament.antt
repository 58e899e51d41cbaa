-- The tournament over n states: what stands over a node, and how nodes play again after a change. Assumes nothing.
use Prim.Native.Nat.{ℕ, ◌+◌, ◌-◌, ◌*◌, ◌/◌, ◌≤◌, ◌<◌}
use native.Mathlib.Omega.{arith}
use native.Mathlib.Decide.{ℕ_discrete}
use mathlib.Core.Path.{◌≡◌, ◌∙◌}
use mathlib.Core.Logic.{◌⊎◌, inl, inr}
use Rattle.state_queue.specs.Inner.Queue.{Over, itself, parent, Plays, NearlyPlays}

-- Numbers fall on the way up.
pub over_falls : {m i : ℕ} → Over m i → i ≤ m
over_falls (itself i e) = omega arith
over_falls (parent i j o e) = omega (arith, over_falls o)

-- Over a state there is no other state.
pub over_state : {n m i : ℕ} → Over m i → m < 2 * n → n ≤ i → i ≡ m
over_state (itself i e) h l = e
over_state (parent i j o e) h l = absurd (omega (arith, over_falls o))

-- The way up goes by the parent.
pub over_parent : {m i : ℕ} → Over m i → (i ≡ m) ⊎ Over (m / 2) i
over_parent (itself i e) = inl e
over_parent {m} (parent i j o e) = go (over_parent o)
  where
    go : (j ≡ m) ⊎ Over (m / 2) j → (i ≡ m) ⊎ Over (m / 2) i
    go (inl q) = inr (itself i (e ∙ rw q))
    go (inr p) = inr (parent i j p e)

-- What stands over a node stands over one of its children, or the node is at the bottom.
pub over_child : {m i : ℕ} → Over m i → i < m → Over m (2 * i) ⊎ Over m (2 * i + 1)
over_child (itself i e) h = absurd (omega arith)
over_child {m} (parent i j o e) h = go (ℕ_discrete j (2 * i))
  where
    go : Dec (j ≡ 2 * i) → Over m (2 * i) ⊎ Over m (2 * i + 1)
    go (yes q) = inl (rw (← q) o)
    go (no q) =
        let p : j ≡ 2 * i + 1 = omega arith in
        inr (rw (← p) o)

pub over_trans : {m j i : ℕ} → Over m j → Over j i → Over m i
over_trans {m} o (itself i e) = rw e o
over_trans o (parent i k p e) = parent i k (over_trans o p) e

pub over_left : {m i : ℕ} → Over m (2 * i) → Over m i
over_left {m} {i} o = parent i (2 * i) o (omega arith)

pub over_right : {m i : ℕ} → Over m (2 * i + 1) → Over m i
over_right {m} {i} o = parent i (2 * i + 1) o (omega arith)

-- A state plays for itself.
pub state_plays : {n i : ℕ} {first key : ℕ → ℕ} → n ≤ i → i < 2 * n → first i ≡ i - n → Plays n first key i
state_plays {n} {i} {first} {key} l h e =
    record {
      state = omega arith;
      below = itself i (omega arith);
      least = λ s b o.
          let q : first i ≡ s = omega (arith, over_state o (omega arith) l) in
          rw q (omega arith);
    }

-- A node plays that names the better of its children's states.
module _ {n i : ℕ} {first key : ℕ → ℕ} (some : 0 < i) (inner : i < n) (left : Plays n first key (2 * i)) (right : Plays n first key (2 * i + 1)) where
  both_least : (x s : ℕ) → key x ≤ key (first (2 * i)) → key x ≤ key (first (2 * i + 1)) → s < n → Over (n + s) i → key x ≤ key s
  both_least x s a b h o = go (over_child o (omega arith))
    where
      go : Over (n + s) (2 * i) ⊎ Over (n + s) (2 * i + 1) → key x ≤ key s
      go (inl p) = omega (arith, left.least s h p)
      go (inr p) = omega (arith, right.least s h p)

  pub left_plays : first i ≡ first (2 * i) → key (first (2 * i)) ≤ key (first (2 * i + 1)) → Plays n first key i
  left_plays e l =
      record {
        state = omega (arith, left.state);
        below = rw e (over_left left.below);
        least = λ s h o. rw e (both_least (first (2 * i)) s (omega arith) l h o);
      }

  pub right_plays : first i ≡ first (2 * i + 1) → key (first (2 * i + 1)) ≤ key (first (2 * i)) → Plays n first key i
  right_plays e l =
      record {
        state = omega (arith, right.state);
        below = rw e (over_right right.below);
        least = λ s h o. rw e (both_least (first (2 * i + 1)) s l (omega arith) h o);
      }

-- A node that names the same state as before, all keys below it being as before, plays as before.
pub plays_on :
    {n i : ℕ} {first key first' key' : ℕ → ℕ}
    → first' i ≡ first i
    → ((s : ℕ) → s < n → Over (n + s) i → key' s ≡ key s)
    → Plays n first key i
    → Plays n first' key' i
plays_on {n} {i} {first} {key} {first'} {key'} e k p =
    record {
      state = omega (arith, p.state);
      below = rw e p.below;
      least = λ s h o.
          rw (e, k (first i) p.state p.below, k s h o) (p.least s h o);
    }

-- The key of one state changes. Nodes that do not stand over it play on; if it falls, all nodes play, that state aside.
module _ {n i state : ℕ} {first key first' key' : ℕ → ℕ} (e : first' i ≡ first i) (k : (s : ℕ) → s < n → (s ≡ state → ⊥) → key' s ≡ key s) (p : Plays n first key i) where
  pub waits_on : (Over (n + state) i → ⊥) → Plays n first' key' i
  waits_on away = plays_on e (λ s h o. k s h (λ q. away (rw (← q) o))) p

  pub nearly_plays : key' state ≤ key state → NearlyPlays n first' key' state i
  nearly_plays f =
      record {
        state_below = omega (arith, p.state);
        below = rw e p.below;
        least = λ s h ne o. go s h ne o (ℕ_discrete (first i) state);
      }
    where
      go : (s : ℕ) → s < n → (s ≡ state → ⊥) → Over (n + s) i → Dec (first i ≡ state) → key' (first' i) ≤ key' s
      go s h ne o (yes q) =
          let l : key state ≤ key s = rw q at (p.least s h o) in
          rw (e, q) (omega (arith, l, f, k s h ne))
      go s h ne o (no q) = rw (e, k (first i) p.state q, k s h ne) (p.least s h o)
