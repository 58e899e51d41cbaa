-- What a queue gives and what a change of one state leaves of it. Assumes nothing.
use Prim.Native.Nat.{ℕ, zero, suc, ◌+◌, ◌/◌, ◌≤◌, ◌<◌}
use native.Mathlib.Omega.{arith}
use native.Mathlib.Decide.{dec_lt, ℕ_discrete}
use mathlib.Core.Path.{◌≡◌, refl, sym, ◌∙◌}
use mathlib.Core.List.{List}
use Rattle.state_queue.specs.Inner.Queue.{key, winner, Over, itself, parent, Plays, Queue, Waits, Nearly, Changed}
use Rattle.state_queue.proofs.Keys.{winner_state, winner_node}
use Rattle.state_queue.proofs.Tournament.{over_trans, state_plays, waits_on, nearly_plays}

-- Node 1 stands over all.
root_within : (fuel m : ℕ) → m ≤ fuel → 0 < m → Over m 1
root_within zero m h l = absurd (omega arith)
root_within (suc fuel) m h l = go (ℕ_discrete m 1) (λ b. root_within fuel (m / 2) (omega arith) (omega arith))
  where
    go : Dec (m ≡ 1) → (1 < m → Over (m / 2) 1) → Over m 1
    go (yes q) r = itself 1 (sym q)
    go (no q) r = over_trans (parent (m / 2) m (itself m refl) refl) (r (omega arith))

-- The root of a queue names a state that comes no later than any.
module _ {words : List ℕ} {n : ℕ} (q : Queue words n) (some : 0 < n) where
  root : Plays n (winner words n) (key words n) 1
  root = go (dec_lt 1 n)
    where
      go : Dec (1 < n) → Plays n (winner words n) (key words n) 1
      go (yes h) = q.node 1 (omega arith) h
      go (no h) =
          let l : n ≤ 1 = omega arith in
          state_plays l (omega arith) (sym (winner_state words n 1 l))

  pub root_state : winner words n 1 < n
  root_state = root.state

  pub root_least : (s : ℕ) → s < n → key words n (winner words n 1) ≤ key words n s
  root_least s h = root.least s h (root_within (n + s) (n + s) (omega arith) (omega arith))

-- One state's words changed.
module _ {n state : ℕ} {before after : List ℕ} (c : Changed n state before after) (q : Queue before n) (there : state < n) where
  same_node : (i : ℕ) → i < n → winner after n i ≡ winner before n i
  same_node i h = sym (winner_node after n i h) ∙ c.nodes i h ∙ winner_node before n i h

  same_key : (s : ℕ) → s < n → (s ≡ state → ⊥) → key after n s ≡ key before n s
  unfolding key
  same_key s h ne = rw (c.costs s h ne, c.steps s h ne)

  pub changed_waits : Waits after n state
  changed_waits =
      record { there = there; node = λ i a b away. waits_on (same_node i b) same_key (q.node i a b) away }

  pub changed_nearly : key after n state ≤ key before n state → Nearly after n state
  changed_nearly f =
      record { there = there; node = λ i a b. nearly_plays (same_node i b) same_key (q.node i a b) f }
