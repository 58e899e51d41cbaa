-- One state comes no later than before: it goes up as far as it comes first. Assumes nothing.
use Prim.Native.Nat.{ℕ, ◌+◌, ◌*◌, ◌/◌, ◌≤◌, ◌<◌}
use native.Mathlib.Omega.{arith}
use native.Mathlib.Decide.{dec_le, ℕ_discrete}
use mathlib.Core.Path.{◌≡◌, refl, ◌∙◌}
use mathlib.Core.Logic.{◌⊎◌, inl, inr}
use mathlib.Core.Bool.{true, false}
use mathlib.Core.List.{List}
use lib.ListN.{length, get_or, set, length-set}
use Rattle.state_queue.specs.Inner.Queue.{key, winner, Over, itself, parent, Roomy, NearlyPlays, Nearly, Climbs, Climbed, named_already, named_now, other_stays, Played}
use Rattle.state_queue.proofs.Keys.{stored_front, stored_key, stored_node, stored_other}
use Rattle.state_queue.proofs.Tournament.{over_parent, over_trans}
use Rattle.state_queue.proofs.Playing.{Away, away_more, away_end}

-- The loop's invariant: all nodes play, the state aside; those over it that were passed name no state that comes later than it.
pub record Raising (n : ℕ) (before words : List ℕ) (state node : ℕ) : Type 0 where
  pub long : length words ≡ length before
  pub front : (j : ℕ) → j < 3 * n → get_or words j 0 ≡ get_or before j 0
  pub there : state < n
  pub inner : node < n
  pub way : Over (n + state) node
  pub nearly : (i : ℕ) → 0 < i → i < n → NearlyPlays n (winner words n) (key words n) state i
  pub passed : (i : ℕ) → 0 < i → i < n → Away node i → Over (n + state) i → key words n (winner words n i) ≤ key words n state

pub raising_begin : {n state : ℕ} {words : List ℕ} → Nearly words n state → Raising n words words state ((n + state) / 2)
raising_begin {n} {state} {words} w =
    record {
      long = refl;
      front = λ j h. refl;
      there = w.there;
      inner = omega (arith, w.there);
      way = parent ((n + state) / 2) (n + state) (itself (n + state) refl) refl;
      nearly = w.node;
      passed = λ i a b away o. absurd (go i b away (over_parent o));
    }
  where
    go : (i : ℕ) → i < n → Away ((n + state) / 2) i → (i ≡ n + state) ⊎ Over ((n + state) / 2) i → ⊥
    go i b away (inl q) = omega arith
    go i b away (inr o) = away o

module _ {n state node : ℕ} {before words : List ℕ} (r : Raising n before words state node) where
  -- the node names the state itself
  pub raising_on : winner words n node ≡ state → Raising n before words state (node / 2)
  raising_on e =
      record {
        long = r.long;
        front = r.front;
        there = r.there;
        inner = omega (arith, r.inner);
        way = parent (node / 2) node r.way refl;
        nearly = r.nearly;
        passed = λ i a b away o. go i a b away o (ℕ_discrete i node);
      }
    where
      go :
          (i : ℕ) → 0 < i → i < n → Away (node / 2) i → Over (n + state) i → Dec (i ≡ node) → key words n (winner words n i) ≤ key words n state
      go i a b away o (yes q) = rw (q, e) (omega arith)
      go i a b away o (no q) = r.passed i a b (away_more i away q) o

  -- the state comes before the one that the node names
  module _ (roomy : Roomy n words) (some : 0 < node) (l : key words n state < key words n (winner words n node)) where
    keeps : (s : ℕ) → s < n → key (set words (3 * n + node) state) n s ≡ key words n s
    keeps s h = stored_key words n node state s h

    names : winner (set words (3 * n + node) state) n node ≡ state
    names = stored_node words n node state r.inner (omega (arith, r.inner, roomy.room))

    nearly_set : NearlyPlays n (winner (set words (3 * n + node) state) n) (key (set words (3 * n + node) state) n) state node
    nearly_set =
        record {
          state_below = omega (arith, names, r.there);
          below = rw names r.way;
          least = λ s h ne o.
              rw (names, keeps state r.there, keeps s h)
              (omega (arith, l, (r.nearly node some r.inner).least s h ne o));
        }

    nearly_other :
        (i : ℕ)
        → (i ≡ node → ⊥)
        → NearlyPlays n (winner words n) (key words n) state i
        → NearlyPlays n (winner (set words (3 * n + node) state) n) (key (set words (3 * n + node) state) n) state i
    nearly_other i q p =
        let e = stored_other words n node state i q in
        record {
          state_below = omega (arith, e, p.state_below);
          below = rw e p.below;
          least = λ s h ne o. rw (e, keeps (winner words n i) p.state_below, keeps s h) (p.least s h ne o);
        }

    pub raising_set : Raising n before (set words (3 * n + node) state) state (node / 2)
    raising_set =
        record {
          long = length-set words (3 * n + node) state ∙ r.long;
          front = λ j h. stored_front words n node state j h ∙ r.front j h;
          there = r.there;
          inner = omega (arith, r.inner);
          way = parent (node / 2) node r.way refl;
          nearly = λ i a b. near i a b (ℕ_discrete i node);
          passed = λ i a b away o. go i a b away o (ℕ_discrete i node);
        }
      where
        near :
            (i : ℕ) → 0 < i → i < n → Dec (i ≡ node) → NearlyPlays n (winner (set words (3 * n + node) state) n) (key (set words (3 * n + node) state) n) state i
        near i a b (yes q) = rw q nearly_set
        near i a b (no q) = nearly_other i q (r.nearly i a b)

        go :
            (i : ℕ)
            → 0 < i
            → i < n
            → Away (node / 2) i
            → Over (n + state) i
            → Dec (i ≡ node)
            → key (set words (3 * n + node) state) n (winner (set words (3 * n + node) state) n i) ≤ key (set words (3 * n + node) state) n state
        go i a b away o (yes q) = rw (q, names) (omega arith)
        go i a b away o (no q) =
            rw (stored_other words n node state i q, keeps (winner words n i) (r.nearly i a b).state_below, keeps state r.there)
            (r.passed i a b (away_more i away q) o)

  -- all play if each node over the state names one that comes no later
  played :
      ((i : ℕ) → 0 < i → i < n → Over (n + state) i → key words n (winner words n i) ≤ key words n state) → Played n before words
  played least =
      record {
        queue = record { node = λ i a b. record { state = (r.nearly i a b).state_below; below = (r.nearly i a b).below; least = λ s h o. go i a b s h o (ℕ_discrete s state) } };
        front = r.front;
      }
    where
      go : (i : ℕ) → 0 < i → i < n → (s : ℕ) → s < n → Over (n + s) i → Dec (s ≡ state) → key words n (winner words n i) ≤ key words n s
      go i a b s h o (yes q) = rw q (least i a b (rw q at o))
      go i a b s h o (no q) = (r.nearly i a b).least s h q o

  -- at the top
  pub raised : node ≡ 0 → Played n before words
  raised z = played (λ i a b o. r.passed i a b (rw z (away_end i a)) o)

  -- the node names another state that comes no later: nothing above changes
  pub raised_here : 0 < node → (winner words n node ≡ state → ⊥) → key words n (winner words n node) ≤ key words n state → Played n before words
  raised_here some ne l = played (λ i a b o. go i a b o (dec_le (key words n (winner words n i)) (key words n state)))
    where
      go :
          (i : ℕ)
          → 0 < i
          → i < n
          → Over (n + state) i
          → Dec (key words n (winner words n i) ≤ key words n state)
          → key words n (winner words n i) ≤ key words n state
      go i a b o (yes h) = h
      go i a b o (no h) =
          r.passed i a b
          (λ p.
          omega
          (arith, l, h, (r.nearly i a b).least (winner words n node) (r.nearly node some r.inner).state_below ne (over_trans (r.nearly node some r.inner).below p)))
          o

-- one node of the loop
pub raising_climbs : {n state node : ℕ} {before words : List ℕ} → Raising n before words state node → 0 < node → Climbs words n state node
raising_climbs r some = record { there = r.there; inner = r.inner; named = (r.nearly _ some r.inner).state_below }

pub raising_climbed :
    {n state node : ℕ} {before words after : List ℕ}
    → Raising n before words state node
    → Roomy n words
    → 0 < node
    → Climbed n state node words after true
    → Raising n before after state (node / 2)
raising_climbed r roomy some (named_already e q) = rw q (raising_on r e)
raising_climbed r roomy some (named_now l q) = rw q (raising_set r roomy some l)

pub raising_stopped :
    {n state node : ℕ} {before words after : List ℕ}
    → Raising n before words state node
    → 0 < node
    → Climbed n state node words after false
    → Played n before after
raising_stopped r some (other_stays ne l q) = rw q (raised_here r some ne l)
