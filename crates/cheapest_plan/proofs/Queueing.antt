-- Laws of a state that comes into the queue or comes earlier in it: its three words are stored, and it goes up. Assumes nothing.
use Prim.Native.Nat.{ℕ, ◌+◌, ◌*◌, ◌≤◌, ◌<◌}
use native.Mathlib.Omega.{arith}
use mathlib.Core.Path.{◌≡◌, refl, ◌∙◌}
use mathlib.Core.List.{List}
use lib.ListN.{length, get_or, set, length-set}
use lib.Seq.{get_or-set_same, get_or-set_other}
use Rattle.state_queue.specs.Inner.Queue.{key, queue_cost, Roomy, Nearly, Changed, Played}
use Rattle.state_queue.proofs.Changes.{changed_nearly}
use Rattle.cheapest_plan.specs.Inner.Tables.{MayQueue, Elsewhere, QueuedNow}

-- the three words of a state
abbrev pub stored : List ℕ → (n s cost steps step : ℕ) → List ℕ
stored words n s cost steps step = set (set (set words s cost) (n + s) steps) (2 * n + s) step

module _ (words : List ℕ) (n s cost steps step : ℕ) where
  pub length_stored : length (stored words n s cost steps step) ≡ length words
  length_stored =
      length-set (set (set words s cost) (n + s) steps) (2 * n + s) step
      ∙ length-set (set words s cost) (n + s) steps
      ∙ length-set words s cost

  other : (j : ℕ) → (j ≡ s → ⊥) → (j ≡ n + s → ⊥) → (j ≡ 2 * n + s → ⊥) → get_or (stored words n s cost steps step) j 0 ≡ get_or words j 0
  other j a b c =
      get_or-set_other (set (set words s cost) (n + s) steps) (2 * n + s) j step 0 (λ z. c (omega arith))
      ∙ get_or-set_other (set words s cost) (n + s) j steps 0 (λ z. b (omega arith))
      ∙ get_or-set_other words s j cost 0 (λ z. a (omega arith))

  module _ (there : s < n) (room : 3 * n ≤ length words) where
    pub cost_stored : get_or (stored words n s cost steps step) s 0 ≡ cost
    cost_stored =
        get_or-set_other (set (set words s cost) (n + s) steps) (2 * n + s) s step 0 (λ z. omega arith)
        ∙ get_or-set_other (set words s cost) (n + s) s steps 0 (λ z. omega arith)
        ∙ get_or-set_same words s cost 0 (omega arith)

    pub steps_stored : get_or (stored words n s cost steps step) (n + s) 0 ≡ steps
    steps_stored =
        get_or-set_other (set (set words s cost) (n + s) steps) (2 * n + s) (n + s) step 0 (λ z. omega arith)
        ∙ get_or-set_same (set words s cost) (n + s) steps 0 (omega (arith, length-set words s cost))

    pub step_stored : get_or (stored words n s cost steps step) (2 * n + s) 0 ≡ step
    step_stored =
        get_or-set_same (set (set words s cost) (n + s) steps) (2 * n + s) step 0
        (omega (arith, length-set (set words s cost) (n + s) steps, length-set words s cost))

    pub stored_changed : Changed n s words (stored words n s cost steps step)
    stored_changed =
        record {
          costs = λ x l ne. other x ne (λ z. omega arith) (λ z. omega arith);
          steps = λ x l ne. other (n + x) (λ z. omega arith) (λ z. ne (omega arith)) (λ z. omega arith);
          nodes = λ i l. other (3 * n + i) (λ z. omega arith) (λ z. omega arith) (λ z. omega arith);
        }

    pub stored_elsewhere : Elsewhere n s words (stored words n s cost steps step)
    stored_elsewhere =
        record {
          costs = λ x l ne. other x ne (λ z. omega arith) (λ z. omega arith);
          steps = λ x l ne. other (n + x) (λ z. omega arith) (λ z. ne (omega arith)) (λ z. omega arith);
          lasts = λ x l ne. other (2 * n + x) (λ z. omega arith) (λ z. omega arith) (λ z. ne (omega arith));
        }

    pub key_stored : key (stored words n s cost steps step) n s ≡ queue_cost cost * 4294967296 + steps
    unfolding key
    key_stored = rw (cost_stored, steps_stored) refl

-- what stands elsewhere, once nodes have changed too
pub elsewhere_played :
    {n s : ℕ} {before mid after : List ℕ} → Elsewhere n s before mid → Played n mid after → s < n → Elsewhere n s before after
elsewhere_played {n} e p l =
    record {
      costs = λ x m ne. p.front x (omega arith) ∙ e.costs x m ne;
      steps = λ x m ne. p.front (n + x) (omega arith) ∙ e.steps x m ne;
      lasts = λ x m ne. p.front (2 * n + x) (omega arith) ∙ e.lasts x m ne;
    }

module _ {n : ℕ} {words : List ℕ} {s cost steps : ℕ} (h : MayQueue n words s cost steps) (step : ℕ) where
  room : 3 * n ≤ length words
  room = omega (arith, h.roomy)

  pub queue_roomy : Roomy n (stored words n s cost steps step)
  queue_roomy =
      record { some = h.roomy.some; limit = h.roomy.limit; room = omega (arith, h.roomy, length_stored words n s cost steps step) }

  pub queue_nearly : Nearly (stored words n s cost steps step) n s
  queue_nearly =
      changed_nearly (stored_changed words n s cost steps step h.there room) h.queue h.there
      (omega (arith, key_stored words n s cost steps step h.there room, h.sooner))

  pub queued_now : {after : List ℕ} → Played n (stored words n s cost steps step) after → QueuedNow n s cost steps step words after
  queued_now p =
      record {
        queue = p.queue;
        cost_now = p.front s (omega (arith, h.there)) ∙ cost_stored words n s cost steps step h.there room;
        steps_now = p.front (n + s) (omega (arith, h.there)) ∙ steps_stored words n s cost steps step h.there room;
        step_now = p.front (2 * n + s) (omega (arith, h.there)) ∙ step_stored words n s cost steps step h.there room;
        elsewhere = elsewhere_played (stored_elsewhere words n s cost steps step h.there room) p h.there;
      }
