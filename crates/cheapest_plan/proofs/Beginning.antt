-- Laws of the search's begin: no state is reached, then the initial state alone is queued. Assumes nothing.
use Prim.Native.Nat.{ℕ, ◌+◌, ◌*◌, ◌≤◌, ◌<◌}
use native.Mathlib.Omega.{arith}
use mathlib.Core.Path.{◌≡◌, refl, sym, ◌∙◌}
use mathlib.Core.List.{List}
use lib.ListN.{length, get_or, set}
use lib.Seq.{get_or-set_same, get_or-set_other}
use Rattle.state_queue.specs.Inner.Queue.{key, Nearly, Played}
use Rattle.state_queue.proofs.Changes.{changed_nearly}
use Rattle.state_queue.proofs.Keys.{cost_else}
use Rattle.cheapest_plan.specs.Inner.Visits.{Emptied, Begun}

-- the initial state comes into the queue
module _ {n start : ℕ} {empty words : List ℕ} (e : Emptied n empty) (p : Played n empty words) (below : start < n) (room : n ≤ length words) where
  other : (j : ℕ) → (j ≡ start → ⊥) → get_or (set words start 1) j 0 ≡ get_or words j 0
  other j ne = get_or-set_other words start j 1 0 (λ z. ne (omega arith))

  put : get_or (set words start 1) start 0 ≡ 1
  put = get_or-set_same words start 1 0 (omega arith)

  no_steps : (s : ℕ) → s < n → get_or (set words start 1) (n + s) 0 ≡ 0
  no_steps s l = other (n + s) (λ z. omega arith) ∙ p.front (n + s) (omega arith) ∙ e.steps s l

  first_key : key (set words start 1) n start ≡ 0
  unfolding key
  first_key = rw (put, no_steps start below, sym (cost_else 1 (λ z. omega arith))) refl

  pub begin_nearly : Nearly (set words start 1) n start
  begin_nearly =
      changed_nearly
      (record {
        costs = λ s l ne. other s ne;
        steps = λ s l ne. other (n + s) (λ z. omega arith);
        nodes = λ i l. other (3 * n + i) (λ z. omega arith);
      })
      p.queue below (omega (arith, first_key))

  pub begins : {after : List ℕ} → Played n (set words start 1) after → Begun n start after
  begins q =
      record {
        queue = q.queue;
        cost = q.front start (omega arith) ∙ put;
        steps = λ s l. q.front (n + s) (omega arith) ∙ no_steps s l;
        lasts = λ s l. q.front (2 * n + s) (omega arith) ∙ other (2 * n + s) (λ z. omega arith) ∙ p.front (2 * n + s) (omega arith) ∙ e.lasts s l;
        others = λ s l ne. q.front s (omega arith) ∙ other s ne ∙ p.front s (omega arith) ∙ e.costs s l;
      }
