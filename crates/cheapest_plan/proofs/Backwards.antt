-- Laws of a list that is written from its end: each step names the number that goes to its place, and the state before it. Assumes nothing.
use Prim.Native.Nat.{ℕ, ◌+◌, ◌-◌, ◌*◌, ◌/◌, ◌%◌, ◌≤◌, ◌<◌}
use native.Mathlib.Omega.{arith}
use native.Mathlib.Decide.{ℕ_discrete}
use mathlib.Core.Path.{◌≡◌, refl, sym, ap, ◌∙◌}
use mathlib.Core.List.{List, [], ◌∷◌, ◌++◌, append-nil, append_assoc}
use lib.ListN.{length, get_or, set, length-append, length-set}
use lib.Seq.{get_or-set_same, get_or-set_other, get_or-append_seam}
use Rattle.cheapest_plan.specs.Inner.Tables.{Ends, at_start, by_step}
use Rattle.cheapest_plan.specs.Inner.Visits.{Writable}
use Rattle.cheapest_plan.proofs.Comparing.{taken_says}

-- the numbers from place k on are written, and those before it lead to state s
pub record Back {n : ℕ} {words : List ℕ} {state steps : ℕ} (h : Writable n words state steps) (k s : ℕ) (plan : List ℕ) : Type 0 where
  pub front : List ℕ
  pub rest : List ℕ
  pub whole : h.p ≡ front ++ rest
  pub size : length front ≡ k
  pub there : s < n
  pub ends : Ends h.v n h.status front (get_or words (2 * n + s) 0)
  pub written : (i : ℕ) → k ≤ i → i < steps → get_or plan i 0 ≡ get_or h.p i 0

pub record Aside (k steps : ℕ) (before plan : List ℕ) : Type 0 where
  pub long : length plan ≡ length before
  pub inside : k ≤ steps
  pub behind : (i : ℕ) → steps ≤ i → get_or plan i 0 ≡ get_or before i 0

pub aside_begin : (steps : ℕ) (plan : List ℕ) → Aside steps steps plan plan
aside_begin steps plan = record { long = refl; inside = omega arith; behind = λ i l. refl }

pub aside_on : {k steps : ℕ} {before plan : List ℕ} (x : ℕ) → 0 < k → Aside k steps before plan → Aside (k - 1) steps before (set plan (k - 1) x)
aside_on {k} {steps} {before} {plan} x some a =
    record {
      long = length-set plan (k - 1) x ∙ a.long;
      inside = omega (arith, a.inside);
      behind = λ i l. get_or-set_other plan (k - 1) i x 0 (λ z. omega (arith, a.inside)) ∙ a.behind i l;
    }

module _ {n : ℕ} {words : List ℕ} {state steps : ℕ} (h : Writable n words state steps) where
  pub back_begin : (plan : List ℕ) → Back h steps state plan
  back_begin plan =
      record {
        front = h.p;
        rest = [];
        whole = sym (append-nil h.p);
        size = h.size;
        there = h.there;
        ends = h.ends;
        written = λ i l m. absurd (omega arith);
      }

  -- there is a last step
  pub record LastStep (k s : ℕ) (plan : List ℕ) (step : ℕ) : Type 0 where
    pub some : 256 ≤ step
    pub further : (x next : ℕ) → x ≡ step % 256 → next ≡ step / 256 - 1 → Back h (k - 1) next (set plan (k - 1) x)

  module _ {k s : ℕ} {plan : List ℕ} (b : Back h k s plan) (some : 0 < k) (inside : k ≤ steps) (room : steps ≤ length plan) where
    pub last_step : LastStep k s plan (get_or words (2 * n + s) 0)
    last_step = go b.ends
      where
        go : Ends h.v n h.status b.front (get_or words (2 * n + s) 0) → LastStep k s plan (get_or words (2 * n + s) 0)
        go (at_start e z) = absurd (omega (arith, b.size, ap length e))
        go (by_step parent o front c l m is z e) =
            record { some = omega arith; further = λ x next f g. on x next (omega arith) (omega arith) }
          where
            size : length front ≡ k - 1
            size = omega (arith, b.size, ap length e, length-append front (o ∷ []))

            whole : h.p ≡ front ++ (o ∷ b.rest)
            whole = b.whole ∙ ap (λ (x : List ℕ). x ++ b.rest) e ∙ append_assoc front (o ∷ []) b.rest

            here : get_or h.p (k - 1) 0 ≡ o
            here = rw (whole, ← size) (get_or-append_seam front o b.rest 0)

            on : (x next : ℕ) → x ≡ o → next ≡ parent → Back h (k - 1) next (set plan (k - 1) x)
            on x next f g =
                record {
                  front = front;
                  rest = o ∷ b.rest;
                  whole = whole;
                  size = size;
                  there = rw g l;
                  ends = rw g (taken_says h.holds parent front c l is).ends;
                  written = λ i a u. put i a u (ℕ_discrete i (k - 1));
                }
              where
                put : (i : ℕ) → k - 1 ≤ i → i < steps → Dec (i ≡ k - 1) → get_or (set plan (k - 1) x) i 0 ≡ get_or h.p i 0
                put i a u (yes q) = rw q (get_or-set_same plan (k - 1) x 0 (omega arith) ∙ f ∙ sym here)
                put i a u (no q) = get_or-set_other plan (k - 1) i x 0 (λ z. q (omega arith)) ∙ b.written i (omega arith) u
