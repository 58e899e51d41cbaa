-- What the words say stays said where one state's status changes, and where nodes of the queue change. Assumes nothing.
use Prim.Native.Nat.{ℕ, ◌+◌, ◌*◌, ◌^◌, ◌≤◌, ◌<◌}
use native.Mathlib.Omega.{arith}
use native.Mathlib.Decide.{ℕ_discrete}
use mathlib.Core.Path.{◌≡◌, refl, sym, ap, ◌∙◌}
use mathlib.Core.Bool.{cond}
use mathlib.Core.List.{List}
use lib.Dec.{eqb}
use lib.ListN.{length, get_or}
use borrow.Author.Tests.{eq-eqb, ne_eqb}
use Rattle.cheapest_plan.specs.Inner.States.{code, state_of}
use Rattle.cheapest_plan.specs.Inner.Search.{Status, unreached, queued, taken, Changed}
use Rattle.cheapest_plan.specs.Inner.Tables.{Ends, at_start, by_step, most_cost, Says, says_unreached, says_queued, says_taken, Holds, Elsewhere}
use Rattle.cheapest_plan.proofs.States.{state_bits, code_of_state, state_of_code}

-- one state's status is changed, by its code
unfoldable pub update : (List ℕ → Status) → ℕ → Status → List ℕ → Status
update status s now x = cond (eqb (code x) s) now (status x)

module _ (v : ℕ) {n : ℕ} (size : n ≡ 2 ^ v) where
  pub code_there : (s : ℕ) → s < n → code (state_of v s) ≡ s
  code_there s l = code_of_state v s (rw size at l)

  pub updated : (status : List ℕ → Status) (s : ℕ) (now : Status) → s < n → Changed v status (update status s now) (state_of v s) now
  unfolding update
  updated status s now l =
      record {
        here = rw (eq-eqb (code (state_of v s)) s (code_there s l));
        elsewhere = λ x bits ne. rw (ne_eqb (code x) s (λ e. ne (sym (state_of_code v x bits) ∙ ap (state_of v) e)));
      }

  -- a state of another code is another state
  pub other_state : (s x : ℕ) → s < n → x < n → (x ≡ s → ⊥) → state_of v x ≡ state_of v s → ⊥
  other_state s x l m ne e = ne (sym (code_there x m) ∙ ap code e ∙ code_there s l)

-- what the words of a state say, by cases
pub data Stands (v n : ℕ) (status : List ℕ → Status) (words : List ℕ) (s : ℕ) (now : Status) : Type 0 where
  is_unreached : now ≡ unreached → get_or words s 0 ≡ 4294967295 → Stands v n status words s now
  is_queued :
      (p : List ℕ) (c : ℕ)
      → now ≡ queued p c
      → get_or words s 0 ≡ c + 1
      → get_or words (n + s) 0 ≡ length p
      → Ends v n status p (get_or words (2 * n + s) 0)
      → c ≤ most_cost
      → length p ≤ 1024
      → Stands v n status words s now
  is_taken : (p : List ℕ) (c : ℕ) → now ≡ taken p c → get_or words s 0 ≡ 0 → Stands v n status words s now

pub stands_at :
    {v n : ℕ} {status : List ℕ → Status} {words : List ℕ} {s : ℕ} (now : Status)
    → Says v n status words s now
    → Stands v n status words s now
stands_at unreached (says_unreached w) = is_unreached refl w
stands_at (queued p c) (says_queued w l e b m) = is_queued p c refl w l e b m
stands_at (taken p c) (says_taken w l e) = is_taken p c refl w

-- The words of a state are as they were, and lists of states that were taken stay.
module _
    {v n : ℕ} {status status' : List ℕ → Status}
    (keeps : (a : ℕ) (p : List ℕ) (c : ℕ) → a < n → status (state_of v a) ≡ taken p c → status' (state_of v a) ≡ taken p c)
  where
    pub ends_on : {p : List ℕ} {step : ℕ} → Ends v n status p step → Ends v n status' p step
    ends_on (at_start e z) = at_start e z
    ends_on (by_step a o front c l m is z e) = by_step a o front c l m (keeps a front c l is) z e

    pub says_on :
        {before after : List ℕ} {s : ℕ} (now : Status)
        → get_or after s 0 ≡ get_or before s 0
        → get_or after (n + s) 0 ≡ get_or before (n + s) 0
        → get_or after (2 * n + s) 0 ≡ get_or before (2 * n + s) 0
        → Says v n status before s now
        → Says v n status' after s now
    says_on now a b c (says_unreached w) = says_unreached (a ∙ w)
    says_on now a b c (says_queued {p = p} w l e bound few) =
        says_queued {p = p} (a ∙ w) (b ∙ l) (rw c (ends_on e)) bound few
    says_on now a b c (says_taken {p = p} w l e) = says_taken {p = p} (a ∙ w) (b ∙ l) (rw c (ends_on e))

-- the words of the states are the same, the nodes may not be
pub holds_front :
    {v n : ℕ} {status : List ℕ → Status} {before after : List ℕ}
    → ((j : ℕ) → j < 3 * n → get_or after j 0 ≡ get_or before j 0)
    → Holds v n status before
    → Holds v n status after
holds_front {v} {n} {status} {before} {after} same h =
    record {
      at = λ s l.
          says_on (λ a p c m e. e) (status (state_of v s)) (same s (omega arith)) (same (n + s) (omega arith)) (same (2 * n + s) (omega arith))
          (h.at s l);
    }

-- One state that was not taken changes: the words of all others are as they were.
module _
    (v : ℕ) {n : ℕ} (size : n ≡ 2 ^ v) {status status' : List ℕ → Status} {before after : List ℕ} {s : ℕ} {now : Status}
    (there : s < n)
    (change : Changed v status status' (state_of v s) now)
    (not_taken : (p : List ℕ) (c : ℕ) → status (state_of v s) ≡ taken p c → ⊥)
    (words : Elsewhere n s before after)
  where
    pub still_taken : (a : ℕ) (p : List ℕ) (c : ℕ) → a < n → status (state_of v a) ≡ taken p c → status' (state_of v a) ≡ taken p c
    still_taken a p c l e = go (ℕ_discrete a s)
      where
        go : Dec (a ≡ s) → status' (state_of v a) ≡ taken p c
        go (yes q) = absurd (not_taken p c (rw q at e))
        go (no q) = change.elsewhere (state_of v a) (state_bits v a) (other_state v size s a there l q) ∙ e

    pub holds_changed : Holds v n status before → Says v n status' after s now → Holds v n status' after
    holds_changed h says = record { at = λ x l. go x l (ℕ_discrete x s) }
      where
        go : (x : ℕ) → x < n → Dec (x ≡ s) → Says v n status' after x (status' (state_of v x))
        go x l (yes q) = rw (q, change.here) says
        go x l (no q) =
            rw (change.elsewhere (state_of v x) (state_bits v x) (other_state v size s x there l q))
            (says_on still_taken (status (state_of v x)) (words.costs x l q) (words.steps x l q) (words.lasts x l q) (h.at x l))
