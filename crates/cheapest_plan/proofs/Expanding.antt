-- Laws of the operators that are stepped from one state, each once. Assumes nothing.
use Prim.Native.Nat.{ℕ, ◌+◌, ◌*◌, ◌≤◌, ◌<◌}
use native.Mathlib.Omega.{arith}
use mathlib.Core.Path.{◌≡◌, refl, sym, ap, ◌∙◌}
use Rattle.std.specs.Prelude.{Option}
use mathlib.Core.Bool.{Bool, true, false}
use mathlib.Core.List.{List}
use lib.ListN.{length, get_or}
use Rattle.task.specs.Table.{operator_at}
use Rattle.task.specs.Run.{applicable, charge_of, charge}
use Rattle.task.specs.Inner.Values.{bit}
use Rattle.state_codes.specs.Inner.Masks.{next_code}
use Rattle.cheapest_plan.specs.Inner.States.{Bits, state_of}
use Rattle.cheapest_plan.specs.Inner.Tables.{Relaxable, Zeros, Relaxes}
use Rattle.cheapest_plan.specs.Inner.Visits.{Stage, NotedTo}
use Rattle.cheapest_plan.proofs.States.{state_bits}
use Rattle.cheapest_plan.proofs.Searching.{passed_over}
use Rattle.cheapest_plan.proofs.Relaxing.{taken_short, taken_cheap}

-- a bit that is 0, and one that is not
pub bit_false : (b : Bool) → bit b ≡ 0 → b ≡ false
unfolding bit
bit_false false e = refl
bit_false true e = absurd (omega arith)

pub bit_true : (b : Bool) → (bit b ≡ 0 → ⊥) → b ≡ true
unfolding bit
bit_true true e = refl
bit_true false e = absurd (e refl)

pub zeros_none : {n : ℕ} {words : List ℕ} → Zeros n words words
zeros_none = record { stay = λ s l z. z }

pub zeros_on : {n : ℕ} {a b c : List ℕ} → Zeros n a b → Zeros n b c → Zeros n a c
zeros_on x y = record { stay = λ s l z. y.stay s l (x.stay s l z) }

module _
    {n : ℕ} {operators : List ℕ} {count state cost steps : ℕ} {values masks : List ℕ}
    (h : Stage n operators count state cost steps values masks)
    {words : List ℕ} {notes : List (Option Bool)} {k : ℕ} (at : NotedTo h words notes k) (below : k < count)
  where
    place : Bits (length h.t.initial) (state_of (length h.t.initial) state)
    place = state_bits (length h.t.initial) state

    module _ {asked : ℕ} (precondition : asked ≡ (operator_at operators k).precondition) where
      -- it is not applicable
      pub not-stepped : get_or values asked 0 ≡ 0 → NotedTo h words notes (k + 1)
      not-stepped z =
          let no : applicable h.t (state_of (length h.t.initial) state) k ≡ false =
          bit_false (applicable h.t (state_of (length h.t.initial) state) k)
          (sym (h.applies k below) ∙ ap (λ (x : ℕ). get_or values x 0) (sym precondition) ∙ z) in
          record {
            stepping =
                record {
                  status = at.stepping.status;
                  holds = at.stepping.holds;
                  queue = at.stepping.queue;
                  searching = passed_over h.t h.ground.passes at.stepping.searching place no;
                  is_taken = at.stepping.is_taken;
                  fresh = λ x o e l is. omega (arith, at.stepping.fresh x o e l is);
                };
            noted = at.noted;
          }

      module _
          (yes : get_or values asked 0 ≡ 0 → ⊥)
          {effect price : ℕ}
          (changes : effect ≡ (operator_at operators k).effect)
          (charged : price ≡ charge_of (operator_at operators k))
        where
          pub charge-is : charge h.t (state_of (length h.t.initial) state) k ≡ price
          unfolding charge
          charge-is = ap charge_of (h.row k below) ∙ sym charged

          -- the sums fit
          pub sums-fit : (cost + price ≤ 134215681) × (steps + 1 ≤ 1024)
          sums-fit =
              let s = state_of (length h.t.initial) state in
              let c = taken_cheap h.ground at.stepping.searching s place h.p h.c at.stepping.is_taken in
              let d = taken_short h.ground at.stepping.searching s place h.p h.c at.stepping.is_taken in
              let e = h.ground.cheap s k in
              (omega (arith, h.costs, h.ground.few, charge-is), omega (arith, h.size, h.ground.few))

          unfoldable pub relaxable :
              {to : ℕ} → to ≡ next_code state (get_or masks effect 0) → Relaxable n words to (cost + price) (steps + 1) (256 * (state + 1) + k) notes
          relaxable {to} there =
              let whole : to ≡ next_code state (get_or masks (operator_at operators k).effect 0) =
              there ∙ ap (λ (x : ℕ). next_code state (get_or masks x 0)) changes in
              record {
                t = h.t;
                ground = h.ground;
                from = state;
                from_state = h.here;
                k = k;
                number = omega (arith, h.few);
                p = h.p;
                c = h.c;
                stepping = at.stepping;
                noted = at.noted;
                applies = bit_true (applicable h.t (state_of (length h.t.initial) state) k)
                    (λ z. yes (ap (λ (x : ℕ). get_or values x 0) precondition ∙ h.applies k below ∙ z));
                there = rw whole (h.inside k below);
                target = rw whole (h.leads k below);
                costs = omega (arith, h.costs, charge-is);
                longer = omega (arith, h.size);
                last = refl;
              }

          pub stepped-on :
              {to : ℕ} {after : List ℕ} {r : List (Option Bool)} (there : to ≡ next_code state (get_or masks effect 0))
              → Relaxes n to (cost + price) (steps + 1) (256 * (state + 1) + k) notes words after r
              → NotedTo h after r (k + 1)
          unfolding relaxable
          stepped-on there r = r.told (relaxable there)
