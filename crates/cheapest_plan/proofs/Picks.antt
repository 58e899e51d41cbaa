-- Laws of `first_cheapest`: from lists in order it picks a plan that no plan among them comes before; and none only if none of them is a plan.
-- Assumes nothing.
use Prim.Native.Nat.{ℕ, ◌≤◌, ◌<◌}
use native.Mathlib.Omega.{arith}
use native.Mathlib.Decide.{dec_lt}
use mathlib.Core.Path.{◌≡◌, refl, sym, ap, ◌∙◌}
use mathlib.Core.Bool.{Bool, true, false, cond, ◌&&◌, false≢true}
use mathlib.Core.List.{List, ◌∷◌}
use mathlib.Core.List.Memᴰ.{head as here}
use mathlib.Core.List.Memᴰ.{not-nil as none-among}
use mathlib.Core.List.Memᴰ.{tail as there}
use mathlib.Core.List.{Memᴰ as Among}
use borrow.Author.Tests.{leb-true, leb-false}
use Rattle.task.specs.Table.{Task}
use Rattle.task.specs.Run.{plain_run, is_plan}
use Rattle.cheapest_plan.specs.Cheapest.{Pick, no_plan, plan_of, no_dearer, unless_later, first_cheapest}
use Rattle.cheapest_plan.specs.Order.{Before, cheaper, shorter, earlier, Plan, cost_of}
use Rattle.cheapest_plan.specs.Inner.Search.{NoLater, equal, before}
use Rattle.cheapest_plan.proofs.Lists.{Earlier, fewer, first, Ordered, ends, then}

pub record Picked (t : Task) (lists : List (List ℕ)) (p : List ℕ) (c : ℕ) : Type 0 where
  pub among : Among p lists
  pub plan : Plan t p
  pub cost : c ≡ cost_of t p
  pub least : (q : List ℕ) → Among q lists → Plan t q → NoLater c p (cost_of t q) q

pub data Picks (t : Task) (lists : List (List ℕ)) : Pick → Type 0 where
  finds_none : ((q : List ℕ) → Among q lists → Plan t q → ⊥) → Picks t lists no_plan
  finds : {p : List ℕ} {c : ℕ} → Picked t lists p c → Picks t lists (plan_of p c)

no_later_cost : {c d : ℕ} {p q : List ℕ} → NoLater c p d q → c ≤ d
no_later_cost (equal e f) = omega arith
no_later_cost (before (cheaper l)) = omega arith
no_later_cost (before (shorter e l)) = omega arith
no_later_cost (before (earlier e l)) = omega arith

-- a list that stands earlier and costs no more comes before
stands_before : {c d : ℕ} {p q : List ℕ} → Earlier p q → c ≤ d → Before c p d q
stands_before {c} {d} {p} {q} e le = go e (dec_lt c d)
  where
    go : Earlier p q → Dec (c < d) → Before c p d q
    go e (yes l) = cheaper l
    go (fewer f) (no l) = shorter (omega arith) f
    go (first f) (no l) = earlier (omega arith) f

module _ (t : Task) (p : List ℕ) (rest : List (List ℕ)) (each : (q : List ℕ) → Among q rest → Earlier p q) where
  -- the list in front is taken
  taken : (later : Pick) → Picks t rest later → Plan t p → no_dearer (cost_of t p) later ≡ true → Picked t (p ∷ rest) p (cost_of t p)
  unfolding no_dearer
  taken later found plan fits = record { among = here refl; plan = plan; cost = refl; least = least later found fits }
    where
      least :
          (later : Pick)
          → Picks t rest later
          → no_dearer (cost_of t p) later ≡ true
          → (q : List ℕ)
          → Among q (p ∷ rest)
          → Plan t q
          → NoLater (cost_of t p) p (cost_of t q) q
      least later found fits q (here e) plan = equal (ap (cost_of t) (sym e)) (sym e)
      least no_plan (finds_none nothing) fits q (there m) plan = absurd (nothing q m plan)
      least (plan_of r d) (finds f) fits q (there m) plan =
          before
          (stands_before (each q m)
          (omega (arith, leb-true (cost_of t p) d fits, no_later_cost (f.least q m plan))))

  -- it is passed over
  passed :
      (later : Pick)
      → Picks t rest later
      → (Plan t p → no_dearer (cost_of t p) later ≡ false)
      → Picks t (p ∷ rest) later
  unfolding no_dearer
  passed no_plan (finds_none nothing) over = finds_none none
    where
      none : (q : List ℕ) → Among q (p ∷ rest) → Plan t q → ⊥
      none q (here e) plan = false≢true (sym (over (rw e at plan)))
      none q (there m) plan = nothing q m plan
  passed (plan_of r d) (finds f) over =
      finds (record { among = there f.among; plan = f.plan; cost = f.cost; least = least })
    where
      least : (q : List ℕ) → Among q (p ∷ rest) → Plan t q → NoLater d r (cost_of t q) q
      least q (here e) plan = rw e (before (cheaper (leb-false (cost_of t p) d (over (rw e at plan)))))
      least q (there m) plan = f.least q m plan

  picks_one :
      (later : Pick)
      → Picks t rest later
      → (b m : Bool)
      → is_plan (plain_run t t.initial p) ≡ b
      → no_dearer (cost_of t p) later ≡ m
      → Picks t (p ∷ rest) (cond (b && m) (plan_of p (cost_of t p)) later)
  picks_one later found true true plan fits = finds (taken later found plan fits)
  picks_one later found true false plan fits = passed later found (λ x. fits)
  picks_one later found false m plan fits = passed later found (λ x. absurd (false≢true (sym plan ∙ x)))

pub picks : (t : Task) {lists : List (List ℕ)} → Ordered lists → Picks t lists (first_cheapest t lists)
unfolding first_cheapest unless_later
picks t ends = finds_none (λ q m plan. none-among m)
picks t (then {p = p} {rest = rest} each ordered) =
    picks_one t p rest each (first_cheapest t rest) (picks t ordered) (is_plan (plain_run t t.initial p))
    (no_dearer (cost_of t p) (first_cheapest t rest)) refl refl
