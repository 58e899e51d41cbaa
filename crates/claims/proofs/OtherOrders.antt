-- The other orders are refused: from the start, each record of specs/Order is false of the definition that it is there to keep out.
use Prim.Native.Nat.{ℕ, ◌<◌}
use native.Mathlib.Omega.{arith}
use mathlib.Core.Path.{◌≡◌, ap}
use mathlib.Core.List.{[], ◌∷◌}
use Rattle.task.specs.Table.{Row}
use Rattle.task.specs.Semantics.{variable, sets, clears, Effect, atomic, both, under}
use Rattle.task.specs.Rules.{no_operator}
use Rattle.normal_form.specs.Builder.{St, Build, give, bind, place, including, same_row, row, twin, variable_row, twin_row, start, plain, negated, choice, join_as, join, pair}
use Rattle.normal_form.specs.Image.{literal, image}
use Rattle.normal_form.specs.Conditions.{guarded, condition}
use Rattle.normal_form.specs.Operators.{Changes, Built}
use Rattle.normal_form.proofs.Growth.{grows_refl}
use Rattle.claims.specs.Order.{PairInOrder, UnderInOrder, ChangesInOrder, behind, TaskInOrder}

-- "v0 implies v1" as v1 or (not v0): v1 is row 2 and v0's twin row 3
pub implies_the_other_way :
    PairInOrder negated start (image 3 negated (variable 0)) (image 3 plain (variable 1))
    (pair negated (image 3 plain (variable 1)) (image 3 negated (variable 0)))
    → ⊥
unfolding give bind place including same_row row twin variable_row twin_row start choice join_as join pair literal image
implies_the_other_way o =
    let end : St = (pair negated (image 3 plain (variable 1)) (image 3 negated (variable 0)) start).st in
    let z : 3 < 2 = o.order.lower (omega arith) (omega arith) end (grows_refl end) in
    omega arith

-- "set v0 under v1, and set v0 under v2", the right effect first: v2 is row 2 and v1 row 3
abbrev set_under : ℕ → Build ℕ
set_under v = condition 3 plain (sets 0) (under (variable v) (atomic (sets 0)))

pub both_the_other_way : PairInOrder negated start (set_under 1) (set_under 2) (pair negated (set_under 2) (set_under 1)) → ⊥
unfolding give bind place including same_row row variable_row start choice join_as join pair literal image guarded condition
both_the_other_way o =
    let end : St = (pair negated (set_under 2) (set_under 1) start).st in
    let z : 3 < 2 = o.order.lower (omega arith) (omega arith) end (grows_refl end) in
    omega arith

-- "(set v0 under v1) under v2", the formula first: v2 is row 2 and v1 row 3
abbrev formula_first : Build ℕ
formula_first = bind (image 3 plain (variable 2)) (λ a. bind (set_under 1) (λ c. join plain a c))

pub under_the_other_way : UnderInOrder plain start (image 3 plain (variable 2)) (set_under 1) formula_first → ⊥
unfolding give bind place including same_row row variable_row start choice join_as join literal image guarded condition
under_the_other_way o =
    let end : St = (formula_first start).st in
    let z : 3 < 2 = (o.order (λ e. omega arith)).lower (omega arith) (omega arith) end (grows_refl end) in
    omega arith

-- the formula's image and the inner effect joined the other way round: the row is "v1 and v2"
abbrev inner_left : Build ℕ
inner_left = bind (set_under 1) (λ c. bind (image 3 plain (variable 2)) (λ a. join plain c a))

pub under_joined_the_other_way : UnderInOrder plain start (image 3 plain (variable 2)) (set_under 1) inner_left → ⊥
unfolding give bind place including same_row row variable_row start choice join_as join literal image guarded condition
under_joined_the_other_way o =
    let end : St = (inner_left start).st in
    let w = (o.joins (λ e. omega arith) end (grows_refl end)).own_row (omega arith) (omega arith) in
    let z : ◌≡◌ {A = ℕ} 2 3 = ap (λ (r : Row). r.a) w in
    omega arith

-- "set v1 under v0, and clear v1 under v2": A is row 2. With N before D, v0's twin is row 3 and v2 row 4.
abbrev effect : Effect
effect = both (under (variable 0) (atomic (sets 1))) (under (variable 2) (atomic (clears 1)))

abbrev A : Build ℕ
A = condition 3 plain (sets 1) effect

abbrev D : Build ℕ
D = condition 3 plain (clears 1) effect

abbrev N : Build ℕ
N = condition 3 negated (sets 1) effect

abbrev before_d : Build Changes
before_d =
    bind A
    (λ a.
    bind N
    (λ c. bind D (λ d. bind (join plain d c) (λ k. give (record { variable = 1; adds = a; deletes = k })))))

pub n_before_d : ChangesInOrder start A D N before_d → ⊥
unfolding give bind place including same_row row twin variable_row twin_row start choice join_as join pair literal image guarded condition
n_before_d o =
    let end : St = (before_d start).st in
    let z : 4 < 3 = (o.conflict (λ e. omega arith) (λ e. omega arith)).lower (omega arith) (omega arith) end (grows_refl end) in
    omega arith

-- joined as "N and D": D is row 3, v0's twin row 4, and the row names 4 first
abbrev n_and_d : Build Changes
n_and_d =
    bind A
    (λ a.
    bind D
    (λ d. bind N (λ c. bind (join plain c d) (λ k. give (record { variable = 1; adds = a; deletes = k })))))

pub n_left_of_d : ChangesInOrder start A D N n_and_d → ⊥
unfolding give bind place including same_row row twin variable_row twin_row start choice join_as join pair literal image guarded condition
n_left_of_d o =
    let end : St = (n_and_d start).st in
    let w = (o.joins (λ e. omega arith) (λ e. omega arith) end (grows_refl end)).own_row (omega arith) (omega arith) in
    let z : ◌≡◌ {A = ℕ} 4 3 = ap (λ (r : Row). r.a) w in
    omega arith

-- the goal "not v1" before an operator that requires "not v0": v1's twin is met first
abbrev operator : ℕ → Build Built
operator o = bind (image 2 negated (variable 0)) (λ p. give (record { precondition = p; changes = []; source = no_operator }))

abbrev goal : Build ℕ
goal = image 2 negated (variable 1)

pub goal_first : TaskInOrder 1 start operator goal (operator 0 (goal start).st).st → ⊥
unfolding give bind place including same_row row twin variable_row twin_row start literal image behind
goal_first o =
    let w : 1 ∷ 0 ∷ [] ≡ 0 ∷ (o.in_order 1 (omega arith)).twins.rest = (o.in_order 1 (omega arith)).twins.whole in
    let z : ◌≡◌ {A = ℕ} 1 0 = cc in
    omega arith
