-- How many effect rows are written: a rule adds two rows, from an operator's second rule on three; so k rules of an operator add 3 × k - 1.
-- A variable has at most four rules. Effect rows are only appended. Assumes nothing.
use Prim.Native.Nat.{ℕ, zero, suc, ◌+◌, ◌*◌, ◌≤◌}
use native.Mathlib.Nat.{mul-suc}
use native.Mathlib.Omega.{arith}
use mathlib.Core.Path.{◌≡◌, refl}
use mathlib.Core.Bool.{Bool, true, false, cond}
use mathlib.Core.List.{List, [], ◌∷◌, ◌++◌, foldl-append}
use lib.ListN.{length, length-append}
use lib.Dec.{eqb, ltb}
use borrow.Author.Tests.{eq-eqb, ne_eqb}
use Rattle.task.specs.Table.{Row}
use Rattle.task.specs.Semantics.{Atom, sets, clears}
use Rattle.normal_form.specs.Builder.{place}
use Rattle.normal_form.specs.Operators.{Changes, Built}
use Rattle.normal_form.specs.Assembly.{Rule, rule, with_twin, rules_of, rules, Written, rule_rows, write_rule, write_rules, Assembled, assemble_operator, assemble}
use Rattle.normal_form.proofs.ShapeRule.{write_stands}
use Rattle.normal_form.proofs.ShapeRules.{All, none, also}
use Rattle.normal_form.proofs.ShapeEach.{Upwards, start, next}
use Rattle.normal_form.proofs.ShapeAssembled.{unwritten}

module _ (w : Written) (r : Rule) where
  pub first_length : w.stands ≡ 0 → length (write_rule w r).rows ≡ length w.rows + 2
  unfolding write_rule rule_rows
  first_length e = rw (eq-eqb w.stands 0 e) (length-append w.rows (rule_rows (length w.rows) r))

  pub next_length : (w.stands ≡ 0 → ⊥) → length (write_rule w r).rows ≡ length w.rows + 3
  unfolding write_rule rule_rows
  next_length n =
      rw (ne_eqb w.stands 0 n)
      (length-append w.rows
      (rule_rows (length w.rows) r ++ (record { kind = 3; a = w.stands; b = length w.rows + 1 } ∷ [])))

  -- what stands is the last row
  pub last_stands : (write_rule w r).stands + 1 ≡ length (write_rule w r).rows
  unfolding write_rule rule_rows
  last_stands = go (eqb w.stands 0)
    where
      i : ℕ
      i = length w.rows

      two : List Row
      two = rule_rows i r

      three : List Row
      three = rule_rows i r ++ (record { kind = 3; a = w.stands; b = i + 1 } ∷ [])

      go :
          (b : Bool)
          → let x : Written =
          cond b (record { rows = w.rows ++ two; stands = i + 1 }) (record { rows = w.rows ++ three; stands = i + 2 })
          in
          x.stands + 1 ≡ length x.rows
      go true = omega (arith, length-append w.rows two)
      go false = omega (arith, length-append w.rows three)

-- what k rules of an operator add
unfoldable pub rows_of_rules : ℕ → ℕ
rows_of_rules zero = 0
rows_of_rules (suc k) = 3 * k + 2

pub chain_length :
    (w : Written) (rs : List Rule)
    → (w.stands ≡ 0 → ⊥)
    → length (write_rules w rs).rows ≡ length w.rows + 3 * length rs
unfolding write_rules
chain_length w [] n = omega arith
chain_length w (r ∷ rs) n =
    omega (arith, chain_length (write_rule w r) rs (write_stands w r), next_length w r n)

pub written_length :
    (rows : List Row) (rs : List Rule)
    → length (write_rules (unwritten rows) rs).rows ≡ length rows + rows_of_rules (length rs)
unfolding write_rules rows_of_rules
written_length rows [] = omega arith
written_length rows (r ∷ rs) =
    omega (
      arith,
      chain_length (write_rule (unwritten rows) r) rs (write_stands (unwritten rows) r),
      first_length (unwritten rows) r refl,
    )

-- after a rule, what stands is the last row
pub rules_stand :
    (w : Written) (rs : List Rule)
    → w.stands + 1 ≡ length w.rows
    → (write_rules w rs).stands + 1 ≡ length (write_rules w rs).rows
unfolding write_rules
rules_stand w [] e = e
rules_stand w (r ∷ rs) e = rules_stand (write_rule w r) rs (last_stands w r)

-- rules one after another
pub rules_split :
    (w : Written) (rs qs : List Rule) → write_rules w (rs ++ qs) ≡ write_rules (write_rules w rs) qs
unfolding write_rules
rules_split w rs qs = foldl-append write_rule w rs qs

-- how many rules
rule_few : (c : ℕ) (l : Atom) → length (rule c l) ≤ 1
unfolding rule
rule_few c l = go (eqb c 0)
  where
    go : (b : Bool) → length {A = Rule} (cond b [] (record { condition = c; atom = l } ∷ [])) ≤ 1
    go true = omega arith
    go false = omega arith

module _ (n : ℕ) (twins : List ℕ) where
  twin_few :
      (v : ℕ) (make : ℕ → List Rule) → ((w : ℕ) → length (make w) ≤ 1) → length (with_twin n twins v make) ≤ 1
  unfolding with_twin
  twin_few v make h = go (ltb (place eqb v twins) (length twins))
    where
      go : (b : Bool) → length (cond b (make (n + place eqb v twins)) []) ≤ 1
      go true = h (n + place eqb v twins)
      go false = omega arith

  pub rules_of_few : (c : Changes) → length (rules_of n twins c) ≤ 4
  unfolding rules_of
  rules_of_few c =
      let v = c.variable in
      simp length-append
      (omega (
        arith,
        rule_few c.adds (sets v),
        rule_few c.deletes (clears v),
        twin_few v (λ w. rule c.adds (clears w)) (λ w. rule_few c.adds (clears w)),
        twin_few v (λ w. rule c.deletes (sets w)) (λ w. rule_few c.deletes (sets w)),
      ))

  pub rules_few : (cs : List Changes) → length (rules n twins cs) ≤ 4 * length cs
  unfolding rules
  rules_few [] = omega arith
  rules_few (c ∷ cs) =
      omega (arith, length-append (rules_of n twins c) (rules n twins cs), rules_of_few c, rules_few cs)

  -- operators one after another
  pub assemble_split :
      (w : Assembled) (os ps : List Built)
      → assemble n twins w (os ++ ps) ≡ assemble n twins (assemble n twins w os) ps
  unfolding assemble
  assemble_split w os ps = foldl-append (assemble_operator n twins) w os ps

  rows_few : (k : ℕ) → rows_of_rules k ≤ 3 * k
  unfolding rows_of_rules
  rows_few zero = omega arith
  rows_few (suc k) = omega arith

  operator_few :
      (w : Assembled) (b : Built)
      → length (assemble_operator n twins w b).effects ≤ length w.effects + 12 * length b.changes
  unfolding assemble_operator
  operator_few w b =
      let rs = rules n twins b.changes in
      omega (arith, written_length w.effects rs, rows_few (length rs), rules_few b.changes)

  -- twelve rows for each variable of each operator at most
  pub assemble_few :
      (m : ℕ) (w : Assembled) (os : List Built)
      → All (λ b. length b.changes ≤ m) os
      → length (assemble n twins w os).effects ≤ length w.effects + 12 * m * length os
  unfolding assemble
  assemble_few m w [] none = omega arith
  assemble_few m w (b ∷ bs) (also p ps) =
      omega
      (arith, assemble_few m (assemble_operator n twins w b) bs ps, operator_few w b, mul-suc (12 * m) (length bs))

upwards_length : {m : ℕ} {cs : List Changes} → Upwards m cs → length cs ≡ m
upwards_length start = refl
upwards_length (next {cs = cs} c e u) = omega (arith, length-append cs (c ∷ []), upwards_length u)
