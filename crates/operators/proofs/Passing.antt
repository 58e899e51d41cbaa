-- Passing over the variables of which an effect names no atom. Assumes nothing.
use Prim.Native.Nat.{ℕ, zero, suc, ◌+◌, ◌-◌, ◌%◌, ◌≤◌, ◌<◌}
use native.Mathlib.Omega.{arith}
use native.Mathlib.Decide.{dec_le, dec_lt}
use mathlib.Core.Path.{◌≡◌, refl, sym, ap, ap₂, ◌∙◌}
use mathlib.Core.Bool.{Bool, true, false}
use mathlib.Core.List.{List, [], ◌∷◌, ◌++◌, append-nil}
use Rattle.task.specs.Semantics.{Effect}
use Rattle.normal_form.specs.Builder.{St, Got, Build, give, bind, each}
use Rattle.normal_form.specs.Operators.{Changes, deletes_of, changes_of}
use Rattle.formula_builder.specs.declared.Frame.{Frame}
use Rattle.formula_builder.specs.Inner.Held.{Size, Store, held}
use Rattle.conditions.specs.Inner.Conditions.{effect_tree, condition_at, Unnamed}
use Rattle.variable_changes.specs.Inner.Stands.{Reaches}
use Rattle.atom_sets.specs.Inner.Sets.{lacks, set_from}
use Rattle.atom_sets.proofs.Places.{none_from, none_lowest, some_lowest}
use Rattle.change_records.specs.Inner.Recorded.{idle, acting, Recorded}
use Rattle.change_records.proofs.Keeping.{acting_append}
use Rattle.operators.specs.Inner.Operator.{all_changes, Passes, NextTouched}

-- What is passed over at v, by the word from v on.
module _ (frame : Frame) (notes : List ℕ) (e v rest : ℕ) (r : rest ≡ set_from frame notes v e) where
  pub passes_rest : rest ≡ 0 → Passes frame notes e v (8 - v % 8)
  passes_rest z =
      record {
        passed = λ clear u a b. none_from frame notes v e (sym r ∙ z) clear u a (omega (arith, a, b));
        most = omega arith;
        stopped = λ q. absurd (omega (arith, q));
      }

  pub passes_one : rest % 4 ≡ 0 → Passes frame notes e v 1
  passes_one z =
      record {
        passed = λ clear u a b.
            let same : u ≡ v = omega (arith, a, b) in
            rw same (none_lowest frame notes v e (rw (← r) z) clear);
        most = omega arith;
        stopped = λ q. absurd (omega (arith, q));
      }

  pub passes_none : (rest % 4 ≡ 0 → ⊥) → Passes frame notes e v 0
  passes_none z =
      record {
        passed = λ clear u a b. absurd (omega (arith, a, b));
        most = omega arith;
        stopped = λ _. some_lowest frame notes v e (λ q. z (rw r q));
      }

-- The search for the next variable, at v: of those from one on none is named.
pub record Searching (frame : Frame) (notes : List ℕ) (e from v : ℕ) : Type 0 where
  pub above : from ≤ v
  pub passed : (clear : Bool) (u : ℕ) → from ≤ u → u < v → lacks frame notes clear u e ≡ true

pub searching_none : (frame : Frame) (notes : List ℕ) (e from : ℕ) → Searching frame notes e from from
searching_none frame notes e from = record { above = omega arith; passed = λ clear u a b. absurd (omega (arith, a, b)) }

pub searching_more :
    {frame : Frame} {notes : List ℕ} {e from v k : ℕ}
    → Searching frame notes e from v
    → Passes frame notes e v k
    → Searching frame notes e from (v + k)
searching_more {frame} {notes} {e} {from} {v} {k} s p =
    record { above = omega (arith, s.above); passed = λ clear u a b. go clear u a b (dec_lt u v) }
  where
    go : (clear : Bool) (u : ℕ) → from ≤ u → u < v + k → Dec (u < v) → lacks frame notes clear u e ≡ true
    go clear u a b (yes h) = s.passed clear u a h
    go clear u a b (no h) = p.passed clear u (omega (arith, h)) b

pub searched :
    {frame : Frame} {notes : List ℕ} {e from v k : ℕ}
    → Searching frame notes e from v
    → v < frame.variables
    → Passes frame notes e v k
    → k ≡ 0
    → NextTouched frame notes e from v
searched s h p z =
    record { above = s.above; below = omega (arith, h); passed = s.passed; stopped = λ _ all. p.stopped z all }

pub searched_all :
    {frame : Frame} {notes : List ℕ} {e from v : ℕ}
    → from ≤ frame.variables
    → Searching frame notes e from v
    → frame.variables ≤ v
    → NextTouched frame notes e from frame.variables
searched_all f s h =
    record {
      above = f;
      below = omega arith;
      passed = λ clear u a b. s.passed clear u a (omega (arith, b, h));
      stopped = λ g _. omega (arith, g);
    }

folded :
    (n v : ℕ) (tree : Effect)
    → bind (give 0)
    (λ a. bind (give 0) (λ d. bind (deletes_of n tree v a d) (λ k. give {A = Changes} (record { variable = v; adds = a; deletes = k }))))
    ≡ give {A = Changes} (record { variable = v; adds = 0; deletes = 0 })
unfolding bind give deletes_of
folded n v tree = refl

-- a variable of which no atom is named changes nothing
unnamed_changes :
    (frame : Frame) (formulas effects : List ℕ) (v e : ℕ)
    → ((clear : Bool) → Unnamed frame formulas effects clear v e)
    → changes_of frame.variables (effect_tree frame formulas effects e) v ≡ give (record { variable = v; adds = 0; deletes = 0 })
unfolding changes_of condition_at
unnamed_changes frame formulas effects v e u =
    let n = frame.variables in
    let tree = effect_tree frame formulas effects e in
    let set-idle = (u false).idle (record { clear = false; variable = v; negated = false }) refl refl in
    let clear-idle = (u true).idle (record { clear = true; variable = v; negated = false }) refl refl in
    ap₂
    (λ (a d : Build ℕ).
    bind a (λ a. bind d (λ d. bind (deletes_of n tree v a d) (λ k. give {A = Changes} (record { variable = v; adds = a; deletes = k })))))
    set-idle clear-idle
    ∙ folded n v tree

-- Two steps that build the same, and whose changes bring the same rules.
pub record Alike (m m' : Build (List Changes)) : Type 0 where
  pub state : (t : St) → (m t).st ≡ (m' t).st
  pub rules : (t : St) → acting (m t).value ≡ acting (m' t).value

alike_refl : (m : Build (List Changes)) → Alike m m
alike_refl m = record { state = λ t. refl; rules = λ t. refl }

alike_trans : {m m' m'' : Build (List Changes)} → Alike m m' → Alike m' m'' → Alike m m''
alike_trans x y = record { state = λ t. x.state t ∙ y.state t; rules = λ t. x.rules t ∙ y.rules t }

module _ (frame : Frame) (formulas effects : List ℕ) (e : ℕ) where
  one_passed :
      (v : ℕ)
      → ((clear : Bool) → Unnamed frame formulas effects clear v e)
      → Alike (all_changes frame formulas effects e (suc v)) (all_changes frame formulas effects e v)
  unfolding all_changes each bind give acting idle
  one_passed v u =
      let all : St → Got (List Changes) = each v (changes_of frame.variables (effect_tree frame formulas effects e)) in
      let same = unnamed_changes frame formulas effects v e u in
      record {
        state = λ t. ap (λ (m : Build Changes). (m (all t).st).st) same;
        rules = λ t.
            ap (λ (m : Build Changes). acting ((all t).value ++ ((m (all t).st).value ∷ []))) same
            ∙ acting_append (all t).value (record { variable = v; adds = 0; deletes = 0 } ∷ [])
            ∙ append-nil (acting (all t).value);
      }

  -- no atom of the variables from v up to n is named
  pub stretch_passed :
      (v n : ℕ)
      → v ≤ n
      → ((j : ℕ) → v ≤ j → j < n → (clear : Bool) → Unnamed frame formulas effects clear j e)
      → Alike (all_changes frame formulas effects e n) (all_changes frame formulas effects e v)
  stretch_passed v zero h u =
      let same : v ≡ 0 = omega arith in
      rw same (alike_refl (all_changes frame formulas effects e 0))
  stretch_passed v (suc n) h u = go (dec_le v n) (λ b. stretch_passed v n b (λ j p q. u j p (omega arith)))
    where
      go :
          Dec (v ≤ n)
          → (v ≤ n → Alike (all_changes frame formulas effects e n) (all_changes frame formulas effects e v))
          → Alike (all_changes frame formulas effects e (suc n)) (all_changes frame formulas effects e v)
      go (yes b) more = alike_trans (one_passed n (u n b (omega arith))) (more b)
      go (no b) more =
          let same : v ≡ suc n = omega arith in
          rw same (alike_refl (all_changes frame formulas effects e (suc n)))

-- What is reached and recorded after one of them is so after the other.
module _ {m m' : Build (List Changes)} (a : Alike m m') where
  pub reaches_alike :
      {frame : Frame} {formulas effects : List ℕ} {at : Size} {before after : Store} {scratch : List ℕ} {full : Bool} {next : Size}
      → Reaches m' frame formulas effects at before after scratch full next
      → Reaches m frame formulas effects at before after scratch full next
  reaches_alike {at = at} {before = before} x =
      let same = a.state (held at before) in
      record {
        done = λ q.
            let d = x.done q in
            record { state = same ∙ d.state; ready = d.ready; memo = d.memo; effect_memo = d.effect_memo };
        over = λ q w. x.over q (rw same at w);
      }

  pub recorded_alike :
      {from to : ℕ} {l n : List ℕ} (t : St)
      → Recorded (m' t).value from l n to
      → Recorded (m t).value from l n to
  recorded_alike {from} {to} {n = n} t x =
      let same = a.rules t in
      record { count = rw same x.count; there = λ h. rw same (x.there h); below = x.below; behind = x.behind }
