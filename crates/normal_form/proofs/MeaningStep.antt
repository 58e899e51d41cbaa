-- One step from corresponding states: they correspond again, and no variable is set and cleared together.
use Prim.Native.Nat.{ℕ, ◌+◌, ◌-◌, ◌<◌, ◌≤◌}
use native.Mathlib.Omega.{arith}
use native.Mathlib.Decide.{dec_lt}
use mathlib.Core.Path.{◌≡◌, refl, sym, ap, ap₂, ◌∙◌}
use mathlib.Core.Bool.{Bool, true, false, cond, not, ◌&&◌}
use mathlib.Core.List.{List}
use lib.ListN.{length, get_or}
use Rattle.task.specs.Table.{Task}
use Rattle.task.specs.Rules.{Checked}
use Rattle.task.specs.Semantics.{Effect, empty, sets, clears, effcond, value_after, apply}
use Rattle.task.specs.Run.{effect_of_operator}
use Rattle.task.specs.Corresponding.{Corresponding}
use Rattle.task.proofs.Bounded.{length_upto, getD_upto}
use Rattle.normal_form.specs.Finished.{finished}
use Rattle.normal_form.proofs.MeaningParts.{good_parts}
use Rattle.normal_form.proofs.ShapeFinished.{operator_past}
use Rattle.normal_form.proofs.MeaningFinished.{sets_none, sets-original, clears-original, sets-twin, clears-twin}

-- One variable, and one twin, after a step: A where it is set, D where it is cleared.
original_after : (a d : Bool) (x : ℕ) → cond a 1 (cond (d && not a) 0 x) ≡ cond a 1 (cond d 0 x)
original_after true d x = refl
original_after false true x = refl
original_after false false x = refl

twin_after : (a d : Bool) (x : ℕ) → cond (d && not a) 1 (cond a 0 (1 - x)) ≡ 1 - cond a 1 (cond d 0 x)
twin_after true true x = refl
twin_after true false x = refl
twin_after false true x = refl
twin_after false false x = refl

bit_after : (a d : Bool) (x : ℕ) → x ≤ 1 → cond a 1 (cond d 0 x) ≤ 1
bit_after true d x h = omega arith
bit_after false true x h = omega arith
bit_after false false x h = h

free : (a d : Bool) → (a && (d && not a)) ≡ false
free true true = refl
free true false = refl
free false d = refl

free_twin : (a d : Bool) → ((d && not a) && a) ≡ false
free_twin true true = refl
free_twin true false = refl
free_twin false true = refl
free_twin false false = refl

pub length_apply : (s : List ℕ) (e : Effect) → length (apply s e) ≡ length s
unfolding apply
length_apply s e = length_upto (length s) (value_after s e)

apply_at : (s : List ℕ) (e : Effect) (v : ℕ) → v < length s → get_or (apply s e) v 0 ≡ value_after s e v
unfolding apply
apply_at s e v h = getD_upto (length s) (value_after s e) v 0 h

bit_value : (s : List ℕ) (e : Effect) (v : ℕ) → get_or s v 0 ≤ 1 → value_after s e v ≤ 1
unfolding value_after
bit_value s e v h = bit_after (effcond s (sets v) e) (effcond s (clears v) e) (get_or s v 0) h

-- below n, or below n + w as n + k, or beyond
place_of : (P : ℕ → Type 0) (n w x : ℕ) → (x < n → P x) → ((k : ℕ) → k < w → P (n + k)) → (n + w ≤ x → P x) → P x
place_of P n w x below twin beyond = go (dec_lt x n) (dec_lt x (n + w))
  where
    go : Dec (x < n) → Dec (x < n + w) → P x
    go (yes h) d = below h
    go (no h) (yes g) = let e : n + (x - n) ≡ x = omega arith in rw e at (twin (x - n) (omega arith))
    go (no h) (no g) = beyond (omega arith)

module _ (t : Task) (rules : Checked t) (s s' : List ℕ) (width : length s ≡ length t.initial) (states : Corresponding (finished t).originals s s') where
  module _ (o : ℕ) (h : o < length t.operators) where
    original_value :
        (v : ℕ)
        → v < length t.initial
        → value_after s' (effect_of_operator (finished t) o) v ≡ value_after s (effect_of_operator t o) v
    unfolding value_after
    original_value v b =
        let e = effect_of_operator t o in
        ap₂ (λ (a : Bool) (r : ℕ). cond a 1 r) (sets-original t rules s s' width states o h v b)
        (ap₂ (λ (d : Bool) (r : ℕ). cond d 0 r) (clears-original t rules s s' width states o h v b)
        (states.same v (omega arith)))
        ∙ original_after (effcond s (sets v) e) (effcond s (clears v) e) (get_or s v 0)

    twin_value :
        (k : ℕ)
        → k < length (finished t).originals
        → value_after s' (effect_of_operator (finished t) o) (length t.initial + k)
        ≡ 1 - value_after s (effect_of_operator t o) (get_or (finished t).originals k 0)
    unfolding value_after finished
    twin_value k b =
        let e = effect_of_operator t o in
        let v = get_or (finished t).originals k 0 in
        ap₂ (λ (a : Bool) (r : ℕ). cond a 1 r) (sets-twin t rules s s' width states o h k b)
        (ap₂ (λ (d : Bool) (r : ℕ). cond d 0 r) (clears-twin t rules s s' width states o h k b)
        (rw width at (states.opposite k b)))
        ∙ twin_after (effcond s (sets v) e) (effcond s (clears v) e) (get_or s v 0)

    twin_below : (k : ℕ) → k < length (finished t).originals → get_or (finished t).originals k 0 < length t.initial
    unfolding finished
    twin_below k b = (good_parts t rules).fine.twin_below k b

    -- in corresponding states a step leads to corresponding states
    pub correspond_after :
        Corresponding (finished t).originals (apply s (effect_of_operator t o))
        (apply s' (effect_of_operator (finished t) o))
    correspond_after =
        let n = length t.initial in
        let e = effect_of_operator t o in
        let e' = effect_of_operator (finished t) o in
        let len = length_apply s e in
        let len' = length_apply s' e' in
        record {
          bits = λ v b. rw (apply_at s e v (omega arith)) (bit_value s e v (states.bits v (omega arith)));
          width = len' ∙ states.width ∙ rw len;
          same =
              λ v b.
              apply_at s' e' v (omega (arith, states.width))
              ∙ original_value v (omega arith)
              ∙ sym (apply_at s e v (omega arith));
          opposite =
              λ k b.
              let v = get_or (finished t).originals k 0 in
              rw (len, width)
              (apply_at s' e' (n + k) (omega (arith, states.width))
              ∙ twin_value k b
              ∙ ap (λ (x : ℕ). 1 - x) (sym (apply_at s e v (omega (arith, twin_below k b)))));
        }

    -- an operator of the task sets and clears no variable together
    free_inside :
        (x : ℕ)
        → (effcond s' (sets x) (effect_of_operator (finished t) o)
        && effcond s' (clears x) (effect_of_operator (finished t) o))
        ≡ false
    unfolding finished
    free_inside x =
        let e = effect_of_operator t o in
        let e' = effect_of_operator (finished t) o in
        place_of (λ x. (effcond s' (sets x) e' && effcond s' (clears x) e') ≡ false) (length t.initial)
        (length (finished t).originals) x
        (λ b.
        ap₂ ◌&&◌ (sets-original t rules s s' width states o h x b) (clears-original t rules s s' width states o h x b)
        ∙ free (effcond s (sets x) e) (effcond s (clears x) e))
        (λ k b.
        let v = get_or (finished t).originals k 0 in
        ap₂ ◌&&◌ (sets-twin t rules s s' width states o h k b) (clears-twin t rules s s' width states o h k b)
        ∙ free_twin (effcond s (sets v) e) (effcond s (clears v) e))
        (λ b.
        ap (λ (a : Bool). a && effcond s' (clears x) e') (sets_none t rules s s' width states o h x b))

  -- nor does any other number, which has the empty effect
  pub free_of_conflict :
      (o x : ℕ)
      → (effcond s' (sets x) (effect_of_operator (finished t) o)
      && effcond s' (clears x) (effect_of_operator (finished t) o))
      ≡ false
  unfolding effcond
  free_of_conflict o x = go (dec_lt o (length t.operators))
    where
      go :
          Dec (o < length t.operators)
          → (effcond s' (sets x) (effect_of_operator (finished t) o)
          && effcond s' (clears x) (effect_of_operator (finished t) o))
          ≡ false
      go (yes h) = free_inside o h x
      go (no h) =
          let none : effect_of_operator (finished t) o ≡ empty = operator_past t o (omega arith) in
          ap (λ (e : Effect). effcond s' (sets x) e && effcond s' (clears x) e) none
