-- What the words of effects mean: bit k stands exactly if the condition of its atom holds, and the next code is that of the state after the effect.
-- Assumes nothing.
use Prim.Native.Nat.{ℕ, zero, suc, ◌+◌, ◌-◌, ◌*◌, ◌/◌, ◌%◌, ◌^◌, ◌≤◌, ◌<◌, max, min}
use native.Mathlib.Omega.{arith}
use native.Mathlib.Decide.{dec_lt, ℕ_discrete}
use mathlib.Core.Path.{◌≡◌, refl, sym, ap, ap₂, ◌∙◌}
use mathlib.Core.Bool.{Bool, true, false, cond, ◌&&◌, ◌||◌}
use mathlib.Core.List.{List}
use lib.Bits.{bit_and, bit_or, bit_xor, differ, or_lt, or_mod, and_le_l, xor_lt}
use lib.Dec.{eqb}
use lib.Pow.{pow-lt, pow-add, pow_pos, shr_le}
use lib.ListN.{length, get_or}
use lib.Seq.{ext_get_or}
use borrow.Author.Tests.{eq-eqb, ne_eqb, lt-ltb, le-ltb}
use Rattle.task.specs.Bounded.{upto}
use Rattle.task.specs.Rules.{no_row, EffectRule}
use Rattle.task.specs.Semantics.{Formula, sets, clears, Effect, empty, atomic, both, under, holds, effcond, value_after, apply}
use Rattle.task.specs.Table.{Row, row_at, EffectKind, empty_kind, set_kind, clear_kind, both_kind, under_kind, unknown_effect, effect_kind}
use Rattle.task.specs.Tree.{formula_of, effect_node, effect_of}
use Rattle.task.specs.Inner.Rows.{EffectKept, EffectsDown}
use Rattle.task.specs.Inner.Values.{bit, Values}
use Rattle.task.proofs.Bounded.{length_upto, getD_upto}
use Rattle.task.proofs.Trees.{effect_unfolds}
use Rattle.state_codes.specs.Inner.Masks.{atom_at, Masked, next_code, kind_mask, row_mask, RowMasks}
use Rattle.state_codes.specs.Inner.States.{state_of}
use Rattle.state_codes.proofs.Bits.{or_bit, and_bit, xor_bit, power_bit, power_bits, high_bit, low_bit, state_at}
use Rattle.state_codes.proofs.States.{state_bits}

-- the atom of a bit
pub set_atom : (k : ℕ) → k < 16 → atom_at k ≡ sets k
unfolding atom_at
set_atom k h = rw (lt-ltb k 16 h)

pub clear_atom : (k : ℕ) → atom_at (16 + k) ≡ clears k
unfolding atom_at
clear_atom k =
    let e : 16 + k - 16 ≡ k = omega arith in
    rw (le-ltb (16 + k) 16 (omega arith), e)

high_atom : (k : ℕ) → 16 ≤ k → atom_at k ≡ clears (k - 16)
unfolding atom_at
high_atom k h = rw (le-ltb k 16 h)

-- bits of truth values
or_truth : (p q : Bool) → max (bit p) (bit q) ≡ bit (p || q)
unfolding bit
or_truth true true = refl
or_truth true false = refl
or_truth false true = refl
or_truth false false = refl

and_truth : (p q : Bool) → cond (eqb (bit p) 0) 0 (bit q) ≡ bit (p && q)
unfolding bit
and_truth true q = refl
and_truth false q = refl

zero_bit : (k : ℕ) → 0 / 2 ^ k % 2 ≡ 0
zero_bit k = omega (arith, shr_le 0 k)

-- The words by kind, in state s of v variables.
module _ (v : ℕ) (s : List ℕ) (few : v ≤ 10) where
  empty_masked : Masked v s empty 0
  unfolding effcond bit
  empty_masked = record { bit_at = zero_bit; below = pow_pos v }

  set_masked : (a : ℕ) → a < v → Masked v s (atomic (sets a)) (2 ^ a)
  unfolding effcond bit
  set_masked a h =
      let l : 2 ^ a < 2 ^ v = pow-lt h in
      record { bit_at = λ k. go k (dec_lt k 16) (ℕ_discrete k a); below = omega arith }
    where
      go : (k : ℕ) → Dec (k < 16) → Dec (k ≡ a) → 2 ^ a / 2 ^ k % 2 ≡ bit (effcond s (atom_at k) (atomic (sets a)))
      go k (yes l) (yes q) = rw (set_atom k l, eq-eqb k a q, q) (power_bit a)
      go k (yes l) (no q) = rw (set_atom k l, ne_eqb k a q) (power_bits a k q)
      go k (no l) d = rw (high_atom k (omega arith)) (power_bits a k (λ q. omega arith))

  clear_masked : (a : ℕ) → a < v → Masked v s (atomic (clears a)) (2 ^ (16 + a))
  unfolding effcond bit
  clear_masked a h =
      let e : 2 ^ (16 + a) ≡ 65536 * 2 ^ a = pow-add 2 16 a in
      let p : 0 < 2 ^ v = pow_pos v in
      record { bit_at = λ k. go k (dec_lt k 16) (ℕ_discrete k (16 + a)); below = omega arith }
    where
      go : (k : ℕ) → Dec (k < 16) → Dec (k ≡ 16 + a) → 2 ^ (16 + a) / 2 ^ k % 2 ≡ bit (effcond s (atom_at k) (atomic (clears a)))
      go k (yes l) d = rw (set_atom k l) (power_bits (16 + a) k (λ q. omega arith))
      go k (no l) (yes q) = rw (high_atom k (omega arith), eq-eqb (k - 16) a (omega arith), q) (power_bit (16 + a))
      go k (no l) (no q) = rw (high_atom k (omega arith), ne_eqb (k - 16) a (λ z. q (omega arith))) (power_bits (16 + a) k q)

  both_masked : {e f : Effect} {x y : ℕ} → Masked v s e x → Masked v s f y → Masked v s (both e f) (bit_or x y)
  unfolding effcond
  both_masked {e} {f} {x} {y} m n =
      record {
        bit_at = λ k.
            or_bit x y k
            ∙ ap₂ max (m.bit_at k) (n.bit_at k)
            ∙ or_truth (effcond s (atom_at k) e) (effcond s (atom_at k) f);
        below = rw (or_mod x y 16) (or_lt v (x % 65536) (y % 65536) m.below n.below);
      }

  under_masked : {p : Formula} {e : Effect} {x b : ℕ} → b ≡ bit (holds s p) → Masked v s e x → Masked v s (under p e) (cond (eqb b 0) 0 x)
  unfolding effcond bit
  under_masked {p} {e} {x} {b} q m = rw q (go (holds s p) refl)
    where
      go : (t : Bool) → holds s p ≡ t → Masked v s (under p e) (cond (eqb (bit t) 0) 0 x)
      go true h =
          record { bit_at = λ k. m.bit_at k ∙ ap (λ (t : Bool). bit (t && effcond s (atom_at k) e)) (sym h); below = m.below }
      go false h =
          record { bit_at = λ k. zero_bit k ∙ ap (λ (t : Bool). bit (t && effcond s (atom_at k) e)) (sym h); below = pow_pos v }

  -- a row, from the words of the rows that it names
  node_masked :
      (f i : ℕ) (k : EffectKind) (a b : ℕ) (p : Formula) {e g : Effect} (values masks : List ℕ)
      → EffectRule v f i k a b
      → (a < f → get_or values a 0 ≡ bit (holds s p))
      → (a < i → Masked v s e (get_or masks a 0))
      → (b < i → Masked v s g (get_or masks b 0))
      → Masked v s (effect_node k a p e g) (kind_mask values masks k a b)
  unfolding effect_node kind_mask
  node_masked f i empty_kind a b p values masks r formula left right = empty_masked
  node_masked f i set_kind a b p values masks r formula left right = set_masked a r.0
  node_masked f i clear_kind a b p values masks r formula left right = clear_masked a r.0
  node_masked f i both_kind a b p values masks r formula left right = both_masked (left r.0) (right r.1)
  node_masked f i under_kind a b p values masks r formula left right = under_masked (formula r.0) (right r.1)
  node_masked f i unknown_effect a b p values masks r formula left right = absurd r

-- All rows of a table, where the values of the formulas in s are known.
module _
    {v f e : ℕ} {words values masks s : List ℕ} {formulas : List Row}
    (few : v ≤ 10)
    (rule : (i : ℕ) → i < e → EffectKept v f i (row_at words i))
    (known : Values s formulas f values)
    (m : RowMasks words e values masks)
  where
    row_is : (i : ℕ) → i < e → get_or (upto e (row_at words)) i no_row ≡ row_at words i
    row_is i h = getD_upto e (row_at words) i no_row h

    down : EffectsDown v f (upto e (row_at words))
    down = record { row = λ i h. let l : i < e = rw (length_upto e (row_at words)) at h in rw (row_is i l) (rule i l) }

    masked_within : (fuel i : ℕ) → i < fuel → i < e → Masked v s (effect_of formulas (upto e (row_at words)) i) (get_or masks i 0)
    unfolding row_mask
    masked_within zero i h l = absurd (omega arith)
    masked_within (suc fuel) i h l =
        rw (
          effect_unfolds v f formulas (upto e (row_at words)) down i (rw (length_upto e (row_at words)) l),
          row_is i l,
          m.at i l,
        )
        (node_masked v s few f i (effect_kind (row_at words i).kind) (row_at words i).a (row_at words i).b
        (formula_of formulas (row_at words i).a) values masks (rule i l)
        (λ b. known.at (row_at words i).a b)
        (λ b. masked_within fuel (row_at words i).a (omega arith) (omega arith))
        (λ b. masked_within fuel (row_at words i).b (omega arith) (omega arith)))

    pub row_masked : (i : ℕ) → i < e → Masked v s (effect_of formulas (upto e (row_at words)) i) (get_or masks i 0)
    row_masked i h = masked_within (suc i) i (omega arith) h

-- one bit of the next code, of a bit of the code, and whether it is set and cleared
next_bit : (x : ℕ) (p q : Bool) → x ≤ 1 → max (differ x (min x (bit q))) (bit p) ≡ cond p 1 (cond q 0 x)
unfolding bit
next_bit zero true true h = refl
next_bit zero true false h = refl
next_bit zero false true h = refl
next_bit zero false false h = refl
next_bit (suc zero) true true h = refl
next_bit (suc zero) true false h = refl
next_bit (suc zero) false true h = refl
next_bit (suc zero) false false h = refl
next_bit (suc (suc x)) p q h = absurd (omega arith)

-- THE next code: it is below 2^v, and its state is the one after the effect.
module _ {v c m : ℕ} {e : Effect} (few : v ≤ 10) (low : c < 2 ^ v) (k : Masked v (state_of v c) e m) where
  pub next_below : next_code c m < 2 ^ v
  unfolding next_code
  next_below =
      or_lt v (bit_xor c (bit_and c (m / 65536))) (m % 65536)
      (xor_lt v c (bit_and c (m / 65536)) low (omega (arith, and_le_l c (m / 65536))))
      k.below

  bit_after : (i : ℕ) → i < v → next_code c m / 2 ^ i % 2 ≡ value_after (state_of v c) e i
  unfolding next_code value_after
  bit_after i h =
      or_bit (bit_xor c (bit_and c (m / 65536))) (m % 65536) i
      ∙ ap₂ max (xor_bit c (bit_and c (m / 65536)) i ∙ ap (λ (x : ℕ). differ (c / 2 ^ i % 2) x) cleared) set
      ∙ next_bit (c / 2 ^ i % 2) (effcond (state_of v c) (sets i) e) (effcond (state_of v c) (clears i) e) (omega arith)
      ∙ ap (λ (x : ℕ). cond (effcond (state_of v c) (sets i) e) 1 (cond (effcond (state_of v c) (clears i) e) 0 x)) (sym (state_at v c i h))
    where
      set : m % 65536 / 2 ^ i % 2 ≡ bit (effcond (state_of v c) (sets i) e)
      set = low_bit m i (omega arith) ∙ k.bit_at i ∙ rw (set_atom i (omega arith))

      cleared : bit_and c (m / 65536) / 2 ^ i % 2 ≡ min (c / 2 ^ i % 2) (bit (effcond (state_of v c) (clears i) e))
      cleared =
          and_bit c (m / 65536) i
          ∙ ap (λ (x : ℕ). min (c / 2 ^ i % 2) x) (high_bit m i ∙ k.bit_at (16 + i) ∙ rw (clear_atom i))

  pub next_state : state_of v (next_code c m) ≡ apply (state_of v c) e
  unfolding apply
  next_state =
      let n = (state_bits v c).size in
      ext_get_or 0 (state_of v (next_code c m)) (upto (length (state_of v c)) (value_after (state_of v c) e))
      ((state_bits v (next_code c m)).size ∙ sym n ∙ sym (length_upto (length (state_of v c)) (value_after (state_of v c) e)))
      (λ i l.
      let h : i < v = omega (arith, (state_bits v (next_code c m)).size) in
      state_at v (next_code c m) i h
      ∙ bit_after i h
      ∙ sym (getD_upto (length (state_of v c)) (value_after (state_of v c) e) i 0 (omega arith)))
