-- What effects do in one state, as words of atoms. Only the contracts of inner functions cite this file.
use Rattle.std.specs.Prelude.{ℕ, ◌+◌, ◌-◌, ◌*◌, ◌/◌, ◌%◌, ◌^◌, ◌≤◌, ◌<◌, ◌≡◌, cond, List, eqb, ltb, length, get_or}
use Rattle.std.specs.Int.Bits.{bit_and, bit_or, bit_xor}
use Rattle.task.specs.Semantics.{Atom, sets, clears, Effect, effcond}
use Rattle.task.specs.Table.{Row, row_at, EffectKind, empty_kind, set_kind, clear_kind, both_kind, under_kind, unknown_effect, effect_kind}
use Rattle.task.specs.Inner.Rows.{EffectKept}
use Rattle.task.specs.Inner.Values.{bit}

-- the atom of bit k: bit v sets variable v, bit 16 + v clears it
unfoldable pub atom_at : ℕ → Atom
atom_at k = cond (ltb k 16) (sets k) (clears (k - 16))

-- The word of an effect in state s: bit k stands exactly if the condition of its atom holds. It sets none but the variables below v.
pub record Masked (v : ℕ) (s : List ℕ) (e : Effect) (mask : ℕ) : Type 0 where
  pub bit_at : (k : ℕ) → mask / 2 ^ k % 2 ≡ bit (effcond s (atom_at k) e)
  pub below : mask % 65536 < 2 ^ v

-- the code after an effect of this word: the clears, then the sets
unfoldable pub next_code : (code mask : ℕ) → ℕ
next_code code mask = bit_or (bit_xor code (bit_and code (mask / 65536))) (mask % 65536)

-- the word of a row, by its kind, from the values of formulas and the words of lower rows
unfoldable pub kind_mask : (values masks : List ℕ) → EffectKind → (a b : ℕ) → ℕ
kind_mask values masks empty_kind a b = 0
kind_mask values masks set_kind a b = 2 ^ a
kind_mask values masks clear_kind a b = 2 ^ (16 + a)
kind_mask values masks both_kind a b = bit_or (get_or masks a 0) (get_or masks b 0)
kind_mask values masks under_kind a b = cond (eqb (get_or values a 0) 0) 0 (get_or masks b 0)
kind_mask values masks unknown_effect a b = 0

unfoldable pub row_mask : (values masks : List ℕ) → Row → ℕ
row_mask values masks r = kind_mask values masks (effect_kind r.kind) r.a r.b

-- each row below i has its word
pub record RowMasks (words : List ℕ) (i : ℕ) (values masks : List ℕ) : Type 0 where
  pub at : (j : ℕ) → j < i → get_or masks j 0 ≡ row_mask values masks (row_at words j)

-- what the words of n rows ask: at most ten variables, rows that keep their rule, the values of the formulas
pub record Maskable (words : List ℕ) (n : ℕ) (values masks : List ℕ) : Type 0 where
  pub v : ℕ
  pub f : ℕ
  pub few : v ≤ 10
  pub there : 3 * n ≤ length words
  pub rule : (i : ℕ) → i < n → EffectKept v f i (row_at words i)
  pub values_there : f ≤ length values
  pub room : n ≤ length masks

-- the same for row i alone
pub record RowMaskable (words : List ℕ) (i : ℕ) (values masks : List ℕ) : Type 0 where
  pub v : ℕ
  pub f : ℕ
  pub few : v ≤ 10
  pub there : 3 * i + 3 ≤ length words
  pub rule : EffectKept v f i (row_at words i)
  pub values_there : f ≤ length values
  pub room : i ≤ length masks
