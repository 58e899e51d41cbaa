-- The words of effects: each arm of the code, each turn of its loop, and what they mean. Assumes nothing.
use Prim.Native.Nat.{ℕ, suc, ◌+◌, ◌-◌, ◌*◌, ◌%◌, ◌^◌, ◌≤◌, ◌<◌}
use native.Mathlib.Nat.{one-mul}
use native.Mathlib.Omega.{arith}
use native.Mathlib.Decide.{ℕ_discrete}
use mathlib.Core.Path.{◌≡◌, refl, sym, ap, ap₂, ◌∙◌}
use mathlib.Core.List.{List}
use lib.Bits.{bit_or}
use lib.Pow.{shl_exact}
use lib.ListN.{length, get_or, set, length-set}
use lib.Seq.{get_or-set_same, get_or-set_other}
use borrow.Author.Tests.{eq-eqb, ne_eqb}
use Rattle.std.specs.Prelude.{Result, Ok, Err}
use Rattle.std.specs.Result.{IsOk}
use Rattle.task.specs.declared.Table.TheVariants.{Effects}
use Rattle.task.specs.declared.TableRow.{TableRow}
use Rattle.task.specs.declared.kinds.EffectKind.{EffectKind as Kind}
use Rattle.task.specs.declared.kinds.EffectKind.TheVariants as k
use Rattle.task.specs.declared.kinds.UnknownKind.{UnknownKind}
use Rattle.task.specs.Kinds.{effect_number, EffectKindOf}
use Rattle.task.specs.Inner.Tables.{words_at}
use Rattle.task.specs.Rules.{EffectRule}
use Rattle.task.specs.Table.{row_at, EffectKind, empty_kind, set_kind, clear_kind, both_kind, under_kind, unknown_effect, effect_kind}
use Rattle.task.specs.Inner.Rows.{EffectKept}
use Rattle.state_codes.specs.Inner.Masks.{kind_mask, row_mask, RowMasks, Maskable, RowMaskable}

-- a row that keeps its rule is of a known kind
no_rule : (v f i a b n : ℕ) → 5 ≤ n → EffectRule v f i (effect_kind n) a b → ⊥
unfolding effect_kind
no_rule v f i a b n h rule =
    let m : n ≡ suc (suc (suc (suc (suc (n - 5))))) = omega arith in
    rw m at rule

pub known :
    {words values masks : List ℕ} {i : ℕ}
    → RowMaskable words i values masks
    → {row : TableRow}
    → row ≡ words_at Effects words i
    → (r : Result Kind UnknownKind)
    → EffectKindOf row.first r
    → IsOk r
known ready read (Ok kind) tried = refl
known {words} {i = i} ready read (Err e) tried =
    let w = row_at words i in
    absurd (no_rule ready.v ready.f i w.a w.b w.kind (rw read at tried) ready.rule)

-- the code's shift
shifted : (a : ℕ) → a < 31 → 1 * 2 ^ a % 4294967296 ≡ 2 ^ a
shifted a h = shl_exact {a = 1} 1 a 32 (omega arith) (omega arith) ∙ one-mul (2 ^ a)

-- the arms of `mask_of`, from the words that it reads
module _
    {words values masks : List ℕ} {i : ℕ} (ready : RowMaskable words i values masks)
    {row : TableRow} (read : row ≡ words_at Effects words i)
    {r : Result Kind UnknownKind} (tried : EffectKindOf row.first r)
    {kind : Kind} (unwrapped : r ≡ Ok kind) where
  number : (row_at words i).kind ≡ effect_number kind
  number =
      let of : EffectKindOf row.first (Ok kind) = rw unwrapped at tried in
      sym (ap (λ (x : TableRow). x.first) read) ∙ of

  kept : EffectRule ready.v ready.f i (effect_kind (effect_number kind)) row.second row.third
  kept = rw (read, ← number) ready.rule

  mask : {x : ℕ} → x ≡ kind_mask values masks (effect_kind (effect_number kind)) row.second row.third → x ≡ row_mask values masks (row_at words i)
  unfolding row_mask
  mask e = rw number (e ∙ rw read)

  pub empty_row : kind ≡ k.Empty → 0 ≡ row_mask values masks (row_at words i)
  unfolding kind_mask effect_kind
  empty_row e = mask (rw e)

  -- an atom's variable
  pub set_ref : kind ≡ k.Set → row.second < 10
  unfolding effect_kind
  set_ref e = omega (arith, rw e at kept, ready.few)

  pub set_row : kind ≡ k.Set → 1 * 2 ^ row.second % 4294967296 ≡ row_mask values masks (row_at words i)
  unfolding kind_mask effect_kind
  set_row e = mask (rw e (shifted row.second (omega (arith, set_ref e))))

  pub clear_ref : kind ≡ k.Clear → row.second < 10
  unfolding effect_kind
  clear_ref e = omega (arith, rw e at kept, ready.few)

  pub clear_row : kind ≡ k.Clear → 1 * 2 ^ (16 + row.second) % 4294967296 ≡ row_mask values masks (row_at words i)
  unfolding kind_mask effect_kind
  clear_row e = mask (rw e (shifted (16 + row.second) (omega (arith, clear_ref e))))

  pub both_refs : kind ≡ k.Both → (row.second < i) × (row.third < i)
  unfolding effect_kind
  both_refs e = rw e at kept

  pub both_row : kind ≡ k.Both → bit_or (get_or masks row.second 0) (get_or masks row.third 0) ≡ row_mask values masks (row_at words i)
  unfolding kind_mask effect_kind
  both_row e = mask (rw e)

  pub under_refs : kind ≡ k.Under → (row.second < ready.f) × (row.third < i)
  unfolding effect_kind
  under_refs e = rw e at kept

  pub under_false : kind ≡ k.Under → get_or values row.second 0 ≡ 0 → 0 ≡ row_mask values masks (row_at words i)
  unfolding kind_mask effect_kind
  under_false e z = mask (rw (e, eq-eqb (get_or values row.second 0) 0 z))

  pub under_true : kind ≡ k.Under → (get_or values row.second 0 ≡ 0 → ⊥) → get_or masks row.third 0 ≡ row_mask values masks (row_at words i)
  unfolding kind_mask effect_kind
  under_true e z = mask (rw (e, ne_eqb (get_or values row.second 0) 0 z))

-- A row looks only at words of lower rows.
kind_same :
    (values masks masks' : List ℕ) (v f i : ℕ) (k : EffectKind) (a b : ℕ)
    → EffectRule v f i k a b
    → ((j : ℕ) → j < i → get_or masks' j 0 ≡ get_or masks j 0)
    → kind_mask values masks' k a b ≡ kind_mask values masks k a b
unfolding kind_mask
kind_same values masks masks' v f i empty_kind a b r e = refl
kind_same values masks masks' v f i set_kind a b r e = refl
kind_same values masks masks' v f i clear_kind a b r e = refl
kind_same values masks masks' v f i both_kind a b r e = ap₂ bit_or (e a r.0) (e b r.1)
kind_same values masks masks' v f i under_kind a b r e = rw (e b r.1)
kind_same values masks masks' v f i unknown_effect a b r e = absurd r

row_same :
    (words values masks masks' : List ℕ) (v f i : ℕ)
    → EffectKept v f i (row_at words i)
    → ((j : ℕ) → j < i → get_or masks' j 0 ≡ get_or masks j 0)
    → row_mask values masks' (row_at words i) ≡ row_mask values masks (row_at words i)
unfolding row_mask
row_same words values masks masks' v f i r e =
    kind_same values masks masks' v f i (effect_kind (row_at words i).kind) (row_at words i).a (row_at words i).b r e

-- The loop's invariant: the rows below i have their words.
pub record Masking (words : List ℕ) (values before : List ℕ) (n i : ℕ) (masks : List ℕ) : Type 0 where
  pub same : length masks ≡ length before
  pub inside : i ≤ n
  pub known : RowMasks words i values masks

module _ {words values before masks : List ℕ} {n i : ℕ} (ready : Maskable words n values before) (more : i < n) (m : Masking words values before n i masks) where
  pub row_ready : RowMaskable words i values masks
  row_ready =
      record {
        v = ready.v;
        f = ready.f;
        few = ready.few;
        there = omega (arith, ready.there);
        rule = ready.rule i more;
        values_there = ready.values_there;
        room = omega (arith, ready.room, m.same);
      }

  pub masking_more : {x : ℕ} → x ≡ row_mask values masks (row_at words i) → Masking words values before n (i + 1) (set masks i x)
  masking_more {x} e =
      record {
        same = length-set masks i x ∙ m.same;
        inside = omega arith;
        known = record { at = λ j h. go j h (ℕ_discrete j i) };
      }
    where
      below : (j : ℕ) → j < i → get_or (set masks i x) j 0 ≡ get_or masks j 0
      below j h = get_or-set_other masks i j x 0 (λ z. omega arith)

      row : (j : ℕ) → j ≤ i → row_mask values (set masks i x) (row_at words j) ≡ row_mask values masks (row_at words j)
      row j h =
          row_same words values masks (set masks i x) ready.v ready.f j (ready.rule j (omega arith)) (λ k l. below k (omega arith))

      go : (j : ℕ) → j < i + 1 → Dec (j ≡ i) → get_or (set masks i x) j 0 ≡ row_mask values (set masks i x) (row_at words j)
      go j h (yes q) =
          rw q (get_or-set_same masks i x 0 (omega (arith, ready.room, m.same)) ∙ e ∙ sym (row i (omega arith)))
      go j h (no q) = below j (omega arith) ∙ m.known.at j (omega arith) ∙ sym (row j (omega arith))
