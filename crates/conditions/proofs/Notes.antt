-- The notes stay right while the state grows and while conditions are kept in them. Assumes nothing.
use Prim.Native.Nat.{ℕ, zero, suc, ◌+◌, ◌-◌, ◌*◌, ◌≤◌, ◌<◌}
use native.Mathlib.Omega.{arith}
use native.Mathlib.Decide.{ℕ_discrete}
use native.Mathlib.Nat.{mul-le-mul, mul-suc, mul_comm}
use mathlib.Core.Path.{◌≡◌, refl, sym, ap, ap₂, ◌∙◌}
use mathlib.Core.Bool.{Bool, true, false, cond}
use mathlib.Core.List.{List}
use lib.ListN.{length, get_or, set, length-set}
use lib.Seq.{get_or-set_same, get_or-set_other}
use lib.Dec.{eqb}
use mir.Val.{bool_byte}
use Rattle.std.specs.Prelude.{Option, None, Some}
use Rattle.std.specs.Option.{SomeIff, IfSome}
use borrow.Author.Tests.{le-leb, lt-leb}
use Rattle.task.specs.Table.{row_at}
use Rattle.normal_form.specs.Builder.{St, Build}
use Rattle.normal_form.specs.Growth.{Grows, Steady}
use Rattle.normal_form.proofs.Growth.{steady_join}
use Rattle.normal_form.proofs.Steady.{steady_condition}
use Rattle.formula_builder.specs.declared.Frame.{Frame}
use Rattle.formula_builder.specs.Inner.Held.{Size, Step, Store, side, Builds}
use Rattle.images.specs.Inner.Images.{Known}
use Rattle.images.proofs.Memos.{known_grows}
use Rattle.atom_sets.specs.Inner.Sets.{sets_end}
use Rattle.atom_sets.proofs.Places.{sets_behind, lacks_same}
use Rattle.conditions.specs.declared.Target.{Target}
use Rattle.conditions.specs.Inner.Conditions.{atom_of, effect_tree, condition_at, AtomSets, column, part, width, kept_place, Columns, Kept, join_place, Joins, Noted, Looks, KeptAt, RecallsNoted, KeepsNoted, Asks}

pub steady_condition_at :
    (frame : Frame) (formulas effects : List ℕ) (t : Target) (e : ℕ) → Steady (condition_at frame formulas effects t e)
unfolding condition_at
steady_condition_at frame formulas effects t e =
    steady_condition frame.variables (side t.negated) (atom_of t) (effect_tree frame formulas effects e)

pub noted_grows :
    {frame : Frame} {formulas effects notes : List ℕ} {s s' : St}
    → Grows s s'
    → Noted frame formulas effects notes s
    → Noted frame formulas effects notes s'
noted_grows {frame} {formulas} {effects} {notes} g n =
    record {
      sets = n.sets;
      columns = n.columns;
      kept =
          record {
            known = λ t e r h v p c i w. known_grows (steady_condition_at frame formulas effects t e) g (n.kept.known t e r h v p c i w);
          };
      joins =
          record {
            known = λ e r h w.
                known_grows
                (steady_join (side (eqb (row_at effects e).kind 3)) (get_or notes (join_place frame e) 0) (get_or notes (join_place frame e + 1) 0))
                g (n.joins.known e r h w);
          };
    }

-- the sets stay right while their words stay
pub sets_stay :
    {frame : Frame} {effects notes notes' : List ℕ}
    → length notes' ≡ length notes
    → ((j : ℕ) → 4 * frame.effects ≤ j → j < sets_end frame → get_or notes' j 0 ≡ get_or notes j 0)
    → AtomSets frame effects notes
    → AtomSets frame effects notes'
sets_stay {frame} {effects} {notes} {notes'} long same x =
    record {
      words = omega (arith, long, x.words);
      alone = λ formulas clear v e h g q.
          x.alone formulas clear v e h g (sym (lacks_same frame notes notes' clear v e h g same) ∙ q);
    }

-- the columns stay while their words stay
pub columns_stay :
    {frame : Frame} {notes notes' : List ℕ}
    → length notes' ≡ length notes
    → ((d : ℕ) → d < frame.effects → get_or notes' d 0 ≡ get_or notes d 0)
    → Columns frame notes
    → Columns frame notes'
unfolding column
columns_stay long same x =
    record {
      words = rw long x.words;
      apart = λ d e g h c q. x.apart d e g h (rw (same e h) at c) (sym (same d g) ∙ q ∙ same e h);
    }

behind : (a b : ℕ) → a ≤ a + b
behind a b = omega arith

place_behind : (frame : Frame) (c : ℕ) (t : Target) → sets_end frame ≤ kept_place frame c t
unfolding kept_place
place_behind frame c t = behind (sets_end frame) (c * (width frame.variables * frame.variables) + (width frame.variables * t.variable + part t))

-- the conditions that are kept stay right while their words and the columns stay
pub kept_stay :
    {frame : Frame} {formulas effects notes notes' : List ℕ} {s : St}
    → length notes' ≡ length notes
    → ((d : ℕ) → d < frame.effects → get_or notes' d 0 ≡ get_or notes d 0)
    → ((j : ℕ) → sets_end frame ≤ j → get_or notes' j 0 ≡ get_or notes j 0)
    → Kept frame formulas effects notes s
    → Kept frame formulas effects notes' s
unfolding column
kept_stay {frame} {notes = notes} {notes' = notes'} long low same x =
    record {
      known = λ t e r h v p c i w.
          let k = kept_place frame (column notes e) t in
          let within : k < length notes = rw (low e h, long) at i in
          let there : get_or notes' k 0 ≡ r + 1 = rw (low e h) at w in
          x.known t e r h v p (rw (low e h) at c) within (sym (same k (place_behind frame (column notes e) t)) ∙ there);
    }

-- the last joins stay right while their words stay
pub joins_stay :
    {frame : Frame} {effects notes notes' : List ℕ} {s : St}
    → ((j : ℕ) → frame.effects ≤ j → j < 4 * frame.effects → get_or notes' j 0 ≡ get_or notes j 0)
    → Joins frame effects notes s
    → Joins frame effects notes' s
joins_stay {frame} same x =
    record {
      known = λ e r h w.
          let k = join_place frame e in
          rw (same k (omega arith) (omega arith), same (k + 1) (omega arith) (omega arith))
          (x.known e r h (sym (same (k + 2) (omega arith) (omega arith)) ∙ w));
    }

-- nothing is kept
pub noted_blank :
    {frame : Frame} {effects notes : List ℕ} (formulas : List ℕ) (s : St)
    → AtomSets frame effects notes
    → Columns frame notes
    → ((j : ℕ) → frame.effects ≤ j → j < 4 * frame.effects → get_or notes j 0 ≡ 0)
    → ((j : ℕ) → sets_end frame ≤ j → get_or notes j 0 ≡ 0)
    → Noted frame formulas effects notes s
noted_blank {frame} {effects} {notes} formulas s sets columns free blank =
    record {
      sets = sets;
      columns = columns;
      kept =
          record {
            known = λ t e r h v p c i w.
                absurd
                (impossible r
                (sym (blank (kept_place frame (column notes e) t) (place_behind frame (column notes e) t)) ∙ w));
          };
      joins =
          record {
            known = λ e r h w.
                absurd (impossible r (sym (free (join_place frame e + 2) (omega arith) (omega arith)) ∙ w));
          };
    }
  where
    impossible : (r : ℕ) → 0 ≡ r + 1 → ⊥
    impossible r q = omega (arith, q)

-- what looking up row e, or keeping it, asks
pub looks :
    {frame : Frame} {formulas effects notes notes' : List ℕ} {t : Target} {at : Size} {before : Store} {scratch : List ℕ} {e : ℕ}
    → Asks frame formulas effects notes t at before scratch e
    → Columns frame notes'
    → Looks frame notes' e
looks a columns =
    record {
      words = columns.words;
      limit = a.effect_source.limit;
      variables = omega (arith, a.ready.variables);
      effect = a.effect;
    }

-- a row that was built fits a word
pub small_row :
    {m : Build ℕ} {frame : Frame} {at : Size} {before after : Store} {r : Step}
    → Builds m frame at before after r
    → r.full ≡ false
    → r.row < 4096
small_row b q =
    let d = b.done q in
    omega (arith, d.below, d.ready.rows.within, d.ready.rows.limit)

-- a place fits a word of the machine
pub word_small : (n v : ℕ) → n ≤ 3 → v ≤ 512 → n * v ≤ 1536
word_small n v k g = mul-le-mul {n₂ = 3} {m₂ = 512} k g

pub place_small : (c n v : ℕ) → c < 65536 → n ≤ 3 → v ≤ 512 → c * (n * v) ≤ 100661760
place_small c n v h k g = mul-le-mul {n₂ = 65535} {m₂ = 1536} (omega arith) (word_small n v k g)

pub byte_small : (b : Bool) → bool_byte b ≤ 1
byte_small true = omega arith
byte_small false = omega arith

pub byte_is : (b : Bool) → bool_byte b ≡ cond b 1 0
byte_is true = refl
byte_is false = refl

-- the code's sum is the part
pub part_made : (t : Target) → (bool_byte t.clear + 2 * bool_byte t.negated ≡ part t) × (bool_byte t.clear + 2 * bool_byte t.negated ≤ 3)
unfolding part
part_made t =
    (rw (byte_is t.clear, byte_is t.negated) refl, omega (arith, byte_small t.clear, byte_small t.negated))

-- the code's sum is the place
pub place_sum :
    (frame : Frame) (t : Target) (c k p : ℕ)
    → k ≡ sets_end frame
    → p ≡ part t
    → {n : ℕ}
    → n ≡ width frame.variables
    → k + (c * (n * frame.variables) + (n * t.variable + p))
    ≡ sets_end frame + (c * (width frame.variables * frame.variables) + (width frame.variables * t.variable + part t))
place_sum frame t c k p s q w = rw (s, q, w) refl

pub place_found :
    (frame : Frame) (notes : List ℕ) (t : Target) (e k : ℕ)
    → (get_or notes e 0 ≡ 0 → ⊥)
    → part t < width frame.variables
    → t.variable < frame.variables
    → k ≡ sets_end frame + (get_or notes e 0 * (width frame.variables * frame.variables) + (width frame.variables * t.variable + part t))
    → k < length notes
    → KeptAt frame notes t e k
unfolding column kept_place
place_found frame notes t e k c p v q w =
    record { one = p; variable = v; has_column = omega (arith, c); place = q; within = w }

-- Two columns have no word in common, nor two atoms in one column.
quotients : (n c d a b : ℕ) → a < n → b < n → c * n + a ≡ d * n + b → (c ≡ d) × (a ≡ b)
quotients n zero zero a b g h q = (refl, omega (arith, q))
quotients n zero (suc d) a b g h q = absurd (omega (arith, q, g))
quotients n (suc c) zero a b g h q = absurd (omega (arith, q, h))
quotients n (suc c) (suc d) a b g h q =
    let x = quotients n c d a b g h (omega (arith, q)) in
    (ap suc x.0, x.1)

pub atoms : (v w : ℕ) (a b : Bool) → 2 * v + cond a 1 0 ≡ 2 * w + cond b 1 0 → (v ≡ w) × (a ≡ b)
atoms v w true true q = (omega arith, refl)
atoms v w false false q = (omega arith, refl)
atoms v w true false q = absurd (omega (arith, q))
atoms v w false true q = absurd (omega (arith, q))

part_within : (m n v p : ℕ) → v < n → p < m → m * v + p < m * n
part_within m n v p h g = go (m * v) (m * n) (mul-le-mul {n₂ = m} {m₂ = n} (omega arith) h)
  where
    go : (x y : ℕ) → m * suc v ≤ y → m * v + p < y
    go x y k = omega (arith, k, mul-suc m v)

-- three words, or two
pub width_three : (v : ℕ) → v ≤ 256 → (3 ≡ width v) × (3 ≤ 3) × (2 ≤ 3)
unfolding width
width_three v h = (rw (le-leb v 256 h) refl, omega arith, omega arith)

pub width_two : (v : ℕ) → 256 < v → (2 ≡ width v) × (2 ≤ 3) × (2 ≤ 2)
unfolding width
width_two v h = (rw (lt-leb v 256 h) refl, omega arith, omega arith)

-- a part tells the target's two flags
part_flags : (t u : Target) → part t ≡ part u → (t.clear ≡ u.clear) × (t.negated ≡ u.negated)
unfolding part
part_flags t u q =
    let x = atoms (cond t.negated 1 0) (cond u.negated 1 0) t.clear u.clear (omega (arith, q)) in
    (x.1, flag t.negated u.negated x.0)
  where
    flag : (a b : Bool) → ◌≡◌ {A = ℕ} (cond a 1 0) (cond b 1 0) → a ≡ b
    flag true true e = refl
    flag false false e = refl
    flag true false e = absurd (omega (arith, e))
    flag false true e = absurd (omega (arith, e))

cancel : (a b c : ℕ) → a + b ≡ a + c → b ≡ c
cancel a b c q = omega (arith, q)

-- One word is kept for one column and one target.
places_apart :
    (frame : Frame) (c d : ℕ) (t u : Target)
    → t.variable < frame.variables
    → u.variable < frame.variables
    → part t < width frame.variables
    → part u < width frame.variables
    → kept_place frame c t ≡ kept_place frame d u
    → (c ≡ d) × (t.variable ≡ u.variable) × (t.clear ≡ u.clear) × (t.negated ≡ u.negated)
unfolding kept_place
places_apart frame c d t u g h m n q =
    let w = width frame.variables in
    let x =
    quotients (w * frame.variables) c d (w * t.variable + part t) (w * u.variable + part u)
    (part_within w frame.variables t.variable (part t) g m) (part_within w frame.variables u.variable (part u) h n)
    (cancel (sets_end frame) _ _ q) in
    let y =
    quotients w t.variable u.variable (part t) (part u) m n
    (ap₂ ◌+◌ (mul_comm t.variable w) refl ∙ x.1 ∙ ap₂ ◌+◌ (mul_comm w u.variable) refl) in
    let z = part_flags t u y.1 in
    (x.0, y.0, z.0, z.1)

pub same_condition :
    (frame : Frame) (formulas effects : List ℕ) (t u : Target) (d e : ℕ)
    → t.negated ≡ u.negated
    → t.variable ≡ u.variable
    → t.clear ≡ u.clear
    → d ≡ e
    → condition_at frame formulas effects t d ≡ condition_at frame formulas effects u e
unfolding condition_at
same_condition frame formulas effects t u d e n v c q = rw (n, v, c, q)

-- The word of target t and row e.
module _ {frame : Frame} {notes : List ℕ} {t : Target} {e k : ℕ} (h : e < frame.effects) (p : KeptAt frame notes t e k) where
  beyond : sets_end frame ≤ k
  beyond = rw p.place (place_behind frame (column notes e) t)

  -- no set and no column is that word
  earlier : (x j : ℕ) → j < sets_end frame → get_or (set notes k x) j 0 ≡ get_or notes j 0
  earlier x j g = get_or-set_other notes k j x 0 (λ q. omega (arith, beyond, q, g))

  same_column : (x d : ℕ) → d < frame.effects → column (set notes k x) d ≡ column notes d
  unfolding column
  same_column x d g = earlier x d (omega (arith, sets_behind frame))

  module _ (formulas effects : List ℕ) (s : St) (r : ℕ) (now : Known (condition_at frame formulas effects t e) s r)
      (n : Noted frame formulas effects notes s) where
    -- what is read from a word of the notes with r
    read_back :
        (u : Target) (d x : ℕ)
        → d < frame.effects
        → u.variable < frame.variables
        → part u < width frame.variables
        → 0 < column notes d
        → kept_place frame (column notes d) u < length notes
        → Dec (kept_place frame (column notes d) u ≡ k)
        → get_or (set notes k (r + 1)) (kept_place frame (column notes d) u) 0 ≡ x + 1
        → Known (condition_at frame formulas effects u d) s x
    read_back u d x g v m c i (no other) w =
        n.kept.known u d x g v m c i
        (sym (get_or-set_other notes k (kept_place frame (column notes d) u) (r + 1) 0 other) ∙ w)
    read_back u d x g v m c i (yes same) w =
        let z = places_apart frame (column notes d) (column notes e) u t v p.variable m p.one (same ∙ p.place) in
        let row : d ≡ e = n.columns.apart d e g h p.has_column z.0 in
        let there : get_or (set notes k (r + 1)) (kept_place frame (column notes d) u) 0 ≡ r + 1 =
        rw same (get_or-set_same notes k (r + 1) 0 (omega (arith, p.within))) in
        let value : x ≡ r = omega (arith, there, w) in
        rw (same_condition frame formulas effects u t d e z.3 z.1 z.2 row, value) now

    kept_noted : Noted frame formulas effects (set notes k (r + 1)) s
    kept_noted =
        record {
          sets = sets_stay (length-set notes k (r + 1)) (λ j g h. earlier (r + 1) j h) n.sets;
          columns = columns_stay (length-set notes k (r + 1)) (λ d g. earlier (r + 1) d (omega (arith, sets_behind frame))) n.columns;
          kept =
              record {
                known = λ u d x g v m c i w.
                    let same = same_column (r + 1) d g in
                    read_back u d x g v m (rw same at c) (rw (same, length-set notes k (r + 1)) at i) (ℕ_discrete (kept_place frame (column notes d) u) k)
                    (rw same at w);
              };
          joins = joins_stay (λ j g h. earlier (r + 1) j (omega (arith, sets_behind frame))) n.joins;
        }

  pub recall_kept : {row : ℕ} → get_or notes k 0 ≡ row + 1 → RecallsNoted frame notes t e row
  recall_kept {row} w =
      record {
        known = λ formulas effects s n.
            n.kept.known t e row h p.variable p.one p.has_column (rw p.place at p.within) (ap (λ j. get_or notes j 0) (sym p.place) ∙ w);
      }

  pub keep_kept : (row : ℕ) → KeepsNoted frame notes (set notes k (row + 1)) t e row
  keep_kept row = record { noted = λ formulas effects s now n. kept_noted formulas effects s row now n }

-- The notes have no word for it.
pub keep_unkept : (frame : Frame) (notes : List ℕ) (t : Target) (e row : ℕ) → KeepsNoted frame notes notes t e row
keep_unkept frame notes t e row = record { noted = λ formulas effects s now n. n }

-- a word of the memo or of the notes that is a row plus 1 tells the row, and 0 none
pub told_row :
    {w : ℕ} (P : ℕ → Type 0) (r : Option ℕ) → SomeIff r (1 ≤ w) (w - 1) → ((x : ℕ) → w ≡ x + 1 → P x) → IfSome r P
told_row P None s f = tt
told_row P (Some x) s f = f x (omega (arith, s.0, s.1))
