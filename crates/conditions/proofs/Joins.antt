-- The last join of each effect row: what is read of it, and that keeping one leaves the notes right. Assumes nothing.
use Prim.Native.Nat.{ℕ, ◌+◌, ◌*◌, ◌≤◌, ◌<◌}
use native.Mathlib.Omega.{arith}
use native.Mathlib.Decide.{ℕ_discrete}
use mathlib.Core.Path.{◌≡◌, refl, sym, ap, ◌∙◌}
use mathlib.Core.Bool.{Bool, false}
use mathlib.Core.List.{List}
use lib.ListN.{length, get_or, set, length-set}
use lib.Seq.{get_or-set_same, get_or-set_other}
use lib.Dec.{eqb}
use Rattle.task.specs.Bounded.{upto}
use Rattle.task.specs.Table.{row_at}
use Rattle.task.proofs.Bounded.{length_upto}
use Rattle.normal_form.specs.Builder.{St, Got, join}
use Rattle.normal_form.proofs.Growth.{steady_join}
use Rattle.formula_builder.specs.declared.Frame.{Frame}
use Rattle.formula_builder.specs.Inner.Held.{Size, Step, Store, held, size_of, done_step, side, Ready, Builds}
use Rattle.formula_builder.proofs.Steps.{builds_done}
use Rattle.images.specs.Inner.Images.{Known, Memo}
use Rattle.images.proofs.Memos.{memo_grows, done_grows, done_known}
use Rattle.atom_sets.proofs.Places.{sets_behind}
use Rattle.conditions.specs.declared.Target.{Target}
use Rattle.conditions.specs.Inner.Conditions.{EffectMemo, join_place, join_of, Joins, Noted, Looks, Conditions}
use Rattle.conditions.specs.Inner.Joins.{Rejoins, KeepsJoin, JoinsAs, Joined}
use Rattle.conditions.proofs.Notes.{noted_grows, sets_stay, columns_stay, kept_stay}
use Rattle.conditions.proofs.Memos.{effect_memo_grows}

-- they were joined last
pub rejoins_kept :
    (frame : Frame) (notes : List ℕ) (t : Target) (e l r x : ℕ)
    → e < frame.effects
    → t.negated ≡ false
    → get_or notes (join_place frame e) 0 ≡ l
    → get_or notes (join_place frame e + 1) 0 ≡ r
    → get_or notes (join_place frame e + 2) 0 ≡ x + 1
    → Rejoins frame notes t e l r x
rejoins_kept frame notes t e l r x h p first second third =
    record { plain = p; known = λ formulas effects s n. rw (← first, ← second) (n.joins.known e x h third) }

-- The last join of row e gets rows l and r, and row x plus 1.
abbrev pub with_join : List ℕ → ℕ → ℕ → ℕ → ℕ → List ℕ
with_join notes k l r x = set (set (set notes k l) (k + 1) r) (k + 2) (x + 1)

module _ (notes : List ℕ) (k l r x : ℕ) where
  with_long : length (with_join notes k l r x) ≡ length notes
  with_long =
      length-set (set (set notes k l) (k + 1) r) (k + 2) (x + 1) ∙ length-set (set notes k l) (k + 1) r ∙ length-set notes k l

  -- other words stay
  with_other :
      (j : ℕ)
      → (j ≡ k → ⊥)
      → (j ≡ k + 1 → ⊥)
      → (j ≡ k + 2 → ⊥)
      → get_or (with_join notes k l r x) j 0 ≡ get_or notes j 0
  with_other j a b c =
      get_or-set_other (set (set notes k l) (k + 1) r) (k + 2) j (x + 1) 0 c
      ∙ get_or-set_other (set notes k l) (k + 1) j r 0 b
      ∙ get_or-set_other notes k j l 0 a

  module _ (room : k + 2 < length notes) where
    with_first : get_or (with_join notes k l r x) k 0 ≡ l
    with_first =
        get_or-set_other (set (set notes k l) (k + 1) r) (k + 2) k (x + 1) 0 (λ q. omega (arith, q))
        ∙ get_or-set_other (set notes k l) (k + 1) k r 0 (λ q. omega (arith, q))
        ∙ get_or-set_same notes k l 0 (omega (arith, room))

    with_second : get_or (with_join notes k l r x) (k + 1) 0 ≡ r
    with_second =
        get_or-set_other (set (set notes k l) (k + 1) r) (k + 2) (k + 1) (x + 1) 0 (λ q. omega (arith, q))
        ∙ get_or-set_same (set notes k l) (k + 1) r 0 (omega (arith, room, length-set notes k l))

    with_third : get_or (with_join notes k l r x) (k + 2) 0 ≡ x + 1
    with_third =
        get_or-set_same (set (set notes k l) (k + 1) r) (k + 2) (x + 1) 0
        (omega (arith, room, length-set notes k l, length-set (set notes k l) (k + 1) r))

-- The notes with a join for row e.
module _ {frame : Frame} {notes : List ℕ} {e : ℕ} (a : Looks frame notes e) where
  -- its words stand before the sets
  pub join_room : join_place frame e + 2 < length notes
  join_room = omega (arith, a.words, a.effect, sets_behind frame)

  module _ (l r x : ℕ) where
    abbrev after : List ℕ
    after = with_join notes (join_place frame e) l r x

    low : (j : ℕ) → j < frame.effects → get_or after j 0 ≡ get_or notes j 0
    low j h =
        with_other notes (join_place frame e) l r x j (λ q. omega (arith, q, h)) (λ q. omega (arith, q, h)) (λ q. omega (arith, q, h))

    high : (j : ℕ) → 4 * frame.effects ≤ j → get_or after j 0 ≡ get_or notes j 0
    high j h =
        with_other notes (join_place frame e) l r x j (λ q. omega (arith, q, h, a.effect)) (λ q. omega (arith, q, h, a.effect))
        (λ q. omega (arith, q, h, a.effect))

    -- what is read of row d's join
    joins_read :
        {effects : List ℕ} {s : St} (d y : ℕ)
        → d < frame.effects
        → Known (join_of effects e l r) s x
        → Joins frame effects notes s
        → get_or after (join_place frame d + 2) 0 ≡ y + 1
        → Dec (d ≡ e)
        → Known (join_of effects d (get_or after (join_place frame d) 0) (get_or after (join_place frame d + 1) 0)) s y
    joins_read d y h now n w (no other) =
        let k = join_place frame d in
        let same : (j : ℕ) → k ≤ j → j < k + 3 → get_or after j 0 ≡ get_or notes j 0 =
        λ j f g.
        with_other notes (join_place frame e) l r x j (λ q. other (omega (arith, q, f, g))) (λ q. other (omega (arith, q, f, g)))
        (λ q. other (omega (arith, q, f, g))) in
        rw (same k (omega arith) (omega arith), same (k + 1) (omega arith) (omega arith))
        (n.known d y h (sym (same (k + 2) (omega arith) (omega arith)) ∙ w))
    joins_read d y h now n w (yes same) =
        let there : get_or after (join_place frame d + 2) 0 ≡ x + 1 =
        rw same (with_third notes (join_place frame e) l r x join_room) in
        let value : y ≡ x = omega (arith, there, w) in
        rw (same, value, with_first notes (join_place frame e) l r x join_room, with_second notes (join_place frame e) l r x join_room) now

    join_noted :
        {formulas effects : List ℕ} {s : St}
        → Known (join_of effects e l r) s x
        → Noted frame formulas effects notes s
        → Noted frame formulas effects after s
    join_noted now n =
        let long = with_long notes (join_place frame e) l r x in
        record {
          sets = sets_stay long (λ j g h. high j g) n.sets;
          columns = columns_stay long low n.columns;
          kept = kept_stay long low (λ j g. high j (omega (arith, sets_behind frame))) n.kept;
          joins = record { known = λ d y h w. joins_read d y h now n.joins w (ℕ_discrete d e) };
        }

  pub keep_join_kept :
      (t : Target) (l r x : ℕ) → t.negated ≡ false → KeepsJoin frame notes (with_join notes (join_place frame e) l r x) t e l r x
  keep_join_kept t l r x p =
      record { noted = λ formulas effects s now n. join_noted l r x (now p) n }

-- a plain target joins as row e does
join_flag :
    (effects : List ℕ) (e l r : ℕ) (or : Bool) → eqb (row_at effects e).kind 3 ≡ or → join_of effects e l r ≡ join (side or) l r
join_flag effects e l r or q = rw q

-- The join of rows l and r for row e.
module _ {frame : Frame} {notes : List ℕ} {t : Target} {e : ℕ} {or : Bool} {at : Size} {l r : ℕ} {before : Store} where
  pub joined_kept : {x : ℕ} → Rejoins frame notes t e l r x → Joined frame notes notes t e or at l r before before (done_step at x)
  unfolding held
  joined_kept {x} k =
      record {
        builds = λ formulas effects a.
            let known : Known (join (side or) l r) (held at before) x =
            rw (join_flag effects e l r or (a.flag k.plain)) at (k.known formulas effects (held at before) a.noted) in
            let b : x < length (upto at.rows (row_at before.table)) = known.below in
            builds_done refl
            (record {
              value = ap (λ (g : Got ℕ). g.value) known.again;
              state = ap (λ (g : Got ℕ). g.st) known.again;
              ready = a.ready;
              below = rw (length_upto at.rows (row_at before.table)) at b;
              grew = omega arith;
            });
        noted = λ formulas effects a q. a.noted;
      }

  pub joined_made :
      {notes' : List ℕ} {after : Store} {x : Step}
      → (Ready frame at before → Builds (join (side or) l r) frame at before after x)
      → KeepsJoin frame notes notes' t e l r x.row
      → Joined frame notes notes' t e or at l r before after x
  joined_made {after = after} {x = x} b keeps =
      let steady = steady_join (side or) l r in
      record {
        builds = λ formulas effects a. b a.ready;
        noted = λ formulas effects a q.
            let d = (b a.ready).done q in
            keeps.noted formulas effects (held (size_of x) after) (λ p. rw (join_flag effects e l r or (a.flag p)) (done_known steady d))
            (noted_grows (done_grows steady d) a.noted);
      }

  -- a step that leaves all but the last join
  pub conditions_joined :
      {formulas effects notes' : List ℕ} {after : Store} {scratch : List ℕ} {x : Step}
      → JoinsAs frame formulas effects notes t e or at before
      → Memo frame formulas scratch (held at before)
      → EffectMemo frame formulas effects scratch (held at before)
      → Joined frame notes notes' t e or at l r before after x
      → Conditions (join (side or) l r) frame formulas effects notes' at before after scratch x
  conditions_joined {formulas} {effects} a memo effect_memo j =
      let b = j.builds formulas effects a in
      let steady = steady_join (side or) l r in
      record {
        builds = b;
        noted = j.noted formulas effects a;
        memo = λ q. memo_grows (done_grows steady (b.done q)) memo;
        effect_memo = λ q. effect_memo_grows (done_grows steady (b.done q)) (λ j h. refl) effect_memo;
      }
