-- The memo of effect conditions stays right while the state grows, and steps with both memos are put together. Assumes nothing.
use Prim.Native.Nat.{ℕ, ◌+◌, ◌*◌, ◌≤◌, ◌<◌}
use native.Mathlib.Omega.{arith}
use native.Mathlib.Decide.{ℕ_discrete}
use mathlib.Core.Path.{◌≡◌, refl, sym, ap, ◌∙◌}
use mathlib.Core.Bool.{true, false, cond, true≢false}
use mathlib.Core.List.{List}
use mir.Val.{bool_byte}
use lib.ListN.{length, get_or, set, length-set}
use lib.Seq.{get_or-set_same, get_or-set_other}
use Rattle.task.specs.Bounded.{upto}
use Rattle.task.specs.Table.{row_at}
use Rattle.task.proofs.Bounded.{length_upto}
use Rattle.normal_form.specs.Builder.{St, Got, Build, bind}
use Rattle.normal_form.specs.Growth.{Grows, Steady}
use Rattle.formula_builder.specs.declared.Frame.{Frame}
use Rattle.formula_builder.specs.Inner.Held.{Size, Step, Store, held, size_of, done_step, Builds}
use Rattle.formula_builder.proofs.Steps.{builds_done, builds_as, builds_bind, builds_stop}
use Rattle.images.specs.Inner.Images.{Known, Memo, memo_place, Images}
use Rattle.images.proofs.Memos.{known_grows, memo_grows, done_grows, done_known, place_within}
use Rattle.conditions.specs.declared.Target.{Target}
use Rattle.conditions.specs.Inner.Conditions.{condition_at, tag, effect_place, tag_place, EffectMemo, Noted, RecallsNoted, Recalls, KeepsNoted, Keeps, Asks, Conditions}
use Rattle.conditions.proofs.Notes.{steady_condition_at, noted_grows, byte_is, atoms, same_condition}

-- the memo stays right while the state grows and its words stay
pub effect_memo_grows :
    {frame : Frame} {formulas effects scratch scratch' : List ℕ} {s s' : St}
    → Grows s s'
    → ((j : ℕ) → 2 * frame.formulas ≤ j → get_or scratch' j 0 ≡ get_or scratch j 0)
    → EffectMemo frame formulas effects scratch s
    → EffectMemo frame formulas effects scratch' s'
effect_memo_grows {frame} {formulas} {effects} g same m =
    record {
      known = λ t e r h q w.
          known_grows (steady_condition_at frame formulas effects t e) g
          (m.known t e r h (sym (same (tag_place frame e) (omega arith)) ∙ q) (sym (same (effect_place frame e) (omega arith)) ∙ w));
    }

-- nothing is known
pub effect_memo_blank :
    (frame : Frame) (formulas effects scratch : List ℕ) (s : St)
    → ((j : ℕ) → get_or scratch j 0 ≡ 0)
    → EffectMemo frame formulas effects scratch s
effect_memo_blank frame formulas effects scratch s blank =
    record { known = λ t e r h q w. absurd (omega (arith, w, blank (effect_place frame e))) }

-- no two targets have the same tag
tags_apart : (t u : Target) → tag t ≡ tag u → (t.negated ≡ u.negated) × (t.variable ≡ u.variable) × (t.clear ≡ u.clear)
unfolding tag
tags_apart t u q =
    let x = atoms (2 * t.variable + cond t.clear 1 0) (2 * u.variable + cond u.clear 1 0) t.negated u.negated (omega (arith, q)) in
    let y = atoms t.variable u.variable t.clear u.clear x.0 in
    (x.1, y.0, y.1)

-- The memo gets a row for target t and effect e.
abbrev pub with_row : Frame → List ℕ → Target → ℕ → ℕ → List ℕ
with_row frame scratch t e row = set (set scratch (tag_place frame e) (tag t)) (effect_place frame e) (row + 1)

module _ (frame : Frame) (scratch : List ℕ) (t : Target) (e row : ℕ) (h : e < frame.effects)
    (room : 2 * frame.formulas + 2 * frame.effects ≤ length scratch) where
  -- other words stay
  row_other :
      (j : ℕ)
      → (j ≡ tag_place frame e → ⊥)
      → (j ≡ effect_place frame e → ⊥)
      → get_or (with_row frame scratch t e row) j 0 ≡ get_or scratch j 0
  row_other j a b =
      get_or-set_other (set scratch (tag_place frame e) (tag t)) (effect_place frame e) j (row + 1) 0 b
      ∙ get_or-set_other scratch (tag_place frame e) j (tag t) 0 a

  row_there : get_or (with_row frame scratch t e row) (effect_place frame e) 0 ≡ row + 1
  row_there =
      get_or-set_same (set scratch (tag_place frame e) (tag t)) (effect_place frame e) (row + 1) 0
      (omega (arith, room, h, length-set scratch (tag_place frame e) (tag t)))

  tag_there : get_or (with_row frame scratch t e row) (tag_place frame e) 0 ≡ tag t
  tag_there =
      get_or-set_other (set scratch (tag_place frame e) (tag t)) (effect_place frame e) (tag_place frame e) (row + 1) 0
      (λ q. omega (arith, q, h))
      ∙ get_or-set_same scratch (tag_place frame e) (tag t) 0 (omega (arith, room, h))

  -- what is read of target u and effect d
  memo_read :
      {formulas effects : List ℕ} {s : St} (u : Target) (d x : ℕ)
      → d < frame.effects
      → Known (condition_at frame formulas effects t e) s row
      → EffectMemo frame formulas effects scratch s
      → get_or (with_row frame scratch t e row) (tag_place frame d) 0 ≡ tag u
      → get_or (with_row frame scratch t e row) (effect_place frame d) 0 ≡ x + 1
      → Dec (d ≡ e)
      → Known (condition_at frame formulas effects u d) s x
  memo_read u d x g now m q w (no other) =
      m.known u d x g
      (sym (row_other (tag_place frame d) (λ z. other (omega (arith, z))) (λ z. omega (arith, z, h))) ∙ q)
      (sym (row_other (effect_place frame d) (λ z. omega (arith, z, g)) (λ z. other (omega (arith, z)))) ∙ w)
  memo_read {formulas} {effects} u d x g now m q w (yes same) =
      let tags : get_or (with_row frame scratch t e row) (tag_place frame d) 0 ≡ tag t = rw same tag_there in
      let there : get_or (with_row frame scratch t e row) (effect_place frame d) 0 ≡ row + 1 = rw same row_there in
      let value : x ≡ row = omega (arith, there, w) in
      let z = tags_apart u t (sym q ∙ tags) in
      rw (same_condition frame formulas effects u t d e z.0 z.1 z.2 same, value) now

  pub keep_row :
      {notes notes' : List ℕ} → KeepsNoted frame notes notes' t e row → Keeps frame notes notes' scratch (with_row frame scratch t e row) t e row
  keep_row k =
      record {
        keeps_noted = k;
        images = λ j g. row_other j (λ q. omega (arith, q, g)) (λ q. omega (arith, q, g));
        effect_memo = λ formulas effects s now m.
            record { known = λ u d x g q w. memo_read u d x g now m q w (ℕ_discrete d e) };
      }

-- the memo has it, if the tag is the target's
pub recall_row :
    (frame : Frame) (notes scratch : List ℕ) (t : Target) (e row : ℕ)
    → e < frame.effects
    → get_or scratch (tag_place frame e) 0 ≡ tag t
    → get_or scratch (effect_place frame e) 0 ≡ row + 1
    → Recalls frame notes scratch t e row
recall_row frame notes scratch t e row h q w = record { known = λ formulas effects s n m. m.known t e row h q w }

-- else the notes may
pub recall_behind :
    {frame : Frame} {notes : List ℕ} {t : Target} {e row : ℕ} (scratch : List ℕ) → RecallsNoted frame notes t e row → Recalls frame notes scratch t e row
recall_behind scratch r = record { known = λ formulas effects s n m. r.known formulas effects s n }

-- the tag as the machine makes it
pub tag_made :
    (t : Target) → 2 * (2 * t.variable + bool_byte t.clear) + bool_byte t.negated + 1 ≡ tag t
unfolding tag
tag_made t = rw (byte_is t.clear, byte_is t.negated)

-- the memo of images does not see the words behind it
memo_kept :
    {frame : Frame} {formulas scratch scratch' : List ℕ} {s : St}
    → ((j : ℕ) → j < 2 * frame.formulas → get_or scratch' j 0 ≡ get_or scratch j 0)
    → Memo frame formulas scratch s
    → Memo frame formulas scratch' s
memo_kept {frame} {scratch = scratch} {scratch' = scratch'} same m =
    record { known = λ p i r h w. m.known p i r h (sym (same (memo_place frame p i) (place_within frame p i h)) ∙ w) }

module _ {m : Build ℕ} {frame : Frame} {formulas effects notes : List ℕ} {at : Size} {before after : Store} {s2 : List ℕ} {r : Step} where
  pub conditions_as :
      {m' : Build ℕ}
      → m ≡ m'
      → Conditions m' frame formulas effects notes at before after s2 r
      → Conditions m frame formulas effects notes at before after s2 r
  conditions_as q x =
      record { builds = builds_as q x.builds; noted = x.noted; memo = x.memo; effect_memo = x.effect_memo }

  -- the next step finds all that it asks
  pub asks_next :
      {notes₀ s1 : List ℕ} {t : Target} {d : ℕ} (j : ℕ)
      → Asks frame formulas effects notes₀ t at before s1 d
      → Conditions m frame formulas effects notes at before after s2 r
      → r.full ≡ false
      → length s2 ≡ length s1
      → j < frame.effects
      → Asks frame formulas effects notes t (size_of r) after s2 j
  asks_next j a x q long h =
      record {
        source =
            record {
              words = a.source.words;
              memo = omega (arith, a.source.memo, long);
              limit = a.source.limit;
              down = a.source.down;
            };
        effect_source =
            record {
              words = a.effect_source.words;
              memo = omega (arith, a.effect_source.memo, long);
              limit = a.effect_source.limit;
              down = a.effect_source.down;
            };
        ready = (x.builds.done q).ready;
        noted = x.noted q;
        memo = x.memo q;
        effect_memo = x.effect_memo q;
        variable = a.variable;
        effect = h;
      }

-- a step that leaves the effects' memo and the notes
pub conditions_of_images :
    {m : Build ℕ} {frame : Frame} {formulas effects notes : List ℕ} {at : Size} {before after : Store} {s1 s2 : List ℕ} {r : Step}
    → Steady m
    → Noted frame formulas effects notes (held at before)
    → EffectMemo frame formulas effects s1 (held at before)
    → Images m frame formulas at before after s1 s2 r
    → Conditions m frame formulas effects notes at before after s2 r
conditions_of_images steady noted memo x =
    record {
      builds = x.builds;
      noted = λ q. noted_grows (done_grows steady (x.builds.done q)) noted;
      memo = x.memo;
      effect_memo = λ q. effect_memo_grows (done_grows steady (x.builds.done q)) x.rest memo;
    }

-- a step that leaves all
pub conditions_leaf :
    {m : Build ℕ} {frame : Frame} {formulas effects notes : List ℕ} {at : Size} {before after : Store} {scratch : List ℕ} {r : Step}
    → Steady m
    → Noted frame formulas effects notes (held at before)
    → Memo frame formulas scratch (held at before)
    → EffectMemo frame formulas effects scratch (held at before)
    → Builds m frame at before after r
    → Conditions m frame formulas effects notes at before after scratch r
conditions_leaf steady noted memo effect_memo b =
    record {
      builds = b;
      noted = λ q. noted_grows (done_grows steady (b.done q)) noted;
      memo = λ q. memo_grows (done_grows steady (b.done q)) memo;
      effect_memo = λ q. effect_memo_grows (done_grows steady (b.done q)) (λ j h. refl) effect_memo;
    }

pub conditions_bind :
    {m : Build ℕ} {frame : Frame} {formulas effects notes notes' : List ℕ} {at : Size} {before mid after : Store} {s2 s3 : List ℕ} {l r : Step}
    (f : ℕ → Build ℕ)
    → Conditions m frame formulas effects notes at before mid s2 l
    → l.full ≡ false
    → Conditions (f l.row) frame formulas effects notes' (size_of l) mid after s3 r
    → Conditions (bind m f) frame formulas effects notes' at before after s3 r
conditions_bind f x q y =
    record { builds = builds_bind f x.builds q y.builds; noted = y.noted; memo = y.memo; effect_memo = y.effect_memo }

pub conditions_stop :
    {m : Build ℕ} {frame : Frame} {formulas effects notes : List ℕ} {at : Size} {before after : Store} {s2 : List ℕ} {l : Step}
    (f : ℕ → Build ℕ)
    → ((x : ℕ) → Steady (f x))
    → Conditions m frame formulas effects notes at before after s2 l
    → l.full ≡ true
    → Conditions (bind m f) frame formulas effects notes at before after s2 l
conditions_stop f steady x q =
    record {
      builds = builds_stop f steady x.builds q;
      noted = λ g. absurd (true≢false (sym q ∙ g));
      memo = λ g. absurd (true≢false (sym q ∙ g));
      effect_memo = λ g. absurd (true≢false (sym q ∙ g));
    }

-- The row of effect e's condition is known.
pub conditions_known :
    {frame : Frame} {formulas effects notes : List ℕ} {t : Target} {at : Size} {before : Store} {scratch : List ℕ} {e r : ℕ}
    → Asks frame formulas effects notes t at before scratch e
    → Known (condition_at frame formulas effects t e) (held at before) r
    → Conditions (condition_at frame formulas effects t e) frame formulas effects notes at before before scratch (done_step at r)
unfolding held
conditions_known {at = at} {before = before} {r = r} a k =
    let b : r < length (upto at.rows (row_at before.table)) = k.below in
    record {
      builds =
          builds_done refl
          (record {
            value = ap (λ (g : Got ℕ). g.value) k.again;
            state = ap (λ (g : Got ℕ). g.st) k.again;
            ready = a.ready;
            below = rw (length_upto at.rows (row_at before.table)) at b;
            grew = omega arith;
          });
      noted = λ _. a.noted;
      memo = λ _. a.memo;
      effect_memo = λ _. a.effect_memo;
    }

-- Effect e's condition is built, and kept.
pub conditions_kept :
    {frame : Frame} {formulas effects notes notes' : List ℕ} {t : Target} {e : ℕ} {at : Size} {before after : Store} {s2 s3 : List ℕ} {r : Step}
    → Conditions (condition_at frame formulas effects t e) frame formulas effects notes at before after s2 r
    → Keeps frame notes notes' s2 s3 t e r.row
    → Conditions (condition_at frame formulas effects t e) frame formulas effects notes' at before after s3 r
conditions_kept {frame} {formulas} {effects} {t = t} {e = e} {after = after} {r = r} x keeps =
    let known : r.full ≡ false → Known (condition_at frame formulas effects t e) (held (size_of r) after) r.row =
    λ q. done_known (steady_condition_at frame formulas effects t e) (x.builds.done q) in
    record {
      builds = x.builds;
      noted = λ q. keeps.keeps_noted.noted formulas effects (held (size_of r) after) (known q) (x.noted q);
      memo = λ q. memo_kept keeps.images (x.memo q);
      effect_memo = λ q. keeps.effect_memo formulas effects (held (size_of r) after) (known q) (x.effect_memo q);
    }
