-- What an operator came to is covered from then on: building any of it again adds nothing. Assumes nothing.
use Prim.Native.Nat.{ℕ, ◌+◌, ◌-◌, ◌<◌}
use native.Mathlib.Omega.{arith}
use mathlib.Core.Path.{◌≡◌}
use mathlib.Core.Bool.{Bool, true, false}
use mathlib.Core.List.{List}
use lib.ListN.{take, get_or}
use lib.Seq.{length-take-le, get_or-take}
use Rattle.task.specs.Table.{row_at, operator_at}
use Rattle.normal_form.specs.Builder.{St, Build, bind, each, plain, opposite}
use Rattle.normal_form.specs.Growth.{Grows, Steady}
use Rattle.normal_form.specs.Conditions.{condition}
use Rattle.normal_form.specs.Operators.{changes_of}
use Rattle.normal_form.proofs.Growth.{steady_bind, steady_each}
use Rattle.normal_form.proofs.Steady.{steady_guarded, steady_changes}
use Rattle.normal_form.proofs.Adds.{AddsNothing, nothing_first, nothing_next, nothing_left, nothing_right, nothing_each, nothing_sets, nothing_clears}
use Rattle.formula_builder.specs.declared.Frame.{Frame}
use Rattle.formula_builder.specs.Inner.Held.{Size, Store, held, side}
use Rattle.images.specs.Inner.Images.{tree}
use Rattle.conditions.specs.declared.Target.{Target}
use Rattle.conditions.specs.Inner.Conditions.{atom_by, effect_tree, condition_at}
use Rattle.conditions.proofs.Rows.{of_both, of_under}
use Rattle.conditions.proofs.Notes.{steady_condition_at}
use Rattle.effect_batches.specs.Inner.Firsts.{Rows, Names, left, right, inner, Below, here, named, First}
use Rattle.effect_batches.specs.declared.Batch.{Batch}
use Rattle.effect_batches.specs.Inner.Numbers.{Before, BeganBatch}
use Rattle.effect_batches.specs.Inner.Filling.{Covered, AllCovered, Fills}
use Rattle.effect_batches.specs.Inner.Next.{NextBatch}
use Rattle.effect_batches.proofs.Firsts.{memo, source, row_kept}

-- A row that a covered row names is covered.
module _ {frame : Frame} {effects : List ℕ} (rows : Rows frame effects) (formulas : List ℕ) {s : St} where
  below_it :
      (i : ℕ)
      → i < frame.effects
      → (t : Target) (e : ℕ)
      → Names effects i e
      → AddsNothing (condition_at frame formulas effects t i) s
      → AddsNothing (condition_at frame formulas effects t e) s
  below_it i h t e (left k q) z =
      let both = of_both frame formulas effects (memo frame) (source frame effects rows) i h t k in
      rw (← q)
      (nothing_left (opposite (side t.negated)) (steady_condition_at frame formulas effects t (row_at effects i).a)
      (steady_condition_at frame formulas effects t (row_at effects i).b) (rw both at z))
  below_it i h t e (right k q) z =
      let both = of_both frame formulas effects (memo frame) (source frame effects rows) i h t k in
      rw (← q)
      (nothing_right (opposite (side t.negated)) (steady_condition_at frame formulas effects t (row_at effects i).a)
      (steady_condition_at frame formulas effects t (row_at effects i).b) (rw both at z))
  below_it i h t e (inner k q) z =
      let under = of_under frame formulas effects (memo frame) (source frame effects rows) i h t k in
      rw (← q)
      (nothing_first (steady_condition_at frame formulas effects t (row_at effects i).b)
      (λ c. steady_guarded frame.variables (side t.negated) (tree frame formulas (row_at effects i).a) c) (rw under at z))

  pub covered_below :
      {top e : ℕ} → Below effects top e → Covered frame formulas effects s top → Covered frame formulas effects s e
  covered_below (here e q) c = rw q c
  covered_below (named i e n b) c =
      let above = covered_below b c in
      record {
        effect = omega (arith, (row_kept rows i above.effect).lower e n, above.effect);
        again = λ t p v. below_it i above.effect t e n (above.again t p v);
      }

  -- and so is a row whose word names an operator that is built
  pub covered_before :
      {operators first : List ℕ} {count from : ℕ} (e : ℕ)
      → First effects operators count first
      → AllCovered frame formulas effects operators from s
      → Before frame.effects first from e
      → Covered frame formulas effects s e
  covered_before {operators} {first} {count} {from} e f k b =
      let o = get_or first e 0 - 1 in
      let word : get_or first e 0 ≡ o + 1 = omega (arith, b.some) in
      covered_below ((f.comes e).below o word).1 (k.covered o (omega (arith, b.some, b.earlier)))

-- Row e is covered once the changes of all variables were built for it.
pub covered_changes :
    (frame : Frame) (formulas effects : List ℕ) (s : St) (e : ℕ)
    → e < frame.effects
    → AddsNothing (each frame.variables (changes_of frame.variables (effect_tree frame formulas effects e))) s
    → Covered frame formulas effects s e
unfolding condition_at
covered_changes frame formulas effects s e h q =
    record { effect = h; again = λ t p v. rw p (go t.clear t.variable v) }
  where
    go :
        (clear : Bool) (v : ℕ)
        → v < frame.variables
        → AddsNothing (condition frame.variables plain (atom_by clear v) (effect_tree frame formulas effects e)) s
    go false v g = nothing_sets frame.variables (effect_tree frame formulas effects e) q g
    go true v g = nothing_clears frame.variables (effect_tree frame formulas effects e) q g

-- The effects of the first n operators are covered once these were built, each behind a step of its own: its precondition.
pub covered_built :
    (frame : Frame) (formulas effects operators : List ℕ) (n : ℕ) (m : ℕ → Build ℕ) (s u : St)
    → ((k : ℕ) → Steady (m k))
    → ((k : ℕ) → k < n → (operator_at operators k).effect < frame.effects)
    → Grows
    (each n
    (λ k.
    bind (m k)
    (λ p. each frame.variables (changes_of frame.variables (effect_tree frame formulas effects (operator_at operators k).effect))))
    s).st
    u
    → AllCovered frame formulas effects operators n u
covered_built frame formulas effects operators n m s u steady roots g =
    record {
      covered = λ k h.
          covered_changes frame formulas effects u (operator_at operators k).effect (roots k h)
          (nothing_next (steady k) (λ p. all k)
          (nothing_each n (λ j. steady_bind (steady j) (λ p. all j)) s h g));
    }
  where
    all :
        (k : ℕ)
        → Steady (each frame.variables (changes_of frame.variables (effect_tree frame formulas effects (operator_at operators k).effect)))
    all k =
        steady_each frame.variables (steady_changes frame.variables (effect_tree frame formulas effects (operator_at operators k).effect))

-- The rows that a batch lists as it begins may be filled.
pub batch_fills :
    {frame : Frame} {formulas effects operators : List ℕ} {from count : ℕ} {first notes notes' list : List ℕ} {at : Size} {s : Store} {scratch : List ℕ} {b : Batch}
    → NextBatch frame formulas effects operators from count first notes at s scratch
    → BeganBatch frame effects from count first notes notes' list b
    → Fills frame formulas effects notes' (take b.rows list) at s scratch
batch_fills {formulas = formulas} {list = list} {at = at} {s = s} {b = b} a x =
    record {
      stands =
          record {
            source = a.stands.source;
            effect_source = a.stands.effect_source;
            ready = a.stands.ready;
            noted = x.noted formulas (held at s) a.stands.noted;
            memo = a.stands.memo;
            effect_memo = a.stands.effect_memo;
          };
      covered = λ j h.
          let listed : j < b.rows = omega (arith, h, length-take-le b.rows list x.listed.room) in
          rw (get_or-take b.rows list j 0 listed)
          (covered_before a.sizes.room.rows formulas (get_or list j 0) a.comes a.covered (x.listed.each j listed));
    }
