-- Behind building and behind finishing: what each asks, and what the lent tables then hold. Assumes nothing.
use Prim.Native.Nat.{ℕ, ◌+◌, ◌*◌, ◌≤◌, ◌<◌}
use native.Mathlib.Omega.{arith}
use mathlib.Core.Path.{◌≡◌, refl, sym, ap, ap₂, ◌∙◌}
use mathlib.Core.Bool.{true, false, true≢false}
use mathlib.Core.List.{List, ◌++◌}
use Rattle.std.specs.Prelude.{Result, Ok, Err, is_err}
use lib.ListN.{length, get_or, take, drop, replicate, length-replicate}
use lib.Seq.{length-take-le, get_or-take}
use Rattle.task.specs.Bounded.{upto}
use Rattle.task.specs.Table.{Row, Task, task_of, row_at}
use Rattle.task.specs.Words.{words_of, operator_words, head_of, padded}
use Rattle.task.proofs.Bounded.{length_upto}
use Rattle.task.proofs.Held.{length_formulas, length_operators, initial_held}
use Rattle.task.proofs.Trees.{rules_formulas, rules_effects}
use Rattle.normal_form.specs.Builder.{St}
use Rattle.normal_form.specs.Finished.{built, assembled, twin_values, finished}
use Rattle.normal_form.specs.Compiled.{Fits}
use Rattle.normal_form.specs.Inner.Allowed.{Allows}
use Rattle.normal_form.proofs.Growth.{grows_refl}
use Rattle.normal_form.proofs.Over.{building_within}
use Rattle.normal_form.proofs.Compiled.{fits_if}
use Rattle.normal_form.proofs.Padded.{padded_over}
use Rattle.normal_form.proofs.ShapePassed.{finished_fine, finished_variables}
use Rattle.normal_form.proofs.ShapeFinished.{finished_operators}
use Rattle.formula_builder.specs.Inner.Held.{Step, Store, held, size_of, Ready, Within}
use Rattle.atom_sets.specs.Inner.Sets.{sets_end}
use Rattle.building.specs.Inner.Taken.{Blank, Whole, FromStart}
use Rattle.assembling.specs.Inner.Assembles.{Holding}
use Rattle.compile_parts.specs.declared.Filled.{Filled}
use Rattle.compile_parts.specs.Inner.Builds.{Builds}
use Rattle.compile_parts.specs.Inner.Finishes.{rules_of}
use Rattle.compile_parts.specs.Inner.FinishesBare.{BareOutputs, bare_outputs, BareStands, BareEnded, BareFinished}
use Rattle.compiler.specs.Inner.Fills.{Blanked, Counted, counts, lent_of, Begins, TwinsCopied, Holds, Unfilled, Tries}
use Rattle.compiler.specs.Tables.{Tables, tables, room_of}
use Rattle.compile_parts.proofs.Asked.{zero_at}
use Rattle.compiler.proofs.Cleared.{zeros, cleared_again}
use Rattle.compiler.proofs.Copied.{copied_rows}
use Rattle.compiler.proofs.Source.{long, source, its_variables, few_effects}
use Rattle.compiler.proofs.Recalled.{in_order}
use Rattle.compiler.proofs.Linked.{its_formulas, its_effects, precondition_below, effect_below, goal_below, state_built, goal_built, assembled_is, few_changes}

-- the lent tables that finishing writes
abbrev pub written_of : Tables → BareOutputs
written_of x = bare_outputs x.initial x.formulas x.effects x.operators

module _ {g : Counted} {x : Tables} (b : Begins g x) where
  abbrev t : Task
  t = task_of (lent_of g)

  variables_are : length (task_of (lent_of g)).initial ≡ g.frame.variables
  variables_are = its_variables (lent_of g) b.passes

  blank_is : Blank g.frame g.formulas g.effects (replicate 512 0) x.scratch
  blank_is =
      let s = source (lent_of g) b.passes in
      let w = long (lent_of g) b.passes in
      let e = rw (length_formulas (lent_of g)) at (rw variables_are at (rules_effects t s)) in
      record {
        source =
            record {
              words = w.formulas;
              memo = omega (arith, b.memo);
              limit = omega (arith, s.limits.formulas, length_formulas (lent_of g));
              down = rw (its_formulas g b.passes) at (rw variables_are at (rules_formulas t s));
            };
        effect_source =
            record {
              words = w.effects;
              memo = b.memo;
              limit = few_effects (lent_of g) b.passes;
              down = rw (its_effects g b.passes) at e;
            };
        twins = omega (arith, b.variables_limit, length-replicate {A = ℕ} 512 0);
        variables = b.variables_limit;
        blank_originals = zero_at 512;
        blank_scratch = zeros x.scratch b.blank.scratch;
      }

  -- what building asks, with tables of 0 of the call's own
  pub build_asks :
      (notes rows : ℕ)
      → sets_end g.frame ≤ notes
      → 9 * g.frame.rows + g.frame.variables ≤ rows
      → Builds g.frame g.count g.goal g.formulas g.effects g.operators (replicate 512 0) x.scratch (replicate notes 0) (replicate rows 0) (replicate 6912 0)
  build_asks notes rows n h =
      record {
        blank = blank_is;
        words = (long (lent_of g) b.passes).operators;
        limit = omega (arith, (source (lent_of g) b.passes).limits.operators, length_operators (lent_of g));
        precondition = precondition_below g b.passes;
        effect = effect_below g b.passes;
        goal = goal_below g b.passes;
        notes_space = omega (arith, n, length-replicate {A = ℕ} notes 0);
        blank_notes = zero_at notes;
        fresh = record { room = omega (arith, h, length-replicate {A = ℕ} rows 0); limit = b.rows_limit; blank = zero_at rows };
        space = omega (arith, length-replicate {A = ℕ} 6912 0);
      }

  -- Behind building.
  module _ {mid : Store} {memo records : List ℕ} {r : Step}
      (f : FromStart g.frame g.formulas g.effects g.operators g.count g.goal mid memo records r) where
    -- what fits is within the frame
    built_over : Allows g.frame.variables (room_of x) g.frame.rows g.frame.twins g.room → r.full ≡ true → Fits (finished (task_of (lent_of g))) (room_of x) → ⊥
    built_over a q fit =
        let w = building_within t (room_of x) g.frame.rows g.frame.twins g.room (rw variables_are a) fit (built t).st (grows_refl (built t).st) in
        let v : Within g.frame (built t).st = record { rows = w.rows_within; twins = w.twins_within } in
        f.over q (rw (state_built g b.passes) at v) (few_changes g b.passes fit.limits.effects)

  -- It is done.
  module _ {mid : Store} {memo records : List ℕ} {r : Step}
      (f : FromStart g.frame g.formulas g.effects g.operators g.count g.goal mid memo records r) (q : r.full ≡ false) where
    w : Whole g.frame g.formulas g.effects g.operators g.count g.goal mid memo records r
    w = f.done q

    held-is : held (size_of r) mid ≡ (built (task_of (lent_of g))).st
    held-is = sym (state_built g b.passes ∙ w.stood.state)

    ready : Ready g.frame (size_of r) mid
    ready = w.stood.stands.ready

    twins_held : take r.twins mid.originals ≡ (built (task_of (lent_of g))).st.twins
    unfolding held
    twins_held = ap (λ (s : St). s.twins) held-is

    many-twins : length (take r.twins mid.originals) ≡ r.twins
    many-twins = length-take-le r.twins mid.originals (omega (arith, ready.twins, ready.originals))

    -- the twins' originals are source variables
    originals-below : (k : ℕ) → k < r.twins → get_or mid.originals k 0 < g.frame.variables
    originals-below k h =
        omega (
          arith,
          get_or-take r.twins mid.originals k 0 h,
          ap (λ (m : List ℕ). get_or m k 0) twins_held,
          (finished_fine t (source (lent_of g) b.passes)).twin_below k (omega (arith, many-twins, ap length twins_held)),
          variables_are,
        )

    rows-there : 3 * r.rows ≤ length mid.table
    rows-there = omega (arith, ready.rows.within, ready.rows.room)

    rows_fit : 3 * r.rows ≤ length x.formulas
    rows_fit = omega (arith, ready.rows.within, b.rows_space)

    stands : 6912 ≤ length records → BareStands (counts g) r g.initial g.operators mid.originals mid.table records (written_of x)
    stands space =
        let s = source (lent_of g) b.passes in
        record {
          assembles =
              record {
                words = (long (lent_of g) b.passes).operators;
                limit = omega (arith, s.limits.operators, length_operators (lent_of g));
                room = space;
                in_order = λ o h.
                    in_order g.frame g.formulas g.effects g.operators records g.count w.kept.each o h w.kept.limit;
                variables = omega (arith, ready.twins, b.variables_limit);
                one = b.one_effect;
                rows_limit = b.effects_limit;
                space = b.effects_space;
                operator_space = b.operators_space;
                blank = b.blank.effects;
                blank_operators = b.blank.operators;
              };
          twinned = record { twins = omega (arith, ready.twins, ready.originals); below = originals-below };
          initial_ready =
              record {
                values = (long (lent_of g) b.passes).initial;
                twins = omega (arith, ready.twins, ready.originals);
                space = omega (arith, ready.twins, b.initial_space);
                below = originals-below;
                bits = λ i k. omega (arith, initial_held (lent_of g) i k, s.initial_bits i (omega (arith, variables_are)));
              };
          limit = omega (arith, ready.rows.within, ready.rows.limit);
          there = rows-there;
          space = rows_fit;
        }

    rules-are : rules_of (counts g) r g.operators mid.originals records ≡ assembled (task_of (lent_of g))
    rules-are =
        rw twins_held (sym (assembled_is g b.passes records w.kept))

    rows_are : upto r.rows (row_at mid.table) ≡ (finished (task_of (lent_of g))).formulas
    unfolding finished held
    rows_are = ap (λ (s : St). s.rows) held-is

    twins-are : take r.twins mid.originals ≡ (finished (task_of (lent_of g))).originals
    unfolding finished held
    twins-are = ap (λ (s : St). s.twins) held-is

    rows-many : length (finished (task_of (lent_of g))).formulas ≡ r.rows
    rows-many = ap length (sym rows_are) ∙ length_upto r.rows (row_at mid.table)

    twins-many : length (finished (task_of (lent_of g))).originals ≡ r.twins
    twins-many = ap length (sym twins-are) ∙ many-twins

    -- Behind finishing.
    module _ {y : BareOutputs} {z : Filled} (e : BareEnded (counts g) r g.initial g.operators mid.originals mid.table records (written_of x) y z) where
      h : Holding (assembled (task_of (lent_of g))) z.effects g.count y.effects y.operators
      h = rw rules-are at e.holding

      effects-many : length (finished (task_of (lent_of g))).effects ≡ z.effects
      unfolding finished
      effects-many = h.effect_rows

      it-fits : Fits (finished (task_of (lent_of g))) (room_of x)
      it-fits =
          fits_if t (room_of x) (source (lent_of g) b.passes)
          (omega (arith, variables_are, twins-many, ready.twins, b.variables_limit))
          (omega (arith, variables_are, twins-many, ready.twins, b.initial_space))
          (omega (arith, twins-many, ready.twins, b.twins_space))
          (omega (arith, rows-many, ready.rows.within, ready.rows.limit))
          (omega (arith, rows-many, ready.rows.within, b.rows_space))
          (omega (arith, effects-many, e.within, b.effects_limit))
          (omega (arith, effects-many, e.within, b.effects_space))
          (omega (arith, length_operators (lent_of g), b.operators_space))

      heads :
          head_of (finished (task_of (lent_of g)))
          ≡ record { variables = g.frame.variables + r.twins; twins = r.twins; formulas = r.rows; effects = z.effects; operators = g.count; goal = r.row }
      unfolding head_of
      heads = λ i.
          record {
            variables = (finished_variables t ∙ ap₂ (λ (m n : ℕ). m + n) variables_are twins-many) i;
            twins = twins-many i;
            formulas = rows-many i;
            effects = effects-many i;
            operators = (finished_operators t ∙ length_operators (lent_of g)) i;
            goal = goal-there i;
          }
        where
          goal-there : (finished (task_of (lent_of g))).goal ≡ r.row
          goal-there = unfold finished in (goal_built g b.passes ∙ w.value)

      initial-words : y.values ≡ padded (length x.initial) (finished (task_of (lent_of g))).initial
      initial-words =
          e.values
          ∙ ap (λ (m : List ℕ). words ++ drop (g.frame.variables + r.twins) m) b.blank.initial
          ∙ padded_over (length x.initial) words (g.frame.variables + r.twins) words_long
          ∙ ap (padded (length x.initial)) words_are
        where
          words : List ℕ
          words = take g.frame.variables g.initial ++ twin_values (take g.frame.variables g.initial) (take r.twins mid.originals)

          last :
              take g.frame.variables g.initial ++ twin_values (take g.frame.variables g.initial) (finished (task_of (lent_of g))).originals
              ≡ (finished (task_of (lent_of g))).initial
          last = unfold finished task_of in refl

          words_are : words ≡ (finished (task_of (lent_of g))).initial
          words_are =
              ap (λ (m : List ℕ). take g.frame.variables g.initial ++ twin_values (take g.frame.variables g.initial) m) twins-are
              ∙ last

          words_long : length words ≡ g.frame.variables + r.twins
          words_long = ap length words_are ∙ finished_variables t ∙ ap₂ (λ (m n : ℕ). m + n) variables_are twins-many

      it-holds :
          {twins2 memo2 : List ℕ}
          → length y.effects ≡ length x.effects
          → length y.operators ≡ length x.operators
          → twins2 ≡ take r.twins mid.originals ++ drop r.twins x.twins
          → Holds (lent_of g) x (tables y.values twins2 y.table y.effects y.operators memo2) z
      it-holds long-out long-outs copied =
          record {
            fits = it-fits;
            head = heads ∙ ap (λ (n : Filled). record { variables = g.frame.variables + n.twins; twins = n.twins; formulas = n.rows; effects = n.effects; operators = g.count; goal = n.goal }) (sym e.answer);
            initial = initial-words;
            twins =
                copied
                ∙ ap (λ (m : List ℕ). take r.twins mid.originals ++ drop r.twins m) b.blank.twins
                ∙ padded_over (length x.twins) (take r.twins mid.originals) r.twins many-twins
                ∙ ap (padded (length x.twins)) twins-are;
            formulas =
                e.table
                ∙ copied_rows mid.table x.formulas r.rows rows-there rows_fit b.blank.formulas
                ∙ ap (λ (k : List Row). padded (length x.formulas) (words_of k)) rows_are;
            effects = unfold finished in (h.effect_words ∙ ap (λ (m : ℕ). padded m (words_of (assembled t).effects)) long-out);
            operators = unfold finished in (h.held_operators ∙ ap (λ (m : ℕ). padded m (operator_words (assembled t).operators)) long-outs);
          }

    -- what finishing asks, and copying the twins
    pub finish_asks :
        length records ≡ length (replicate {A = ℕ} 6912 0)
        → BareStands (counts g) r g.initial g.operators mid.originals mid.table records (written_of x) × (r.twins ≤ length x.twins)
    finish_asks space =
        (stands (omega (arith, space, length-replicate {A = ℕ} 6912 0)), omega (arith, ready.twins, b.twins_space))

    -- and what it leaves
    module _ (y : BareOutputs) where
      misfits :
          {E : Type 0} (e : E)
          → BareFinished (counts g) r g.initial g.operators mid.originals mid.table records (written_of x) y (Err e)
          → Allows g.frame.variables (room_of x) g.frame.rows g.frame.twins g.room
          → Fits (finished (task_of (lent_of g))) (room_of x)
          → ⊥
      misfits e k a fit = k.misfit (rw rules-are few)
        where
          few : length (assembled (task_of (lent_of g))).effects ≤ g.room
          few = unfold finished in a.effects_allowed (length (assembled t).effects) fit.limits.effects fit.tables.effects

      pub tried_done :
          {E : Type 0} (twins2 memo2 : List ℕ) (z : Result Filled E)
          → is_err z ≡ false
          → length y.effects ≡ length x.effects
          → length y.operators ≡ length x.operators
          → BareFinished (counts g) r g.initial g.operators mid.originals mid.table records (written_of x) y z
          → TwinsCopied r.twins mid.originals x.twins twins2 z
          → Tries g x (tables y.values twins2 y.table y.effects y.operators memo2) z
      tried_done twins2 memo2 (Ok z) q e o k copied = it-holds k e o copied
      tried_done twins2 memo2 (Err e) q _ o k copied = absurd (true≢false q)

      -- without room all is cleared again
      pub tried_over :
          {E : Type 0} (z : Result Filled E) {v w : Tables}
          → is_err z ≡ true
          → room_of v ≡ room_of x
          → Blanked v w
          → BareFinished (counts g) r g.initial g.operators mid.originals mid.table records (written_of x) y z
          → Tries g x w z
      tried_over (Ok z) q _ clear k = absurd (true≢false (sym q))
      tried_over (Err e) q same clear k = record { same = cleared_again b.blank same clear; misfit = misfits e k }

  -- There was no room to build it: all is cleared again.
  pub tried_none :
      {mid : Store} {memo records : List ℕ} {r : Step} {v w : Tables}
      → FromStart g.frame g.formulas g.effects g.operators g.count g.goal mid memo records r
      → r.full ≡ true
      → room_of v ≡ room_of x
      → Blanked v w
      → Unfilled g x w
  tried_none f q same clear = record { same = cleared_again b.blank same clear; misfit = λ a fit. built_over f a q fit }
