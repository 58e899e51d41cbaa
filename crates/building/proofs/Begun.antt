-- Building in parts, from the start. Assumes nothing.
use Prim.Native.Nat.{ℕ, ◌+◌, ◌≤◌, ◌<◌}
use native.Mathlib.Omega.{arith}
use native.Mathlib.Numerals.{add-one}
use mathlib.Core.Path.{◌≡◌, refl, sym, ap, ◌∙◌}
use mathlib.Core.Bool.{true, false, true≢false, false≢true}
use mathlib.Core.List.{List, []}
use lib.ListN.{length}
use Rattle.std.specs.Prelude.{Result, Ok, Err}
use Rattle.std.specs.Result.{IsErr}
use Rattle.formula_builder.specs.declared.NoRoom.{NoRoom}
use Rattle.formula_builder.specs.declared.Builder.{Builder}
use Rattle.building.specs.declared.Progress.{Progress as Answer}
use Rattle.task.specs.Table.{operator_at}
use Rattle.normal_form.specs.Builder.{St, Got, give, bind, each, place, start, plain}
use Rattle.task.specs.Inner.Stored.{three}
use Rattle.formula_builder.specs.declared.Frame.{Frame}
use Rattle.formula_builder.specs.Inner.Index.{FirstTwo}
use Rattle.formula_builder.specs.Inner.Held.{Step, Store, store, held, twin_word, TwinsNamed, Within}
use Rattle.formula_builder.proofs.Steps.{within_before}
use Rattle.images.specs.Inner.Images.{image_at, memo_place, Asks, Images}
use Rattle.images.proofs.Memos.{steady_image_at}
use Rattle.conditions.proofs.Memos.{effect_memo_blank}
use Rattle.variable_changes.proofs.Standing.{stands_next, makes_image}
use Rattle.change_records.specs.Inner.Recorded.{Opens, Recorded}
use Rattle.operators.specs.Inner.Operator.{operator_built, operators_built, operator_here, BuildsOperator, Tally, OperatorWalked}
use Rattle.operators.proofs.InOrder.{more_grows}
use Rattle.building.specs.Inner.Taken.{Progress, size_at, stopped, progress_by, Fresh, Started, Begun, Blank, Stood, precondition_here, changes_here, many, AllKept, Taken, Takes, Took, whole_built, FromStart}
use Rattle.building.proofs.Kept.{many_more, many_on, none_kept, one_kept}

abbrev pub begun : Progress
begun = record { rows = 2; twins = 0; operators = 0; records = 0; full = false }

-- what `?` returns onward says that there was no room
pub progress_failed : (b : Builder) (n : ℕ) (r : Result Answer NoRoom) → IsErr r → progress_by b n r ≡ stopped n
progress_failed b n (Ok x) h = absurd (false≢true h)
progress_failed b n (Err e) h = refl

-- there is no room for false and true
pub no_beginning : (frame : Frame) (table : List ℕ) → frame.rows < 2 → Begun frame table table (stopped 0)
unfolding start
no_beginning frame table h =
    record {
      none = refl;
      no_records = refl;
      done = λ g. absurd (true≢false g);
      over = λ _ w. omega (arith, w.rows);
      answer = λ _. refl;
      untouched = λ _. refl;
    }

pub beginning :
    (frame : Frame) (table : List ℕ) {after : List ℕ}
    → Fresh frame table
    → 2 ≤ frame.rows
    → FirstTwo frame.rows table after
    → Begun frame table after begun
beginning frame table {after} b two f =
    record {
      none = refl;
      no_records = refl;
      done = λ _. started;
      over = λ q _. true≢false (sym q);
      answer = λ q. absurd (true≢false (sym q));
      untouched = λ q. absurd (true≢false (sym q));
    }
  where
    stand : (originals : List ℕ) → start ≡ held (size_at begun) (store after originals)
    stand originals = unfold held start in (λ i. record { rows = sym f.rows i; twins = [] })

    named : (originals : List ℕ) → TwinsNamed frame (size_at begun) (store after originals)
    named originals =
        record {
          room = omega (arith, b.room, f.long);
          stands = λ v r h e. absurd (omega (arith, e, f.past (twin_word frame v) (omega arith)));
          missing = λ v h e. unfold place in refl;
        }

    started : Started frame after begun
    started =
        record {
          state = stand;
          rows =
              record {
                within = two;
                some = omega arith;
                limit = b.limit;
                room = omega (arith, b.room, f.long);
                index = f.index;
              };
          two = omega arith;
          twins = refl;
          named = named;
        }

-- Between the parts.
module _ (frame : Frame) (formulas effects operators : List ℕ) where
  none_taken : (n : ℕ) → n ≡ 0 → (operators_built frame formulas effects operators n start).st ≡ start
  unfolding operators_built each give
  none_taken n e = rw e refl

  pub taken_none :
      {before table originals scratch records : List ℕ} {p : Progress}
      → Blank frame formulas effects originals scratch
      → Begun frame before table p
      → Taken frame formulas effects operators (store table originals) scratch records p
  taken_none {table = table} {originals} {scratch} {records} {p} b g =
      record {
        done = λ q.
            let s = g.done q in
            record {
              state = none_taken p.operators g.none ∙ s.state originals;
              stands =
                  record {
                    source = b.source;
                    effect_source = b.effect_source;
                    ready =
                        record {
                          rows = s.rows;
                          two = s.two;
                          twins = omega (arith, s.twins);
                          originals = b.twins;
                          variables = b.variables;
                          past_twins = λ j h. b.blank_originals j;
                          named = s.named originals;
                        };
                    memo = record { known = λ p i r h e. absurd (omega (arith, e, b.blank_scratch (memo_place frame p i))) };
                    effect_memo = effect_memo_blank frame formulas effects scratch (held (size_at p) (store table originals)) b.blank_scratch;
                  };
            };
        kept = λ _. none_kept frame formulas effects operators records p.operators p.records g.none g.no_records;
        over = λ q w _. g.over q (rw (none_taken p.operators g.none) at w);
      }

  module _ {notes : List ℕ} {s : Store} {scratch records : List ℕ} {p : Progress} (t : Takes frame formulas effects notes operators s scratch records p) where
    module _ (q : p.full ≡ false) {f e : ℕ} (its-formula : f ≡ (operator_at operators p.operators).precondition)
        (its-effect : e ≡ (operator_at operators p.operators).effect) where
      stood : Stood (operators_built frame formulas effects operators p.operators start).st frame formulas effects (size_at p) s scratch
      stood = t.taken.done q

      pub asks_operator : BuildsOperator frame formulas effects notes (size_at p) s scratch f e
      asks_operator =
          record {
            stands =
                record { stands = stood.stands; noted = t.leaves.noted q; effect = omega (arith, its-effect, t.effect) };
            formula = omega (arith, its-formula, t.precondition);
          }

      -- what operator p .operators gives in a state is what f and e give in the state that is held
      here :
          {A : Type 0} (step : ℕ → ℕ → St → A)
          → let source = operator_at operators p.operators in
          step source.precondition source.effect (operators_built frame formulas effects operators p.operators start).st
          ≡ step f e (held (size_at p) s)
      here step = rw (stood.state, its-formula, its-effect)

      one_more :
          (operators_built frame formulas effects operators (p.operators + 1) start).st
          ≡ (operator_built frame formulas effects f e (held (size_at p) s)).st
      unfolding operators_built operator_here each bind give
      one_more = rw (add-one p.operators) (here (λ a b m. (operator_built frame formulas effects a b m).st))

      pub opens : Opens p.records records
      opens = record { room = t.room; limit = (t.taken.kept q).limit }

      here-changes :
          changes_here frame formulas effects operators p.operators
          ≡ (operator_built frame formulas effects f e (held (size_at p) s)).value
      unfolding changes_here operator_here
      here-changes = here (λ a b m. (operator_built frame formulas effects a b m).value)

      here-precondition :
          precondition_here frame formulas effects operators p.operators
          ≡ (image_at frame formulas plain f (held (size_at p) s)).value
      unfolding precondition_here
      here-precondition = here (λ a b m. (image_at frame formulas plain a m).value)

      module _ {after : Store} {s2 l : List ℕ} (z : Tally) (y : OperatorWalked frame formulas effects f e (size_at p) s after s2 p.records records l z) where
        -- no room for its rows or twins
        pub took-over : z.full ≡ true → Took frame formulas effects operators after s2 l p (stopped (p.operators + 1))
        took-over g =
            record {
              next = refl;
              answer = λ _. refl;
              taken =
                  record {
                    done = λ f. absurd (true≢false f);
                    kept = λ f. absurd (true≢false f);
                    over = λ _ v _. y.walked.reaches.over g (rw one_more at v);
                  };
            }

        module _ (g : z.full ≡ false) where
          recorded : Recorded (changes_here frame formulas effects operators p.operators) p.records records l z.records
          recorded = rw here-changes (y.walked.recorded g)

          -- none for its changes
          pub took-many : 2048 < z.records → Took frame formulas effects operators after s2 l p (stopped (p.operators + 1))
          took-many h =
              record {
                next = refl;
                answer = λ _. refl;
                taken =
                    record {
                      done = λ f. absurd (true≢false f);
                      kept = λ f. absurd (true≢false f);
                      over = λ _ _ few.
                          omega (
                            arith,
                            h,
                            few,
                            recorded.count,
                            (t.taken.kept q).count,
                            many_more frame formulas effects operators p.operators,
                          );
                    };
              }

          pub took :
              {m : List ℕ}
              → z.records ≤ 2048
              → length s2 ≡ length scratch
              → length l ≡ length records
              → m ≡ three l p.operators z.row z.records 0
              → Took frame formulas effects operators after s2 m p
              (record { rows = z.rows; twins = z.twins; operators = p.operators + 1; records = z.records; full = false })
          took h long wide stored =
              rw stored
              (record {
                next = refl;
                answer = λ f. absurd (true≢false (sym f));
                taken =
                    record {
                      done = λ _.
                          record {
                            state = one_more ∙ (y.walked.reaches.done g).state;
                            stands = stands_next stood.stands y.walked.reaches g long;
                          };
                      kept = λ _.
                          one_kept frame formulas effects operators (t.taken.kept q) t.limit (omega (arith, t.room, wide)) recorded h
                          (here-precondition ∙ y.precondition g);
                      over = λ f _ _. true≢false (sym f);
                    };
              })

  -- The goal, behind all operators.
  module _ {s : Store} {scratch records : List ℕ} {p : Progress} (count goal : ℕ) (all : p.operators ≡ count)
      (t : Taken frame formulas effects operators s scratch records p) where
    before : p.full ≡ false → (operators_built frame formulas effects operators count start).st ≡ held (size_at p) s
    before q = ap (λ (n : ℕ). (operators_built frame formulas effects operators n start).st) (sym all) ∙ (t.done q).state

    pub goal_asks : p.full ≡ false → goal < frame.formulas → Asks frame formulas (size_at p) s scratch goal
    goal_asks q h =
        let k = (t.done q).stands in
        record { source = k.source; ready = k.ready; memo = k.memo; formula = h }

    all_kept : p.full ≡ false → AllKept frame formulas effects operators records count (many frame formulas effects operators count)
    all_kept q = rw ((t.kept q).count, all) at (t.kept q)

    module _ {after : Store} {s2 : List ℕ} {z : Step} (long : length s2 ≡ length scratch) where
      pub goal_built :
          p.full ≡ false
          → Images (image_at frame formulas plain goal) frame formulas (size_at p) s after scratch s2 z
          → FromStart frame formulas effects operators count goal after s2 records z
      unfolding whole_built bind
      goal_built q y =
          let same = ap (image_at frame formulas plain goal) (before q) in
          record {
            done = λ g.
                let d = y.builds.done g in
                record {
                  value = ap (λ (x : Got ℕ). x.value) same ∙ d.value;
                  stood =
                      record {
                        state = ap (λ (x : Got ℕ). x.st) same ∙ d.state;
                        stands =
                            stands_next (t.done q).stands
                            (makes_image (steady_image_at frame formulas plain goal) (t.done q).stands.effect_memo y).reaches g long;
                      };
                  kept = all_kept q;
                };
            over = λ g w _. y.builds.over g (rw (ap (λ (x : Got ℕ). x.st) same) at w);
          }

  -- Without room for some operators there is none for more, nor for the goal.
  module _ {s : Store} {scratch records : List ℕ} {p : Progress} (count : ℕ) (some : p.operators ≤ count)
      (t : Taken frame formulas effects operators s scratch records p) (q : p.full ≡ true) where
    pub operators_over :
        Within frame (operators_built frame formulas effects operators count start).st → many frame formulas effects operators count ≤ 2048 → ⊥
    operators_over w few =
        t.over q (within_before (more_grows frame formulas effects operators start p.operators count some) w)
        (omega (arith, many_on frame formulas effects operators p.operators count some, few))

    pub goal_over :
        {after : Store} {s2 : List ℕ} {z : Step} (goal : ℕ) → z.full ≡ true → FromStart frame formulas effects operators count goal after s2 records z
    unfolding whole_built bind
    goal_over goal g =
        record {
          done = λ f. absurd (true≢false (sym g ∙ f));
          over = λ _ w few.
              operators_over
              (within_before ((steady_image_at frame formulas plain goal).grow (operators_built frame formulas effects operators count start).st) w)
              few;
        }
