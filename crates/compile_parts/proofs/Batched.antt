-- A batch of operators begins where those before it are built, and they are taken in order. Assumes nothing.
use Prim.Native.Nat.{ℕ, ◌+◌, ◌≤◌, ◌<◌}
use native.Mathlib.Omega.{arith}
use mathlib.Core.Path.{◌≡◌, refl, sym, ◌∙◌}
use mathlib.Core.Bool.{false, false≢true}
use mathlib.Core.List.{List}
use lib.ListN.{length}
use Rattle.std.specs.Prelude.{Result, Ok, Err}
use Rattle.std.specs.Result.{IsErr}
use Rattle.task.specs.Table.{operator_at}
use Rattle.normal_form.specs.Builder.{St, plain, start}
use Rattle.normal_form.specs.Growth.{Grows}
use Rattle.normal_form.proofs.Growth.{grows_refl}
use Rattle.formula_builder.specs.declared.Frame.{Frame}
use Rattle.formula_builder.specs.declared.NoRoom.{NoRoom}
use Rattle.formula_builder.specs.Inner.Held.{held, size_in, store_in}
use Rattle.images.specs.Inner.Images.{image_at}
use Rattle.images.proofs.Memos.{steady_image_at}
use Rattle.conditions.specs.declared.ConditionBuilder.{ConditionBuilder}
use Rattle.conditions.specs.Inner.Conditions.{SameConditions}
use Rattle.conditions.proofs.Steps.{same_conditions_twice}
use Rattle.variable_changes.specs.Inner.Stands.{LeavesBy}
use Rattle.variable_changes.proofs.Standing.{leaves_full}
use Rattle.operators.specs.Inner.Operator.{operators_built, operator_here, operator_built, all_changes}
use Rattle.building.specs.declared.Progress.{Progress as Answer}
use Rattle.building.specs.Inner.Taken.{Progress, progress_at, progress_by, Stood, TakesBy, TookBy}
use Rattle.effect_batches.specs.Inner.Filling.{AllCovered}
use Rattle.effect_batches.specs.Inner.Next.{NextBatchBy, BegunBatchBy}
use Rattle.effect_batches.proofs.Covering.{covered_built}
use Rattle.compile_parts.specs.Inner.Batches.{TakenBy, TakesBatch, TookBatch}

-- What n operators came to is covered where they are built.
covered_here :
    (frame : Frame) (formulas effects operators : List ℕ) (n : ℕ) (s u : St)
    → ((k : ℕ) → k < n → (operator_at operators k).effect < frame.effects)
    → Grows (operators_built frame formulas effects operators n s).st u
    → AllCovered frame formulas effects operators n u
unfolding operators_built operator_here operator_built all_changes
covered_here frame formulas effects operators n s u roots g =
    covered_built frame formulas effects operators n (λ k. image_at frame formulas plain (operator_at operators k).precondition) s u
    (λ k. steady_image_at frame formulas plain (operator_at operators k).precondition) roots g

module _ {b : ConditionBuilder} {operators : List ℕ} {count : ℕ} {first records : List ℕ} {x : Answer}
    (a : TakesBatch b operators count first records x) where
  abbrev p : Progress
  p = progress_at b.images.builder x

  stood : Stood (operators_built b.images.builder.frame b.images.formulas.now b.effects.now operators x.operators start).st b.images.builder.frame b.images.formulas.now b.effects.now (size_in b.images.builder) (store_in b.images.builder) b.images.scratch.now
  stood = a.taken.done refl

  pub batch_asks : NextBatchBy b operators x.operators count first
  batch_asks =
      let frame = b.images.builder.frame in
      let known = a.known in
      let stands = stood.stands in
      let rules = stands.effect_source in
      let grown : Grows (operators_built frame b.images.formulas.now b.effects.now operators x.operators start).st (held (size_in b.images.builder) (store_in b.images.builder)) = rw stood.state (grows_refl _) in
      record {
        sizes =
            record {
              room =
                  record {
                    rows =
                        record {
                          words = rules.words;
                          limit = rules.limit;
                          variables = omega (arith, stands.ready.variables);
                          down = rules.down;
                        };
                    words = known.words;
                    behind = a.notes_space;
                  };
              roots = known.roots;
              next = a.next;
            };
        comes = known.comes;
        covered =
            covered_here frame b.images.formulas.now b.effects.now operators x.operators start
            (held (size_in b.images.builder) (store_in b.images.builder))
            (λ k h. known.roots.effect k (omega (arith, h, a.next))) grown;
        stands =
            record {
              source = stands.source;
              effect_source = rules;
              ready = stands.ready;
              noted = a.noted;
              memo = stands.memo;
              effect_memo = stands.effect_memo;
            };
        blank = a.blank;
      }

-- In a batch, o being next, where what b began stands at c.
pub record TakingBy (b c : ConditionBuilder) (operators before records : List ℕ) (x : Answer) (o : ℕ) : Type 0 where
  pub same : SameConditions b c
  pub next : x.operators ≡ o
  pub taken : TakenBy b c operators records (progress_at c.images.builder x)
  pub leaves : LeavesBy b c false
  pub long : length records ≡ length before

-- it has begun
pub taking_begins :
    {b c : ConditionBuilder} {operators : List ℕ} {count end : ℕ} {first records : List ℕ} {x : Answer}
    → TakesBatch b operators count first records x
    → BegunBatchBy b c x.operators count end
    → TakingBy b c operators records records x x.operators
taking_begins {b} {c} {operators} {x = x} a g =
    let f = g.filled in
    record {
      same = f.same;
      next = refl;
      taken =
          record {
            done = λ _.
                rw f.size
                (record {
                  state = (a.taken.done refl).state ∙ sym f.filled.state;
                  stands =
                      record {
                        source = f.filled.stands.source;
                        effect_source = f.filled.stands.effect_source;
                        ready = f.filled.stands.ready;
                        memo = f.filled.stands.memo;
                        effect_memo = f.filled.stands.effect_memo;
                      };
                });
            kept = a.taken.kept;
            over = a.taken.over;
          };
      leaves = record { noted = λ _. rw f.size f.filled.stands.noted };
      long = refl;
    }

-- What taking operator o asks, and what it leaves.
module _ {b c : ConditionBuilder} {operators : List ℕ} {count end : ℕ} {first before records : List ℕ} {x y : Answer} {o : ℕ}
    (a : TakesBatch b operators count first before x) (g : end ≤ count) (low : o < end) (i : TakingBy b c operators before records y o) where
  pub operator_asks : TakesBy c operators records y
  operator_asks =
      let known = a.known in
      let fits : y.operators < count = omega (arith, i.next, low, g) in
      rw (i.same.images.builder.frame, i.same.images.formulas, i.same.effects)
      (record {
        taken = i.taken;
        leaves = i.leaves;
        words = omega (arith, known.roots.words, fits);
        limit = omega (arith, known.roots.limit, fits);
        room = omega (arith, a.space, i.long);
        precondition = known.precondition y.operators fits;
        effect = known.roots.effect y.operators fits;
      })

  module _ {d : ConditionBuilder} {after : List ℕ} (same : SameConditions c d) where
    taken_here : {p : Progress} → TookBy c d operators after y p → TakenBy b d operators after p
    taken_here t = rw (← i.same.images.builder.frame, ← i.same.images.formulas, ← i.same.effects) t.taken

    pub taking-next :
        (z : Answer)
        → TookBy c d operators after y (progress_by d.images.builder (y.operators + 1) (Ok z))
        → LeavesBy c d false
        → length after ≡ length records
        → TakingBy b d operators before after z (o + 1)
    taking-next z t l long =
        record {
          same = same_conditions_twice i.same same;
          next = omega (arith, t.next, i.next);
          taken = taken_here t;
          leaves = rw (← i.same.images.builder.frame, ← i.same.images.formulas, ← i.same.effects) l;
          long = long ∙ i.long;
        }

    -- no room
    pub taking-stops :
        {e : NoRoom} (r : Result Answer NoRoom)
        → IsErr r
        → x.operators ≤ o
        → TookBy c d operators after y (progress_by d.images.builder (y.operators + 1) (Err e))
        → TookBatch b d operators count after x r
    taking-stops (Ok z) is some t = absurd (false≢true is)
    taking-stops (Err e) is some t =
        record {
          stop = y.operators + 1;
          more = omega (arith, i.next, some);
          most = omega (arith, i.next, low, g);
          taken = taken_here t;
          leaves = leaves_full;
          same = same_conditions_twice i.same same;
        }

-- all of it is taken
pub taking-ends :
    {b c : ConditionBuilder} {operators : List ℕ} {count end : ℕ} {before records : List ℕ} {x y : Answer} {o : ℕ}
    → x.operators < end
    → end ≤ count
    → o ≡ end
    → TakingBy b c operators before records y o
    → TookBatch b c operators count records x (Ok y)
taking-ends {end = end} more most q i =
    record {
      stop = end;
      more = omega (arith, more, q, i.next);
      most = omega (arith, most, q, i.next);
      taken = i.taken;
      leaves = i.leaves;
      same = i.same;
    }
