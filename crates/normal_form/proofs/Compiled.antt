-- The outcome of a compiling: when it succeeds, when it answers 15, and that the tables that it gives hold the finished task. So the runs on the
-- source's tables and on those that compiling gave are alike. Assumes nothing.
use Prim.Native.Nat.{ℕ, zero, suc, ◌+◌, ◌-◌, ◌*◌, ◌≤◌, ◌<◌}
use native.Mathlib.Omega.{arith}
use mathlib.Core.Path.{◌≡◌, refl, ap, ◌∙◌}
use mathlib.Core.Bool.{Bool, true, false}
use mathlib.Core.List.{List}
use mathlib.Core.Logic.{◌↔◌}
use lib.ListN.{length, replicate}
use lib.Dec.{leb, eqb, eqb-suc-zero}
use borrow.Author.Tests.{leb-true, leb-false, le-leb, lt-leb, eqb-true, eqb-false, eq-eqb, ne_eqb}
use Rattle.task.specs.declared.Head.{Head}
use Rattle.task.specs.Table.{Lent, Task, task_of, operator_width}
use Rattle.task.specs.Check.{counts_kept, room as has_room, unless, refusal}
use Rattle.task.proofs.Own.{refusal_own, not_between}
use Rattle.task.specs.Rules.{Checked}
use Rattle.task.specs.Run.{effect_of_operator}
use Rattle.task.specs.Words.{words_of, operator_words, head_of, padded}
use Rattle.task.proofs.Bounded.{and_left, and_right, and_both}
use Rattle.task.proofs.Kept.{kept_rules}
use Rattle.task.proofs.Passed.{room_tested, counts_tested}
use Rattle.task.proofs.Words.{lent_in, task_in, kept_in}
use Rattle.normal_form.specs.Finished.{finished}
use Rattle.normal_form.specs.Flat.{Flat}
use Rattle.normal_form.specs.Positive.{Positive}
use Rattle.normal_form.specs.Compiled.{Room, compile_scratch_kept, output_lengths, fits, Fits, compile_refusal, compiled_head, not_compiled, CompileOutcome, nothing_given, task_given, outcome_by, compiling, given}
use Rattle.normal_form.proofs.ShapePassed.{finished_variables, finished_rules, positive}
use Rattle.normal_form.proofs.ShapeFinished.{finished_operators, flat}
use Rattle.normal_form.proofs.ShapeLimits.{finished_limits}

-- The test of limits and room.
module _ (t : Task) (room : Room) where
  pub fits_tested : fits t room ≡ true ↔ Fits t room
  unfolding fits head_of
  fits_tested = (told, tested)
    where
      told : fits t room ≡ true → Fits t room
      told e =
          let fit = has_room (output_lengths room) (head_of t) in
          let r = and_right (counts_kept (head_of t)) fit e in
          let c = (counts_tested (head_of t)).0 (and_left (counts_kept (head_of t)) fit e) in
          record {
            limits = c;
            tables = (room_tested (output_lengths room) (head_of t)).0 r;
          }

      tested : Fits t room → fits t room ≡ true
      tested f =
          and_both
          ((counts_tested (head_of t)).1 f.limits)
          ((room_tested (output_lengths room) (head_of t)).1 f.tables)

  pub fits_not : (Fits t room → ⊥) → fits t room ≡ false
  fits_not n = go (fits t room) refl
    where
      go : (b : Bool) → fits t room ≡ b → fits t room ≡ false
      go true e = absurd (n (fits_tested.0 e))
      go false e = e

-- What compiling has to see of the finished task of a source that passes: its numbers of variables, formulas and effects. Operators are as many.
pub fits_if :
    (t : Task) (room : Room)
    → Checked t
    → length t.initial + length (finished t).originals ≤ 512
    → length t.initial + length (finished t).originals ≤ room.initial
    → length (finished t).originals ≤ room.twins
    → length (finished t).formulas ≤ 4096
    → 3 * length (finished t).formulas ≤ room.formulas
    → length (finished t).effects ≤ 4096
    → 3 * length (finished t).effects ≤ room.effects
    → operator_width * length t.operators ≤ room.operators
    → Fits (finished t) room
fits_if t room source v i w f rows e effects o =
    record {
      limits = finished_limits t source v f e;
      tables =
          record {
            initial = omega (arith, finished_variables t);
            twins = w;
            formulas = rows;
            effects = effects;
            operators = omega (arith, finished_operators t);
          };
    }

-- What a compiling asks.
pub record Succeeds (l : Lent) (room : Room) : Type 0 where
  pub passes : refusal l ≡ 0
  pub untwinned : l.head.twins ≡ 0
  pub scratch : 2 * l.head.formulas + 2 * l.head.effects ≤ room.scratch
  pub fits : Fits (finished (task_of l)) room

module _ (l : Lent) (room : Room) where
  -- The ways out, in order.
  pub by_tables : (n : ℕ) → refusal l ≡ suc n → compiling l room ≡ nothing_given (suc n) room
  unfolding compiling compile_refusal outcome_by
  by_tables n e = rw (e, eqb-suc-zero n)

  pub by_twins : refusal l ≡ 0 → (l.head.twins ≡ 0 → ⊥) → compiling l room ≡ nothing_given 13 room
  unfolding compiling compile_refusal outcome_by
  by_twins e n = rw (e, ne_eqb l.head.twins 0 n)

  pub by_scratch :
      refusal l ≡ 0
      → l.head.twins ≡ 0
      → room.scratch < 2 * l.head.formulas + 2 * l.head.effects
      → compiling l room ≡ nothing_given 14 room
  unfolding compiling compile_refusal outcome_by compile_scratch_kept
  by_scratch e w h =
      rw (e, eq-eqb l.head.twins 0 w, lt-leb (2 * l.head.formulas + 2 * l.head.effects) room.scratch h)

  pub by_room :
      refusal l ≡ 0
      → l.head.twins ≡ 0
      → 2 * l.head.formulas + 2 * l.head.effects ≤ room.scratch
      → (Fits (finished (task_of l)) room → ⊥)
      → compiling l room ≡ nothing_given 15 room
  unfolding compiling compile_refusal outcome_by compile_scratch_kept
  by_room e w h n =
      rw (
        e,
        eq-eqb l.head.twins 0 w,
        le-leb (2 * l.head.formulas + 2 * l.head.effects) room.scratch h,
        fits_not (finished (task_of l)) room n,
      )

  refused_none : Succeeds l room → compile_refusal l room ≡ 0
  unfolding compile_refusal compile_scratch_kept
  refused_none c =
      rw (
        c.passes,
        eq-eqb l.head.twins 0 c.untwinned,
        le-leb (2 * l.head.formulas + 2 * l.head.effects) room.scratch c.scratch,
        (fits_tested (finished (task_of l)) room).1 c.fits,
      )

  pub succeeds : Succeeds l room → compiling l room ≡ task_given (finished (task_of l)) room
  unfolding compiling outcome_by
  succeeds c = rw (refused_none c)

  -- a number other than 0 that stands in its place, or what comes after it
  not_zero : (b : Bool) (n rest : ℕ) → (n ≡ 0 → ⊥) → unless b n rest ≡ 0 → b ≡ true
  not_zero true n rest h e = refl
  not_zero false n rest h e = absurd (h e)

  pub none_refused : compile_refusal l room ≡ 0 → Succeeds l room
  unfolding compile_refusal compile_scratch_kept
  none_refused e = tables (eqb (refusal l) 0) refl
    where
      last : ℕ
      last = unless (fits (finished (task_of l)) room) 15 0

      after-twins : ℕ
      after-twins = unless (compile_scratch_kept l.head room) 14 last

      after-tables : ℕ
      after-tables = unless (eqb l.head.twins 0) 13 after-twins

      tables : (b : Bool) → eqb (refusal l) 0 ≡ b → Succeeds l room
      tables false f = absurd (eqb-false (refusal l) 0 f (rw f at e))
      tables true f =
          let e1 : after-tables ≡ 0 = rw f at e in
          let w = not_zero (eqb l.head.twins 0) 13 after-twins (λ z. omega arith) e1 in
          let e2 : after-twins ≡ 0 = rw w at e1 in
          let s = not_zero (compile_scratch_kept l.head room) 14 last (λ z. omega arith) e2 in
          let e3 : last ≡ 0 = rw s at e2 in
          let k = not_zero (fits (finished (task_of l)) room) 15 0 (λ z. omega arith) e3 in
          record {
            passes = eqb-true (refusal l) 0 f;
            untwinned = eqb-true l.head.twins 0 w;
            scratch = leb-true (2 * l.head.formulas + 2 * l.head.effects) room.scratch s;
            fits = (fits_tested (finished (task_of l)) room).0 k;
          }

  -- it answers a head exactly if nothing refuses it
  pub given_compiles : (h : Head) → (compiling l room).answer ≡ compiled_head h → Succeeds l room
  unfolding compiling
  given_compiles h e = go (compile_refusal l room) refl
    where
      go : (n : ℕ) → compile_refusal l room ≡ n → Succeeds l room
      go zero f = none_refused f
      go (suc n) f =
          let e1 : not_compiled (suc n) ≡ compiled_head h = unfold outcome_by nothing_given in rw f at e in
          let z : ◌≡◌ {A = ℕ} 0 1 = cc in
          absurd (omega arith)

  -- what a refusal leaves
  pub refused_leaves : (n : ℕ) → (compiling l room).answer ≡ not_compiled n → compiling l room ≡ nothing_given n room
  unfolding compiling outcome_by
  refused_leaves n e = go (compile_refusal l room) refl
    where
      go : (m : ℕ) → compile_refusal l room ≡ m → compiling l room ≡ nothing_given n room
      go zero f =
          let e1 : compiled_head (head_of (finished (task_of l))) ≡ not_compiled n = unfold task_given in rw f at e in
          let z : ◌≡◌ {A = ℕ} 0 1 = cc in
          absurd (omega arith)
      go (suc m) f =
          let e1 : not_compiled (suc m) ≡ not_compiled n = unfold nothing_given in rw f at e in
          let same : suc m ≡ n = cc in
          rw (f, same)

  told_number : (n : ℕ) → compiling l room ≡ nothing_given n room → (compiling l room).answer ≡ not_compiled n
  unfolding nothing_given
  told_number n e = ap (λ (o : CompileOutcome). o.answer) e

  told_head : Succeeds l room → (compiling l room).answer ≡ compiled_head (head_of (finished (task_of l)))
  unfolding task_given
  told_head c = ap (λ (o : CompileOutcome). o.answer) (succeeds c)

  other_number : (m n : ℕ) → (m ≡ n → ⊥) → (compiling l room).answer ≡ not_compiled m → (compiling l room).answer ≡ not_compiled n → ⊥
  other_number m n differ p q =
      let same : m ≡ n = cc in
      differ same

  -- 15 only if the finished task does not fit
  pub fifteen : (compiling l room).answer ≡ not_compiled 15 → Fits (finished (task_of l)) room → ⊥
  fifteen e k = tables (refusal l) refl
    where
      needed : ℕ
      needed = 2 * l.head.formulas + 2 * l.head.effects

      scratch : refusal l ≡ 0 → l.head.twins ≡ 0 → (b : Bool) → leb needed room.scratch ≡ b → ⊥
      scratch z w false f =
          other_number 14 15 (λ q. omega arith) (told_number 14 (by_scratch z w (leb-false needed room.scratch f))) e
      scratch z w true f =
          let p = told_head (record { passes = z; untwinned = w; scratch = leb-true needed room.scratch f; fits = k }) in
          let q : ◌≡◌ {A = ℕ} 0 1 = cc in
          omega arith

      twins : refusal l ≡ 0 → (b : Bool) → eqb l.head.twins 0 ≡ b → ⊥
      twins z false f =
          other_number 13 15 (λ q. omega arith) (told_number 13 (by_twins z (eqb-false l.head.twins 0 f))) e
      twins z true f = scratch z (eqb-true l.head.twins 0 f) (leb needed room.scratch) refl

      tables : (n : ℕ) → refusal l ≡ n → ⊥
      tables zero z = twins z (eqb l.head.twins 0) refl
      tables (suc n) z =
          other_number (suc n) 15 (λ q. not_between (rw z at (refusal_own l)) (omega arith) (omega arith)) (told_number (suc n) (by_tables n z)) e

  -- scratch always ends as 0
  pub scratch_ends : (compiling l room).scratch ≡ replicate room.scratch 0
  unfolding compiling outcome_by
  scratch_ends = go (compile_refusal l room)
    where
      go : (n : ℕ) → (outcome_by n (finished (task_of l)) room).scratch ≡ replicate room.scratch 0
      go zero = unfold task_given in refl
      go (suc n) = unfold nothing_given in refl

-- Where compiling succeeds.
module _ (l : Lent) (room : Room) (h : Head) (success : (compiling l room).answer ≡ compiled_head h) where
  pub source_rules : Checked (task_of l)
  source_rules = (kept_rules l (given_compiles l room h success).passes).1

  -- the answer and the outputs are those of the finished task
  pub given_outcome : compiling l room ≡ task_given (finished (task_of l)) room
  given_outcome = succeeds l room (given_compiles l room h success)

  pub given_head : h ≡ head_of (finished (task_of l))
  given_head =
      let told = told_head l room (given_compiles l room h success) in
      cc

  tail : ℕ → List ℕ → List ℕ
  tail n words = replicate (n - length words) 0

  given_lent :
      given h (compiling l room)
      ≡ lent_in (finished (task_of l))
      (tail room.initial (finished (task_of l)).initial)
      (tail room.twins (finished (task_of l)).originals)
      (tail room.formulas (words_of (finished (task_of l)).formulas))
      (tail room.effects (words_of (finished (task_of l)).effects))
      (tail room.operators (operator_words (finished (task_of l)).operators))
  unfolding lent_in tail task_given padded
  given_lent = rw (given_outcome, given_head)

  -- the tables that compiling gave hold the finished task, and pass the check
  pub given_task : task_of (given h (compiling l room)) ≡ finished (task_of l)
  given_task = ap task_of given_lent ∙ task_in (finished (task_of l)) _ _ _ _ _

  pub given_passes : refusal (given h (compiling l room)) ≡ 0
  given_passes =
      ap refusal given_lent
      ∙ kept_in (finished (task_of l)) _ _ _ _ _
      (finished_rules (task_of l) source_rules (given_compiles l room h success).fits.limits)

  -- it is positive and flat
  pub given_positive : Positive (task_of (given h (compiling l room)))
  given_positive = rw given_task (positive (task_of l) source_rules)

  pub given_flat : (o : ℕ) → Flat (effect_of_operator (task_of (given h (compiling l room))) o)
  given_flat o = rw given_task (flat (task_of l) o)
