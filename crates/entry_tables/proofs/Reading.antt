-- Reading through lent tables: lengths matter for 5 alone, and what the tables hold then. Assumes nothing.
use Prim.Native.Nat.{ℕ, ◌-◌, ◌*◌}
use native.Mathlib.Omega.{arith}
use mathlib.Core.Path.{◌≡◌, refl, sym, ap, ◌∙◌}
use mathlib.Core.Bool.{Bool, true, false}
use mathlib.Core.List.{List}
use lib.ListN.{length, replicate}
use borrow.Author.Tests.{le-leb}
use Rattle.std.specs.Prelude.{Result, Ok, Err}
use Rattle.std.specs.Result.{IsErrAnd}
use Rattle.task.specs.declared.Head.{Head}
use Rattle.task.specs.declared.refusal.Refusal.{Refusal}
use Rattle.task.specs.declared.tables.Tables.{Tables}
use Rattle.task.specs.declared.refusal.Refusal.TheVariants as r
use Rattle.task.specs.Refused.{number_of, told}
use Rattle.task.specs.Table.{Lent, Task, lent, task_of, operator_width}
use Rattle.task.specs.Check.{counts_kept, goal_kept, refusal}
use Rattle.task.specs.Words.{head_of, words_of, operator_words, padded}
use Rattle.task.proofs.Bounded.{and_both}
use Rattle.task.proofs.Words.{lent_in, task_in, kept_in}
use Rattle.task.proofs.Passed.{counts_tested}
use Rattle.file_format.specs.Parse.{Parsed, parsed, unparsed, next, kept}
use Rattle.file_format.specs.Reading.{Lengths, room, head_read, head_kept, Verdict, accepted, rejected, at_end, task_read, reading}
use Rattle.task_file.specs.Outcome.{ReadAnswer, Read, Refused, ReadOutcome, outcome_of, read_left, read_outcome}
use Rattle.file_format.proofs.Parse.{Bytes}
use Rattle.file_format.proofs.RoundTrip.{Accepted, written_read}
use Rattle.entry_tables.specs.Own.{own}
use Rattle.entry_tables.specs.Inner.Answers.{ReadInto}

-- Own tables have room for every head that keeps the limits.
pub limits_room : (h : Head) → counts_kept h ≡ true → room own h ≡ true
unfolding room own
limits_room h e =
    let c = (counts_tested h).0 e in
    and_both (le-leb h.variables 512 c.variables)
    (and_both (le-leb h.twins 256 (omega (arith, c.variables, c.twins)))
    (and_both (le-leb (3 * h.formulas) 12288 (omega (arith, c.formulas)))
    (and_both (le-leb (3 * h.effects) 12288 (omega (arith, c.effects)))
    (le-leb (operator_width * h.operators) (operator_width * 256) (omega (arith, c.operators))))))

same_head : (l : Lengths) (h : Head) (rest : List ℕ) → (head_kept l h rest ≡ unparsed 5 → ⊥) → head_kept l h rest ≡ head_kept own h rest
unfolding head_kept next kept
same_head l h rest d = go (counts_kept h) (goal_kept h) (room l h) refl refl refl
  where
    go : (a b c : Bool) → counts_kept h ≡ a → goal_kept h ≡ b → room l h ≡ c → head_kept l h rest ≡ head_kept own h rest
    go false b c x y z = rw x
    go true false c x y z = rw (x, y)
    go true true false x y z = absurd (d (rw (x, y, z)))
    go true true true x y z = rw (x, y, z, limits_room h x)

-- so reading through tables of any lengths, unless it comes to 5, comes to what it does through one's own
pub same_reading : (l : Lengths) (file : List ℕ) → (reading l file ≡ rejected 5 → ⊥) → reading l file ≡ reading own file
unfolding reading task_read next at_end
same_reading l file d = go (head_read file) refl
  where
    go : (p : Parsed Head) → head_read file ≡ p → reading l file ≡ reading own file
    go (parsed h rest) x =
        let s : head_kept l h rest ≡ head_kept own h rest = same_head l h rest (λ y. d (rw (x, y))) in
        rw (x, s)
    go (unparsed n) x = rw x

-- Tables that hold what a file was read as, through tables of these lengths: the task's words stand in front.
pub record ReadAs (m : Lengths) (file : List ℕ) (l : Lent) : Type 0 where
  pub read : reading m file ≡ accepted (task_of l)
  pub kept : refusal l ≡ 0
  pub initial_rest : List ℕ
  pub twins_rest : List ℕ
  pub formulas_rest : List ℕ
  pub effects_rest : List ℕ
  pub operators_rest : List ℕ
  pub held : l ≡ lent_in (task_of l) initial_rest twins_rest formulas_rest effects_rest operators_rest

held_in : (m : Lengths) (file : List ℕ) (l : Lent) (t : Task) (i w f e o : List ℕ) → l ≡ lent_in t i w f e o → Accepted m file t → reading m file ≡ accepted t → ReadAs m file l
held_in m file l t i w f e o s a r =
    let same : task_of l ≡ t = ap task_of s ∙ task_in t i w f e o in
    record {
      read = r ∙ ap accepted (sym same);
      kept = ap refusal s ∙ kept_in t i w f e o a.rules;
      initial_rest = i;
      twins_rest = w;
      formulas_rest = f;
      effects_rest = e;
      operators_rest = o;
      held = s ∙ ap (λ (x : Task). lent_in x i w f e o) (sym same);
    }

-- the two answers of reading through tables of any lengths
module _ (m : Lengths) (file : List ℕ) {r : ReadAnswer} {i' w' f' e' o' : List ℕ} (reads : read_left r i' w' f' e' o' ≡ read_outcome m file) where
  reads_by : read_left r i' w' f' e' o' ≡ outcome_of m (reading m file)
  unfolding read_outcome
  reads_by = reads

  pub read_as : {head : Head} → r ≡ Read head → Bytes file → ReadAs m file (lent head i' w' f' e' o')
  unfolding outcome_of padded lent_in
  read_as {head} q b = go (reading m file) refl
    where
      go : (x : Verdict) → reading m file ≡ x → ReadAs m file (lent head i' w' f' e' o')
      go (accepted t) x =
          let s : read_left r i' w' f' e' o' ≡ outcome_of m (accepted t) = reads_by ∙ ap (outcome_of m) x in
          let h : Read head ≡ Read (head_of t) = sym q ∙ ap (λ (y : ReadOutcome). y.answer) s in
          let g : head ≡ head_of t = cc in
          held_in m file (lent head i' w' f' e' o') t
          (replicate (m.initial - length t.initial) 0)
          (replicate (m.twins - length t.originals) 0)
          (replicate (m.formulas - length (words_of t.formulas)) 0)
          (replicate (m.effects - length (words_of t.effects)) 0)
          (replicate (m.operators - length (operator_words t.operators)) 0)
          (λ j. lent (g j) (s j).initial (s j).twins (s j).formulas (s j).effects (s j).operators)
          (written_read m file t b x) x
      go (rejected n) x =
          let s : read_left r i' w' f' e' o' ≡ outcome_of m (rejected n) = reads_by ∙ ap (outcome_of m) x in
          let h : Read head ≡ Refused n = sym q ∙ ap (λ (y : ReadOutcome). y.answer) s in
          absurd (let z : ◌≡◌ {A = ℕ} 0 1 = cc in omega arith)

  pub refused_as : {n : ℕ} → r ≡ Refused n → reading m file ≡ rejected n
  unfolding outcome_of
  refused_as {n} q = go (reading m file) refl
    where
      go : (x : Verdict) → reading m file ≡ x → reading m file ≡ rejected n
      go (accepted t) x =
          let s : read_left r i' w' f' e' o' ≡ outcome_of m (accepted t) = reads_by ∙ ap (outcome_of m) x in
          let h : Refused n ≡ Read (head_of t) = sym q ∙ ap (λ (y : ReadOutcome). y.answer) s in
          absurd (let z : ◌≡◌ {A = ℕ} 0 1 = cc in omega arith)
      go (rejected k) x =
          let s : read_left r i' w' f' e' o' ≡ outcome_of m (rejected k) = reads_by ∙ ap (outcome_of m) x in
          let h : Refused n ≡ Refused k = sym q ∙ ap (λ (y : ReadOutcome). y.answer) s in
          let g : k ≡ n = cc in
          x ∙ ap rejected g

-- a refusal that `?` returns onward
pub refused_onward : (m : Lengths) (file : List ℕ) (r : Result Tables Refusal) (e : Refusal) → IsErrAnd r (λ x. x ≡ e) → reading m file ≡ rejected (number_of e) → ReadInto m file r
refused_onward m file (Ok t) e given is = absurd given
refused_onward m file (Err x) e given is = is ∙ ap (λ (y : Refusal). rejected (number_of y)) (sym given)

-- only one refusal has the number 5
five_short : (e : Refusal) → number_of e ≡ 5 → e ≡ r.ShortTable
five_short r.CutShort h = cc
five_short r.SpareBit h = cc
five_short r.NeedlessField h = cc
five_short r.BytesBehind h = cc
five_short r.ShortTable h = refl
five_short r.Counts h = cc
five_short r.Goal h = cc
five_short r.InitialByte h = cc
five_short r.Twin h = cc
five_short r.Formula h = cc
five_short r.Effect h = cc
five_short r.Operator h = cc
five_short r.SourceTwins h = cc
five_short r.ShortScratch h = cc
five_short r.NoRoom h = cc
five_short r.State h = cc
five_short r.NoOperator h = cc
five_short r.NotApplicable h = cc
five_short r.LongSequence h = cc
five_short r.ShortOutput h = cc
five_short r.ManyVariables h = cc
five_short r.NoPlan h = cc
five_short r.LongPlan h = cc
five_short r.Percent h = cc
five_short r.ValueCount h = cc
five_short r.Value h = cc

pub not_five : {A : Type 0} (answer : Result A Refusal) → (answer ≡ Err r.ShortTable → ⊥) → told answer ≡ 5 → ⊥
not_five (Ok x) other h = omega arith
not_five (Err e) other h = other (ap Err (five_short e h))
