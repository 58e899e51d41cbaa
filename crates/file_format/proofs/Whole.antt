-- A whole task: its file is read as the task, and only that; cut short it gives 1. Assumes nothing.
use Prim.Native.Nat.{ℕ, ◌-◌, ◌<◌, ◌≤◌}
use mathlib.Core.Path.{◌≡◌, sym, ap, ◌∙◌}
use mathlib.Core.Logic.{◌↔◌}
use mathlib.Core.Bool.{true}
use mathlib.Core.List.{List, [], ◌∷◌, ◌++◌, append_assoc}
use lib.ListN.{length, get_or}
use borrow.Author.Tests.{eqb-true, eq-eqb}
use Rattle.task.specs.declared.Head.{Head}
use Rattle.task.specs.Table.{Row, Operator, Task, formula_kind, effect_kind}
use Rattle.task.specs.Check.{counts_kept, goal_kept, twin_kept, formula_kept, effect_kept, operator_number}
use Rattle.task.specs.Rules.{no_row, no_operator, Checked, HasRoom, TwinRule, Counts}
use Rattle.task.specs.Words.{joined, head_of}
use Rattle.task.proofs.RowRules.{formula_told, formula_passes, effect_told, effect_passes, operator_told, operator_passes}
use Rattle.task.proofs.Passed.{counts_tested, goal_tested, room_tested}
use Rattle.file_format.specs.Bytes.{word_bytes, head_defaults, head_bytes, row_bytes, operator_bytes, packed, file_of}
use Rattle.file_format.specs.Parse.{parsed, next}
use Rattle.file_format.specs.Reading.{Lengths, room, head_read, head_clear, head_from, head_kept, twin_read, formula_read, effect_read, operator_right, operator_read, tables_read, task_read}
use Rattle.file_format.proofs.Parse.{Bytes, bytes_behind, parsed_value, parsed_rest, kept_parsed, kept_true, next_parsed, Stable, pure_stable, kept_stable, next_stable}
use Rattle.file_format.proofs.Table.{Table}
use Rattle.file_format.proofs.Rows.{head_reads, head_parsed, mapped_stable}
use Rattle.file_format.proofs.Initial.{bits_of_state}
use Rattle.file_format.proofs.Tables.{initial_reads, Initial, initial_parsed, initial_stable, twin_front, twins_reads, twins_parsed, twins_stable}
use Rattle.file_format.proofs.Tables.{formulas_reads, formulas_parsed, formulas_stable, effects_reads, effects_parsed, effects_stable, operators_reads, operators_parsed, operators_stable}

-- the five parts behind the head, and what follows them
unfoldable pub tables_bytes : Task → List ℕ → List ℕ
tables_bytes t rest =
    packed t.initial
    ++ (joined word_bytes t.originals
    ++ (joined row_bytes t.formulas ++ (joined row_bytes t.effects ++ (joined operator_bytes t.operators ++ rest))))

file_parts : (t : Task) (rest : List ℕ) → file_of t ++ rest ≡ head_bytes (head_of t) ++ tables_bytes t rest
unfolding file_of tables_bytes
file_parts t rest = simp append_assoc

module _ (t : Task) (r : Checked t) where
  formula_test : (i : ℕ) → i < length t.formulas → formula_kept (length t.initial) i (get_or t.formulas i no_row) ≡ true
  unfolding formula_kept
  formula_test i h =
      let x = get_or t.formulas i no_row in
      formula_passes (length t.initial) i (formula_kind x.kind) x.a x.b (r.formula i h)

  effect_test : (i : ℕ) → i < length t.effects → effect_kept (length t.initial) (length t.formulas) i (get_or t.effects i no_row) ≡ true
  unfolding effect_kept
  effect_test i h =
      let x = get_or t.effects i no_row in
      effect_passes (length t.initial) (length t.formulas) i (effect_kind x.kind) x.a x.b (r.effect i h)

  operator_test : (i : ℕ) → i < length t.operators → operator_right (length t.formulas) (length t.effects) (get_or t.operators i no_operator) ≡ true
  operator_test i h =
      let o = get_or t.operators i no_operator in
      eq-eqb (operator_number (length t.formulas) (length t.effects) o) 0
      (operator_passes (length t.formulas) (length t.effects) o (r.operator i h))

  tables_reads : (rest : List ℕ) → tables_read (head_of t) (tables_bytes t rest) ≡ parsed t rest
  unfolding tables_read next head_of tables_bytes
  tables_reads rest =
      let o = joined operator_bytes t.operators ++ rest in
      let e = joined row_bytes t.effects ++ o in
      let f = joined row_bytes t.formulas ++ e in
      let w = joined word_bytes t.originals ++ f in
      rw (
        initial_reads t.initial w (bits_of_state t.initial r.initial_bits),
        twins_reads (length t.initial - length t.originals) t.originals f r.twin,
        formulas_reads (length t.initial) t.formulas e formula_test,
        effects_reads (length t.initial) (length t.formulas) t.effects o effect_test,
        operators_reads (length t.formulas) (length t.effects) t.operators rest operator_test,
      )

  counts_test : counts_kept (head_of t) ≡ true
  unfolding head_of
  counts_test =
      (counts_tested (head_of t)).1
      (record {
        variables = r.limits.variables;
        twins = r.limits.twins;
        one_formula = r.limits.one_formula;
        formulas = r.limits.formulas;
        effects = r.limits.effects;
        operators = r.limits.operators;
      })

  goal_test : goal_kept (head_of t) ≡ true
  unfolding head_of
  goal_test = (goal_tested (head_of t)).1 r.goal_is_formula

roomy_tested : (l : Lengths) (t : Task) → room l (head_of t) ≡ true ↔ HasRoom l t
unfolding head_of
roomy_tested l t = room_tested l (head_of t)

-- the file of a task that keeps the rules is read as the task, and what follows is left
pub task_reads : (l : Lengths) (t : Task) (rest : List ℕ) → Checked t → HasRoom l t → task_read l (file_of t ++ rest) ≡ parsed t rest
unfolding task_read head_kept next
task_reads l t rest r h =
    rw (
      file_parts t rest,
      head_reads (head_of t) (tables_bytes t rest),
      kept_true (counts_kept (head_of t)) 6 (head_of t) (tables_bytes t rest) (counts_test t r),
      kept_true (goal_kept (head_of t)) 7 (head_of t) (tables_bytes t rest) (goal_test t r),
      kept_true (room l (head_of t)) 5 (head_of t) (tables_bytes t rest) ((roomy_tested l t).1 h),
    ) (tables_reads t r rest)

-- tables that were read behind a head
pub record Behind (h : Head) (bytes : List ℕ) (t : Task) (rest : List ℕ) : Type 0 where
  pub same : bytes ≡ tables_bytes t rest
  pub head : head_of t ≡ h
  pub bits : (v : ℕ) → v < length t.initial → get_or t.initial v 0 ≤ 1
  pub twins : (k : ℕ) → k < length t.originals → TwinRule (h.variables - h.twins) t.originals k
  pub formulas : (i : ℕ) → i < length t.formulas → formula_kept h.variables i (get_or t.formulas i no_row) ≡ true
  pub effects : (i : ℕ) → i < length t.effects → effect_kept h.variables h.formulas i (get_or t.effects i no_row) ≡ true
  pub operators : (i : ℕ) → i < length t.operators → operator_right h.formulas h.effects (get_or t.operators i no_operator) ≡ true

behind_same : {h : Head} {bytes : List ℕ} {t u : Task} {rest rest' : List ℕ} → t ≡ u → rest ≡ rest' → Behind h bytes t rest → Behind h bytes u rest'
behind_same p q b = rw (← p, ← q) b

-- the parts, one by one
module _ (h : Head) (bytes initial m1 originals m2 : List ℕ) (formulas : List Row) (m3 : List ℕ) (effects : List Row) (m4 : List ℕ)
    (operators : List Operator) (m5 : List ℕ) where
  joined_parts :
      Initial h.variables bytes initial m1
      → Table word_bytes (twin_read (h.variables - h.twins)) 0 (λ k done w. twin_kept (h.variables - h.twins) (done ++ (w ∷ [])) k ≡ true) h.twins m1 originals m2
      → Table row_bytes (formula_read h.variables) no_row (λ i done x. formula_kept h.variables i x ≡ true) h.formulas m2 formulas m3
      → Table row_bytes (effect_read h.variables h.formulas) no_row (λ i done x. effect_kept h.variables h.formulas i x ≡ true) h.effects m3 effects m4
      → Table operator_bytes (operator_read h.formulas h.effects) no_operator (λ i done x. operator_right h.formulas h.effects x ≡ true) h.operators m4 operators m5
      → Behind h bytes (record { initial = initial; originals = originals; formulas = formulas; effects = effects; operators = operators; goal = h.goal }) m5
  unfolding tables_bytes head_of
  joined_parts i w f e o =
      record {
        same = i.same ∙ rw (w.same, f.same, e.same, o.same);
        head = λ j. record { variables = i.size j; twins = w.size j; formulas = f.size j; effects = e.size j; operators = o.size j; goal = h.goal };
        bits = λ v b. i.bits v (rw i.size at b);
        twins = λ k b. (twin_front (h.variables - h.twins) originals k b).0 (w.each k (rw w.size at b));
        formulas = λ k b. f.each k (rw f.size at b);
        effects = λ k b. e.each k (rw e.size at b);
        operators = λ k b. o.each k (rw o.size at b);
      }

pub tables_parsed : (h : Head) (bytes : List ℕ) {t : Task} {rest : List ℕ} → Bytes bytes → tables_read h bytes ≡ parsed t rest → Behind h bytes t rest
unfolding tables_read
tables_parsed h bytes {t} {rest} b q =
    let s1 = next_parsed _ _ q in
    let i = initial_parsed h.variables bytes b s1.first in
    let b1 : Bytes s1.mid = bytes_behind (packed s1.value) s1.mid (rw i.same at b) in
    let s2 = next_parsed _ _ s1.second in
    let w = twins_parsed (h.variables - h.twins) h.twins s1.mid b1 s2.first in
    let b2 : Bytes s2.mid = bytes_behind (joined word_bytes s2.value) s2.mid (rw w.same at b1) in
    let s3 = next_parsed _ _ s2.second in
    let f = formulas_parsed h.variables h.formulas s2.mid b2 s3.first in
    let b3 : Bytes s3.mid = bytes_behind (joined row_bytes s3.value) s3.mid (rw f.same at b2) in
    let s4 = next_parsed _ _ s3.second in
    let e = effects_parsed h.variables h.formulas h.effects s3.mid b3 s4.first in
    let b4 : Bytes s4.mid = bytes_behind (joined row_bytes s4.value) s4.mid (rw e.same at b3) in
    let s5 = next_parsed _ _ s4.second in
    let o = operators_parsed h.formulas h.effects h.operators s4.mid b4 s5.first in
    behind_same (parsed_value s5.second) (parsed_rest s5.second)
    (joined_parts h bytes s1.value s1.mid s2.value s2.mid s3.value s3.mid s4.value s4.mid s5.value s5.mid i w f e o)

-- the rules, from the tests that a read task passed
rules_told : (h : Head) (bytes : List ℕ) (t : Task) (rest : List ℕ) → Behind h bytes t rest → Counts h → h.goal < h.formulas → Checked t
unfolding formula_kept effect_kept head_of
rules_told h bytes t rest b c g =
    let v : length t.initial ≡ h.variables = ap (λ (k : Head). k.variables) b.head in
    let w : length t.originals ≡ h.twins = ap (λ (k : Head). k.twins) b.head in
    let f : length t.formulas ≡ h.formulas = ap (λ (k : Head). k.formulas) b.head in
    let e : length t.effects ≡ h.effects = ap (λ (k : Head). k.effects) b.head in
    let o : length t.operators ≡ h.operators = ap (λ (k : Head). k.operators) b.head in
    let goal : t.goal ≡ h.goal = ap (λ (k : Head). k.goal) b.head in
    record {
      limits =
          record {
            variables = rw v c.variables;
            twins = rw (v, w) c.twins;
            one_formula = rw f c.one_formula;
            formulas = rw f c.formulas;
            effects = rw e c.effects;
            operators = rw o c.operators;
          };
      goal_is_formula = rw (goal, f) g;
      initial_bits = b.bits;
      twin = λ k l. rw (v, w) (b.twins k l);
      formula =
          λ i l.
          let x = get_or t.formulas i no_row in
          rw v (formula_told h.variables i (formula_kind x.kind) x.a x.b (b.formulas i l));
      effect =
          λ i l.
          let x = get_or t.effects i no_row in
          rw (v, f) (effect_told h.variables h.formulas i (effect_kind x.kind) x.a x.b (b.effects i l));
      operator =
          λ i l. let o = get_or t.operators i no_operator in
          rw (f, e) (operator_told h.formulas h.effects o (eqb-true (operator_number h.formulas h.effects o) 0 (b.operators i l)));
    }

-- a task that was read: its file stood there, it keeps the rules, and the lent tables are long enough
pub record Task_read (l : Lengths) (bytes : List ℕ) (t : Task) (rest : List ℕ) : Type 0 where
  pub same : bytes ≡ file_of t ++ rest
  pub rules : Checked t
  pub roomy : HasRoom l t

pub task_parsed : (l : Lengths) (bytes : List ℕ) {t : Task} {rest : List ℕ} → Bytes bytes → task_read l bytes ≡ parsed t rest → Task_read l bytes t rest
unfolding task_read head_kept
task_parsed l bytes {t} {rest} b q =
    let s1 = next_parsed _ _ q in
    let s2 = next_parsed _ _ s1.second in
    let s3 = next_parsed _ _ s2.first in
    let s4 = next_parsed _ _ s3.second in
    let k3 = kept_parsed (counts_kept s1.value) 6 s1.value s1.mid s3.first in
    let k4 = kept_parsed (goal_kept s3.value) 7 s3.value s3.mid s4.first in
    let k5 = kept_parsed (room l s4.value) 5 s4.value s4.mid s4.second in
    let front : bytes ≡ head_bytes s1.value ++ s1.mid = head_parsed bytes b s1.first in
    let h : s1.value ≡ s2.value = k3.same ∙ k4.same ∙ k5.same in
    let m : s1.mid ≡ s2.mid = k3.behind ∙ k4.behind ∙ k5.behind in
    let below : Bytes s2.mid = rw m at (bytes_behind (head_bytes s1.value) s1.mid (rw front at b)) in
    let d = tables_parsed s2.value s2.mid below s2.second in
    let counts : counts_kept s2.value ≡ true = ap counts_kept (sym h) ∙ k3.holds in
    let goal : goal_kept s2.value ≡ true = ap goal_kept (sym (k4.same ∙ k5.same)) ∙ k4.holds in
    let roomy : room l (head_of t) ≡ true = ap (room l) (d.head ∙ sym k5.same) ∙ k5.holds in
    record {
      same = cc (front, h, m, d.same, d.head, file_parts t rest);
      rules = rules_told s2.value s2.mid t rest d ((counts_tested s2.value).0 counts) ((goal_tested s2.value).0 goal);
      roomy = (roomy_tested l t).0 roomy;
    }

tables_stable : (h : Head) → Stable (tables_read h)
unfolding tables_read
tables_stable h =
    next_stable _ _ (initial_stable h.variables) (λ initial.
    next_stable _ _ (twins_stable (h.variables - h.twins) h.twins) (λ originals.
    next_stable _ _ (formulas_stable h.variables h.formulas) (λ formulas.
    next_stable _ _ (effects_stable h.variables h.formulas h.effects) (λ effects.
    next_stable _ _ (operators_stable h.formulas h.effects h.operators) (λ operators. pure_stable _)))))

head_kept_stable : (l : Lengths) (h : Head) → Stable (head_kept l h)
unfolding head_kept
head_kept_stable l h =
    next_stable _ _ (kept_stable (counts_kept h) 6 h) (λ h.
    next_stable _ _ (kept_stable (goal_kept h) 7 h) (λ h. kept_stable (room l h) 5 h))

pub task_stable : (l : Lengths) → Stable (task_read l)
unfolding task_read head_read
task_stable l =
    next_stable _ _ (mapped_stable head_defaults head_clear head_from) (λ h. next_stable _ _ (head_kept_stable l h) tables_stable)
