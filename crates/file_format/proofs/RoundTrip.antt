-- Reading and writing undo each other (01, "The task file"). `file_of` is what writing gives (specs/Writing), `reading` what reading comes to. Assumes
-- nothing.
use Prim.Native.Nat.{ℕ, ◌+◌, ◌*◌}
use mathlib.Core.Path.{◌≡◌, sym, ap, ◌∙◌}
use mathlib.Core.Logic.{◌↔◌}
use mathlib.Core.List.{List, [], ◌∷◌, ◌++◌, append-nil}
use native.Mathlib.Omega.{arith}
use lib.ListN.{length}
use Rattle.task.specs.Table.{Task, operator_width}
use Rattle.task.specs.Rules.{Checked, HasRoom}
use Rattle.file_format.specs.Bytes.{file_of}
use Rattle.file_format.specs.Parse.{Parsed, parsed, unparsed}
use Rattle.file_format.specs.Reading.{Lengths, task_read, accepted, rejected, at_end, reading}
use Rattle.file_format.proofs.Parse.{Bytes, parsed_value, parsed_rest, Cut, short, whole}
use Rattle.file_format.proofs.Whole.{task_reads, task_parsed, task_stable}

-- reading what writing gives yields the task
pub read_written : (l : Lengths) (t : Task) → Checked t → HasRoom l t → reading l (file_of t) ≡ accepted t
unfolding reading at_end
read_written l t r h = rw (ap (task_read l) (sym (append-nil (file_of t))) ∙ task_reads l t [] r h)

accepted_read : (p : Parsed Task) {t : Task} → at_end p ≡ accepted t → p ≡ parsed t []
unfolding at_end
accepted_read (parsed u []) e = cc
accepted_read (parsed u (x ∷ rest)) e = absurd (let z : ◌≡◌ {A = ℕ} 0 1 = cc in omega arith)
accepted_read (unparsed n) e = absurd (let z : ◌≡◌ {A = ℕ} 0 1 = cc in omega arith)

-- what an accepted file is
pub record Accepted (l : Lengths) (file : List ℕ) (t : Task) : Type 0 where
  pub same : file ≡ file_of t
  pub rules : Checked t
  pub roomy : HasRoom l t

-- writing what reading gave yields the same bytes: one task has one file
pub written_read : (l : Lengths) (file : List ℕ) (t : Task) → Bytes file → reading l file ≡ accepted t → Accepted l file t
unfolding reading
written_read l file t b e =
    let d = task_parsed l file b (accepted_read (task_read l file) e) in
    record { same = d.same ∙ append-nil (file_of t); rules = d.rules; roomy = d.roomy }

-- a file is accepted exactly if it is the file of a task that keeps the rules, and the lent tables are long enough
pub accepted_exactly : (l : Lengths) (file : List ℕ) (t : Task) → Bytes file → reading l file ≡ accepted t ↔ Accepted l file t
accepted_exactly l file t b = (written_read l file t b, λ a. ap (reading l) a.same ∙ read_written l t a.rules a.roomy)

no_more : (mid : List ℕ) (x : ℕ) (more : List ℕ) → [] ≡ mid ++ (x ∷ more) → ⊥
no_more [] x more e = let z : ◌≡◌ {A = ℕ} 0 1 = cc in omega arith
no_more (y ∷ mid) x more e = let z : ◌≡◌ {A = ℕ} 0 1 = cc in omega arith

-- a strict prefix of an accepted file gives 1
pub cut_short : (l : Lengths) (front : List ℕ) (x : ℕ) (more : List ℕ) (t : Task) → reading l (front ++ (x ∷ more)) ≡ accepted t → reading l front ≡ rejected 1
unfolding reading at_end
cut_short l front x more t e = go (task_stable l front (x ∷ more) t [] (accepted_read (task_read l (front ++ (x ∷ more))) e))
  where
    go : Cut (task_read l) front (x ∷ more) t [] → at_end (task_read l front) ≡ rejected 1
    go (short s) = rw s
    go (whole mid s q) = absurd (no_more mid x more q)

-- an accepted file with bytes behind it gives 4: so no task's file is the beginning of another's
pub bytes_follow : (l : Lengths) (file : List ℕ) (x : ℕ) (more : List ℕ) (t : Task) → Bytes file → reading l file ≡ accepted t → reading l (file ++ (x ∷ more)) ≡ rejected 4
unfolding reading at_end
bytes_follow l file x more t b e =
    let a = written_read l file t b e in
    rw (a.same, task_reads l t (x ∷ more) a.rules a.roomy)

-- lent tables that are long enough for two tasks
both_fit : Task → Task → Lengths
both_fit t u =
    record {
      initial = length t.initial + length u.initial;
      twins = length t.originals + length u.originals;
      formulas = 3 * length t.formulas + 3 * length u.formulas;
      effects = 3 * length t.effects + 3 * length u.effects;
      operators = operator_width * length t.operators + operator_width * length u.operators;
    }

-- no task's file is the beginning of another's, and two tasks have two files
pub apart : (t u : Task) (rest : List ℕ) → Checked t → Checked u → file_of t ++ rest ≡ file_of u → (t ≡ u) × (rest ≡ [])
unfolding both_fit
apart t u rest r s e =
    let l = both_fit t u in
    let first = task_reads l t rest r (omega arith) in
    let second = task_reads l u [] s (omega arith) in
    let same : parsed t rest ≡ parsed u [] = sym first ∙ ap (task_read l) (e ∙ sym (append-nil (file_of u))) ∙ second in
    (parsed_value same, parsed_rest same)
