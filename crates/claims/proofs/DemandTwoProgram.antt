-- Demand 2, of the program: what it prints of a task's file, of a file that is refused, and of an input that is too long.
use Prim.Native.Nat.{ℕ, ◌≤◌}
use native.Mathlib.Omega.{arith}
use native.Mathlib.Decide.{ℕ_discrete}
use mathlib.Core.Path.{◌≡◌, refl, sym, ap, ◌∙◌}
use mathlib.Core.Bool.{Bool, true, false, false≢true}
use mathlib.Core.List.{List}
use lib.ListN.{length, take}
use borrow.Author.Tests.{eq-eqb, ne_eqb}
use Rattle.task.specs.Table.{Task}
use Rattle.task.specs.Check.{counts_kept}
use Rattle.task.specs.Rules.{Limits, Rules, HasRoom}
use Rattle.task.specs.Words.{head_of}
use Rattle.task.proofs.Passed.{counts_tested}
use Rattle.file_format.specs.Bytes.{file_of}
use Rattle.file_format.specs.Reading.{Verdict, accepted, rejected, reading}
use Rattle.file_format.proofs.RoundTrip.{read_written}
use Rattle.file_format.proofs.Numbers.{rejected_by}
use Rattle.normal_form.specs.Finished.{finished}
use Rattle.printing.specs.Lines.{lines, refusal_line}
use Rattle.printing.proofs.Apart.{lines_no_refusal}
use Rattle.entry_tables.specs.Own.{own, compile_number}
use Rattle.compile_text.specs.Text.{compiled_text_by, compiled_text, text_by, text_of}
use Rattle.compile_text.proofs.TextWays.{cut_text}
use Rattle.claims.proofs.FileNumbers.{told_some}
use Rattle.claims.specs.Statements.{OfBytes, Compiles}
use Rattle.claims.specs.Program.{PrintsCompiled, Prints, prints_task, prints_refusal}
use Rattle.claims.proofs.DemandTwoFiles.{file_accepted_exactly_if}

pub own_fits : (t : Task) → Rules t → HasRoom own t
unfolding own
own_fits t r =
    let l = r.checked.limits in
    record {
      initial = l.variables;
      twins = omega (arith, l.variables, l.twins);
      formulas = omega (arith, l.formulas);
      effects = omega (arith, l.effects);
      operators = omega (arith, l.operators);
    }

limits_tested : (t : Task) → Limits t → counts_kept (head_of t) ≡ true
unfolding head_of
limits_tested t l = (counts_tested (head_of t)).1 l

limits_told : (t : Task) → counts_kept (head_of t) ≡ true → Limits t
unfolding head_of
limits_told t e = (counts_tested (head_of t)).0 e

-- Given the file of a task that compiles, the program prints the compiled task's lines.
pub prints_compiled_task : (t : Task) → Compiles t → text_of (file_of t) ≡ lines (finished t)
unfolding text_of text_by compiled_text compiled_text_by compile_number
prints_compiled_task t c =
    rw (
      read_written own t c.rules.checked (own_fits t c.rules),
      eq-eqb (length t.originals) 0 c.untwinned,
      limits_tested (finished t) c.room,
    )

-- Given a file that is refused, it prints only r and the number.
pub prints_number : (file : List ℕ) (n : ℕ) → reading own file ≡ rejected n → text_of file ≡ refusal_line n
unfolding text_of text_by
prints_number file n e = ap text_by e

-- So it does with 13 for a task with twins, and with 15 for one whose compiled task passes a limit.
pub prints_thirteen : (t : Task) → Rules t → (length t.originals ≡ 0 → ⊥) → text_of (file_of t) ≡ refusal_line 13
unfolding text_of text_by compiled_text compiled_text_by compile_number
prints_thirteen t r n = rw (read_written own t r.checked (own_fits t r), ne_eqb (length t.originals) 0 n)

pub prints_fifteen :
    (t : Task)
    → Rules t
    → length t.originals ≡ 0
    → (Limits (finished t) → ⊥)
    → text_of (file_of t) ≡ refusal_line 15
unfolding text_of text_by compiled_text compiled_text_by compile_number
prints_fifteen t r w n = go (counts_kept (head_of (finished t))) refl
  where
    go : (b : Bool) → counts_kept (head_of (finished t)) ≡ b → text_of (file_of t) ≡ refusal_line 15
    go true e = absurd (n (limits_told (finished t) e))
    go false e = rw (read_written own t r.checked (own_fits t r), eq-eqb (length t.originals) 0 w, e)

-- A task's lines are never a refusal's line.
pub lines_are_no_refusal : (t : Task) (n : ℕ) → lines t ≡ refusal_line n → ⊥
lines_are_no_refusal t n e = lines_no_refusal t n e

-- Exactly this is printed: of the file of a task that compiles, the compiled task's lines; of every other input only r and a number, not 0.
pub prints_exactly : (input : List ℕ) → OfBytes input → Prints input (text_of input)
prints_exactly input bytes = go (reading own input) refl
  where
    of-task : (t : Task) → (input ≡ file_of t) → Rules t → Prints input (text_of input)
    of-task t same rules = untwinned (ℕ_discrete (length t.originals) 0)
      where
        text : {x : List ℕ} → text_of (file_of t) ≡ x → text_of input ≡ x
        text e = ap text_of same ∙ e

        limits : length t.originals ≡ 0 → (b : Bool) → counts_kept (head_of (finished t)) ≡ b → Prints input (text_of input)
        limits w true e =
            let c : Compiles t = record { rules = rules; untwinned = w; room = limits_told (finished t) e } in
            prints_task
            (record { task = t; compiles = c; file = same; printed = text (prints_compiled_task t c) })
        limits w false e =
            prints_refusal 15 (λ z. omega arith)
            (text
            (prints_fifteen t rules w (λ l. false≢true (sym e ∙ limits_tested (finished t) l))))

        untwinned : Dec (length t.originals ≡ 0) → Prints input (text_of input)
        untwinned (yes w) = limits w (counts_kept (head_of (finished t))) refl
        untwinned (no w) = prints_refusal 13 (λ z. omega arith) (text (prints_thirteen t rules w))

    go : (o : Verdict) → reading own input ≡ o → Prints input (text_of input)
    go (accepted t) e =
        let a = (file_accepted_exactly_if own input t bytes).0 e in
        of-task t a.0 a.1
    go (rejected n) e = prints_refusal n (λ z. omega (arith, told_some (rejected_by own input n e), z)) (prints_number input n e)

-- So a task's lines are printed for the file of a task that compiles, and for no other input; and they are those of its compiled task.
pub prints_for_no_other :
    (input : List ℕ) (t : Task) → OfBytes input → text_of input ≡ lines t → PrintsCompiled input (lines t)
prints_for_no_other input t bytes e = go (prints_exactly input bytes)
  where
    go : Prints input (text_of input) → PrintsCompiled input (lines t)
    go (prints_task p) =
        record { task = p.task; compiles = p.compiles; file = p.file; printed = sym e ∙ p.printed }
    go (prints_refusal n h q) = absurd (lines_no_refusal t n (sym e ∙ q))

-- And a task that compiles is never refused.
pub compiling_task_not_refused : (t : Task) (n : ℕ) → Compiles t → text_of (file_of t) ≡ refusal_line n → ⊥
compiling_task_not_refused t n c e = lines_no_refusal (finished t) n (sym (prints_compiled_task t c) ∙ e)

-- What stands behind the first 43,854 bytes of an input changes nothing.
pub long_input : (input : List ℕ) (n : ℕ) → 43854 ≤ n → text_of (take n input) ≡ text_of input
long_input input n h = cut_text input n h
