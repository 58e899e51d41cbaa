-- Reading's entry: one law for each way out. Assumes nothing.
use Prim.Native.Nat.{ℕ}
use native.Mathlib.Omega.{arith}
use mathlib.Core.Path.{◌≡◌, ap, ◌∙◌, subst}
use mathlib.Core.List.{List}
use lib.ListN.{replicate}
use Rattle.task.specs.Table.{Lent, task_of}
use Rattle.task.proofs.Kept.{kept_rules}
use Rattle.task.proofs.Passed.{passed, counts_tested}
use Rattle.file_format.specs.Reading.{Lengths, Verdict, rejected, reading}
use Rattle.entry_tables.proofs.Reading.{ReadAs, same_reading}
use Rattle.layouts.specs.Layout.{tables_bytes, laid, Lays}
use Rattle.layouts.specs.Inner.Giving.{flat_bytes, LayIn}
use Rattle.layouts.proofs.LayWays.{flat_in}
use Rattle.read_entry.specs.Entry.{read_entry, read_entry_by}

-- the layout of what was read is its task's
flat_read : {m : Lengths} {file : List ℕ} {l : Lent} → ReadAs m file l → flat_bytes l ≡ tables_bytes (task_of l)
flat_read {m} {file} {l} t =
    ap flat_bytes t.held
    ∙ flat_in (task_of l) t.initial_rest t.twins_rest t.formulas_rest t.effects_rest t.operators_rest

-- tables that pass are within the limits
pub lay_in : {m : Lengths} {file : List ℕ} {l : Lent} → ReadAs m file l → LayIn l
lay_in {m} {file} {l} t =
    let c = (counts_tested l.head).0 (passed l t.kept).counts in
    record {
      long = (kept_rules l t.kept).0;
      variables = c.variables;
      twins = omega (arith, c.twins, c.variables);
      formulas = c.formulas;
      effects = c.effects;
      operators = c.operators;
    }

-- the two ways out of reading
pub read_laid : {m : Lengths} {file : List ℕ} {l : Lent} (n : ℕ) {r : ℕ} {out : List ℕ} → ReadAs m file l → Lays (laid (flat_bytes l) n) r out → Lays (read_entry_by (reading m file) n) r out
unfolding read_entry_by
read_laid n t g = rw (t.read, ← (flat_read t)) g

pub read_refused : (m : Lengths) (file : List ℕ) (n : ℕ) {k r : ℕ} {out : List ℕ} → reading m file ≡ rejected k → r ≡ k → out ≡ replicate n 0 → Lays (read_entry_by (reading m file) n) r out
unfolding read_entry_by
read_refused m file n e q c = rw e (record { told = q; held = c })

-- through tables of any lengths, any answer but 5 is the entry's
pub read_settled : (m : Lengths) (file : List ℕ) (n : ℕ) {r : ℕ} {out : List ℕ} → (r ≡ 5 → ⊥) → Lays (read_entry_by (reading m file) n) r out → Lays (read_entry file n) r out
unfolding read_entry read_entry_by
read_settled m file n {r} {out} d g =
    subst (λ (x : Verdict). Lays (read_entry_by x n) r out)
    (same_reading m file (λ e. d (g.told ∙ ap (λ (x : Verdict). (read_entry_by x n).number) e)))
    g

-- the length of what is read into, as a call before left it
pub read_again : (file : List ℕ) {n m : ℕ} {r : ℕ} {out : List ℕ} → n ≡ m → Lays (read_entry file n) r out → Lays (read_entry file m) r out
read_again file {n} {m} {r} {out} e g = subst (λ (k : ℕ). Lays (read_entry file k) r out) e g
