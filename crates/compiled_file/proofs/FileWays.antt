-- A file and its length into two outputs: one law for each way out. Assumes nothing.
use Prim.Native.Nat.{ℕ, ◌<◌, ◌≤◌}
use native.Mathlib.Omega.{arith}
use mathlib.Core.Path.{◌≡◌, refl, sym, ap, ◌∙◌}
use mathlib.Core.Bool.{Bool, true, false, ◌&&◌}
use mathlib.Core.List.{List}
use lib.ListN.{length, replicate, take}
use lib.Dec.{leb}
use Rattle.std.specs.Int.{w64, to_le_bytes}
use borrow.Author.Tests.{le-leb, lt-leb}
use Rattle.task.specs.Table.{Lent, task_of}
use Rattle.task.specs.Check.{refusal}
use Rattle.file_format.specs.Bytes.{file_of}
use Rattle.task_writer.specs.Inner.Putting.{Put}
use Rattle.task_writer.specs.Writing.{WriteAnswer, Written, NotWritten, WriteOutcome, wrote, file_outcome, write_outcome}
use Rattle.task.specs.Words.{padded}
use Rattle.layouts.specs.Layout.{low_bytes}
use Rattle.layouts.proofs.LayWays.{put_padded, size}
use Rattle.layouts.proofs.RunWays.{low_next, le_eight}
use Rattle.compiled_file.specs.Filed.{CompileEntry, no_file, filed_by, filed, CompileGives}

and_false : (a : Bool) → a && false ≡ false
and_false true = refl
and_false false = refl

module _ (l : Lent) (out result : List ℕ) where
  abbrev file : List ℕ
  file = file_of (task_of l)

  pub short_result :
      {r : ℕ} {out' result' : List ℕ}
      → length result < 4
      → CompileGives (no_file 20 (length out) (length result)) r out' result'
      → CompileGives (filed (file_of (task_of l)) (length out) (length result)) r out' result'
  unfolding filed filed_by
  short_result h g =
      let t : leb (length file) (length out) && leb 4 (length result) ≡ false =
      rw (lt-leb 4 (length result) h) (and_false (leb (length file) (length out)))
      in
      rw t g

  module _ (kept : refusal l ≡ 0) {r : WriteAnswer} {out' : List ℕ} (writes : wrote r out' ≡ write_outcome l (length out)) where
    by_file : wrote r out' ≡ file_outcome (file_of (task_of l)) (length out)
    unfolding write_outcome
    by_file = rw kept at writes

    pub short_out :
        {n told : ℕ} {result' : List ℕ}
        → r ≡ NotWritten n
        → told ≡ n
        → result' ≡ replicate (length result) 0
        → CompileGives (filed (file_of (task_of l)) (length out) (length result)) told out' result'
    unfolding filed filed_by file_outcome
    short_out {n} {told} {result'} q same b = go (leb (length file) (length out)) refl
      where
        go : (x : Bool) → leb (length file) (length out) ≡ x → CompileGives (filed (file_of (task_of l)) (length out) (length result)) told out' result'
        go true e =
            let s : wrote r out' ≡ wrote (Written (length file)) (padded (length out) file) = rw e at by_file in
            let w : NotWritten n ≡ Written (length file) = sym q ∙ ap (λ (y : WriteOutcome). y.answer) s in
            absurd (let z : ◌≡◌ {A = ℕ} 0 1 = cc in omega arith)
        go false e =
            let s : wrote r out' ≡ wrote (NotWritten 20) (replicate (length out) 0) = rw e at by_file in
            let w : NotWritten n ≡ NotWritten 20 = sym q ∙ ap (λ (y : WriteOutcome). y.answer) s in
            let twenty : n ≡ 20 = cc in
            rw e (record { told = same ∙ twenty; written = ap (λ (y : WriteOutcome). y.out) s; held = b })

    pub gives_file :
        {n end : ℕ} {z result' : List ℕ}
        → r ≡ Written n
        → 4 ≤ length result
        → z ≡ replicate (length result) 0
        → Put (low_bytes 4 n) 0 end z result'
        → CompileGives (filed (file_of (task_of l)) (length out) (length result)) 0 out' result'
    unfolding filed filed_by file_outcome
    gives_file {n} {end} {z} {result'} q h clear p = go (leb (length file) (length out)) refl
      where
        go : (x : Bool) → leb (length file) (length out) ≡ x → CompileGives (filed (file_of (task_of l)) (length out) (length result)) 0 out' result'
        go true e =
            let s : wrote r out' ≡ wrote (Written (length file)) (padded (length out) file) = rw e at by_file in
            let w : Written n ≡ Written (length file) = sym q ∙ ap (λ (y : WriteOutcome). y.answer) s in
            let same : n ≡ length file = cc in
            let here : result' ≡ padded (length result) (low_bytes 4 n) =
            put_padded (low_bytes 4 n) result clear p (omega (arith, low_next 4 n p, size (low_bytes 4 n) result clear p))
            in
            rw (e, le-leb 4 (length result) h)
            (record {
              told = refl;
              written = ap (λ (y : WriteOutcome). y.out) s;
              held = here ∙ ap (λ (k : ℕ). padded (length result) (low_bytes 4 k)) same;
            })
        go false e =
            let s : wrote r out' ≡ wrote (NotWritten 20) (replicate (length out) 0) = rw e at by_file in
            let w : Written n ≡ NotWritten 20 = sym q ∙ ap (λ (y : WriteOutcome). y.answer) s in
            absurd (let z : ◌≡◌ {A = ℕ} 0 1 = cc in omega arith)

-- the four low bytes of eight
pub le_front : (x : ℕ) → take 4 (to_le_bytes w64 x) ≡ low_bytes 4 x
unfolding low_bytes
le_front x = ap (take 4) (le_eight x)

-- the outputs' lengths, as a call before left them
pub same_outputs :
    (given : (o n : ℕ) → CompileEntry) {o o' n n' r : ℕ} {out result : List ℕ}
    → o ≡ o'
    → n ≡ n'
    → CompileGives (given o n) r out result
    → CompileGives (given o' n') r out result
same_outputs given {o} {o'} {n} {n'} {r} {out} {result} p q g = rw (← p, ← q) g
