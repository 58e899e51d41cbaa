-- Laying bytes out: how far each part reaches, and the ways out of the call. Assumes nothing.
use Prim.Native.Nat.{ℕ, ◌+◌, ◌-◌, ◌*◌, ◌<◌, ◌≤◌}
use native.Mathlib.Nat.{zero-add}
use native.Mathlib.Omega.{arith}
use mathlib.Core.Path.{◌≡◌, ap, ◌∙◌}
use mathlib.Core.Bool.{true, false}
use mathlib.Core.List.{List, [], ◌∷◌, ◌++◌}
use lib.ListN.{length, take, drop, replicate, length-replicate}
use lib.Seq.{sets-eq, take_at, take-append_seam}
use lib.Dec.{leb}
use borrow.Author.Tests.{le-leb, lt-leb}
use Rattle.task.specs.declared.Head.{Head}
use Rattle.task.specs.Table.{Lent, Task, operator_width}
use Rattle.task.specs.Words.{joined, head_of, padded}
use Rattle.task.proofs.Words.{lent_in, length_words, length_operator_words}
use Rattle.file_format.specs.Bytes.{word_bytes, head_fields}
use Rattle.task_writer.specs.Inner.Putting.{Put}
use Rattle.task_writer.proofs.Puts.{put_then, put_size}
use Rattle.std.proofs.lemmas.List.{drop-replicate}
use Rattle.layouts.specs.Layout.{tables_bytes, laid_by, laid, Lays}
use Rattle.layouts.specs.Inner.Giving.{flat_bytes}

-- a part of each table behind the other
pub tables_put :
    {a b c d e r : ℕ} {o o1 o2 o3 o4 o5 o6 : List ℕ} (l : Lent)
    → Put (joined word_bytes (head_fields l.head)) 0 a o o1
    → Put (take l.head.variables l.initial) a b o1 o2
    → Put (joined word_bytes (take l.head.twins l.twins)) b c o2 o3
    → Put (joined word_bytes (take (3 * l.head.formulas) l.formulas)) c d o3 o4
    → Put (joined word_bytes (take (3 * l.head.effects) l.effects)) d e o4 o5
    → Put (joined word_bytes (take (operator_width * l.head.operators) l.operators)) e r o5 o6
    → Put (flat_bytes l) 0 r o o6
unfolding flat_bytes
tables_put l h i t f e p = put_then h (put_then i (put_then t (put_then f (put_then e p))))

-- the head's six words, which take 12 bytes
pub head_put :
    (h : Head) {r : ℕ} {o o1 : List ℕ}
    → Put (joined word_bytes (h.variables ∷ h.twins ∷ h.formulas ∷ h.effects ∷ h.operators ∷ h.goal ∷ [])) 0 r o o1
    → Put (joined word_bytes (head_fields h)) 0 r o o1 × (r ≡ 12)
unfolding joined word_bytes head_fields
head_put h p = (p, p.next)

-- bytes put into an output that was cleared
module _ (bytes out : List ℕ) {z out' : List ℕ} {end : ℕ} (clear : z ≡ replicate (length out) 0) (put : Put bytes 0 end z out') where
  z_size : length z ≡ length out
  z_size = ap length clear ∙ length-replicate (length out) 0

  pub size : length out' ≡ length out
  size = put_size put ∙ z_size

  pub end_is : end ≡ length bytes
  end_is = omega (arith, put.next)

  -- past them all is 0
  pub put_padded : end ≤ length out' → out' ≡ padded (length out) bytes
  unfolding padded
  put_padded h =
      let whole : out' ≡ bytes ++ drop (0 + length bytes) z = put.wrote ∙ sets-eq bytes z 0 (omega (arith, end_is, z_size, size)) in
      let rest : drop (0 + length bytes) z ≡ replicate (length out - length bytes) 0 =
      ap (drop (0 + length bytes)) clear ∙ drop-replicate (0 + length bytes) (length out) 0 ∙ ap (λ (k : ℕ). replicate (length out - k) 0) (zero-add (length bytes))
      in
      whole ∙ ap (λ (x : List ℕ). bytes ++ x) rest

  pub too_short : {last : List ℕ} → length out' < end → last ≡ replicate (length out') 0 → Lays (laid bytes (length out)) 20 last
  unfolding laid laid_by
  too_short {last} h c =
      let t : leb (length bytes) (length out) ≡ false = lt-leb (length bytes) (length out) (omega (arith, end_is, size)) in
      record { told = rw t; held = rw t (c ∙ ap (λ (k : ℕ). replicate k 0) size) }

  pub fitted : end ≤ length out' → Lays (laid bytes (length out)) 0 out'
  unfolding laid laid_by
  fitted h =
      let t : leb (length bytes) (length out) ≡ true = le-leb (length bytes) (length out) (omega (arith, end_is, size)) in
      record { told = rw t; held = rw t (put_padded h) }

-- tables that hold a task's words with anything behind them have the task's layout
pub flat_in : (t : Task) (i w f e o : List ℕ) → flat_bytes (lent_in t i w f e o) ≡ tables_bytes t
unfolding flat_bytes lent_in head_of tables_bytes
flat_in t i w f e o =
    rw (
      take-append_seam t.initial i,
      take-append_seam t.originals w,
      take_at _ f (3 * length t.formulas) (length_words t.formulas),
      take_at _ e (3 * length t.effects) (length_words t.effects),
      take_at _ o (operator_width * length t.operators) (length_operator_words t.operators),
    )
