-- The call that writes: what its parts ask, and one law for each way out. Assumes nothing.
use Prim.Native.Nat.{ℕ, zero, suc, ◌+◌, ◌-◌, ◌*◌, ◌<◌, ◌≤◌}
use native.Mathlib.Nat.{zero-add}
use native.Mathlib.Decide.{dec_lt}
use native.Mathlib.Omega.{arith}
use mathlib.Core.Path.{◌≡◌, sym, ap, ◌∙◌}
use mathlib.Core.Bool.{true, false, false≢true}
use mathlib.Core.List.{List, [], ◌∷◌, ◌++◌}
use lib.ListN.{length, get_or, take, drop, replicate, length-append, length-replicate, get_or-eq_default}
use lib.Seq.{sets-eq, length-take-le, get_or-take}
use lib.Dec.{leb, eqb}
use borrow.Author.Tests.{le-leb, lt-leb, eq-eqb, ne_eqb}
use Rattle.std.specs.Prelude.{Result, Ok, Err}
use Rattle.std.specs.Result.{IsErrAnd}
use Rattle.task.specs.declared.refusal.Refusal.{Refusal}
use Rattle.task.specs.Refused.{number_of}
use Rattle.task.proofs.Refusals.{number_some}
use Rattle.task.specs.declared.Head.{Head}
use Rattle.task.specs.declared.Table.{Table}
use Rattle.task.specs.declared.Table.TheVariants.{Formulas, Effects, Operators}
use Rattle.task.specs.Table.{Lent, task_of, row_at, false_kind, true_kind, variable_kind, not_kind, and_kind, or_kind, implies_kind, equivalent_kind, unknown_formula, formula_kind, empty_kind, set_kind, clear_kind, both_kind, under_kind, unknown_effect, effect_kind}
use Rattle.task.specs.Check.{refusal, formula_words_kept, formula_kept, formulas_kept, effect_words_kept, effect_kept, effects_kept}
use Rattle.task.specs.Rules.{LongEnough}
use Rattle.task.specs.Words.{joined, head_of, padded}
use Rattle.task.proofs.Bounded.{every_at}
use Rattle.task.proofs.Held.{length_initial, length_originals, length_formulas, length_effects, length_operators}
use Rattle.task.proofs.Passed.{passed, counts_tested, lengths_tested, initial_tested}
use Rattle.task.specs.Inner.Tables.{words_at}
use Rattle.file_format.specs.Bytes.{word_bytes, head_defaults, head_fields, head_bytes, packed, bytes_for, file_of}
use Rattle.task_writer.specs.Inner.Putting.{Put, bytes_of, rows_bytes, StateIn, WriteIn}
use Rattle.task_writer.specs.Writing.{Written, NotWritten, write_answered, wrote, file_outcome, write_outcome}
use Rattle.file_format.proofs.Initial.{packed_length}
use Rattle.std.proofs.lemmas.List.{drop-replicate}
use Rattle.file_format.proofs.Fields.{fields_length}
use Rattle.task_writer.proofs.Puts.{put_then, put_same, put_size}
use Rattle.task_writer.proofs.PutLoops.{rows_none_put, rows_more_put, row_bytes_length, words_bytes, words_more_put, word_length}

-- a kind that is known fits the map
formula_past : (k : ℕ) → 8 ≤ k → formula_kind k ≡ unknown_formula
unfolding formula_kind
formula_past k h =
    get_or-eq_default (false_kind ∷ true_kind ∷ variable_kind ∷ not_kind ∷ and_kind ∷ or_kind ∷ implies_kind ∷ equivalent_kind ∷ []) unknown_formula h

effect_past : (k : ℕ) → 5 ≤ k → effect_kind k ≡ unknown_effect
unfolding effect_kind
effect_past k h = get_or-eq_default (empty_kind ∷ set_kind ∷ clear_kind ∷ both_kind ∷ under_kind ∷ []) unknown_effect h

formula_small : (v i k a b : ℕ) → formula_words_kept v i (formula_kind k) a b ≡ true → k < 16
unfolding formula_words_kept
formula_small v i k a b e = go (dec_lt k 8)
  where
    go : Dec (k < 8) → k < 16
    go (yes l) = omega arith
    go (no m) =
        let past : 8 ≤ k = omega arith in
        absurd (false≢true (rw (formula_past k past) at e))

effect_small : (v f i k a b : ℕ) → effect_words_kept v f i (effect_kind k) a b ≡ true → k < 16
unfolding effect_words_kept
effect_small v f i k a b e = go (dec_lt k 5)
  where
    go : Dec (k < 5) → k < 16
    go (yes l) = omega arith
    go (no m) =
        let past : 5 ≤ k = omega arith in
        absurd (false≢true (rw (effect_past k past) at e))

pub write_in : (l : Lent) → refusal l ≡ 0 → WriteIn l
unfolding formulas_kept formula_kept effects_kept effect_kept row_at
write_in l e =
    let p = passed l e in
    let c = (counts_tested l.head).0 p.counts in
    let long = (lengths_tested l).0 p.lengths in
    record {
      long = long;
      variables = c.variables;
      twins = omega (arith, c.twins, c.variables);
      formulas = c.formulas;
      effects = c.effects;
      operators = c.operators;
      bits = (initial_tested l).0 p.initial;
      formula_maps =
          λ i h.
          let r = row_at l.formulas i in
          formula_small l.head.variables i r.kind r.a r.b
          (every_at l.head.formulas (λ i. formula_kept l.head.variables i (row_at l.formulas i)) p.formulas i h);
      effect_maps =
          λ i h.
          let r = row_at l.effects i in
          effect_small l.head.variables l.head.formulas i r.kind r.a r.b
          (every_at l.head.effects (λ i. effect_kept l.head.variables l.head.formulas i (row_at l.effects i)) p.effects i h);
    }

-- the state that they hold is one of bits
pub state_in : (l : Lent) → WriteIn l → StateIn (take l.head.variables l.initial)
state_in l w =
    let long = length-take-le l.head.variables l.initial w.long.initial in
    record { bits = λ v h. let below : v < l.head.variables = omega arith in rw (get_or-take l.head.variables l.initial v 0 below) (w.bits v below) }

-- how far each part reaches
pub rows_size : (table : Table) (words : List ℕ) (n : ℕ) → length (rows_bytes table words n) ≤ 9 * n
rows_size table words zero = rw (rows_none_put table words) (omega arith)
rows_size table words (suc n) =
    let r = words_at table words n in
    rw (rows_more_put table words n, length-append (rows_bytes table words n) (bytes_of table r))
    (omega (arith, rows_size table words n, row_bytes_length table r))

pub words_size : (words : List ℕ) (n : ℕ) → n ≤ length words → length (words_bytes words n) ≤ 9 * n
unfolding joined
words_size words zero h = omega arith
words_size words (suc n) h =
    rw (words_more_put words n h, length-append (words_bytes words n) (word_bytes (get_or words n 0)))
    (omega (arith, words_size words n (omega arith), word_length (get_or words n 0)))

pub state_size : (state : List ℕ) (n : ℕ) → n ≤ length state → length (packed (take n state)) ≤ 9 * n
unfolding bytes_for
state_size state n h = omega (arith, packed_length (take n state), length-take-le n state h)

pub head_size : (h : Head) → length (head_bytes h) ≤ 13
unfolding head_bytes
head_size h = omega (arith, fields_length head_defaults (head_fields h))

pub same_head : (l : Lent) → LongEnough l → head_of (task_of l) ≡ l.head
unfolding head_of task_of
same_head l long =
    λ j.
    record {
      variables = length_initial l long j;
      twins = length_originals l long j;
      formulas = length_formulas l j;
      effects = length_effects l j;
      operators = length_operators l j;
      goal = l.head.goal;
    }

pub task_put :
    {a b c d e r : ℕ} {o o1 o2 o3 o4 o5 o6 : List ℕ} (l : Lent)
    → WriteIn l
    → Put (head_bytes l.head) 0 a o o1
    → Put (packed (take l.head.variables l.initial)) a b o1 o2
    → Put (joined word_bytes (take l.head.twins l.twins)) b c o2 o3
    → Put (rows_bytes Formulas l.formulas l.head.formulas) c d o3 o4
    → Put (rows_bytes Effects l.effects l.head.effects) d e o4 o5
    → Put (rows_bytes Operators l.operators l.head.operators) e r o5 o6
    → Put (file_of (task_of l)) 0 r o o6
unfolding file_of task_of
task_put l w h i t f e o =
    put_then (put_same (ap head_bytes (sym (same_head l w.long))) h) (put_then i (put_then t (put_then f (put_then e o))))

-- the three ways out of the call; z is the output after clearing, and what was put follows
module _ (l : Lent) (out : List ℕ) where
  pub not_checked :
      {z : List ℕ} (r : Result ℕ Refusal) (e : Refusal)
      → z ≡ replicate (length out) 0
      → IsErrAnd r (λ x. x ≡ e)
      → number_of e ≡ refusal l
      → wrote (write_answered r) z ≡ write_outcome l (length out)
  unfolding write_outcome
  not_checked (Ok x) e c given is = absurd given
  not_checked (Err x) e c given is =
      let same : number_of x ≡ refusal l = ap number_of given ∙ is in
      let t : eqb (refusal l) 0 ≡ false = ne_eqb (refusal l) 0 (λ q. number_some x (same ∙ q)) in
      rw t (λ j. wrote (NotWritten (same j)) (c j))

  module _ {z out' : List ℕ} {end : ℕ} (clear : z ≡ replicate (length out) 0) (ok : refusal l ≡ 0) (put : Put (file_of (task_of l)) 0 end z out') where
    passes : eqb (refusal l) 0 ≡ true
    passes = eq-eqb (refusal l) 0 ok

    z_size : length z ≡ length out
    z_size = ap length clear ∙ length-replicate (length out) 0

    end_is : end ≡ length (file_of (task_of l))
    end_is = omega (arith, put.next)

    pub too_long : {last : List ℕ} → length out' < end → last ≡ replicate (length out') 0 → wrote (NotWritten 20) last ≡ write_outcome l (length out)
    unfolding write_outcome file_outcome
    too_long {last} h c =
        let size : length out' ≡ length out = put_size put ∙ z_size in
        let t : leb (length (file_of (task_of l))) (length out) ≡ false = lt-leb (length (file_of (task_of l))) (length out) (omega (arith, end_is)) in
        rw (passes, t) (ap (wrote (NotWritten 20)) (c ∙ ap (λ (k : ℕ). replicate k 0) size))

    pub fits : end ≤ length out' → wrote (Written end) out' ≡ write_outcome l (length out)
    unfolding write_outcome file_outcome padded
    fits h =
        let file = file_of (task_of l) in
        let size : length out' ≡ length out = put_size put ∙ z_size in
        let t : leb (length file) (length out) ≡ true = le-leb (length file) (length out) (omega (arith, end_is)) in
        let whole : out' ≡ file ++ drop (0 + length file) z = put.wrote ∙ sets-eq file z 0 (omega (arith, end_is, z_size)) in
        let zeros : drop (0 + length file) z ≡ replicate (length out - length file) 0 =
        ap (drop (0 + length file)) clear
        ∙ drop-replicate (0 + length file) (length out) 0
        ∙ ap (λ (k : ℕ). replicate (length out - k) 0) (zero-add (length file))
        in
        rw (passes, t) (λ j. wrote (Written (end_is j)) ((whole ∙ ap (λ (x : List ℕ). file ++ x) zeros) j))
