-- The call that reads: one law for each way out. Assumes nothing.
use Prim.Native.Nat.{ℕ, suc, ◌*◌, ◌<◌, ◌≤◌}
use native.Mathlib.Omega.{arith}
use mathlib.Core.Path.{◌≡◌, refl, sym, ap, ◌∙◌}
use mathlib.Core.Bool.{true, false}
use mathlib.Core.List.{List, [], ◌∷◌, ◌++◌}
use lib.ListN.{length, get_or, take, replicate}
use lib.Seq.{length-take-le}
use borrow.Author.Tests.{leb-true}
use Rattle.std.specs.Prelude.{Result, Ok, Err}
use Rattle.std.specs.Result.{IsErrAnd, is_err}
use Rattle.task.specs.declared.Head.{Head}
use Rattle.task.specs.declared.refusal.Refusal.{Refusal}
use Rattle.task.specs.Refused.{number_of}
use Rattle.task.specs.Table.{Task, operator_width}
use Rattle.task.specs.Check.{counts_kept, goal_kept}
use Rattle.task.specs.Words.{head_of, words_of, operator_words, padded}
use Rattle.task.proofs.Bounded.{and_left, and_right}
use Rattle.task.proofs.Passed.{counts_tested}
use Rattle.file_format.specs.Bytes.{head_bytes}
use Rattle.file_format.specs.Parse.{Parsed, parsed, unparsed, next}
use Rattle.file_format.specs.Reading.{Lengths, room, head_read, head_kept, tables_read, task_read, Verdict, accepted, rejected, at_end, reading}
use Rattle.task_file.specs.Inner.Answers.{Cleared, cleared_behind, ClearedBehind}
use Rattle.task_file.specs.Outcome.{Refused, Read, read_answered, lengths, ReadOutcome, outcome_of, read_outcome, read_left}
use Rattle.task_file.specs.Inner.Filling.{AllTables, all_words, all_in, all_behind, AllRoom}
use Rattle.task_file.specs.Inner.Filled.{Filled}
use Rattle.file_format.proofs.Parse.{Bytes, bytes_behind, parsed_value, parsed_rest, refused_parsed, Steps, next_parsed, kept_parsed}
use Rattle.file_format.proofs.Rows.{head_parsed}
use Rattle.file_format.proofs.Whole.{tables_parsed}
use Rattle.task_file.proofs.FillWays.{all_read}

pub bytes_from : (file : List ℕ) → ((i : ℕ) → get_or file i 0 < 256) → Bytes file
bytes_from [] h = tt
bytes_from (x ∷ file) h = (h 0, bytes_from file (λ i. h (suc i)))

-- a refusal that `?` returns onward
pub answered_onward : (r : Result Head Refusal) (e : Refusal) → IsErrAnd r (λ x. x ≡ e) → read_answered r ≡ Refused (number_of e)
answered_onward (Ok x) e given = absurd given
answered_onward (Err x) e given = ap (λ (y : Refusal). Refused (number_of y)) given

-- the first n elements are the words, and 0 is behind them
padded_front : (n : ℕ) (x y ws : List ℕ) {m : ℕ} → ws ≡ take n x → n ≤ length x → length x ≡ m → y ≡ cleared_behind n x → y ≡ padded m ws
unfolding padded
padded_front n x y ws e h size c =
    let there : length ws ≡ n = ap length e ∙ length-take-le n x h in
    c ∙ rw (← size, there, e) refl

empty : (rest : List ℕ) → length rest ≡ 0 → rest ≡ []
empty [] e = refl
empty (x ∷ rest) e = absurd (omega arith)

module _ (l : Lengths) (file : List ℕ) where
  by_head : {o : Parsed Head} → next (head_read file) (head_kept l) ≡ o → task_read l file ≡ next o tables_read
  unfolding task_read next
  by_head {o} e = go (head_read file) refl ∙ ap (λ (p : Parsed Head). next p tables_read) e
    where
      go : (p : Parsed Head) → head_read file ≡ p → task_read l file ≡ next (next (head_read file) (head_kept l)) tables_read
      go (unparsed n) q = rw q
      go (parsed h rest) q = rw q

  -- what the head's own rules say
  pub head_room :
      {h : Head} {rest i w f e o : List ℕ}
      → next (head_read file) (head_kept l) ≡ parsed h rest
      → l ≡ lengths (length i) (length w) (length f) (length e) (length o)
      → AllRoom h i w f e o
  unfolding head_kept room
  head_room {h} {rest} q n =
      let s = next_parsed _ _ q in
      let s3 = next_parsed _ _ s.second in
      let s4 = next_parsed _ _ s3.second in
      let k3 = kept_parsed (counts_kept s.value) 6 s.value s.mid s3.first in
      let k4 = kept_parsed (goal_kept s3.value) 7 s3.value s3.mid s4.first in
      let k5 = kept_parsed (room l s4.value) 5 s4.value s4.mid s4.second in
      let counts : counts_kept h ≡ true = ap counts_kept (sym (k3.same ∙ k4.same ∙ k5.same)) ∙ k3.holds in
      let roomy : room l h ≡ true = ap (room l) (sym k5.same) ∙ k5.holds in
      room-told counts (rw n at roomy)
    where
      room-told : {h : Head} {i w f e o : List ℕ} → counts_kept h ≡ true → room (lengths (length i) (length w) (length f) (length e) (length o)) h ≡ true → AllRoom h i w f e o
      room-told {h} {i} {w} {f} {e} {o} c r =
          record {
            initial_fit = leb-true h.variables (length i) (search and_left);
            twins_fit = leb-true h.twins (length w) (search (and_left, and_right));
            rows_fit =
                record {
                  formulas_fit = leb-true (3 * h.formulas) (length f) (search (and_left, and_right));
                  effects_fit = leb-true (3 * h.effects) (length e) (search (and_left, and_right));
                  operators_fit = leb-true (operator_width * h.operators) (length o) (search (and_left, and_right));
                };
            few_twins = omega (arith, ((counts_tested h).0 c).twins);
            few_variables = ((counts_tested h).0 c).variables;
          }

  -- what is behind a head is bytes
  bytes_rest : {h : Head} {rest : List ℕ} → Bytes file → next (head_read file) (head_kept l) ≡ parsed h rest → Bytes rest
  unfolding head_kept
  bytes_rest b q =
      let s = next_parsed _ _ q in
      let s3 = next_parsed _ _ s.second in
      let s4 = next_parsed _ _ s3.second in
      let k3 = kept_parsed (counts_kept s.value) 6 s.value s.mid s3.first in
      let k4 = kept_parsed (goal_kept s3.value) 7 s3.value s3.mid s4.first in
      let k5 = kept_parsed (room l s4.value) 5 s4.value s4.mid s4.second in
      let front : file ≡ head_bytes s.value ++ s.mid = head_parsed file b s.first in
      rw (k3.behind ∙ k4.behind ∙ k5.behind) at (bytes_behind (head_bytes s.value) s.mid (rw front at b))

  reading_lost : {n : ℕ} → task_read l file ≡ unparsed n → reading l file ≡ rejected n
  unfolding reading at_end
  reading_lost e = rw e

  pub head_lost : {n : ℕ} → next (head_read file) (head_kept l) ≡ unparsed n → reading l file ≡ rejected n
  unfolding next
  head_lost q = reading_lost (by_head q)

  module _ {h : Head} {rest : List ℕ} (head : next (head_read file) (head_kept l) ≡ parsed h rest) where
    by_tables : task_read l file ≡ tables_read h rest
    unfolding next
    by_tables = by_head head

    tables_lost : {n : ℕ} → all_behind h rest ≡ unparsed n → tables_read h rest ≡ unparsed n
    unfolding next
    tables_lost {n} q = go (tables_read h rest) refl (sym (all_read h rest) ∙ q)
      where
        go : (s : Parsed Task) → tables_read h rest ≡ s → next (tables_read h rest) (λ t. parsed (all_words t)) ≡ unparsed n → tables_read h rest ≡ unparsed n
        go (unparsed k) a b =
            let g : ◌≡◌ {A = Parsed AllTables} (unparsed k) (unparsed n) = rw a at b in
            let kn : k ≡ n = cc in
            a ∙ ap {B = Parsed Task} unparsed kn
        go (parsed t rest) a b = absurd (refused_parsed (sym (rw a at b)))

    pub table_lost : {n : ℕ} → all_behind h rest ≡ unparsed n → reading l file ≡ rejected n
    table_lost q = reading_lost (by_tables ∙ tables_lost q)

    tables_there : {x : AllTables} {end : List ℕ} → all_behind h rest ≡ parsed x end → Steps (tables_read h rest) (λ t. parsed (all_words t)) x end
    tables_there q = next_parsed (tables_read h rest) (λ t. parsed (all_words t)) (sym (all_read h rest) ∙ q)

    pub bytes_left : {x : AllTables} {end : List ℕ} → all_behind h rest ≡ parsed x end → 0 < length end → reading l file ≡ rejected 4
    unfolding reading at_end
    bytes_left {x} {end} q b = rw (by_tables ∙ (tables_there q).first, parsed_rest (tables_there q).second) (more end b)
      where
        more : (end : List ℕ) → 0 < length end → at_end (parsed (tables_there q).value end) ≡ rejected 4
        more [] b = absurd (omega arith)
        more (x ∷ end) b = refl

    pub task_held :
        (i w f e o : List ℕ) {i1 w1 f1 e1 o1 end : List ℕ}
        → all_behind h rest ≡ parsed (all_in h i1 w1 f1 e1 o1) end
        → length end ≡ 0
        → Bytes file
        → AllRoom h i1 w1 f1 e1 o1
        → lengths (length i1) (length w1) (length f1) (length e1) (length o1) ≡ l
        → ClearedBehind h i1 w1 f1 e1 o1 i w f e o
        → Filled l (reading l file) (Ok h) i w f e o
    unfolding reading at_end outcome_of
    task_held i w f e o {i1} {w1} {f1} {e1} {o1} {end} q b bytes fit size clear =
        let s = tables_there q in
        let t = s.value in
        let m : s.mid ≡ [] = parsed_rest s.second ∙ empty end b in
        let x : all_words t ≡ all_in h i1 w1 f1 e1 o1 = parsed_value s.second in
        let head_same : head_of t ≡ h = (tables_parsed h rest (bytes_rest bytes head) s.first).head in
        rw (by_tables ∙ s.first, m)
        (λ j.
        read_left (Read (sym head_same j))
        (padded_front h.variables i1 i t.initial (ap (λ (y : AllTables). y.initial) x) fit.initial_fit (ap (λ (n : Lengths). n.initial) size) clear.initial_clear j)
        (padded_front h.twins w1 w t.originals (ap (λ (y : AllTables). y.twins) x) fit.twins_fit (ap (λ (n : Lengths). n.twins) size) clear.twins_clear j)
        (padded_front (3 * h.formulas) f1 f (words_of t.formulas) (ap (λ (y : AllTables). y.rows.formulas) x) fit.rows_fit.formulas_fit (ap (λ (n : Lengths). n.formulas) size) clear.formulas_clear j)
        (padded_front (3 * h.effects) e1 e (words_of t.effects) (ap (λ (y : AllTables). y.rows.effects) x) fit.rows_fit.effects_fit (ap (λ (n : Lengths). n.effects) size) clear.effects_clear j)
        (padded_front (operator_width * h.operators) o1 o (operator_words t.operators) (ap (λ (y : AllTables). y.rows.operators) x) fit.rows_fit.operators_fit (ap (λ (n : Lengths). n.operators) size) clear.operators_clear j))

-- the call itself: what filling left, and after a refusal every table all 0
module _ (l : Lengths) (file : List ℕ) (r : Result Head Refusal) (i w f e o : List ℕ) (filled : Filled l (reading l file) r i w f e o) where
  pub read_held : is_err r ≡ false → read_left (read_answered r) i w f e o ≡ read_outcome l file
  unfolding read_outcome outcome_of
  read_held there = go (reading l file) r there filled
    where
      go : (x : Verdict) (r : Result Head Refusal) → is_err r ≡ false → Filled l x r i w f e o → read_left (read_answered r) i w f e o ≡ outcome_of l x
      go (accepted t) r there q = q
      go (rejected n) (Ok h) there q = absurd (let z : ◌≡◌ {A = ℕ} 0 1 = cc in omega arith)
      go (rejected n) (Err x) there q = absurd (let z : true ≡ false = there in let y : ◌≡◌ {A = ℕ} 0 1 = cc in omega arith)

  pub read_lost :
      (i' w' f' e' o' : List ℕ)
      → is_err r ≡ true
      → lengths (length i) (length w) (length f) (length e) (length o) ≡ l
      → Cleared i w f e o i' w' f' e' o'
      → read_left (read_answered r) i' w' f' e' o' ≡ read_outcome l file
  unfolding read_outcome outcome_of
  read_lost i' w' f' e' o' refused size clear = go (reading l file) r refused filled
    where
      go : (x : Verdict) (r : Result Head Refusal) → is_err r ≡ true → Filled l x r i w f e o → read_left (read_answered r) i' w' f' e' o' ≡ outcome_of l x
      go (accepted t) (Ok h) refused q = absurd (let z : false ≡ true = refused in let y : ◌≡◌ {A = ℕ} 0 1 = cc in omega arith)
      go (accepted t) (Err x) refused q =
          absurd (let z : Refused (number_of x) ≡ Read (head_of t) = ap (λ (y : ReadOutcome). y.answer) q in let y : ◌≡◌ {A = ℕ} 0 1 = cc in omega arith)
      go (rejected n) r refused q =
          λ j.
          read_left (q j)
          ((clear.initial_clear ∙ ap (λ (k : Lengths). replicate k.initial 0) size) j)
          ((clear.twins_clear ∙ ap (λ (k : Lengths). replicate k.twins 0) size) j)
          ((clear.formulas_clear ∙ ap (λ (k : Lengths). replicate k.formulas 0) size) j)
          ((clear.effects_clear ∙ ap (λ (k : Lengths). replicate k.effects 0) size) j)
          ((clear.operators_clear ∙ ap (λ (k : Lengths). replicate k.operators 0) size) j)

-- tables that keep their lengths keep their room
pub room_kept :
    {h : Head} {i w f e o i' w' f' e' o' : List ℕ}
    → lengths (length i') (length w') (length f') (length e') (length o') ≡ lengths (length i) (length w) (length f) (length e) (length o)
    → AllRoom h i w f e o
    → AllRoom h i' w' f' e' o'
room_kept same r =
    record {
      initial_fit = rw (ap (λ (n : Lengths). n.initial) same) r.initial_fit;
      twins_fit = rw (ap (λ (n : Lengths). n.twins) same) r.twins_fit;
      rows_fit =
          record {
            formulas_fit = rw (ap (λ (n : Lengths). n.formulas) same) r.rows_fit.formulas_fit;
            effects_fit = rw (ap (λ (n : Lengths). n.effects) same) r.rows_fit.effects_fit;
            operators_fit = rw (ap (λ (n : Lengths). n.operators) same) r.rows_fit.operators_fit;
          };
      few_twins = r.few_twins;
      few_variables = r.few_variables;
    }

-- tables of the same lengths, one by one
pub same_lengths :
    {i w f e o i' w' f' e' o' : ℕ} → i' ≡ i → w' ≡ w → f' ≡ f → e' ≡ e → o' ≡ o → lengths i' w' f' e' o' ≡ lengths i w f e o
same_lengths a b c d g = λ j. lengths (a j) (b j) (c j) (d j) (g j)
