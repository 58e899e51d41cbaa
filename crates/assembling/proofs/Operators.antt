-- The operators one after another: each behind those before it, its rules and its row. Assumes nothing.
use Prim.Native.Nat.{ℕ, zero, suc, ◌+◌, ◌-◌, ◌≤◌, ◌<◌, ◌*◌}
use native.Mathlib.Omega.{arith}
use native.Mathlib.Numerals.{add-one}
use native.Mathlib.Decide.{dec_le}
use mathlib.Core.Path.{◌≡◌, refl, sym, ap, ◌∙◌}
use mathlib.Core.List.{List, [], ◌∷◌, ◌++◌}
use lib.ListN.{length, replicate, length-append}
use Rattle.task.specs.Bounded.{upto}
use Rattle.task.specs.Table.{Row, Operator, row_at, operator_width, with_parts, operator_at}
use Rattle.task.specs.Words.{joined, operator_words, padded}
use Rattle.task.specs.Inner.Stored.{operator_stored}
use Rattle.task.proofs.Stores.{length_operator_stored, padded_operator}
use Rattle.normal_form.specs.Operators.{Changes, Built}
use Rattle.normal_form.specs.Assembly.{rules_of, rules, Assembled, assemble_operator, assemble, unassembled}
use Rattle.normal_form.proofs.Growth.{longer}
use Rattle.normal_form.proofs.Padded.{padded_none, padded_empty}
use Rattle.normal_form.proofs.ShapeAssembled.{unwritten}
use Rattle.normal_form.proofs.ShapeWritten.{rules_prefix}
use Rattle.normal_form.proofs.ShapeCounts.{assemble_split}
use Rattle.formula_builder.specs.declared.Words.{Words}
use Rattle.formula_builder.specs.Inner.Held.{row_of}
use Rattle.rule_writer.specs.declared.Chain.{Chain}
use Rattle.rule_writer.specs.declared.Changes.{Changes as CodeChanges}
use Rattle.rule_writer.specs.Inner.Writes.{changes_in, Holds, Ready as RuleReady, Wrote, Overfull}
use Rattle.rule_writer.proofs.Writing.{wrote_none, wrote_variable, overfull_variable, overfull_still}
use Rattle.rule_writer.specs.Inner.Places.{begun}
use Rattle.change_records.specs.Inner.Recorded.{change_at, changes_from}
use Rattle.assembling.specs.Inner.Assembles.{changes_between, built_of, begins_at, built_in, assembled_in, Holding, WroteRow, OverfullRow, InOrder, Written}

-- a change as it is read
pub change_below :
    {n k end : ℕ} (records : List ℕ) (i : ℕ) {c : CodeChanges}
    → InOrder n records k end
    → k ≤ i
    → i < end
    → changes_in c ≡ change_at records i
    → c.variable < n
change_below records i a h l is = omega (arith, a.below i h l, ap (λ (x : Changes). x.variable) is)

pub changed_rules :
    (n : ℕ) (twins records : List ℕ) (i : ℕ) {c : CodeChanges} → changes_in c ≡ change_at records i → rules_of n twins (change_at records i) ≡ rules_of n twins (changes_in c)
changed_rules n twins records i is = ap (rules_of n twins) (sym is)

-- The changes one after another.
module _ (n : ℕ) (twins records : List ℕ) where
  between_none : (k : ℕ) → changes_between records k k ≡ []
  unfolding changes_between changes_from upto
  between_none k =
      let e : k - k ≡ 0 = omega arith in
      rw e

  between_more : (k i : ℕ) → k ≤ i → changes_between records k (i + 1) ≡ changes_between records k i ++ (change_at records i ∷ [])
  unfolding changes_between changes_from upto
  between_more k i h =
      let e : i + 1 - k ≡ suc (i - k) = omega arith in
      let here : k + (i - k) ≡ i = omega arith in
      rw e (ap (λ (j : ℕ). upto (i - k) (λ m. change_at records (k + m)) ++ (change_at records j ∷ [])) here)

  pub records_none :
      {room : ℕ} {chain : Chain} {out : List ℕ} (k : ℕ)
      → RuleReady room chain out
      → Wrote (rules n twins (changes_between records k k)) room chain out out chain
  records_none k ready = wrote_none ready (rw (between_none k) (unfold rules in refl))

  module _ {room : ℕ} {chain : Chain} {out : List ℕ} (k : ℕ) where
    pub records_more :
        {a r : Chain} {out2 out3 : List ℕ} (i : ℕ)
        → k ≤ i
        → Wrote (rules n twins (changes_between records k i)) room chain out out2 a
        → Wrote (rules_of n twins (change_at records i)) room a out2 out3 r
        → Wrote (rules n twins (changes_between records k (i + 1))) room chain out out3 r
    records_more i h x y =
        rw (between_more k i h) (wrote_variable n twins (changes_between records k i) (change_at records i) x y)

    still : (i j : ℕ) → k ≤ i → Overfull (rules n twins (changes_between records k i)) room chain out
        → Overfull (rules n twins (changes_between records k (i + j))) room chain out
    still i zero h x =
        let e : i + 0 ≡ i = omega arith in
        rw e x
    still i (suc j) h x =
        let e : i + suc j ≡ i + j + 1 = omega arith in
        rw (e, between_more k (i + j) (omega arith))
        (overfull_still n twins (changes_between records k (i + j)) (change_at records (i + j)) (still i j h x))

    -- no room for the rules of a change, and so none for those of all
    pub records_overfull :
        {a : Chain} {out2 : List ℕ} (i end : ℕ)
        → k ≤ i
        → i < end
        → Wrote (rules n twins (changes_between records k i)) room chain out out2 a
        → Overfull (rules_of n twins (change_at records i)) room a out2
        → Overfull (rules n twins (changes_between records k end)) room chain out
    records_overfull i end h b x y =
        let e : i + 1 + (end - (i + 1)) ≡ end = omega arith in
        rw (← e)
        (still (i + 1) (end - (i + 1)) (omega arith)
        (rw (between_more k i h) (overfull_variable n twins (changes_between records k i) (change_at records i) x y)))

    pub records_all :
        {r : Chain} {out' : List ℕ} (i end : ℕ)
        → i ≡ end
        → Wrote (rules n twins (changes_between records k i)) room chain out out' r
        → Wrote (rules n twins (changes_between records k end)) room chain out out' r
    records_all i end e x = rw (sym e) x

-- One operator: its rules, then its row, which is the source's with another precondition and effect.
held_before : {rows o : ℕ} {out operators : List ℕ} (a : Assembled) → Holding a rows o out operators → Holds (unwritten a.effects) (begun rows) out
held_before a h = record { rows = h.effect_rows; stands = refl; words = h.effect_words }

module _ (n : ℕ) (twins records : List ℕ) (w : Row) (k : ℕ) (source : Operator) {o : ℕ} {operators : List ℕ} where
  -- behind the operators that stand, one more
  row_written :
      {operators' : List ℕ} (before : List Operator) (stands its : ℕ)
      → operator_width * o + operator_width ≤ length operators
      → operators' ≡ operator_stored operators o (with_parts source w.kind stands)
      → length before ≡ o
      → operators ≡ padded (length operators) (operator_words before)
      → its ≡ stands
      → operators' ≡ padded (length operators') (operator_words (before ++ (with_parts source w.kind its ∷ [])))
  row_written before stands its space stored count held e =
      let row : Operator = with_parts source w.kind stands in
      let long = ap length stored ∙ length_operator_stored operators o row in
      rw (e, long)
      (stored
      ∙ ap (λ (t : List ℕ). operator_stored t o row) held
      ∙ padded_operator (length operators) before o row count space)

  pub operator_written :
      {room rows : ℕ} {r : Chain} {out out' operators' : List ℕ}
      → Wrote (rules n twins (changes_between records k w.a)) room (begun rows) out out' r
      → operator_width * o + operator_width ≤ length operators
      → operators' ≡ operator_stored operators o (with_parts source w.kind r.stands)
      → WroteRow (built_of records w k source) n twins rows o out out' operators operators' r.rows
  unfolding assemble_operator built_of
  operator_written {r = r} y space stored =
      record {
        done = λ a h.
            let s = y.done (unwritten a.effects) (held_before a h) in
            record {
              effect_rows = s.rows;
              operator_rows = length-append a.operators (_ ∷ []) ∙ omega (arith, h.operator_rows);
              effect_words = s.words;
              held_operators = row_written a.operators r.stands _ space stored h.operator_rows h.held_operators s.stands;
            };
      }

  pub operator_overfull :
      {room rows : ℕ} {out : List ℕ}
      → Overfull (rules n twins (changes_between records k w.a)) room (begun rows) out
      → OverfullRow (built_of records w k source) n twins room rows o out operators
  unfolding assemble_operator built_of
  operator_overfull y = record { over = λ a h few. y.over (unwritten a.effects) (held_before a h) few }

-- where an operator's changes begin
module _ (records : List ℕ) where
  pub begins_none : 0 ≡ begins_at records 0
  unfolding begins_at
  begins_none = refl

  pub begins_next : (o : ℕ) {w : Words} → row_of w ≡ row_at records o → w.a ≡ begins_at records (o + 1)
  unfolding begins_at
  begins_next o words = rw (add-one o) (ap (λ (r : Row). r.a) words)

-- All operators.
module _ (n : ℕ) (twins operators records : List ℕ) where
  assembled_none : assembled_in n twins operators records 0 ≡ unassembled
  unfolding assembled_in upto assemble
  assembled_none = refl

  pub assembled_more :
      (o : ℕ)
      → assembled_in n twins operators records (o + 1)
      ≡ assemble_operator n twins (assembled_in n twins operators records o) (built_in operators records o)
  unfolding assembled_in upto
  assembled_more o =
      rw (add-one o)
      (assemble_split n twins unassembled (upto o (built_in operators records)) (built_in operators records o ∷ [])
      ∙ one (assemble n twins unassembled (upto o (built_in operators records))) (built_in operators records o))
    where
      one : (a : Assembled) (b : Built) → assemble n twins a (b ∷ []) ≡ assemble_operator n twins a b
      one a b = unfold assemble in refl

  operator_longer : (a : Assembled) (b : Built) → length a.effects ≤ length (assemble_operator n twins a b).effects
  unfolding assemble_operator
  operator_longer a b = longer _ _ (rules_prefix (unwritten a.effects) (rules n twins b.changes))

  assembled_fewer :
      (o m : ℕ)
      → o ≤ m
      → length (assembled_in n twins operators records o).effects ≤ length (assembled_in n twins operators records m).effects
  assembled_fewer o zero h =
      let e : o ≡ 0 = omega arith in
      rw e (omega arith)
  assembled_fewer o (suc m) h = go (dec_le o m) (assembled_fewer o m)
    where
      more :
          length (assembled_in n twins operators records m).effects ≤ length (assembled_in n twins operators records (suc m)).effects
      more =
          rw (← add-one m)
          (rw (assembled_more m) (operator_longer (assembled_in n twins operators records m) (built_in operators records m)))

      go :
          Dec (o ≤ m)
          → (o ≤ m
          → length (assembled_in n twins operators records o).effects ≤ length (assembled_in n twins operators records m).effects)
          → length (assembled_in n twins operators records o).effects ≤ length (assembled_in n twins operators records (suc m)).effects
      go (yes c) f = omega (arith, f c, more)
      go (no c) f =
          let e : o ≡ suc m = omega arith in
          rw e (omega arith)

  -- begun: cleared tables hold the empty effect and no operator
  pub assembling_begun :
      (out outs : List ℕ)
      → 3 ≤ length out
      → out ≡ replicate (length out) 0
      → outs ≡ replicate (length outs) 0
      → Holding (assembled_in n twins operators records 0) 1 0 out outs
  unfolding joined
  assembling_begun out outs h e f =
      rw assembled_none
      (record {
        effect_rows = unfold unassembled in refl;
        operator_rows = unfold unassembled in refl;
        effect_words = e ∙ padded_empty (length out) h;
        held_operators = f ∙ sym (padded_none (length outs)) ∙ none (length outs);
      })
    where
      none : (m : ℕ) → padded m [] ≡ padded m (operator_words unassembled.operators)
      none m = unfold unassembled operator_words in refl

  module _ {rows k : ℕ} {out outs : List ℕ} (o : ℕ) (w : Words) (words : row_of w ≡ row_at records o)
      (from : k ≡ begins_at records o) (h : Holding (assembled_in n twins operators records o) rows o out outs) where
    its : built_of records (row_of w) k (operator_at operators o) ≡ built_in operators records o
    unfolding built_in
    its = rw (words, from)

    pub assembling_more :
        {r : ℕ} {out' outs' : List ℕ}
        → WroteRow (built_of records (row_of w) k (operator_at operators o)) n twins rows o out out' outs outs' r
        → Holding (assembled_in n twins operators records (o + 1)) r (o + 1) out' outs'
    assembling_more x = rw (assembled_more o, ← its) (x.done (assembled_in n twins operators records o) h)

    pub assembling_stop :
        {room : ℕ} (count : ℕ)
        → o < count
        → OverfullRow (built_of records (row_of w) k (operator_at operators o)) n twins room rows o out outs
        → length (assembled_in n twins operators records count).effects ≤ room
        → ⊥
    assembling_stop count b x few =
        x.over (assembled_in n twins operators records o) h
        (rw its
        (omega (
          arith,
          ap (λ (a : Assembled). length a.effects) (assembled_more o),
          assembled_fewer (o + 1) count (omega arith),
        )))

  pub assembling_done :
      {room rows : ℕ} {out outs : List ℕ} (o count : ℕ)
      → o ≡ count
      → Holding (assembled_in n twins operators records o) rows o out outs
      → rows ≤ room
      → Written (assembled_in n twins operators records count) room count out outs rows
  assembling_done o count e h most = record { done = rw (sym e) h; within = most }
