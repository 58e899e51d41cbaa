-- Rules written one after another: what the code stores is what the definition writes, and stopping at the first rule without room is exact,
-- since effect rows are only appended. Assumes nothing.
use Rattle.std.specs.Prelude.{Result, Ok, Err, MatchResult}
use Rattle.std.specs.Result.{IsErrAnd}
use Prim.Native.Nat.{ℕ, ◌+◌, ◌*◌, ◌≤◌, ◌<◌}
use native.Mathlib.Omega.{arith}
use mathlib.Core.Path.{◌≡◌, refl, sym, ap, ap₂, ◌∙◌}
use mathlib.Core.Bool.{Bool, true, false, not, cond}
use mathlib.Core.List.{List, [], ◌∷◌, ◌++◌, append_assoc}
use lib.ListN.{length, get_or, length-append, length-set}
use lib.Dec.{eqb, ltb}
use borrow.Author.Tests.{eq-eqb, ne_eqb, lt-ltb, le-ltb}
use Rattle.task.specs.Table.{Row}
use Rattle.task.specs.Semantics.{sets, clears}
use Rattle.task.specs.Words.{words_of, padded}
use Rattle.normal_form.specs.Builder.{place}
use Rattle.normal_form.specs.Operators.{Changes}
use Rattle.normal_form.specs.Assembly.{Rule, rule, with_twin, rules_of, rules, Written, atom_row, rule_rows, write_rule, write_rules}
use Rattle.normal_form.proofs.Growth.{longer}
use Rattle.task.proofs.Stores.{padded_row}
use Rattle.task.specs.Inner.Stored.{three}
use Rattle.normal_form.proofs.ShapeCounts.{first_length, next_length, rules_split}
use Rattle.normal_form.proofs.ShapeRules.{rules_snoc}
use Rattle.normal_form.proofs.ShapeWritten.{rules_prefix}
use Rattle.rule_writer.specs.declared.Chain.{Chain}
use Rattle.rule_writer.specs.declared.Rule.{Rule as CodeRule}
use Rattle.rule_writer.specs.declared.Frame.{Frame}
use Rattle.rule_writer.specs.declared.Changes.{Changes as CodeChanges}
use Rattle.rule_writer.specs.Inner.Places.{Placed}
use Rattle.rule_writer.specs.Inner.Writes.{atom_of, kind_of, changes_in, alone, rule_in, twin_rule_in, all_in, two_rows, Holds, Ready, First, Next, Wrote, Overfull, Writes}

-- no rule
pub wrote_none : {rs : List Rule} {room : ℕ} {at : Chain} {before : List ℕ} → Ready room at before → rs ≡ [] → Wrote rs room at before before at
wrote_none {rs} {room} {at} {before} ready e = rw e none
  where
    none : Wrote [] room at before before at
    none = record { ready = ready; done = λ w h. unfold write_rules in h }

-- rules, then more
module _ {rs : List Rule} (qs : List Rule) {room : ℕ} {at : Chain} {before : List ℕ} where
  pub wrote_both :
      {a r : Chain} {mid after : List ℕ}
      → Wrote rs room at before mid a
      → Wrote qs room a mid after r
      → Wrote (rs ++ qs) room at before after r
  wrote_both x y =
      record { ready = y.ready; done = λ w h. rw (rules_split w rs qs) (y.done (write_rules w rs) (x.done w h)) }

  pub overfull_both :
      {a : Chain} {mid : List ℕ} → Wrote rs room at before mid a → Overfull qs room a mid → Overfull (rs ++ qs) room at before
  overfull_both x y =
      record { over = λ w h few. y.over (write_rules w rs) (x.done w h) (rw (rules_split w rs qs) at few) }

  -- effect rows are only appended
  pub overfull_more : Overfull rs room at before → Overfull (rs ++ qs) room at before
  overfull_more x =
      record {
        over = λ w h few.
            let grown =
            longer (write_rules w rs).rows (write_rules (write_rules w rs) qs).rows
            (rules_prefix (write_rules w rs) qs) in
            x.over w h (omega (arith, rw (rules_split w rs qs) at few));
      }

module _ {E : Type 0} (rs qs : List Rule) (room : ℕ) (at : Chain) (before after : List ℕ) where
  pub writes_both :
      {a : Chain} {mid : List ℕ} (r : Result Chain E)
      → Wrote rs room at before mid a
      → Writes qs room a mid after r
      → Writes (rs ++ qs) room at before after r
  writes_both (Ok r) x y = wrote_both qs x y
  writes_both (Err e) x y = overfull_both qs x y

-- an error that `?` returns onward
pub onward : {A E : Type 0} (P : A → Type 0) (Q : Type 0) (r : Result A E) (e : E) → IsErrAnd r (λ x. x ≡ e) → Q → MatchResult r P (λ _. Q)
onward P Q (Ok x) e given q = absurd given
onward P Q (Err x) e given q = q

-- rows stored behind those that stand
stored :
    (t : List ℕ) (n : ℕ) (rows : List Row) (i : ℕ) (r : Row)
    → t ≡ padded n (words_of rows)
    → length rows ≡ i
    → 3 * i + 3 ≤ n
    → three t i r.kind r.a r.b ≡ padded n (words_of (rows ++ (r ∷ [])))
stored t n rows i r e l h =
    ap (λ (x : List ℕ). three x i r.kind r.a r.b) e ∙ padded_row n rows i r l h

pub length_three : (t : List ℕ) (i x y z : ℕ) → length (three t i x y z) ≡ length t
length_three t i x y z = simp length-set

-- A rule at row n.
module _ (r : CodeRule) where
  abbrev the_rule : Rule
  the_rule = record { condition = r.condition; atom = atom_of r.sets r.variable }

  atom_words : (s : Bool) (v : ℕ) → atom_row (atom_of s v) ≡ record { kind = kind_of s; a = v; b = 0 }
  unfolding atom_row
  atom_words true v = refl
  atom_words false v = refl

  conjunct_stored :
      (t : List ℕ) (n : ℕ) (rows : List Row) (i : ℕ)
      → t ≡ padded n (words_of rows)
      → length rows ≡ i
      → 3 * i + 6 ≤ n
      → two_rows t i r ≡ padded n (words_of (rows ++ rule_rows i the_rule))
  unfolding rule_rows
  conjunct_stored t n rows i e l h =
      let atom : Row = record { kind = kind_of r.sets; a = r.variable; b = 0 } in
      let under : Row = record { kind = 4; a = r.condition; b = i } in
      let one = stored t n rows i atom e l (omega arith) in
      stored (three t i (kind_of r.sets) r.variable 0) n (rows ++ (atom ∷ [])) (i + 1) under one
      (omega (arith, length-append rows (atom ∷ []))) (omega arith)
      ∙ ap (λ (x : List Row). padded n (words_of x)) (append_assoc rows (atom ∷ []) (under ∷ []))
      ∙ ap (λ (x : Row). padded n (words_of (rows ++ (x ∷ under ∷ [])))) (sym (atom_words r.sets r.variable))

two_long : (i : ℕ) (r : Rule) → length (rule_rows i r) ≡ 2
unfolding rule_rows
two_long i r = refl

one_rule : (w : Written) (r : Rule) → write_rules w (r ∷ []) ≡ write_rule w r
unfolding write_rules
one_rule w r = refl

-- what the definition writes for an operator's first rule, and for a further one
first_written :
    (w : Written) (r : Rule)
    → w.stands ≡ 0
    → write_rule w r ≡ record { rows = w.rows ++ rule_rows (length w.rows) r; stands = length w.rows + 1 }
unfolding write_rule
first_written w r e = rw (eq-eqb w.stands 0 e)

next_written :
    (w : Written) (r : Rule)
    → (w.stands ≡ 0 → ⊥)
    → write_rule w r
    ≡ record {
      rows = w.rows ++ (rule_rows (length w.rows) r ++ (record { kind = 3; a = w.stands; b = length w.rows + 1 } ∷ []));
      stands = length w.rows + 2;
    }
unfolding write_rule
next_written w r n = rw (ne_eqb w.stands 0 n)

module _ (room : ℕ) (at : Chain) (t : List ℕ) (r : CodeRule) where
  length_two : length (two_rows t at.rows r) ≡ length t
  length_two = simp length-set

  pub first_full : First room at t → room < at.rows + 2 → Overfull (alone r) room at t
  first_full f h =
      record {
        over = λ w hold few.
            omega (
              arith,
              ap (λ (x : Written). length x.rows) (one_rule w (the_rule r)),
              first_length w (the_rule r) (hold.stands ∙ f.none),
              hold.rows,
            );
      }

  pub first_done :
      First room at t
      → at.rows + 2 ≤ room
      → Wrote (alone r) room at t (two_rows t at.rows r) (record { rows = at.rows + 2; stands = at.rows + 1 })
  first_done f h =
      record {
        ready = record { within = h; space = omega (arith, length_two, f.ready.space); limit = f.ready.limit };
        done = holds;
      }
    where
      holds :
          (w : Written)
          → Holds w at t
          → Holds (write_rules w (alone r)) (record { rows = at.rows + 2; stands = at.rows + 1 }) (two_rows t at.rows r)
      holds w hold =
          let rows = w.rows ++ rule_rows at.rows (the_rule r) in
          rw (one_rule w (the_rule r), first_written w (the_rule r) (hold.stands ∙ f.none), hold.rows)
          (record {
            rows =
                length-append w.rows (rule_rows at.rows (the_rule r))
                ∙ omega (arith, hold.rows, two_long at.rows (the_rule r));
            stands = refl;
            words =
                conjunct_stored r t (length t) w.rows at.rows hold.words hold.rows (omega (arith, f.ready.space))
                ∙ ap (λ (k : ℕ). padded k (words_of rows)) (sym length_two);
          })

  abbrev joined_rows : List ℕ
  joined_rows = three (two_rows t at.rows r) (at.rows + 2) 3 at.stands (at.rows + 1)

  length_joined : length joined_rows ≡ length t
  length_joined = simp length-set

  pub next_full : Next room at t → room < at.rows + 3 → Overfull (alone r) room at t
  next_full f h =
      record {
        over = λ w hold few.
            omega (
              arith,
              ap (λ (x : Written). length x.rows) (one_rule w (the_rule r)),
              next_length w (the_rule r) (λ e. f.some (sym hold.stands ∙ e)),
              hold.rows,
            );
      }

  pub next_done :
      Next room at t
      → at.rows + 3 ≤ room
      → Wrote (alone r) room at t joined_rows (record { rows = at.rows + 3; stands = at.rows + 2 })
  next_done f h =
      record {
        ready = record { within = h; space = omega (arith, length_joined, f.ready.space); limit = f.ready.limit };
        done = holds;
      }
    where
      holds :
          (w : Written)
          → Holds w at t
          → Holds (write_rules w (alone r)) (record { rows = at.rows + 3; stands = at.rows + 2 }) joined_rows
      holds w hold =
          let two = w.rows ++ rule_rows at.rows (the_rule r) in
          let join : Row = record { kind = 3; a = at.stands; b = at.rows + 1 } in
          let space = f.ready.space in
          let long : length two ≡ at.rows + 2 =
          length-append w.rows (rule_rows at.rows (the_rule r))
          ∙ omega (arith, hold.rows, two_long at.rows (the_rule r)) in
          let whole : two ++ (join ∷ []) ≡ w.rows ++ (rule_rows at.rows (the_rule r) ++ (join ∷ [])) =
          append_assoc w.rows (rule_rows at.rows (the_rule r)) (join ∷ []) in
          rw (
            one_rule w (the_rule r),
            next_written w (the_rule r) (λ e. f.some (sym hold.stands ∙ e)),
            hold.rows,
            hold.stands,
            ← whole,
          )
          (record {
            rows = length-append two (join ∷ []) ∙ omega (arith, long);
            stands = refl;
            words =
                stored (two_rows t at.rows r) (length t) two (at.rows + 2) join
                (conjunct_stored r t (length t) w.rows at.rows hold.words hold.rows (omega arith)) long
                (omega arith)
                ∙ ap (λ (k : ℕ). padded k (words_of (two ++ (join ∷ [])))) (sym length_joined);
          })

-- none for a condition that is row 0
module _ (r : CodeRule) where
  pub rule_absent : r.condition ≡ 0 → rule_in r ≡ []
  unfolding rule
  rule_absent e = rw (eq-eqb r.condition 0 e)

  pub rule_there : (r.condition ≡ 0 → ⊥) → rule_in r ≡ alone r
  unfolding rule
  rule_there n = rw (ne_eqb r.condition 0 n)

-- none for an absent twin
module _ (frame : Frame) (k : ℕ) (r : CodeRule) where
  pub twin_absent : frame.twins ≤ k → twin_rule_in frame k r ≡ []
  twin_absent h = rw (le-ltb k frame.twins h)

  pub twin_there :
      k < frame.twins → twin_rule_in frame k r ≡ rule r.condition (atom_of (not r.sets) (frame.variables + k))
  twin_there h = rw (lt-ltb k frame.twins h)

-- all rules of one variable, if its twin is at place k
changes_written :
    (frame : Frame) (twins : List ℕ) (k : ℕ) (c : CodeChanges)
    → length twins ≡ frame.twins
    → k ≡ place eqb c.variable twins
    → rules_of frame.variables twins (changes_in c) ≡ all_in frame k c
unfolding rules_of with_twin
changes_written frame twins k c many e =
    ap₂ made (sym e) many
    ∙ sym (append_assoc (rule c.adds (sets v)) (of-twin k frame.twins c.adds false) (made-clear k frame.twins))
  where
    v : ℕ
    v = c.variable

    -- for a twin at place p of so many
    of-twin : (p count condition : ℕ) → Bool → List Rule
    of-twin p count condition s = cond (ltb p count) (rule condition (atom_of s (frame.variables + p))) []

    made-clear : (p count : ℕ) → List Rule
    made-clear p count = rule c.deletes (clears v) ++ of-twin p count c.deletes true

    made : (p count : ℕ) → List Rule
    made p count = rule c.adds (sets v) ++ (of-twin p count c.adds false ++ made-clear p count)

-- those of the place that was found
pub rules_placed :
    (frame : Frame) (c : CodeChanges) {twins places : List ℕ}
    → Placed frame.variables frame.twins twins places
    → c.variable < frame.variables
    → rules_of frame.variables twins (changes_in c) ≡ all_in frame (get_or places c.variable 0) c
rules_placed frame c {twins} {places} p h =
    changes_written frame twins (get_or places c.variable 0) c p.many (p.at c.variable h)

-- An operator's variables, one after another: v's rules behind those of the variables before it; none if it is neither set nor cleared.
module _ (n : ℕ) (twins : List ℕ) (cs : List Changes) (c : Changes) {room : ℕ} {at a : Chain} {before mid : List ℕ} where
  pub wrote_variable :
      {r : Chain} {after : List ℕ}
      → Wrote (rules n twins cs) room at before mid a
      → Wrote (rules_of n twins c) room a mid after r
      → Wrote (rules n twins (cs ++ (c ∷ []))) room at before after r
  wrote_variable x y = rw (rules_snoc n twins cs c) (wrote_both (rules_of n twins c) x y)

  pub overfull_variable :
      Wrote (rules n twins cs) room at before mid a
      → Overfull (rules_of n twins c) room a mid
      → Overfull (rules n twins (cs ++ (c ∷ []))) room at before
  overfull_variable x y = rw (rules_snoc n twins cs c) (overfull_both (rules_of n twins c) x y)

-- no room for these variables' rules, and so none for those and one more
pub overfull_still :
    (n : ℕ) (twins : List ℕ) (cs : List Changes) (c : Changes) {room : ℕ} {at : Chain} {before : List ℕ}
    → Overfull (rules n twins cs) room at before
    → Overfull (rules n twins (cs ++ (c ∷ []))) room at before
overfull_still n twins cs c x = rw (rules_snoc n twins cs c) (overfull_more (rules_of n twins c) x)
