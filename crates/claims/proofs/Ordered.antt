-- Laws that DemandTwoOrder cites: steps that are built one after the other are in order, whatever they are. Assumes nothing.
use Prim.Native.Nat.{ℕ, zero, suc, ◌≤◌, ◌<◌}
use native.Mathlib.Omega.{arith}
use mathlib.Core.Path.{◌≡◌, refl, sym, ap, ◌∙◌}
use mathlib.Core.Logic.{◌⊎◌, inl, inr}
use lib.ListN.{length}
use Rattle.task.specs.Table.{Task}
use Rattle.task.specs.Semantics.{Formula, Atom, Effect, under, sets, clears}
use Rattle.task.specs.Tree.{formula_of}
use Rattle.task.specs.Run.{operator_of, effect_of_operator}
use Rattle.normal_form.specs.Builder.{St, Got, Build, give, bind, each, start, Polarity, plain, negated, image_of_false, join, pair}
use Rattle.normal_form.specs.Growth.{Grows, Steady}
use Rattle.normal_form.specs.Image.{image}
use Rattle.normal_form.specs.Conditions.{condition}
use Rattle.normal_form.specs.Operators.{Changes, changes_of, built_operator}
use Rattle.normal_form.specs.Finished.{built}
use Rattle.normal_form.proofs.Growth.{longer, grows_trans, steady_join, steady_pair, steady_each}
use Rattle.normal_form.proofs.Steady.{steady_image, steady_guarded, steady_condition, steady_changes, steady_operator}
use Rattle.normal_form.proofs.ShapeSizes.{adds_grows, deletes_grows, moment_grows}
use Rattle.normal_form.proofs.Order.{Stands, value_later, condition_stands, lower_number, join_no_twin, join_one_row, join_adds_nothing, join_own_row, join_zero_left, join_zero_right, join_one_left, join_one_right, pair_is, under_false, under_is, changes_alone, changes_joined}
use Rattle.claims.specs.Order.{InOrder, JoinsBy, JoinAdds, PairInOrder, nothing_under, UnderInOrder, ChangesInOrder, behind, state_before}

two_rows : {s : St} → Grows start s → 2 ≤ length s.rows
unfolding start
two_rows {s} g = longer start.rows s.rows g.rows

-- two steps, one after the other, in a state that has what both add
pub in_order :
    {first second : Build ℕ} (s end : St)
    → Steady first
    → Steady second
    → Stands first
    → Grows start s
    → Grows (second (first s).st).st end
    → InOrder s first second end
in_order {first} {second} s end fs ss fb from g =
    let h : Grows (first s).st end = grows_trans (ss.grow (first s).st) g in
    record {
      begins = h;
      goes_on = g;
      lower = λ old new u k. lower_number s u fs ss fb (two_rows from) (grows_trans h k) (grows_trans g k) new;
    }

join_adds : (p : Polarity) (a b : ℕ) (x : St) → JoinAdds a b x (join p a b x).st
join_adds p a b x =
    record {
      one_row = join_one_row p a b x;
      no_twin = join_no_twin p a b x;
      folded = λ c. join_adds_nothing p a b x (λ h k. constant c h k);
    }
  where
    constant : (a < 2) ⊎ (b < 2) → 2 ≤ a → 2 ≤ b → ⊥
    constant (inl c) h k = omega arith
    constant (inr c) h k = omega arith

join_joins : (p : Polarity) (a b : ℕ) (x u : St) → Grows (join p a b x).st u → JoinsBy p u.rows a b (join p a b x).value
join_joins plain a b x u g =
    record {
      zero_left = join_zero_left plain a b x;
      zero_right = join_zero_right plain a b x;
      one_left = join_one_left plain a b x;
      one_right = join_one_right plain a b x;
      own_row = join_own_row plain a b x u g;
    }
join_joins negated a b x u g =
    record {
      zero_left = join_zero_left negated a b x;
      zero_right = join_zero_right negated a b x;
      one_left = join_one_left negated a b x;
      one_right = join_one_right negated a b x;
      own_row = join_own_row negated a b x u g;
    }

pub pair_in_order :
    (p : Polarity) {l r : Build ℕ} (s : St)
    → Steady l
    → Steady r
    → Stands l
    → Grows start s
    → PairInOrder p s l r (pair p l r)
pair_in_order p {l} {r} s ls rs lb from =
    let x = (l s).st in
    let y = (r x).st in
    let a = (l s).value in
    let b = (r x).value in
    let e : pair p l r s ≡ join p a b y = pair_is p l r s in
    let g : Grows y (pair p l r s).st = rw e ((steady_join p a b).grow y) in
    record {
      order = in_order s (pair p l r s).st ls rs lb from g;
      adds = rw e (join_adds p a b y);
      joins = λ u k.
          let h : Grows y u = grows_trans g k in
          rw (
            value_later ls s u (grows_trans (rs.grow x) h),
            value_later rs x u h,
            value_later (steady_pair p ls rs) s u k,
            e,
          ) (join_joins p a b y u (rw e at k));
    }

-- An effect condition under a formula.
module _ (n : ℕ) (p : Polarity) (l : Atom) (s : St) (from : Grows start s) where
  none_is : (q : Polarity) → nothing_under q ≡ image_of_false q
  none_is plain = refl
  none_is negated = refl

  pub under_ordered :
      (f : Formula) (e : Effect) → UnderInOrder p s (image n p f) (condition n p l e) (condition n p l (under f e))
  under_ordered f e =
      record {
        begins = inner_first;
        ends = λ q. under_false n p l f e s (q ∙ none_is p);
        order = λ q.
            in_order s (condition n p l (under f e) s).st (steady_condition n p l e) (steady_image n p f)
            (condition_stands n p l e)
            from
            (next q);
        adds = λ q. rw (is q) (join_adds p a.value c.value a.st);
        joins = λ q u k.
            let h : Grows a.st u = grows_trans (next q) k in
            rw (
              value_later (steady_image n p f) c.st u h,
              value_later (steady_condition n p l e) s u (grows_trans ((steady_image n p f).grow c.st) h),
              value_later (steady_condition n p l (under f e)) s u k,
              is q,
            ) (join_joins p a.value c.value a.st u (rw (is q) at k));
      }
    where
      c : Got ℕ
      c = condition n p l e s

      a : Got ℕ
      a = image n p f c.st

      is : (c.value ≡ nothing_under p → ⊥) → condition n p l (under f e) s ≡ join p a.value c.value a.st
      is q = under_is n p l f e s (λ r. q (r ∙ sym (none_is p)))

      inner_first : Grows c.st (condition n p l (under f e) s).st
      inner_first = unfold condition bind in (steady_guarded n p f c.value).grow c.st

      next : (c.value ≡ nothing_under p → ⊥) → Grows a.st (condition n p l (under f e) s).st
      next q = rw (is q) ((steady_join p a.value c.value).grow a.st)

-- A variable's changes.
module _ (n : ℕ) (e : Effect) (v : ℕ) (s : St) (from : Grows start s) where
  abbrev A : Got ℕ
  A = condition n plain (sets v) e s

  abbrev D : Got ℕ
  D = condition n plain (clears v) e A.st

  abbrev N : Got ℕ
  N = condition n negated (sets v) e D.st

  joined_is :
      (A.value ≡ 0 → ⊥)
      → (D.value ≡ 0 → ⊥)
      → let k = join plain D.value N.value N.st in
      changes_of n e v s ≡ record { value = record { variable = v; adds = A.value; deletes = k.value }; st = k.st }
  joined_is x y = changes_joined n e v s x y

  alone_is :
      (A.value ≡ 0) ⊎ (D.value ≡ 0)
      → changes_of n e v s ≡ record { value = record { variable = v; adds = A.value; deletes = D.value }; st = D.st }
  alone_is q = changes_alone n e v s q

  next : (A.value ≡ 0 → ⊥) → (D.value ≡ 0 → ⊥) → Grows N.st (changes_of n e v s).st
  next x y = rw (joined_is x y) ((steady_join plain D.value N.value).grow N.st)

  pub changes_ordered :
      ChangesInOrder s (condition n plain (sets v) e) (condition n plain (clears v) e) (condition n negated (sets v) e)
      (changes_of n e v)
  changes_ordered =
      let sa = steady_condition n plain (sets v) e in
      let sd = steady_condition n plain (clears v) e in
      let sn = steady_condition n negated (sets v) e in
      let far : Grows A.st (changes_of n e v s).st = adds_grows n e v s in
      let mid : Grows D.st (changes_of n e v s).st = deletes_grows n e v s in
      let later : Grows start A.st = grows_trans from (sa.grow s) in
      record {
        order = in_order s (changes_of n e v s).st sa sd (condition_stands n plain (sets v) e) from mid;
        sets_under = λ u k.
            ap (λ (r : Changes). r.adds) (value_later (steady_changes n e v) s u k)
            ∙ changes-adds
            ∙ sym (value_later sa s u (grows_trans far k));
        ends = λ q. ap (λ (r : Got Changes). r.st) (alone_is q);
        stays = λ q u k.
            ap (λ (r : Changes). r.deletes) (value_later (steady_changes n e v) s u k)
            ∙ ap (λ (r : Got Changes). r.value.deletes) (alone_is q)
            ∙ sym (value_later sd A.st u (grows_trans mid k));
        conflict = λ x y. in_order A.st (changes_of n e v s).st sd sn (condition_stands n plain (clears v) e) later (next x y);
        adds = λ x y. rw (joined_is x y) (join_adds plain D.value N.value N.st);
        joins = λ x y u k.
            rw (
              value_later sd A.st u (grows_trans mid k),
              value_later sn D.st u (grows_trans (next x y) k),
              value_later (steady_changes n e v) s u k,
              joined_is x y,
            ) (join_joins plain D.value N.value N.st u (rw (joined_is x y) at k));
      }
    where
      changes-adds : (changes_of n e v s).value.adds ≡ A.value
      changes-adds = unfold changes_of bind give in refl

-- one step after another
pub behind_each : {A : Type 0} (f : ℕ → Build A) (k : ℕ) (s : St) → (each k f s).st ≡ behind f k s
unfolding each bind give behind
behind_each f zero s = refl
behind_each f (suc k) s = rw (behind_each f k s)

-- The state in which variable v of operator o is built: it comes from the start, and what is built there stands in the end.
module _ (t : Task) (o : ℕ) where
  abbrev width : ℕ
  width = length t.initial

  abbrev precondition : Build ℕ
  precondition = image width plain (formula_of t.formulas (operator_of t o).precondition)

  abbrev changes : ℕ → Build Changes
  changes = changes_of width (effect_of_operator t o)

  moment : (w : ℕ) → (each w changes (precondition (each o (built_operator t) start).st).st).st ≡ state_before t o w
  unfolding state_before
  moment w =
      ap (λ (s : St). (each w changes (precondition s).st).st) (behind_each (built_operator t) o start)
      ∙ behind_each changes w (precondition (behind (built_operator t) o start)).st

  pub moment_from_start : (v : ℕ) → Grows start (state_before t o v)
  moment_from_start v =
      rw (← moment v)
      (grows_trans ((steady_each o (steady_operator t)).grow start)
      (grows_trans ((steady_image width plain _).grow _)
      ((steady_each v (steady_changes width (effect_of_operator t o))).grow _)))

  pub moment_stands :
      (v : ℕ)
      → o < length t.operators
      → v < length t.initial
      → Grows (changes_of (length t.initial) (effect_of_operator t o) v (state_before t o v)).st (built t).st
  moment_stands v h k =
      let g : Grows (state_before t o (suc v)) (built t).st = rw (moment (suc v)) at (moment_grows t o (suc v) h k) in
      unfold state_before behind in g
