-- Laws of what a step leaves in scratch: what is evaluated twice is evaluated once. Assumes nothing.
use Prim.Native.Nat.{ℕ, ◌+◌, ◌-◌, ◌≤◌}
use native.Mathlib.Omega.{arith}
use mathlib.Core.Path.{◌≡◌, sym, ap, ◌∙◌}
use mathlib.Core.List.{List}
use lib.ListN.{length, drop}
use lib.Seq.{drop-drop}
use Rattle.task.specs.Table.{Operator, Lent, task_of}
use Rattle.task.specs.Run.{operator_of}
use Rattle.evaluating.specs.Inner.Values.{Valued}
use Rattle.applying.specs.Inner.Carrying.{Decided}
use Rattle.operator_step.specs.Inner.Steps.{Taken, Scratched}

-- what is the same behind m is the same behind more
drop_more : (m n : ℕ) (a b : List ℕ) → m ≤ n → drop m a ≡ drop m b → drop n a ≡ drop n b
drop_more m n a b h e =
    let q : m + (n - m) ≡ n = omega arith in
    rw (← q) (sym (drop-drop (n - m) m a) ∙ ap (drop (n - m)) e ∙ drop-drop (n - m) m b)

module _
    {l : Lent} {s : List ℕ} (n : ℕ) {o : Operator} (same : o ≡ operator_of (task_of l) n) {before values : List ℕ}
    (valued : Valued l.formulas (o.precondition + 1) s before values) where
  pub scratch_stopped : {r : Taken} → (r.stop ≡ 0 → ⊥) → Scratched l s n r before values
  scratch_stopped d =
      record {
        stopped = λ q. rw (← same) valued;
        done = λ z. absurd (d z);
      }

  pub scratch_done :
      {r : Taken} {after : List ℕ}
      → r.stop ≡ 0
      → o.precondition + 1 ≤ l.head.formulas
      → length values ≡ length before
      → Decided l.formulas l.effects l.head.formulas o.effect s values after
      → Scratched l s n r before after
  scratch_done z low long d =
      record {
        stopped = λ q. absurd (q z);
        done =
            λ q.
            rw (← same)
            (record {
              values = d.values;
              same = d.same ∙ long;
              evaluating =
                  record {
                    known = d.evaluating.known;
                    behind =
                        d.evaluating.behind
                        ∙ drop_more (o.precondition + 1) l.head.formulas values before low valued.behind;
                  };
              marking = d.marking;
            });
      }
