-- Laws of a step of the plain run: by what a step gives the run goes on or stops, and the state stays ready. Assumes nothing.
use Prim.Native.Nat.{ℕ, ◌+◌, ◌≤◌, ◌<◌}
use native.Mathlib.Omega.{arith}
use mathlib.Core.Path.{◌≡◌, refl, ◌∙◌}
use mathlib.Core.Bool.{Bool, true, false, cond}
use mathlib.Core.List.{List, ◌∷◌}
use lib.ListN.{length, get_or}
use lib.Dec.{ltb}
use Rattle.task.specs.declared.Head.{Head}
use Rattle.task.specs.Table.{Task}
use Rattle.task.specs.Semantics.{effcond, sets, clears, value_after, apply}
use Rattle.task.specs.Run.{Progress, stopped, effect_of_operator, applicable, after_step, answer, run_on}
use Rattle.task.proofs.Bounded.{length_upto, getD_upto}
use Rattle.operator_step.specs.Inner.Steps.{StateReady, Taken, Took, took_by, took, Takes}

-- a step of the plain run, by what a step gives
module _ (t : Task) (p : Progress) (o : ℕ) (rest : List ℕ) where
  pub goes_on :
      (took t p.state o).answer.stop ≡ 0
      → run_on t p (o ∷ rest)
      ≡ run_on t
      (record {
        state = (took t p.state o).state;
        steps = p.steps + 1;
        cost = p.cost + (took t p.state o).answer.charge;
      })
      rest
  unfolding run_on took took_by after_step
  goes_on = go (ltb o (length t.operators)) (applicable t p.state o)
    where
      go :
          (b c : Bool)
          → let w : Took = took_by b c t p.state o in
          w.answer.stop ≡ 0
          → cond b (cond c (run_on t (after_step t p o) rest) (answer t p (stopped 18))) (answer t p (stopped 17))
          ≡ run_on t (record { state = w.state; steps = p.steps + 1; cost = p.cost + w.answer.charge }) rest
      go true true e = refl
      go true false e = absurd (omega arith)
      go false c e = absurd (omega arith)

  pub stops :
      ((took t p.state o).answer.stop ≡ 0 → ⊥)
      → (run_on t p (o ∷ rest) ≡ answer t p (stopped (took t p.state o).answer.stop)) × ((took t p.state o).state ≡ p.state)
  unfolding run_on took took_by
  stops = go (ltb o (length t.operators)) (applicable t p.state o)
    where
      go :
          (b c : Bool)
          → let w : Took = took_by b c t p.state o in
          (w.answer.stop ≡ 0 → ⊥)
          → (cond b (cond c (run_on t (after_step t p o) rest) (answer t p (stopped 18))) (answer t p (stopped 17)) ≡ answer t p (stopped w.answer.stop))
          × (w.state ≡ p.state)
      go true true e = absurd (e refl)
      go true false e = (refl, refl)
      go false c e = (refl, refl)

-- a step keeps the state's length and its bits
value_bit : (x y : Bool) (old : ℕ) → old ≤ 1 → cond x 1 (cond y 0 old) ≤ 1
value_bit true y old h = omega arith
value_bit false true old h = omega arith
value_bit false false old h = h

module _ (h : Head) (t : Task) (s : List ℕ) (ready : StateReady h s) (o : ℕ) where
  applied_ready : StateReady h (apply s (effect_of_operator t o))
  unfolding apply value_after
  applied_ready =
      let e = effect_of_operator t o in
      record {
        size = length_upto (length s) (value_after s e) ∙ ready.size;
        bits =
            λ v l.
            let b : v < length s = rw (length_upto (length s) (value_after s e)) at l in
            rw (getD_upto (length s) (value_after s e) v 0 b)
            (value_bit (effcond s (sets v) e) (effcond s (clears v) e) (get_or s v 0) (ready.bits v b));
      }

  took_ready : StateReady h (took t s o).state
  unfolding took took_by
  took_ready = go (ltb o (length t.operators)) (applicable t s o)
    where
      go :
          (b c : Bool)
          → let w : Took = took_by b c t s o in
          StateReady h w.state
      go true true = applied_ready
      go true false = ready
      go false c = ready

pub taken_ready :
    {h : Head} {t : Task} {s : List ℕ} {o : ℕ} {r : Taken} {after : List ℕ}
    → Takes t s o r after
    → StateReady h s
    → StateReady h after
taken_ready {h} {t} {s} {o} taken ready = rw taken.state (took_ready h t s ready o)
