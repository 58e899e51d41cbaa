-- Laws of the plain run: the numbers in front are done one after another, until all are or the next one stops it, and why. Assumes nothing.
use Prim.Native.Nat.{ℕ, ◌+◌, ◌≤◌, ◌<◌}
use native.Mathlib.Omega.{arith}
use native.Mathlib.Decide.{dec_lt}
use mathlib.Core.Path.{◌≡◌, refl, sym, ap, ◌∙◌}
use mathlib.Core.Bool.{Bool, true, false, false≢true}
use mathlib.Core.Logic.{◌↔◌, ◌⊎◌, inl, inr}
use mathlib.Core.List.{List, [], ◌∷◌, ◌++◌, append-nil}
use lib.ListN.{length, get_or}
use borrow.Author.Tests.{lt-ltb, le-ltb}
use Rattle.task.specs.Table.{Task}
use Rattle.task.specs.Rules.{no_operator}
use Rattle.task.specs.Semantics.{Effect, sets, clears, holds, effcond, value_after, apply}
use Rattle.task.specs.Tree.{formula_of}
use Rattle.task.specs.Run.{operator_of, goal_holds, applicable, charge_of, charge, Progress, after_step, Stop, ended, stopped, Run, answer, run_on, plain_run, unstopped, is_plan}
use Rattle.task.proofs.Bounded.{length_upto, getD_upto}

-- the precondition of operator o holds in state s
abbrev pub permits : Task → List ℕ → ℕ → Bool
permits t s o = holds s (formula_of t.formulas (get_or t.operators o no_operator).precondition)

-- what a step is charged is told by the operator's row
pub charged : (t : Task) (s : List ℕ) (o : ℕ) → charge t s o ≡ charge_of (get_or t.operators o no_operator)
unfolding charge operator_of
charged t s o = refl

-- one number: it stops the run, or it is done
module _ (t : Task) (p : Progress) (o : ℕ) (rest : List ℕ) where
  outside : length t.operators ≤ o → run_on t p (o ∷ rest) ≡ answer t p (stopped 17)
  unfolding run_on
  outside past = rw (le-ltb o (length t.operators) past)

  forbidden : o < length t.operators → permits t p.state o ≡ false → run_on t p (o ∷ rest) ≡ answer t p (stopped 18)
  unfolding run_on applicable operator_of
  forbidden below e = rw (lt-ltb o (length t.operators) below, e)

  goes_on :
      o < length t.operators
      → permits t p.state o ≡ true
      → run_on t p (o ∷ rest) ≡ run_on t (after_step t p o) rest
  unfolding run_on applicable operator_of
  goes_on below e = rw (lt-ltb o (length t.operators) below, e)

-- the numbers are done one after another, each on the state that the last one left
pub data Does (t : Task) : Progress → List ℕ → Progress → Type 0 where
  none : {p : Progress} → Does t p [] p
  more :
      {p q : Progress} {o : ℕ} {rest : List ℕ}
      → o < length t.operators
      → permits t p.state o ≡ true
      → Does t (after_step t p o) rest q
      → Does t p (o ∷ rest) q

-- what is left of the run is the run of the numbers that are left
pub runs_on :
    {t : Task} {p q : Progress} {front : List ℕ}
    → Does t p front q
    → (rest : List ℕ)
    → run_on t p (front ++ rest) ≡ run_on t q rest
runs_on none rest = refl
runs_on {t} {p} {q} {front} (more {o = o} {rest = later} below e d) rest =
    goes_on t p o (later ++ rest) below e ∙ runs_on d rest

record Halfway (t : Task) (p : Progress) (front rest : List ℕ) (q : Progress) : Type 0 where
  at : Progress
  first : Does t p front at
  then : Does t at rest q

halfway : {t : Task} {p q : Progress} (front : List ℕ) {rest : List ℕ} → Does t p (front ++ rest) q → Halfway t p front rest q
halfway {p = p} [] d = record { at = p; first = none; then = d }
halfway {t = t} {p = p} {q = q} (o ∷ front) {rest = rest} (more below e d) =
    let h = halfway {p = after_step t p o} front d in
    record { at = h.at; first = more below e h.first; then = h.then }

pub steps_done :
    {t : Task} {p q : Progress} {front : List ℕ}
    → Does t p front q
    → q.steps ≡ p.steps + length front
unfolding after_step
steps_done none = omega arith
steps_done (more below e d) = omega (arith, steps_done d)

-- Where and why a run stops: the numbers in front are done, and the next one is not below O or its precondition is false.
pub record Stops (t : Task) (p : Progress) (numbers : List ℕ) (n : ℕ) : Type 0 where
  pub front : List ℕ
  pub next : ℕ
  pub rest : List ℕ
  pub at : Progress
  pub split : numbers ≡ front ++ (next ∷ rest)
  pub done : Does t p front at
  pub reason :
      ((n ≡ 17) × (length t.operators ≤ next))
      ⊎ ((n ≡ 18) × (next < length t.operators) × (permits t at.state next ≡ false))

pub data Ways (t : Task) (p : Progress) (numbers : List ℕ) : Type 0 where
  ends : {q : Progress} → Does t p numbers q → Ways t p numbers
  halts : {n : ℕ} → Stops t p numbers n → Ways t p numbers

pub ways : (t : Task) (numbers : List ℕ) (p : Progress) → Ways t p numbers
ways t [] p = ends none
ways t (o ∷ rest) p = go (dec_lt o (length t.operators)) (permits t p.state o) refl (ways t rest (after_step t p o))
  where
    go :
        Dec (o < length t.operators)
        → (b : Bool)
        → permits t p.state o ≡ b
        → Ways t (after_step t p o) rest
        → Ways t p (o ∷ rest)
    go (no m) b e later =
        halts
        (record { front = []; next = o; rest = rest; at = p; split = refl; done = none; reason = inl (refl, omega arith) })
    go (yes below) false e later =
        halts
        (record { front = []; next = o; rest = rest; at = p; split = refl; done = none; reason = inr (refl, below, e) })
    go (yes below) true e (ends d) = ends (more below e d)
    go (yes below) true e (halts h) =
        halts
        (record {
          front = o ∷ h.front;
          next = h.next;
          rest = h.rest;
          at = h.at;
          split = ap (λ (l : List ℕ). o ∷ l) h.split;
          done = more below e h.done;
          reason = h.reason;
        })

-- what the run answers then
pub does_answer : {t : Task} {p q : Progress} {numbers : List ℕ} → Does t p numbers q → run_on t p numbers ≡ answer t q ended
unfolding run_on
does_answer {t} {p} {q} {numbers} d = ap (run_on t p) (sym (append-nil numbers)) ∙ runs_on d []

pub stops_answer :
    {t : Task} {p : Progress} {numbers : List ℕ} {n : ℕ}
    → (h : Stops t p numbers n)
    → run_on t p numbers ≡ answer t h.at (stopped n)
stops_answer {t} {p} {numbers} {n} h =
    ap (run_on t p) h.split ∙ runs_on h.done (h.next ∷ h.rest) ∙ go h.reason
  where
    go :
        ((n ≡ 17) × (length t.operators ≤ h.next))
        ⊎ ((n ≡ 18) × (h.next < length t.operators) × (permits t h.at.state h.next ≡ false))
        → run_on t h.at (h.next ∷ h.rest) ≡ answer t h.at (stopped n)
    go (inl r) = rw r.0 (outside t h.at h.next h.rest r.1)
    go (inr r) = rw r.0 (forbidden t h.at h.next h.rest r.1 r.2)

abbrev pub start : List ℕ → Progress
start s = record { state = s; steps = 0; cost = 0 }

-- A plain run that is not stopped, and one that is.
pub record Ends (t : Task) (s numbers : List ℕ) : Type 0 where
  pub at : Progress
  pub done : Does t (start s) numbers at
  pub answers : plain_run t s numbers ≡ answer t at ended

pub record Halts (t : Task) (s numbers : List ℕ) (n : ℕ) : Type 0 where
  pub stops : Stops t (start s) numbers n
  pub answers : plain_run t s numbers ≡ answer t stops.at (stopped n)
  pub alone : plain_run t s stops.front ≡ answer t stops.at ended

-- Number o is done behind these: it is below O, and its precondition holds in the state that they leave.
pub record Follows (t : Task) (s front : List ℕ) (o : ℕ) : Type 0 where
  pub before : Ends t s front
  pub below : o < length t.operators
  pub permitted : permits t before.at.state o ≡ true

module _ (t : Task) (s numbers : List ℕ) where
  ends_by : {q : Progress} → Does t (start s) numbers q → Ends t s numbers
  unfolding plain_run
  ends_by {q} d = record { at = q; done = d; answers = does_answer d }

  halts_by : {n : ℕ} → Stops t (start s) numbers n → Halts t s numbers n
  unfolding plain_run
  halts_by h = record { stops = h; answers = stops_answer h; alone = does_answer h.done }

  -- by the stop that it tells
  pub ended_run : (plain_run t s numbers).stop ≡ ended → Ends t s numbers
  unfolding answer
  ended_run e = go (ways t numbers (start s))
    where
      go : Ways t (start s) numbers → Ends t s numbers
      go (ends d) = ends_by d
      go (halts h) =
          let q = ap (λ (r : Run). r.stop) (halts_by h).answers in
          let z : ◌≡◌ {A = ℕ} 0 1 = cc in
          absurd (omega arith)

  pub stopped_run : {n : ℕ} → (plain_run t s numbers).stop ≡ stopped n → Halts t s numbers n
  unfolding answer
  stopped_run {n} e = go (ways t numbers (start s))
    where
      go : Ways t (start s) numbers → Halts t s numbers n
      go (ends d) =
          let q = ap (λ (r : Run). r.stop) (ends_by d).answers in
          let z : ◌≡◌ {A = ℕ} 0 1 = cc in
          absurd (omega arith)
      go (halts {n = m} h) =
          let q = ap (λ (r : Run). r.stop) (halts_by h).answers in
          let same : m ≡ n = cc in
          halts_by (rw same at h)

  -- whether the goal holds is told of the last state, after a stop too
  pub goal_told : (plain_run t s numbers).goal ≡ holds (plain_run t s numbers).state (formula_of t.formulas t.goal)
  unfolding answer goal_holds
  goal_told = go (ways t numbers (start s))
    where
      go :
          Ways t (start s) numbers
          → (plain_run t s numbers).goal ≡ holds (plain_run t s numbers).state (formula_of t.formulas t.goal)
      go (ends d) = rw (ends_by d).answers
      go (halts h) = rw (halts_by h).answers

module _ (t : Task) (s front : List ℕ) (o : ℕ) where
  -- each number of a run that is not stopped was done so
  pub each_follows : (rest : List ℕ) → (plain_run t s (front ++ (o ∷ rest))).stop ≡ ended → Follows t s front o
  unfolding ends_by
  each_follows rest e =
      let h = halfway front (ended_run t s (front ++ (o ∷ rest)) e).done in
      go h.first h.then
    where
      go : {m q : Progress} → Does t (start s) front m → Does t m (o ∷ rest) q → Follows t s front o
      go first (more below p d) = record { before = ends_by t s front first; below = below; permitted = p }

  -- and it is done there, if it is the last
  pub one_more : (f : Follows t s front o) → plain_run t s (front ++ (o ∷ [])) ≡ answer t (after_step t f.before.at o) ended
  unfolding plain_run run_on
  one_more f = runs_on f.before.done (o ∷ []) ∙ goes_on t f.before.at o [] f.below f.permitted

-- A plan is an unstopped run that ends with the goal true.
pub plan_exactly_if : (r : Run) → is_plan r ≡ true ↔ (r.stop ≡ ended) × (r.goal ≡ true)
unfolding is_plan unstopped
plan_exactly_if r = go r.stop refl
  where
    go : (q : Stop) → r.stop ≡ q → is_plan r ≡ true ↔ (r.stop ≡ ended) × (r.goal ≡ true)
    go ended e = (λ p. (e, rw e at p), λ p. rw e p.1)
    go (stopped n) e = (λ p. absurd (false≢true (rw e at p)), λ p. let z : ◌≡◌ {A = ℕ} 0 1 = cc in absurd (omega arith))

-- Each variable after an effect: 1 if effcond(set) holds, else 0 if effcond(clear) holds, else what it was.
module _ (s : List ℕ) (e : Effect) where
  pub length_after : length (apply s e) ≡ length s
  unfolding apply
  length_after = length_upto (length s) (value_after s e)

  module _ (v : ℕ) (below : v < length s) where
    pub becomes_one : effcond s (sets v) e ≡ true → get_or (apply s e) v 0 ≡ 1
    unfolding apply value_after
    becomes_one h = getD_upto (length s) (value_after s e) v 0 below ∙ rw h

    pub becomes_zero : effcond s (sets v) e ≡ false → effcond s (clears v) e ≡ true → get_or (apply s e) v 0 ≡ 0
    unfolding apply value_after
    becomes_zero h g = getD_upto (length s) (value_after s e) v 0 below ∙ rw (h, g)

    pub keeps : effcond s (sets v) e ≡ false → effcond s (clears v) e ≡ false → get_or (apply s e) v 0 ≡ get_or s v 0
    unfolding apply value_after
    keeps h g = getD_upto (length s) (value_after s e) v 0 below ∙ rw (h, g)
