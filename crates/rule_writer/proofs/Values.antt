-- The initial values of the compiled task: the source's, copied, and each twin's, opposite to its original's. Assumes nothing.
use Prim.Native.Nat.{ℕ, ◌+◌, ◌-◌, ◌<◌}
use native.Mathlib.Numerals.{add-one}
use native.Mathlib.Omega.{arith}
use Rattle.std.proofs.Common.{length-append, length-drop}
use mathlib.Core.Path.{◌≡◌, sym, ap, ◌∙◌}
use mathlib.Core.List.{List, ◌++◌}
use lib.ListN.{length, get_or, take, drop, set, length-map}
use lib.Seq.{length-take-le, take_all, take_at, drop-append-add, drop-drop, get_or-take, paste, paste-suc}
use Rattle.normal_form.specs.Finished.{twin_values}
use Rattle.normal_form.proofs.Demand.{map_at}
use Rattle.rule_writer.specs.Inner.Writes.{InitialReady}

-- The twins' values.
module _ (source originals out : List ℕ) (v w : ℕ) (ready : InitialReady source originals out v w) where
  abbrev values : List ℕ
  values = twin_values (take v source) (take w originals)

  pub values_long : length values ≡ w
  unfolding twin_values
  values_long =
      length-map (take w originals) (λ x. 1 - get_or (take v source) x 0) ∙ length-take-le w originals ready.twins

  pub value_at : (k : ℕ) → k < w → get_or values k 0 ≡ 1 - get_or source (get_or originals k 0) 0
  unfolding twin_values
  value_at k h =
      map_at (λ x. 1 - get_or (take v source) x 0) (take w originals) k (omega (arith, length-take-le w originals ready.twins))
      ∙ rw (get_or-take w originals k 0 h, get_or-take v source (get_or originals k 0) 0 (ready.below k h))

  -- one twin more, behind the source's values
  pub opposed_more :
      (start now : List ℕ) (k : ℕ)
      → start ≡ take v source ++ drop v out
      → now ≡ paste start v values k
      → k < w
      → set now (v + k) (1 - get_or source (get_or originals k 0) 0) ≡ paste start v values (k + 1)
  opposed_more start now k is e h =
      let long : length start ≡ length out =
      ap length is
      ∙ length-append (take v source) (drop v out)
      ∙ omega (arith, length-take-le v source ready.values, length-drop v out, ready.space) in
      rw (add-one k, ← value_at k h)
      (ap (λ (l : List ℕ). set l (v + k) (get_or values k 0)) e
      ∙ paste-suc start v values k 0 (omega (arith, ready.space)) (omega (arith, values_long)))

  -- both parts
  pub values_written :
      (mid after : List ℕ)
      → mid ≡ take v source ++ drop v out
      → after ≡ paste mid v values w
      → after ≡ (take v source ++ values) ++ drop (v + w) out
  values_written mid after e f =
      let long = length-take-le v source ready.values in
      let front : take v mid ≡ take v source = ap (take v) e ∙ take_at (take v source) (drop v out) v long in
      let past : drop (v + w) mid ≡ drop (v + w) out =
      ap (drop (v + w)) e
      ∙ ap (λ (n : ℕ). drop (n + w) (take v source ++ drop v out)) (sym long)
      ∙ drop-append-add (take v source) (drop v out) w
      ∙ drop-drop w v out in
      f ∙ rw (front, past, take_all w values (omega (arith, values_long)))
