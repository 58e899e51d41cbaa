-- `find_places` meets its contract: the places of w twins, the last one first: of equal originals the first stays. Assumes nothing.
use mathlib.Core.List.{List, ◌++◌}
use mathlib.Core.Path.{ap, ◌∙◌}
use native.Mathlib.Omega.{arith}
use Prim.Native.Nat.{ℕ}
use lib.ListN.{drop, replicate}
use lib.Seq.{length-take-le}
use Rattle.rule_writer.proofs.Placing.{numbered_none, numbered_more}
use Rattle.rule_writer.proofs.places.find_places.Goals as goal

pub loop-k-init : goal.loop-k-init
loop-k-init c =
    let a = c.args in
    numbered_none a.originals.now a.places.now a.v a.w c.requires _
    (ap (λ (l : List ℕ). l ++ drop a.v a.places.now)
    (c.fill.ensures.after (λ y e. e) ∙ ap (λ (n : ℕ). replicate n a.w) (length-take-le a.v a.places.now c.requires.space)))

pub loop-k-preserved : goal.loop-k-preserved
loop-k-preserved c =
    let a = c.args in
    numbered_more a.originals.now a.places.now a.v a.w c.requires c.loop-k.places c.loop-k.k c.loop-k.invariant (omega arith) (omega arith)
