-- `meet_roots` meets its contract: each operator names its effect. Assumes nothing.
use native.Mathlib.Omega.{arith}
use mathlib.Core.Path.{refl, ap, ◌∙◌}
use Rattle.task.specs.Table.{Operator}
use Rattle.effect_batches.proofs.Firsts.{first_met, comes_root}
use Rattle.effect_batches.proofs.first.meet_roots.Goals as goal

pub loop-k-preserved : goal.loop-k-preserved
loop-k-preserved c =
    let effect = ap (λ (o : Operator). o.effect) c.operator_at-operator.ensures in (
      c.meet.auto.first ∙ c.loop-k.invariant.0,
      λ effects. first_met c.meet.ensures (comes_root {k = c.loop-k.k} (omega arith) refl effect) (c.loop-k.invariant.1 effects),
    )
