-- `name_roots` meets its contract: the rows that operators name get columns, no others. Assumes nothing.
use native.Mathlib.Omega.{arith}
use mathlib.Core.Path.{◌≡◌, ap, ◌∙◌}
use lib.ListN.{length, take, replicate}
use Rattle.std.proofs.Common.{rules}
use Rattle.task.specs.Table.{Operator}
use Rattle.effect_batches.proofs.Numbers.{cleared_front, renumbered_then, root_below}
use Rattle.effect_batches.proofs.number.name_roots.Goals as goal

pub loop-o-init : goal.loop-o-init
loop-o-init c =
    let zeros : c.fill.new.self ≡ replicate (length (take c.args.rows c.args.notes.now)) 0 = search rules in
    let all = cleared_front c.args.notes.now c.requires.within zeros in (all.0, omega arith, all.1)

pub loop-o-preserved : goal.loop-o-preserved
loop-o-preserved c =
    let effect = ap (λ (o : Operator). o.effect) c.operator_at-operator.ensures in
    let low = root_below c.loop-o.o c.operator_at-operator.result.effect c.requires.roots (omega arith) effect in
    let named = c.name-last.ensures c.args.rows low in
    (c.name-last.auto.notes ∙ c.loop-o.invariant.0, omega (arith, named.once), renumbered_then c.loop-o.invariant.2 named)
