-- `write_initial` meets its contract: the source's values, then those of the twins. Assumes nothing.
use mathlib.Core.List.{List, ◌++◌}
use mathlib.Core.Path.{◌≡◌, ap, ◌∙◌}
use native.Mathlib.Omega.{arith}
use Prim.Native.Nat.{◌<◌}
use lib.ListN.{drop, take}
use lib.Seq.{length-take-le, get_or-take, paste}
use Rattle.normal_form.specs.Finished.{twin_values}
use Rattle.rule_writer.proofs.Values.{opposed_more, values_written}
use Rattle.rule_writer.proofs.initial.write_initial.Goals as goal

pub loop-k-preserved : goal.loop-k-preserved
loop-k-preserved c =
    let a = c.args in
    let below : c.loop-k.k < a.w = omega (arith, length-take-le a.w a.originals.now c.requires.twins) in
    rw (get_or-take a.w a.originals.now c.loop-k.k 0 below)
    (opposed_more a.source.now a.originals.now a.out.now a.v a.w c.requires _ c.loop-k.out c.loop-k.k
    (ap (λ (l : List _). l ++ drop a.v a.out.now) c.copy_all.ensures) c.loop-k.invariant below)

pub returns : goal.returns
returns c =
    let a = c.args in
    let start = c.copy_all.new.out ++ drop a.v a.out.now in
    let all : c.loop-k.k ≡ a.w = omega (arith, length-take-le a.w a.originals.now c.requires.twins) in
    values_written a.source.now a.originals.now a.out.now a.v a.w c.requires start c.loop-k.out
    (ap (λ (l : List _). l ++ drop a.v a.out.now) c.copy_all.ensures)
    (c.loop-k.invariant ∙ ap (paste start a.v (twin_values (take a.v a.source.now) (take a.w a.originals.now))) all)
