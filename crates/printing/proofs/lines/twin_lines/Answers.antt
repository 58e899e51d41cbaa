-- `twin_lines` meets its contract: lines w, for the twins from variable `first` on. Assumes nothing.
use Prim.Native.Nat.{◌+◌}
use native.Mathlib.Omega.{arith}
use mathlib.Core.Path.{refl}
use Rattle.printing.specs.Inner.Put.{original_at}
use Rattle.printing.proofs.Texts.{rows_none, rows_more}
use Rattle.printing.proofs.lines.twin_lines.Goals as goal

pub loop-k-init : goal.loop-k-init
loop-k-init c = rows_none 119 c.args.first (original_at c.args.twins.now) c.args.out.now c.args.at

pub loop-k-preserved : goal.loop-k-preserved
loop-k-preserved c =
    rows_more 119 c.args.first (c.args.first + c.loop-k.k) c.loop-k.k (original_at c.args.twins.now)
    c.loop-k.invariant c.line-next.ensures refl (omega arith)
