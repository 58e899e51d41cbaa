-- `copy` meets its contract: the n words at i become those at a. Assumes nothing.
use Prim.Native.Nat.{◌+◌, ◌≤◌}
use native.Mathlib.Omega.{arith}
use Rattle.atom_sets.proofs.Words.{copied_more, written_all}
use Rattle.atom_sets.proofs.pass.copy.Goals as goal

pub loop-k-preserved : goal.loop-k-preserved
loop-k-preserved c =
    let h : c.loop-k.k + 4 ≤ c.args.n = omega (arith, c.requires.0, c.loop-k.invariant) in
    (h, omega (arith, c.loop-k.invariant), copied_more c.loop-k.k c.requires.1 h c.loop-k.invariant.2 c.copy_four.ensures)

pub returns-2 : goal.returns-2
returns-2 c =
    let h : c.loop-k.k + 4 ≤ c.args.n = omega (arith, c.requires.0, c.loop-k.invariant) in
    written_all h (omega arith) (copied_more c.loop-k.k c.requires.1 h c.loop-k.invariant.2 c.copy_four.ensures)
