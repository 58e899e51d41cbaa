-- `finish_all` meets its contract: the finished task with its twins, or no room. Assumes nothing.
use Rattle.std.proofs.Common.{rules, ℕ, ◌≡◌, List, ◌++◌, take, drop}
use mathlib.Core.Path.{ap}
use Rattle.compiler.proofs.frames.finish_all.Goals as goal

pub returns-clause-twins : goal.returns-clause-twins
returns-clause-twins c =
    let b = c.args.b.now in
    let copied : c.copy_all.new.out ≡ take b.twins b.originals.now = search rules in
    ap (λ (front : List ℕ). front ++ drop b.twins c.args.originals.now) copied
