-- `compile_short` meets its contract: compiles a source in small tables: through small room, and only if the compiled task has no room there, 15,
-- through the full room. Assumes nothing.
use mathlib.Core.Bool.{false≢true}
use mathlib.Core.Path.{sym}
use Rattle.compiled_file.specs.Inner.Giving.{small_room}
use Rattle.compiled_file.proofs.CompileWays.{told_no_room, small_settled}
use Rattle.compiled_file.proofs.compiling.compile_short.Goals as goal

pub returns-then-ne : goal.returns-then-ne
unfolding small_room
returns-then-ne c =
    small_settled _ _ c.requires
    (λ h. false≢true (sym (rw (told_no_room c.compile_in-small.result h) at c.if-ne.ensures))) c.compile_in-small.ensures
