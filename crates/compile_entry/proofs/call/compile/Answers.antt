-- `compile` meets its contract: compiles a task file: the compiled task's file and its length, or the refusal and all 0. Assumes nothing.
use mathlib.Core.Bool.{false≢true}
use mathlib.Core.Path.{sym}
use lib.ListN.{length}
use Rattle.entry_tables.specs.Own.{own, small}
use Rattle.entry_tables.proofs.Reading.{not_five}
use Rattle.compiled_file.proofs.FileWays.{same_outputs}
use Rattle.compile_entry.specs.Entry.{compile_entry, compile_entry_by}
use Rattle.compile_entry.proofs.CompileWays.{compile_settled}
use Rattle.compile_entry.proofs.call.compile.Goals as goal

pub returns-then-ne : goal.returns-then-ne
unfolding small
returns-then-ne c =
    compile_settled small c.args.file.now (length c.args.out.now) (length c.args.res.now)
    (not_five c.compile_in-small.result (λ e. false≢true (sym (rw e at c.if-ne.ensures)))) c.compile_in-small.ensures

pub returns : goal.returns
unfolding own compile_entry compile_entry_by
returns c =
    same_outputs (compile_entry c.args.file.now) c.if-file-le128.auto.out c.if-file-le128.auto.res c.compile_in.ensures
