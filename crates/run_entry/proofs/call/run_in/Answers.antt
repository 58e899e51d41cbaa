-- `run_in` meets its contract: the run where nothing refuses it. Assumes nothing.
use Rattle.std.proofs.Common.{rules}
use Rattle.run_entry.proofs.RunWays.{result_room, not_refused_there, run_free}
use Rattle.run_entry.proofs.call.run_in.Goals as goal

pub unwrap-outcome-requires : goal.unwrap-outcome-requires
unwrap-outcome-requires g c = not_refused_there _ _ _ _ _ _ _ _ c.requires (search rules) c.decode.ensures c.run.ensures

pub put_result-requires : goal.put_result-requires
put_result-requires g c = result_room c.requires

pub returns : goal.returns
returns g c = run_free _ _ _ _ _ _ _ _ c.requires (search rules) c.decode.ensures c.run.ensures c.unwrap-outcome.ensures c.put_result.ensures
