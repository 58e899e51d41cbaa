-- `passed_at` meets its contract: how many variables from v on are passed over at once: none, if effect e names an atom of v; those left of v's word,
-- if it names none of theirs either; else v alone. Assumes nothing.
use Rattle.operators.proofs.Passing.{passes_rest, passes_one, passes_none}
use Rattle.operators.proofs.walk.passed_at.Goals as goal

pub returns-then-rest-eq0 : goal.returns-then-rest-eq0
returns-then-rest-eq0 c =
    let a = c.args in passes_rest a.frame a.notes.now a.e a.v c.set_from-rest.result c.set_from-rest.ensures c.if-rest-eq0.true

pub returns-then-rest-eq0-2 : goal.returns-then-rest-eq0-2
returns-then-rest-eq0-2 c =
    let a = c.args in passes_one a.frame a.notes.now a.e a.v c.set_from-rest.result c.set_from-rest.ensures
    c.if-rest-eq0-2.true

pub returns-else-rest-eq0-2 : goal.returns-else-rest-eq0-2
returns-else-rest-eq0-2 c =
    let a = c.args in passes_none a.frame a.notes.now a.e a.v c.set_from-rest.result c.set_from-rest.ensures
    c.if-rest-eq0-2.false
