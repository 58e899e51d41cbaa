-- `find_end` meets its contract: the search, then the best end. Assumes nothing.
use mathlib.Core.Path.{refl}
use Rattle.std.specs.Prelude.{Some, None}
use Rattle.state_queue.proofs.Playing.{roomy_on}
use Rattle.cheapest_plan.proofs.Calls.{search_roomy, searchable, searched, end_ready, end_found}
use Rattle.cheapest_plan.proofs.call.find_end.Goals as goal

pub search-requires-clause-roomy : goal.search-requires-clause-roomy
search-requires-clause-roomy c =
    (search_roomy c.requires.0 c.requires.1, c.requires.0.effects)

pub search-requires-clause-searchable : goal.search-requires-clause-searchable
search-requires-clause-searchable c = searchable c.requires.0 c.requires.1 refl c.code_of-start.ensures

pub returns-in_err-first : goal.returns-in_err-first
returns-in_err-first c =
    let states = c.requires.1 in
    let coded = c.code_of-start.ensures in
    rw c.from_residual.ensures
    (record {
      told = λ v. searched v states refl None c.search.new.words coded (c.in_err-first.ensures.told (searchable v states refl coded));
    })

pub best_end-requires-clause-roomy : goal.best_end-requires-clause-roomy
best_end-requires-clause-roomy c =
    let v = c.requires.0 in
    let states = c.requires.1 in
    let coded = c.code_of-start.ensures in
    let roomy = roomy_on (search_roomy v states) c.search.auto.words in
    let found = c.in_ok-first.ensures.told (searchable v states refl coded) in
    (roomy, end_ready v states roomy (searched v states refl (Some c.in_ok-first.first) c.search.new.words coded found))

pub returns : goal.returns
returns c =
    let states = c.requires.1 in
    let coded = c.code_of-start.ensures in
    let roomy = roomy_on (search_roomy c.requires.0 states) c.search.auto.words in
    let best = c.best_end.ensures in
    record {
      told = λ v.
          let found = c.in_ok-first.ensures.told (searchable v states refl coded) in
          let end = searched v states refl (Some c.in_ok-first.first) c.search.new.words coded found in
          end_found v states roomy end best.there (best.told (end_ready v states roomy end));
    }
