-- `keep_change` meets its contract: a change behind k of them, unless it brings no rule; past the room it is counted only. Assumes nothing.
use mathlib.Core.Path.{sym, ◌∙◌}
use native.Mathlib.Omega.{arith}
use Rattle.rule_writer.specs.Inner.Writes.{changes_in}
use Rattle.change_records.proofs.Keeping.{recorded_idle, recorded_past, recorded_one}
use Rattle.change_records.proofs.keep.keep_change.Goals as goal
use Rattle.change_records.proofs.keep.keep_change.Goals.{then-k-lt-MOST_CHANGES, else-k-lt-MOST_CHANGES}

pub returns-then-brings_none : goal.returns-then-brings_none
returns-then-brings_none c =
    recorded_idle c.args.k c.args.records.now (changes_in c.args.c) (sym c.brings_none.ensures ∙ c.if-brings_none.true)

pub returns : goal.returns
returns c =
    let a = c.args in
    let acts = sym c.brings_none.ensures ∙ c.if-brings_none.false in
    elim c.if-k-lt-MOST_CHANGES.branch [
      | then-k-lt-MOST_CHANGES w ↦
          rw (w.records-is, w.store.ensures) (recorded_one a.k a.records.now (changes_in a.c) acts (omega (arith, c.requires.room)))
      | else-k-lt-MOST_CHANGES w ↦
          rw w.records-is (recorded_past a.k a.records.now (changes_in a.c) acts w.if-k-lt-MOST_CHANGES.false)
    ]
