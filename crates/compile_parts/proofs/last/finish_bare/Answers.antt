-- `finish_bare` meets its contract: rules and operators, initial values, and the rows that were built. Assumes nothing.
use Rattle.std.proofs.Common.{rules, ℕ, ◌*◌, ◌≡◌, List, ◌++◌, take, drop}
use mathlib.Core.Path.{refl, ap}
use Rattle.std.specs.Prelude.{Result, Ok, Err}
use Rattle.std.specs.Result.{IsErrAnd}
use Rattle.formula_builder.specs.Inner.Held.{Step}
use Rattle.compile_parts.specs.declared.Counts.{Counts}
use Rattle.compile_parts.specs.declared.Filled.{Filled}
use Rattle.compile_parts.specs.Inner.FinishesBare.{BareOutputs, BareLacks, BareFinished}
use Rattle.compile_parts.proofs.last.finish_bare.Goals as goal

-- no room that `?` returns onward
onward :
    {E : Type 0} {k : Counts} {w : Step} {operators originals records : List ℕ} {x y : BareOutputs} (initial built : List ℕ) (r : Result Filled E) (e : E)
    → IsErrAnd r (λ z. z ≡ e)
    → BareLacks k w operators originals records x y
    → BareFinished k w initial operators originals built records x y r
onward initial built (Ok z) e given lacks = absurd given
onward initial built (Err z) e given lacks = lacks

pub assemble_operators-requires : goal.assemble_operators-requires
assemble_operators-requires c = (c.requires.assembles, c.requires.twinned)

pub returns-in_err-effects : goal.returns-in_err-effects
returns-in_err-effects c =
    onward c.args.initial.now c.args.b.now.table.now c.from_residual.result c.in_err-effects.field-0.0 c.from_residual.ensures.1
    (record { misfit = λ fits. c.in_err-effects.ensures fits; values = refl; table = refl })

pub returns : goal.returns
returns c =
    let b = c.args.b.now in
    let made = c.in_ok-effects.ensures in
    let words = 3 * b.rows in
    let copied : c.copy_all.new.out ≡ take words b.table.now = search rules in
    record {
      holding = made.done;
      within = made.within;
      values = c.write_initial.ensures;
      table = ap (λ (front : List ℕ). front ++ drop words c.args.table.now) copied;
      answer = refl;
    }
