-- `compile` meets its contract: a refusal, with all tables 0, or the compiled task. Assumes nothing.
use Prim.Native.Nat.{ℕ}
use mathlib.Core.Path.{◌≡◌, refl, ap, ◌∙◌}
use lib.ListN.{length, replicate}
use Rattle.std.proofs.Common.{rules}
use Rattle.task.specs.Lending.{lent_tables}
use Rattle.task.proofs.Refusals.{number_some}
use Rattle.normal_form.specs.Compiled.{compiling}
use Rattle.compiler.proofs.Source.{few_variables}
use Rattle.compiler.proofs.Cleared.{blanked_self, same_room}
use Rattle.compiler.proofs.Ways.{refuses_first, roomy, filled-over, variables-fit, filled-done}
use Rattle.compiler.proofs.call.compile.Goals as goal

pub returns-in_err-first_number : goal.returns-in_err-first_number
returns-in_err-first_number c =
    let e = c.in_err-first_number.field-0.0 in
    refuses_first (lent_tables c.args.source.now) c.from_residual.result e c.from_residual.ensures.1
    (c.in_err-first_number.ensures.refuses (number_some e)) c.clear_all.ensures

pub counts_of-counts-requires : goal.counts_of-counts-requires
counts_of-counts-requires c =
    let passed = c.in_ok-first_number.ensures.passed refl in
    (few_variables (lent_tables c.args.source.now) passed.passes, passed.initial)

pub fill-requires : goal.fill-requires
fill-requires c =
    roomy (c.in_ok-first_number.ensures.passed refl) c.counts_of-counts.ensures (blanked_self c.clear_all.ensures)

pub returns-in_default : goal.returns-in_default
returns-in_default c =
    filled-over (c.in_ok-first_number.ensures.passed refl) c.counts_of-counts.ensures c.in_default.field-0 c.in_default.ensures
    (blanked_self c.clear_all.ensures)
    ∙ ap (compiling (lent_tables c.args.source.now)) (same_room c.clear_all.ensures)

pub compiled_head-requires : goal.compiled_head-requires
compiled_head-requires c =
    variables-fit (c.in_ok-first_number.ensures.passed refl) c.counts_of-counts.ensures c.in-Ok.ensures

pub returns : goal.returns
returns c =
    let zero : c.fill-2.new.self ≡ replicate (length c.fill.new.scratch) 0 = search rules in
    filled-done (c.in_ok-first_number.ensures.passed refl) c.counts_of-counts.ensures c.in-Ok.ensures c.compiled_head.ensures
    (zero ∙ ap (λ (m : ℕ). replicate m 0) c.fill.auto.scratch)
    ∙ ap (compiling (lent_tables c.args.source.now)) (same_room c.clear_all.ensures)
