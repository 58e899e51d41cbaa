-- `put_task` meets its contract: the bytes of a task, from the front; what does not fit is only counted. Assumes nothing.
use native.Mathlib.Omega.{arith}
use lib.Seq.{length-take-le}
use Rattle.task.specs.declared.Table.TheVariants.{Formulas, Effects}
use Rattle.task.specs.Lending.{lent_tables}
use Rattle.task_writer.proofs.WriteWays.{state_in, head_size, state_size, words_size, rows_size, task_put}
use Rattle.task_writer.proofs.write.put_task.Goals as goal

pub put_state-to_twins-requires : goal.put_state-to_twins-requires
put_state-to_twins-requires c =
    let t = c.args.tables.now in
    let p = c.requires in
    (state_in (lent_tables t) p, omega (arith, head_size t.head, length-take-le t.head.variables t.initial.now p.long.initial))

pub put_words-to_formulas-requires : goal.put_words-to_formulas-requires
put_words-to_formulas-requires c =
    let t = c.args.tables.now in
    let p = c.requires in
    omega (arith, head_size t.head, state_size t.initial.now t.head.variables p.long.initial, length-take-le t.head.twins t.twins.now p.long.twins)

pub put_rows-to_effects-requires : goal.put_rows-to_effects-requires
put_rows-to_effects-requires c =
    let t = c.args.tables.now in
    let p = c.requires in
    record { fit = p.long.formulas; room = omega (arith, head_size t.head, state_size t.initial.now t.head.variables p.long.initial, words_size t.twins.now t.head.twins p.long.twins); maps = p.formula_maps }

pub put_rows-to_operators-requires : goal.put_rows-to_operators-requires
put_rows-to_operators-requires c =
    let t = c.args.tables.now in
    let p = c.requires in
    record { fit = p.long.effects; room = omega (arith, head_size t.head, state_size t.initial.now t.head.variables p.long.initial, words_size t.twins.now t.head.twins p.long.twins, rows_size Formulas t.formulas.now t.head.formulas); maps = p.effect_maps }

pub put_rows-requires : goal.put_rows-requires
put_rows-requires c =
    let t = c.args.tables.now in
    let p = c.requires in
    record { fit = p.long.operators; room = omega (arith, head_size t.head, state_size t.initial.now t.head.variables p.long.initial, words_size t.twins.now t.head.twins p.long.twins, rows_size Formulas t.formulas.now t.head.formulas, rows_size Effects t.effects.now t.head.effects); maps = λ i h. tt }

pub returns : goal.returns
returns c =
    task_put (lent_tables c.args.tables.now) c.requires c.put_head-to_state.ensures c.put_state-to_twins.ensures
    c.put_words-to_formulas.ensures c.put_rows-to_effects.ensures c.put_rows-to_operators.ensures c.put_rows.ensures
