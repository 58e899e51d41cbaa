-- `put_tables` meets its contract: the layout, from the front; what does not fit is only counted. Assumes nothing.
use native.Mathlib.Omega.{arith}
use Prim.Native.Nat.{◌*◌}
use lib.Seq.{length-take-le}
use Rattle.task.specs.Table.{operator_width}
use Rattle.task.specs.Lending.{lent_tables}
use Rattle.task_writer.proofs.WriteWays.{words_size}
use Rattle.layouts.proofs.LayWays.{head_put, tables_put}
use Rattle.layouts.proofs.laying.put_tables.Goals as goal

pub put_bytes-to_twins-requires : goal.put_bytes-to_twins-requires
put_bytes-to_twins-requires c =
    let t = c.args.tables.now in
    let p = c.requires in
    omega (arith, (head_put t.head c.put_words-to_state.ensures).1, length-take-le t.head.variables t.initial.now p.long.initial)

pub put_words-to_formulas-requires : goal.put_words-to_formulas-requires
put_words-to_formulas-requires c =
    let t = c.args.tables.now in
    let p = c.requires in
    omega (arith, (head_put t.head c.put_words-to_state.ensures).1, length-take-le t.head.variables t.initial.now p.long.initial, length-take-le t.head.twins t.twins.now p.long.twins)

pub put_words-to_effects-requires : goal.put_words-to_effects-requires
put_words-to_effects-requires c =
    let t = c.args.tables.now in
    let p = c.requires in
    omega (arith, (head_put t.head c.put_words-to_state.ensures).1, length-take-le t.head.variables t.initial.now p.long.initial, words_size t.twins.now t.head.twins p.long.twins, length-take-le (3 * t.head.formulas) t.formulas.now p.long.formulas)

pub put_words-to_operators-requires : goal.put_words-to_operators-requires
put_words-to_operators-requires c =
    let t = c.args.tables.now in
    let p = c.requires in
    omega (arith, (head_put t.head c.put_words-to_state.ensures).1, length-take-le t.head.variables t.initial.now p.long.initial, words_size t.twins.now t.head.twins p.long.twins, words_size t.formulas.now (3 * t.head.formulas) p.long.formulas, length-take-le (3 * t.head.effects) t.effects.now p.long.effects)

pub put_words-requires : goal.put_words-requires
put_words-requires c =
    let t = c.args.tables.now in
    let p = c.requires in
    omega (arith, (head_put t.head c.put_words-to_state.ensures).1, length-take-le t.head.variables t.initial.now p.long.initial, words_size t.twins.now t.head.twins p.long.twins, words_size t.formulas.now (3 * t.head.formulas) p.long.formulas, words_size t.effects.now (3 * t.head.effects) p.long.effects, length-take-le (operator_width * t.head.operators) t.operators.now p.long.operators)

pub returns : goal.returns
returns c =
    let t = c.args.tables.now in
    tables_put (lent_tables t) (head_put t.head c.put_words-to_state.ensures).0 c.put_bytes-to_twins.ensures c.put_words-to_formulas.ensures
    c.put_words-to_effects.ensures c.put_words-to_operators.ensures c.put_words.ensures
