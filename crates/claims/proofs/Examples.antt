-- The worked examples hold: one theorem computes the whole table.
use mathlib.Core.Path.{◌≡◌, refl}
use mathlib.Core.List.{map}
use Rattle.task.specs.Bounded.{every, upto, or_else, first_number}
use Rattle.task.specs.Table.{formula_kind, effect_kind, row_at, operator_at, task_of}
use Rattle.task.specs.Check.{counts_kept, goal_kept, long_enough, initial_kept, twin_kept, twins_kept, formula_words_kept, formula_kept, formulas_kept, effect_words_kept, effect_kept, effects_kept, operator_kept, percent_kept, operator_number, operators_number, refusal}
use Rattle.task.specs.Words.{joined as words-joined, row_words, operator_row_words, words_of, operator_words, head_of, lent_of, padded}
use Rattle.task.specs.Semantics.{holds, effcond, value_after, apply}
use Rattle.task.specs.Tree.{formula_node, formula_within, formula_of, effect_node, effect_within, effect_of}
use Rattle.task.specs.Run.{operator_of, effect_of_operator, goal_holds, applicable, charge_of, charge, after_step, answer, run_on, plain_run}
use Rattle.normal_form.specs.Builder.{give, bind, each, place, including, same_row, row, twin, variable_row, twin_row, start, choice, join_as, join, pair}
use Rattle.normal_form.specs.Image.{literal, image}
use Rattle.normal_form.specs.Conditions.{guarded, condition}
use Rattle.normal_form.specs.Operators.{deletes_of, changes_of, built_operator, parts}
use Rattle.normal_form.specs.Assembly.{rule, with_twin, rules_of, rules, atom_row, rule_rows, write_rule, write_rules, assemble_operator, assemble, unassembled}
use Rattle.normal_form.specs.Finished.{built, assembled, twin_values, finished}
use Rattle.normal_form.specs.Compiled.{compile_scratch_kept, fits, compile_refusal, nothing_given, task_given, outcome_by, compiling}
use Rattle.file_format.specs.Parse.{next, kept as kept-value, byte_read, word_read, field_read, fields_read, mapped_read, table_read}
use Rattle.file_format.specs.Bytes.{bytes_for}
use Rattle.file_format.specs.Reading.{room, head_read, head_kept, bit_of, spare_clear, initial_read, twin_read, row_read, formula_read, effect_read, operator_fields_read, operator_read, tables_read, task_read, at_end, reading}
use Rattle.printing.specs.Lines.{digits_within, decimal, word, line, numbered, values, initial_line, head_line, twin_lines, lines, refusal_line, bytes}
use Rattle.plan.specs.Outcome.{state_kept, step_scratch_kept as run-scratch-kept, sequence_kept, early_refusal, run_refusal, run_refused, end_of, run_answer, run_told, run_by, ran}
use Rattle.entry_tables.specs.Own.{own, compile_number}
use Rattle.compile_text.specs.Text.{compiled_text_by, compiled_text, text_by, text_of}
use Rattle.claims.specs.Examples.{outcome, Example, table}

-- every entry of the table is told as it stands there
pub table_holds : map (λ (x : Example). outcome x.asked) table ≡ map (λ (x : Example). x.told) table
unfolding
    outcome every upto or_else first_number formula_kind effect_kind row_at operator_at task_of counts_kept goal_kept long_enough initial_kept twin_kept twins_kept
    formula_words_kept formula_kept formulas_kept effect_words_kept effect_kept effects_kept operator_kept percent_kept operator_number operators_number refusal
    words-joined row_words operator_row_words words_of operator_words head_of lent_of holds effcond value_after apply formula_node formula_within
    formula_of effect_node effect_within effect_of operator_of effect_of_operator goal_holds applicable charge_of charge after_step answer run_on
    plain_run give bind each place including same_row row twin variable_row twin_row start choice join_as join pair literal image
    guarded condition deletes_of changes_of built_operator parts rule with_twin rules_of rules atom_row rule_rows write_rule write_rules
    assemble_operator assemble unassembled built assembled twin_values finished
    compile_scratch_kept fits compile_refusal padded nothing_given task_given outcome_by compiling
    next kept-value byte_read word_read field_read fields_read mapped_read table_read bytes_for room head_read head_kept bit_of spare_clear initial_read
    twin_read row_read formula_read effect_read operator_fields_read operator_read tables_read task_read at_end reading
    digits_within decimal word line numbered values initial_line head_line twin_lines lines refusal_line bytes
    state_kept run-scratch-kept sequence_kept early_refusal run_refusal run_refused end_of run_answer run_told run_by ran
    own compile_number compiled_text_by compiled_text text_by text_of
table_holds = refl
