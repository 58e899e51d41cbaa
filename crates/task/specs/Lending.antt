-- The tables that a call is lent, and their lengths, as the definitions have them.
use Rattle.task.specs.declared.tables.Tables.{Tables}
use Rattle.task.specs.declared.tables.Lengths.{Lengths as TableLengths}
use Rattle.task.specs.declared.operator_rows.OperatorRecord.{OperatorRecord}
use Rattle.task.specs.Table.{Operator, operator, Lent, lent}
use Rattle.task.specs.Check.{Lengths}

abbrev pub lent_tables : Tables → Lent
lent_tables t = lent t.head t.initial.now t.twins.now t.formulas.now t.effects.now t.operators.now

abbrev pub table_lengths : TableLengths → Lengths
table_lengths l =
    record { initial = l.initial; twins = l.twins; formulas = l.formulas; effects = l.effects; operators = l.operators }

abbrev pub operator_of : OperatorRecord → Operator
operator_of o = operator o.precondition o.effect o.cost o.percent
