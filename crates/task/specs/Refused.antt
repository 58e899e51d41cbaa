-- The numbers of the refusals (01, "Where each number is given"; 02 has those from 21 on), and what an answer tells: 0, or the number of its refusal.
use Rattle.std.specs.Prelude.{ℕ, Result, Ok, Err}
use Rattle.task.specs.declared.refusal.Refusal.{Refusal}
use Rattle.task.specs.declared.refusal.Refusal.TheVariants as r

abbrev pub number_of : Refusal → ℕ
number_of r.CutShort = 1
number_of r.SpareBit = 2
number_of r.NeedlessField = 3
number_of r.BytesBehind = 4
number_of r.ShortTable = 5
number_of r.Counts = 6
number_of r.Goal = 7
number_of r.InitialByte = 8
number_of r.Twin = 9
number_of r.Formula = 10
number_of r.Effect = 11
number_of r.Operator = 12
number_of r.SourceTwins = 13
number_of r.ShortScratch = 14
number_of r.NoRoom = 15
number_of r.State = 16
number_of r.NoOperator = 17
number_of r.NotApplicable = 18
number_of r.LongSequence = 19
number_of r.ShortOutput = 20
number_of r.ManyVariables = 21
number_of r.NoPlan = 22
number_of r.LongPlan = 23
number_of r.Percent = 24
number_of r.ValueCount = 25
number_of r.Value = 26

abbrev pub told : {A : Type 0} → Result A Refusal → ℕ
told (Ok x) = 0
told (Err e) = number_of e
