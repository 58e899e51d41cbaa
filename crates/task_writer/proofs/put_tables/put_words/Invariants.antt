-- `put_words` meets its contract: words, plain. Assumes nothing.
use Rattle.task_writer.proofs.PutLoops.{PutDone, words_bytes}
use Rattle.task_writer.proofs.put_tables.put_words.Given as goal

abbrev pub invariant-loop-word : goal.invariant-loop-word
invariant-loop-word l = PutDone (words_bytes l.words) l.at l.initial.out l.out l.word-index l.next
