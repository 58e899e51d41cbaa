-- `put_words` meets its contract: words, plain. Assumes nothing.
use lib.ListN.{get_or}
use Rattle.task_writer.proofs.PutLoops.{put_begin, put_row_more, words_bytes, words_none_put, words_more_put, word_length}
use Rattle.task_writer.proofs.put_tables.put_words.Goals as goal

pub loop-word-init : goal.loop-word-init
loop-word-init c =
    let a = c.args in put_begin (words_bytes a.words.now) a.at a.out.now (words_none_put a.words.now)

pub loop-word-preserved : goal.loop-word-preserved
loop-word-preserved c =
    let a = c.args in
    let at = c.loop-word in
    put_row_more (words_bytes a.words.now) a.at a.out.now at.out at.word-index at.next at.invariant c.put_word-next.ensures
    (word_length (get_or a.words.now at.word-index 0)) (words_more_put a.words.now at.word-index c.loop-word-test.true)
