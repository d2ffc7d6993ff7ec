use Rattle.std.proofs.Common.{string_bytes, arith}
use Rattle.port_words.proofs.WordsSoFar.{added_more}
use Rattle.port_words.proofs.texts.add_all.Goals as goal

pub loop-word-preserved : goal.loop-word-preserved
loop-word-preserved c =
    added_more string_bytes c.args.words.now c.loop-word.word-index c.word-item.result _ _ _ (omega (arith, c.loop-word-test.true)) c.word-item.is c.loop-word.invariant (rw (c.as_str.ensures.value) at c.in_ok-add.ensures)
