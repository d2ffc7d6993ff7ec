use Rattle.std.proofs.Common.{List, ℕ, string_bytes, eqb, sym, arith}
use Rattle.std.specs.List.{starts_with}
use Rattle.port_words.proofs.WordsSoFar.{none_more, some_here}
use Rattle.port_words.proofs.texts.are_named.Goals as goal

pub loop-word-preserved : goal.loop-word-preserved
loop-word-preserved c =
    none_more string_bytes (λ (w : List ℕ). starts_with eqb w c.args.option.now) c.args.words.now c.loop-word.word-index c.word-item.result (omega (arith, c.loop-word-test.true)) c.word-item.is c.loop-word.invariant
    (sym (rw (c.as_str.ensures.value) at c.if-begins.ensures))

pub returns-then-begins : goal.returns-then-begins
returns-then-begins c =
    sym (some_here string_bytes (λ (w : List ℕ). starts_with eqb w c.args.option.now) c.args.words.now c.loop-word.word-index c.word-item.result (omega (arith, c.loop-word-test.true)) c.word-item.is
    (sym (rw (c.as_str.ensures.value) at c.if-begins.ensures)))
