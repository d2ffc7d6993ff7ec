use Rattle.std.proofs.Common.{◌≡◌, ◌∙◌, take, string_bytes, arith, sym}
use Rattle.std.proofs.lemmas.List.{take_all}
use Rattle.port_words.specs.Portmaps.{is_portmap}
use Rattle.port_words.proofs.WordsSoFar.{none_more, first_here, none_here}
use Rattle.port_words.proofs.portmap.place.Goals as goal

pub loop-word-preserved : goal.loop-word-preserved
loop-word-preserved c = (
  omega (arith, c.loop-word.invariant.0),
  none_more string_bytes is_portmap c.args.words.now c.loop-word.word-index c.word-item.result (omega (arith, c.loop-word-test.true)) c.word-item.is c.loop-word.invariant.1
      (sym (rw (c.as_str.ensures.value) at c.if-names_portmap.ensures)),
)

pub returns-then-names_portmap-clause-within : goal.returns-then-names_portmap-clause-within
returns-then-names_portmap-clause-within c = omega (arith, c.loop-word.invariant.0, c.loop-word-test.true)

pub returns-then-names_portmap-clause-place : goal.returns-then-names_portmap-clause-place
returns-then-names_portmap-clause-place c =
    c.loop-word.invariant.0
    ∙ first_here string_bytes is_portmap c.args.words.now c.loop-word.word-index c.word-item.result (omega (arith, c.loop-word-test.true)) c.word-item.is c.loop-word.invariant.1
    (sym (rw (c.as_str.ensures.value) at c.if-names_portmap.ensures))

pub returns-clause-place : goal.returns-clause-place
returns-clause-place c =
    let all : take c.loop-word.word-index c.args.words.now ≡ c.args.words.now = take_all c.loop-word.word-index c.args.words.now (omega (arith, c.loop-word-test.false)) in
    let none = rw all at c.loop-word.invariant.1 in
    let len = none_here string_bytes is_portmap c.args.words.now none in
    omega (arith, c.loop-word.invariant.0, len, c.loop-word-test.false, c.loop-word.auto.word-index-end)
