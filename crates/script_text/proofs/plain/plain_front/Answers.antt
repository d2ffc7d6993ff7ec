use Rattle.std.proofs.Common.{arith, rules, ◌*◌}
use Rattle.script_text.proofs.Plainly.{next_block, fewer}
use Rattle.script_text.proofs.plain.plain_front.Goals as goal

pub loop-block-preserved : goal.loop-block-preserved
loop-block-preserved c = next_block c.args.text.now c.loop-block.block c.loop-block.invariant (c.is_plain.ensures (search rules))

pub returns-clause-plain : goal.returns-clause-plain
returns-clause-plain c = fewer c.args.text.now _ (256 * c.loop-block.block) (omega (arith, c.loop-block-test.false)) c.loop-block.invariant
