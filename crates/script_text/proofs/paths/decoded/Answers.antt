use Rattle.std.proofs.Common.{arith, rules}
use Rattle.script_text.proofs.Decoding.{stuck, goes_on, ends}
use Rattle.script_text.proofs.paths.decoded.Goals as goal

pub returns-in_default : goal.returns-in_default
returns-in_default c = stuck _ _ _ c.loop-rest.invariant (grind (arith, c.loop-rest-test.ensures)) c.in_default.ensures

pub loop-rest-preserved : goal.loop-rest-preserved
loop-rest-preserved c = rw c.in_ok-push.ensures.items (goes_on _ _ _ _ _ c.loop-rest.invariant (grind (arith, c.loop-rest-test.ensures)) c.in-Some.ensures)

pub returns : goal.returns
returns c = ends _ _ _ c.loop-rest.invariant (search rules)
