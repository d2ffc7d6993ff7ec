-- The rest decides, if the whole begins so.
use Rattle.std.proofs.Common.{◌∙◌}
use Rattle.trace_steps.proofs.Ranging.{rest-eq, joined-not}
use Rattle.trace_steps.proofs.ranges.is_followed.Goals as goal

pub returns-in-Some : goal.returns-in-Some
returns-in-Some c = c.same_bytes.ensures ∙ rest-eq c.args.whole.now c.args.middle.now c.in-Some.rest.now c.args.last.now c.in-Some.ensures

pub returns-in-None : goal.returns-in-None
returns-in-None c = joined-not c.args.whole.now c.args.middle.now c.args.last.now c.in-None.ensures
