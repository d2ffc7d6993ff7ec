-- The entry ends the first beginning that breaks the rule.
use Rattle.trace_rules.proofs.Breaking.{stale_breaks, stale_whole}
use Rattle.trace_rules.proofs.beginnings.first_stale.Goals as goal

pub returns-in-Some : goal.returns-in-Some
returns-in-Some c = stale_breaks c.args.trace.now c.in-Some.entry c.in-Some.ensures

pub returns-in-None : goal.returns-in-None
returns-in-None c = stale_whole c.args.trace.now c.in-None.ensures
