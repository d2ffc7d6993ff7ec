-- The reply, by its results.
use Rattle.trace_calls.proofs.Replies.{found-to, no-results-there}
use Rattle.trace_calls.proofs.replying.reply_to.Goals as goal

pub returns-in-Some-clause-finds : goal.returns-in-Some-clause-finds
returns-in-Some-clause-finds c = found-to c.results_of.result c.args.xid c.args.call.now c.args.rec.now c.in-Some.results.now c.in-Some.ensures.finds c.results_of.ensures.finds

pub returns-in-None-clause-finds : goal.returns-in-None-clause-finds
returns-in-None-clause-finds c = no-results-there c.args.xid c.args.call.now c.args.rec.now c.in-None.ensures.finds
