-- The parts before and behind the entry.
use Rattle.std.proofs.Common.{sym}
use Rattle.trace_steps.proofs.Listing.{rest-is}
use Rattle.trace_steps.proofs.lists.without.Goals as goal

pub returns : goal.returns
returns c = rw (sym (rest-is c.args.place c.args.entries.now), sym c.head.ensures, sym c.tail.ensures) c.joined.ensures
