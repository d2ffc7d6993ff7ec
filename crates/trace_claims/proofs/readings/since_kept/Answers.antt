-- The open, or such a reading.
use Rattle.trace_claims.proofs.Clocking.{kept-found, kept-none}
use Rattle.trace_claims.proofs.readings.since_kept.Goals as goal

pub returns-in-Some : goal.returns-in-Some
returns-in-Some c = rw c.after_within.ensures (kept-found c.args.entries.now c.args.opened c.args.longest c.in-Some.at (rw c.in-Some.is at c.first_young.ensures))

pub returns-in-None : goal.returns-in-None
returns-in-None c = kept-none c.args.entries.now c.args.opened c.args.longest (rw c.in-None.is at c.first_young.ensures)
