-- What an open opens.
use Rattle.trace_claims.proofs.Digesting.{opens-ok, not-opens}
use Rattle.trace_claims.proofs.slots.holds_there.Goals as goal

pub returns-in-Open : goal.returns-in-Open
returns-in-Open c m h has within = opens-ok m h c.args.place c.args.named.now.course.lane c.in-Open.slot c.args.file.now c.args.named.now.course.work _ c.in-Open.is (c.slot_holds.ensures m h has within)

pub returns-in_default : goal.returns-in_default
returns-in_default c m h has within = not-opens m h c.args.place c.args.named.now.course.lane c.args.file.now c.args.named.now.course.work c.in_default.not-Open
