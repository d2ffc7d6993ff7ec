use Rattle.lane_session.proofs.Stepping.{waits-quiet}
use Rattle.lane_session.proofs.running.Session.waits.Goals as goal

pub returns-in-Some : goal.returns-in-Some
returns-in-Some c = waits-quiet c.args.self.now c.args.lane c.in-Some.field-0 c.args.least c.is_under.result c.requires.least (rw c.in-Some.is at c.line.ensures) c.requires.from c.is_under.ensures
