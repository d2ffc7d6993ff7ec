use Rattle.lane_session.proofs.Stepping.{quiet-all}
use Rattle.lane_session.proofs.running.Session.rests.Goals as goal

pub returns-in-None : goal.returns-in-None
returns-in-None c = quiet-all c.args.script.now c.args.self.now c.have_begun.result (rw c.count.ensures at c.have_begun.ensures) (rw c.in-None.is at c.requires)
