use Rattle.world_link.proofs.EndsStayRight.{ends_if}
use Rattle.world_link.proofs.server.Server.execute_own.Goals as goal

pub returns-clause-stays : goal.returns-clause-stays
returns-clause-stays c m s = c.handle.ensures.stays m (record { bytes = c.args.rec.now; sent = s; sound = c.in_ok-asked.ensures.sound })

pub returns-clause-answers : goal.returns-clause-answers
returns-clause-answers c s = c.handle.ensures.answers (record { bytes = c.args.rec.now; sent = s; sound = c.in_ok-asked.ensures.sound })

pub returns-clause-ends : goal.returns-clause-ends
returns-clause-ends c = ends_if _ _ _ _ c.handle.ensures.ends (λ s. record { bytes = c.args.rec.now; sent = s; sound = c.in_ok-asked.ensures.sound })

pub returns-clause-answers_to : goal.returns-clause-answers_to
returns-clause-answers_to c s = c.handle.ensures.answers_to (record { bytes = c.args.rec.now; sent = s; sound = c.in_ok-asked.ensures.sound })
