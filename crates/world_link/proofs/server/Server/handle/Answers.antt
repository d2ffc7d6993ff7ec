use Rattle.world_link.proofs.TurnStaysHonest.{refused_answers}
use Rattle.world_link.proofs.EndsStayRight.{refused_to}
use Rattle.world_link.proofs.server.Server.handle.Goals as goal

pub returns-in-Ok-clause-answers : goal.returns-in-Ok-clause-answers
returns-in-Ok-clause-answers c = refused_answers _ c.args.asked c.in-Refuse._xid c.in-Refuse.bytes c.in-Ok.bytes c.in-Refuse.is c.in-Ok.ensures.same c.in-Ok.ensures.short

pub returns-in-Ok-clause-answers_to : goal.returns-in-Ok-clause-answers_to
returns-in-Ok-clause-answers_to c = refused_to _ c.args.end c.args.asked c.in-Refuse._xid c.in-Refuse.bytes c.in-Ok.bytes c.in-Refuse.is c.in-Ok.ensures.same
