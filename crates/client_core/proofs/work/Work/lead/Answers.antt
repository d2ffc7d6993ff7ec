use Rattle.client_core.proofs.Leading.{ends-sound}
use Rattle.client_core.proofs.Refusing.{done-sound}
use Rattle.client_core.proofs.work.Work.lead.Goals as goal

pub returns-in-Done-clause-sound : goal.returns-in-Done-clause-sound
returns-in-Done-clause-sound c = ends-sound c.args.self.now c.args.at c.in-Done.answer c.end.new.self c.end.ensures (done-sound c.args.self.now c.args.at c.args.next c.in-Done.answer c.in-Done.is c.requires.awaits)
