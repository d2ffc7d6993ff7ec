use Rattle.std.proofs.Common.{rules}
use Rattle.client_core.proofs.Beginning.{takes-sound}
use Rattle.client_core.proofs.work.Work.take_call.Goals as goal

pub returns-clause-takes : goal.returns-clause-takes
returns-clause-takes c = search rules

pub returns-clause-sound : goal.returns-clause-sound
returns-clause-sound c = takes-sound c.args.self.now _ c.args.rec.now _ (returns-clause-takes c) c.requires.sound
