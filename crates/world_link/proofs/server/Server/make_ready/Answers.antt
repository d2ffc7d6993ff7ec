use Rattle.std.proofs.Common.{rules, refl}
use Rattle.world_link.proofs.Pushes.{readied_by}
use Rattle.world_link.proofs.server.Server.make_ready.Goals as goal

pub returns-in_ok-push_back-clause-ends : goal.returns-in_ok-push_back-clause-ends
returns-in_ok-push_back-clause-ends c = readied_by _ _ c.args.end c.args.reply c.in-Some.bytes _ c.in-Some.is refl (search rules)
