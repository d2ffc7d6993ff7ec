use Rattle.std.proofs.Common.{rules, refl, ap}
use Rattle.world_link.specs.Holding.{HeldReply}
use Rattle.world_link.proofs.Pushes.{held_by}
use Rattle.world_link.proofs.server.Server.hold.Goals as goal

pub returns-clause-ends : goal.returns-clause-ends
returns-clause-ends c = held_by _ _ c.args.self.now.held.items _ c.in_ok-held.held c.args.reply refl refl (search rules) (ap (λ (x : HeldReply). x.reply) c.in_ok-held.ensures)
