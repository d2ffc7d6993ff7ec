use Rattle.std.proofs.Common.{◌<◌, length, rules, refl}
use Rattle.world_link.specs.Ends.{world_ends}
use Rattle.world_link.specs.View.{seen}
use Rattle.world_link.proofs.Pushes.{handed_at, handed_ends, on_some}
use Rattle.world_link.proofs.world.World.hand_out_at.Goals as goal

pub returns-clause-hands : goal.returns-clause-hands
returns-clause-hands c =
    let lt : c.args.place < length c.args.self.now.server.ready.items = search rules in
    let reply = c.index-reply.result.now in
    handed_at (seen c.args.self.now) _ c.args.self.now.server.told.items _ c.args.self.now.server.ready.items _ c.args.place reply.end reply c.in-Ok.bytes _ refl refl refl (search rules)
    (on_some c.remove.result _ _ (c.remove.ensures.succeeds reply c.requires) c.remove.ensures.items) lt c.index-reply.ensures c.in-Ok.ensures.0 c.in-Ok.ensures.1

pub returns-clause-ends : goal.returns-clause-ends
returns-clause-ends c =
    let lt : c.args.place < length c.args.self.now.server.ready.items = search rules in
    let reply = c.index-reply.result.now in
    handed_ends (world_ends c.args.self.now) _ _ _ c.args.place reply c.in-Ok.bytes _ refl (search rules) (on_some c.remove.result _ _ (c.remove.ensures.succeeds reply c.requires) c.remove.ensures.items) lt c.index-reply.ensures c.in-Ok.ensures.0
    c.in-Ok.ensures.1
