use Rattle.std.proofs.Common.{rules}
use Rattle.world_link.proofs.WorldTellsCalls.{hands_first, hands_left, none_hands, none_ready}
use Rattle.world_link.proofs.world.World.hand_out.Goals as goal

pub returns-then-is_empty-clause-hands : goal.returns-then-is_empty-clause-hands
returns-then-is_empty-clause-hands c = none_hands _ _ _ _ (none_ready c.args.self.now.server.ready.items (search rules)) c.be_silent.ensures.silent

pub returns-clause-hands : goal.returns-clause-hands
returns-clause-hands c = hands_first _ _ _ _ c.hand_out_at.ensures.hands

pub returns-clause-memory : goal.returns-clause-memory
returns-clause-memory c = hands_left _ _ _ 0 _ c.hand_out_at.ensures.hands
