use Rattle.std.proofs.Common.{rules, sym, ◌∙◌}
use Rattle.world_link.specs.Pairs.{seen_pair}
use Rattle.world_link.proofs.PairReceiving.{hands_to, none_to}
use Rattle.world_link.proofs.pair_world.PairWorld.hand_out.Goals as goal

pub returns-in-Some-clause-hands : goal.returns-in-Some-clause-hands
returns-in-Some-clause-hands c = hands_to c.args.end (seen_pair c.args.self.now) _ c.in-Some.place _ c.hand_out_at.result (sym c.first_ready.ensures.first ∙ c.in-Some.is) c.hand_out_at.ensures.hands c.hand_out_at.ensures.ends

pub returns-in-None-clause-hands : goal.returns-in-None-clause-hands
returns-in-None-clause-hands c = none_to c.args.end (seen_pair c.args.self.now) _ _ c.be_silent.result (sym c.first_ready.ensures.first ∙ c.in-None.is) c.be_silent.ensures.silent c.be_silent.ensures.memory c.be_silent.ensures.ends
