use Rattle.std.proofs.Common.{refl}
use Rattle.world_link.specs.Pairs.{seen_pair}
use Rattle.world_link.proofs.PairHonest.{honest_pair, dials_routed}
use Rattle.world_link.proofs.PairTells.{dials_at}
use Rattle.world_link.proofs.WorldKeepsContract.{dials_honest}
use Rattle.world_link.proofs.pair_world.PairWorldPairLink.dial.Goals as goal

pub returns-clause-told : goal.returns-clause-told
returns-clause-told c = dials_at c.args.end (seen_pair c.args.self.now) _ c.args.port c.dial_port.result c.requires c.dial_port.ensures.exact c.dial_port.ensures.ends

pub returns-clause-honest : goal.returns-clause-honest
returns-clause-honest c h = honest_pair _ refl (dials_honest _ _ c.args.port c.dial_port.result c.dial_port.ensures.exact h.world) (dials_routed _ _ c.args.end c.args.port c.dial_port.result c.dial_port.ensures.ends h.routed)

pub returns-clause-exact : goal.returns-clause-exact
returns-clause-exact c = record { world = c.dial_port.ensures.exact; ends = c.dial_port.ensures.ends }
