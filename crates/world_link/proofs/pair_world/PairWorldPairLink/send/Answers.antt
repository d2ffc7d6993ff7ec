use Rattle.std.proofs.Common.{refl}
use Rattle.world_link.specs.Pairs.{seen_pair}
use Rattle.world_link.proofs.PairHonest.{honest_pair, sends_routed}
use Rattle.world_link.proofs.PairTells.{sends_at}
use Rattle.world_link.proofs.WorldKeepsContract.{sends_honest}
use Rattle.world_link.proofs.pair_world.PairWorldPairLink.send.Goals as goal

pub returns-clause-told : goal.returns-clause-told
returns-clause-told c = rw (← c.bytes.ensures) (sends_at c.args.end (seen_pair c.args.self.now) _ c.bytes.result.now _ c.send_record.result c.requires c.send_record.ensures.exact c.send_record.ensures.ends)

pub returns-clause-honest : goal.returns-clause-honest
returns-clause-honest c h = honest_pair _ refl (sends_honest _ _ c.bytes.result.now c.send_record.result c.send_record.ensures.exact h.world) (sends_routed _ _ _ _ c.send_record.result c.send_record.ensures.ends h.routed)

pub returns-clause-exact : goal.returns-clause-exact
returns-clause-exact c = rw (← c.bytes.ensures) (record { world = c.send_record.ensures.exact; ends = c.send_record.ensures.ends })
