use Rattle.std.proofs.Common.{refl}
use Rattle.world_link.specs.Pairs.{seen_pair}
use Rattle.world_link.proofs.PairHonest.{honest_pair, notes_routed}
use Rattle.world_link.proofs.PairTells.{notes_at}
use Rattle.world_link.proofs.WorldKeepsContract.{notes_honest}
use Rattle.world_link.proofs.pair_world.PairWorldPairLink.note.Goals as goal

pub returns-clause-told : goal.returns-clause-told
returns-clause-told c = notes_at c.args.end (seen_pair c.args.self.now) _ c.args.mark c.note_mark.result c.requires c.note_mark.ensures.exact c.note_mark.ensures.ends

pub returns-clause-honest : goal.returns-clause-honest
returns-clause-honest c h = honest_pair _ refl (notes_honest _ _ c.args.mark c.note_mark.result c.note_mark.ensures.exact h.world) (notes_routed _ _ c.args.end c.args.mark c.note_mark.result c.note_mark.ensures.ends h.routed)

pub returns-clause-exact : goal.returns-clause-exact
returns-clause-exact c = record { world = c.note_mark.ensures.exact; ends = c.note_mark.ensures.ends }
