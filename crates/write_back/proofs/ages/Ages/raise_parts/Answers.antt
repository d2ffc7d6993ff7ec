use Rattle.write_back.proofs.PartSums.{raises-turn, raises-room}
use Rattle.write_back.proofs.ages.Ages.raise_parts.Goals as goal

pub loop-part-preserved : goal.loop-part-preserved
loop-part-preserved c = raises-turn c.args.parts.now c.loop-part.part-index _ c.args.self.now c.loop-part.self _ c.raise.ensures c.loop-part-test.true c.loop-part.invariant

pub raise-requires : goal.raise-requires
raise-requires c = record { room = raises-room c.args.parts.now c.loop-part.part-index _ c.args.self.now c.loop-part.self c.loop-part-test.true c.requires.room c.loop-part.invariant }
