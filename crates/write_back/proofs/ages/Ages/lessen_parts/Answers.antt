use Rattle.write_back.proofs.PartSums.{lessens-turn}
use Rattle.write_back.proofs.ages.Ages.lessen_parts.Goals as goal

pub loop-part-preserved : goal.loop-part-preserved
loop-part-preserved c = lessens-turn c.args.parts.now c.loop-part.part-index _ c.args.self.now c.loop-part.self _ c.lessen.ensures c.loop-part-test.true c.loop-part.invariant
