use Rattle.std.proofs.Common.{length}
use Rattle.world_link.specs.Going.{GoesOn}
use Rattle.world_link.specs.Honest.{IsHonestWorld}
use Rattle.world_link.specs.Pairs.{seen_pair}
use Rattle.world_link.specs.PairSteps.{GivesTurns}
use Rattle.world_link.specs.Routes.{KeepsAllEnds}
use Rattle.world_link.proofs.pair_world.PairWorld.turn_all.Given as goal

abbrev pub invariant-loop-self : goal.invariant-loop-self
invariant-loop-self l = record {
  turns : GivesTurns l.end (seen_pair l.initial.self) (seen_pair l.self);
  goes : GoesOn (seen_pair l.initial.self).world (seen_pair l.self).world;
  stays : IsHonestWorld (seen_pair l.initial.self).world → IsHonestWorld (seen_pair l.self).world;
  ends : KeepsAllEnds (seen_pair l.initial.self).ends (seen_pair l.self).ends;
}

abbrev pub decreases-loop-self : goal.decreases-loop-self
decreases-loop-self l = length l.self.world.waiting.items
