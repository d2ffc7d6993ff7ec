use Rattle.std.proofs.Common.{◌≡◌, length}
use Rattle.world_link.specs.Going.{GoesOn}
use Rattle.world_link.specs.Honest.{IsHonestWorld}
use Rattle.world_link.specs.Turning.{after_turns}
use Rattle.world_link.specs.View.{seen}
use Rattle.world_link.proofs.world.World.turn_all.Given as goal

abbrev pub invariant-loop-self : goal.invariant-loop-self
invariant-loop-self l = record {
  left : after_turns (seen l.self) ≡ after_turns (seen l.initial.self);
  goes : GoesOn (seen l.initial.self) (seen l.self);
  stays : IsHonestWorld (seen l.initial.self) → IsHonestWorld (seen l.self);
}

abbrev pub decreases-loop-self : goal.decreases-loop-self
decreases-loop-self l = length l.self.waiting.items
