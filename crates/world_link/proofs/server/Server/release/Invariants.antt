use Rattle.std.proofs.Common.{◌≡◌, length}
use Rattle.std.specs.Prelude.{⊤}
use Rattle.world_link.specs.Going.{Goes}
use Rattle.world_link.specs.Honest.{StaysHonest}
use Rattle.world_link.specs.Turning.{released}
use Rattle.world_link.specs.Ends.{ends_of}
use Rattle.world_link.specs.Routes.{KeepsEnds}
use Rattle.world_link.specs.View.{served}
use Rattle.world_link.proofs.server.Server.release.Given as goal

abbrev pub invariant-loop-place : goal.invariant-loop-place
invariant-loop-place l = record {
  left : released l.turns.counts (served l.self) ≡ released l.turns.counts (served l.initial.self);
  goes : Goes (served l.initial.self) (served l.self);
  stays : StaysHonest (served l.initial.self) (served l.self);
  ends : KeepsEnds ⊤ (ends_of l.initial.self) (ends_of l.self);
}

abbrev pub decreases-loop-place : goal.decreases-loop-place
decreases-loop-place l = length l.self.held.items
