use Rattle.std.proofs.Common.{◌≡◌, drop}
use Rattle.std.specs.Prelude.{⊤}
use Rattle.world_link.specs.Going.{Goes}
use Rattle.world_link.specs.Honest.{StaysHonest}
use Rattle.world_link.specs.Happening.{all_happened}
use Rattle.world_link.specs.Ends.{ends_of}
use Rattle.world_link.specs.Routes.{KeepsEnds}
use Rattle.world_link.specs.View.{served}
use Rattle.world_link.proofs.server.Server.happen_all.Given as goal

abbrev pub invariant-loop-event : goal.invariant-loop-event
invariant-loop-event l = record {
  left : all_happened (served l.self) (drop l.event-index l.events) ≡ all_happened (served l.initial.self) l.events;
  goes : Goes (served l.initial.self) (served l.self);
  stays : StaysHonest (served l.initial.self) (served l.self);
  ends : KeepsEnds ⊤ (ends_of l.initial.self) (ends_of l.self);
}
