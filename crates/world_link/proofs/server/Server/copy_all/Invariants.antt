use Rattle.std.proofs.Common.{◌≡◌, drop}
use Rattle.std.specs.Prelude.{⊤}
use Rattle.world_link.specs.Going.{Goes}
use Rattle.world_link.specs.Honest.{StaysHonest}
use Rattle.world_link.specs.Handling.{all_copied}
use Rattle.world_link.specs.Ends.{ends_of}
use Rattle.world_link.specs.Routes.{KeepsEnds}
use Rattle.world_link.specs.View.{served}
use Rattle.world_link.proofs.server.Server.copy_all.Given as goal

abbrev pub invariant-loop-sending : goal.invariant-loop-sending
invariant-loop-sending l = record {
  left : all_copied (served l.self) (drop l.sending-index l.sendings) ≡ all_copied (served l.initial.self) l.sendings;
  goes : Goes (served l.initial.self) (served l.self);
  stays : StaysHonest (served l.initial.self) (served l.self);
  ends : KeepsEnds ⊤ (ends_of l.initial.self) (ends_of l.self);
}
