-- The ends of what the simulated world holds and tells: of each entry, and of each record on its way.
use Rattle.std.specs.Prelude.{ℕ, List, map, Option}
use Rattle.std.specs.Ordering.{nat_cmp, ordering_then}
use Rattle.std.specs.BTreeMap as tree
use Rattle.world_link.specs.declared.directive.RequestId.{RequestId}
use Rattle.world_link.specs.declared.routed.Routed.{Routed}
use Rattle.world_link.specs.declared.routed.Told.{Told}
use Rattle.world_link.specs.declared.server.Server.{Server}
use Rattle.world_link.specs.declared.waiting.Queued.{Queued}
use Rattle.world_link.specs.declared.world.World.{World}
use Rattle.world_link.specs.Holding.{HeldReply}

-- what the server's side tells, with the end of each entry; the records that were sent, by their names; and the replies that are ready or held
pub record ServerEnds : Type 0 where
  pub told : List Told
  pub sent : RequestId → Option Routed
  pub ready : List Routed
  pub held : List Routed

abbrev pub reply_in : HeldReply → Routed
reply_in held = held.reply

abbrev pub ends_of : Server → ServerEnds
ends_of server = record {
  told = server.told.items;
  sent = λ s. tree.get (λ a b. ordering_then (nat_cmp a.proc b.proc) (nat_cmp a.k b.k)) server.sent s;
  ready = server.ready.items;
  held = map reply_in server.held.items;
}

-- also the records without their turns, the oldest first
pub record WorldEnds : Type 0 where
  pub server : ServerEnds
  pub waiting : List Routed

abbrev pub record_in : Queued → Routed
record_in q = record { end = q.end; bytes = q.waiting.bytes }

abbrev pub world_ends : World → WorldEnds
world_ends world = record { server = ends_of world.server; waiting = map record_in world.waiting.items }
