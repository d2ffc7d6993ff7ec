-- What a caller sees of the simulated world.
use Rattle.std.specs.Prelude.{ℕ, List, map, Option}
use Rattle.std.specs.Option.{option_map}
use Rattle.std.specs.Ordering.{nat_cmp, ordering_then}
use Rattle.std.specs.BTreeMap as tree
use Rattle.world_model.specs.declared.entry.Entry.{Entry}
use Rattle.export_fs.specs.View.{View}
use Rattle.world_link.specs.declared.broken.Broken.{Broken}
use Rattle.world_link.specs.declared.directive.RequestId.{RequestId}
use Rattle.world_link.specs.declared.routed.Routed.{Routed}
use Rattle.world_link.specs.declared.routed.Told.{Told}
use Rattle.world_link.specs.declared.server.Server.{Server}
use Rattle.world_link.specs.declared.waiting.Queued.{Queued}
use Rattle.world_link.specs.declared.waiting.Waiting.{Waiting}
use Rattle.world_link.specs.declared.world.World.{World}
use Rattle.world_link.specs.Holding.{HeldView, held_view}
use Rattle.world_link.specs.Plans.{PlanView}
use Rattle.world_link.specs.Shown.{shown}

-- the server's side: the export, what is told, and the records that came and that are on their way back
pub record ServerView : Type 0 where
  pub export : View
  pub entries : List Entry
  -- beside some of the entries, how their WRITEs broke off
  pub partials : List Broken
  -- the records that were sent, by their names
  pub sent : RequestId → Option (List ℕ)
  -- replies, the first one first, and replies that wait for turns, in order of transmission
  pub ready : List (List ℕ)
  pub held : List HeldView

pub record WorldView : Type 0 where
  pub plan : PlanView
  -- the export when nothing had happened
  pub start : View
  pub server : ServerView
  -- the records without their turns, the oldest first
  pub waiting : List Waiting
  -- by procedure: how many transmissions there were, and how many had their turns
  pub counts : List ℕ
  pub turns : List ℕ
  pub dials : ℕ
  pub faults : ℕ

-- ---- what there is, but for the ends

abbrev pub entry_in : Told → Entry
entry_in t = t.entry

abbrev pub bytes_in : Routed → List ℕ
bytes_in r = r.bytes

abbrev pub waiting_in : Queued → Waiting
waiting_in q = q.waiting

abbrev pub served : Server → ServerView
served server = record {
  export = server.export;
  entries = map entry_in server.told.items;
  partials = server.partials.items;
  sent = λ s. option_map bytes_in (tree.get (λ a b. ordering_then (nat_cmp a.proc b.proc) (nat_cmp a.k b.k)) server.sent s);
  ready = map bytes_in server.ready.items;
  held = map held_view server.held.items;
}

abbrev pub seen : World → WorldView
seen world = record {
  plan = shown world.plan;
  start = world.start;
  server = served world.server;
  waiting = map waiting_in world.waiting.items;
  counts = world.sendings.counts;
  turns = world.turns.counts;
  dials = world.dials;
  faults = world.faults;
}
