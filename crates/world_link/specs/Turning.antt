-- The turn of a transmission, and what waiting for a record gives.
use Rattle.std.specs.Prelude.{◌≡◌, ◌+◌, ◌-◌, ◌^◌, ◌==◌, ℕ, List, [], ◌∷◌, ◌++◌, Bool, false, Option, Some, None, min, if◌then◌else◌}
use Rattle.outside.specs.declared.link.Received.{Received}
use Rattle.outside.specs.declared.link.Received.TheVariants as received
use Rattle.world_model.specs.declared.entry.Entry.TheVariants.{Sent, Delivered, Dialed, Failed}
use Rattle.world_model.specs.declared.message.Call.TheVariants as calls
use Rattle.nfs_file_calls.specs.Calls.{file_proc}
use Rattle.nfs_dir_calls.specs.Calls.{dir_proc}
use Rattle.export_serve.specs.declared.request.Asked.{Asked}
use Rattle.export_serve.specs.declared.request.Asked.TheVariants as askings
use Rattle.export_serve.specs.Asking.{asked_at}
use Rattle.world_link.specs.declared.directive.RequestId.{RequestId}
use Rattle.world_link.specs.declared.manner.Manner.{Manner}
use Rattle.world_link.specs.declared.waiting.Waiting.{Waiting}
use Rattle.world_link.specs.Fates.{FateView, no_fate}
use Rattle.world_link.specs.Plans.{PlanView, is_same}
use Rattle.world_link.specs.Holding.{next_of, counted_if, are_past, released_of}
use Rattle.world_link.specs.View.{ServerView, WorldView}
use Rattle.world_link.specs.Handling.{done, readied, all_copied}
use Rattle.world_link.specs.Happening.{all_happened}

-- ---- sending

-- which sending a record is: the next of its procedure, if it asks for a call of NFS
abbrev pub name_of : List ℕ → Asked → Option RequestId
name_of counts (askings.Serve xid (calls.File call)) = next_of counts (file_proc call)
name_of counts (askings.Serve xid (calls.Dir call)) = next_of counts (dir_proc call)
name_of counts asked = None

abbrev pub noted_as : (RequestId → Option (List ℕ)) → Option RequestId → List ℕ → RequestId → Option (List ℕ)
noted_as sent None rec = sent
noted_as sent (Some s) rec = λ other. if is_same s other then Some rec else sent other

abbrev pub taken : ServerView → Option RequestId → List ℕ → ServerView
taken v name rec = record v { entries = v.entries ++ Sent rec ∷ []; sent = noted_as v.sent name rec }

abbrev pub sent_as : WorldView → Option RequestId → List ℕ → WorldView
sent_as w name rec = record w {
  server = taken w.server name rec;
  waiting = w.waiting ++ record { name = name; bytes = rec } ∷ [];
  counts = counted_if w.counts name;
}

-- the record waits for its turn
abbrev pub after_send : WorldView → List ℕ → WorldView
after_send w rec = sent_as w (name_of w.counts (asked_at rec)) rec

-- ---- a turn

abbrev pub fate_of : PlanView → Option RequestId → FateView
fate_of plan None = no_fate
fate_of plan (Some s) = plan.fate s

abbrev pub manner_of : PlanView → FateView → Manner
manner_of plan fate = record { lost = fate.lost; mount = plan.mount; answer = fate.answer; partial = fate.partial; limit = fate.limit }

-- a reply is held until these turns
abbrev pub held : ServerView → List ℕ → List RequestId → ServerView
held v bytes waits = record v { held = v.held ++ record { bytes = bytes; waits = waits } ∷ [] }

-- its own reply is ready unless it is muted; it is held while a turn that it waits for hasn't come
abbrev pub replied : FateView → List ℕ → ServerView → Option (List ℕ) → ServerView
replied fate turns v None = v
replied fate turns v (Some bytes) = if fate.muted then v else (if are_past turns fate.held then readied v (Some bytes) else held v bytes fate.held)

-- replies that waited for these turns are ready, in order of transmission
abbrev pub released : List ℕ → ServerView → ServerView
released turns v = record v { ready = (released_of turns v.ready v.held).0; held = (released_of turns v.ready v.held).1 }

-- before its own execution: the late copies that name the turn, and its events
abbrev pub prepared : FateView → ServerView → ServerView
prepared fate v = all_happened (all_copied v fate.late) fate.before

-- after its own execution: its events, and its reply
abbrev pub concluded : FateView → List ℕ → ServerView × Option (List ℕ) → ServerView
concluded fate turns done = replied fate turns (all_happened done.0 fate.after) done.1

-- the turn of a record, but for the replies that wait for it
abbrev pub own_turn : Manner → FateView → List ℕ → ServerView → List ℕ → ServerView
own_turn manner fate turns v rec = concluded fate turns (done manner (prepared fate v) (asked_at rec))

-- the server after the turn of a record
abbrev pub served_as : PlanView → FateView → List ℕ → Option RequestId → ServerView → List ℕ → ServerView
served_as plan fate turns name v rec = released (counted_if turns name) (own_turn (manner_of plan fate) fate turns v rec)

-- the world after the turn of a transmission, which is the first of those that wait
abbrev pub turned : WorldView → Waiting → List Waiting → WorldView
turned w next more = record w {
  server = served_as w.plan (fate_of w.plan next.name) w.turns next.name w.server next.bytes;
  waiting = more;
  turns = counted_if w.turns next.name;
}

-- ---- receiving

-- turns are given, the oldest first, until a reply is ready or none is left
abbrev pub turned_all : WorldView → List Waiting → WorldView
turned_all w [] = w
turned_all w (next ∷ more) = elim (w.server.ready) [ [] ↦ turned_all (turned w next more) more | first ∷ rest ↦ w ]

abbrev pub after_turns : WorldView → WorldView
after_turns w = turned_all w w.waiting

abbrev pub delivered : WorldView → List ℕ → List (List ℕ) → WorldView
delivered w rec rest = record w { server = record w.server { entries = w.server.entries ++ Delivered rec ∷ []; ready = rest } }

-- the wait failed, or a dial
abbrev pub one_more : ℕ → ℕ
one_more faults = min (faults + 1) (2 ^ 64 - 1)

abbrev pub silent : WorldView → WorldView
silent w = record w { server = record w.server { entries = w.server.entries ++ Failed ∷ [] }; faults = one_more w.faults }

-- The first reply that is ready came; if none is, nothing came, and no sending is left. Waiting never fails.
abbrev pub Hands : WorldView → WorldView → List ℕ → Received → Type 0
Hands old new rec received.Whole = (rest : List (List ℕ)) × (old.server.ready ≡ rec ∷ rest) × (new ≡ delivered old rec rest)
Hands old new rec received.Silent = (old.server.ready ≡ []) × (new ≡ silent old)
Hands old new rec received.Failed = ⊥
Hands old new rec received.Memory = Unit {0}

-- ---- dialing

-- a dial fails exactly if the plan says so
abbrev pub fails_next : WorldView → Bool
fails_next w = if w.dials == 4294967295 then false else w.plan.fails (w.dials + 1)

abbrev pub after_dial : WorldView → ℕ → WorldView
after_dial w port = record w { server = record w.server { entries = w.server.entries ++ Dialed port ∷ [] }; dials = min (w.dials + 1) 4294967295 }

abbrev pub after_failed_dial : WorldView → ℕ → WorldView
after_failed_dial w port = record w {
  server = record w.server { entries = (w.server.entries ++ Dialed port ∷ []) ++ Failed ∷ [] };
  dials = min (w.dials + 1) 4294967295;
  faults = one_more w.faults;
}
