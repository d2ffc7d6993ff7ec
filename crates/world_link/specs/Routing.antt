-- What each call of the world makes of the ends.
use Rattle.std.specs.Prelude.{◌≡◌, ℕ, List, [], ◌∷◌, ◌++◌, Option, Some, None, Result, Ok, Err, slice_get, if◌then◌else◌}
use Rattle.std.specs.List.{remove}
use Rattle.outside.specs.declared.link.LinkFault.{LinkFault}
use Rattle.outside.specs.declared.link.LinkFault.TheVariants as faults
use Rattle.outside.specs.declared.link.Received.{Received}
use Rattle.outside.specs.declared.link.Received.TheVariants as received
use Rattle.outside.specs.Link.{entry_of}
use Rattle.world_model.specs.declared.entry.Entry.{Entry}
use Rattle.world_model.specs.declared.entry.Entry.TheVariants as entries
use Rattle.world_model.specs.declared.entry.Mark.{Mark}
use Rattle.world_link.specs.declared.directive.RequestId.{RequestId}
use Rattle.world_link.specs.declared.routed.Routed.{Routed}
use Rattle.world_link.specs.Plans.{is_same}
use Rattle.world_link.specs.Ends.{ServerEnds, WorldEnds}

-- nothing was told, sent or answered yet
abbrev pub no_ends : WorldEnds
no_ends = record { server = record { told = []; sent = λ s. None; ready = []; held = [] }; waiting = [] }

-- an entry of that end is told
abbrev pub tells : ServerEnds → ℕ → Entry → ServerEnds
tells v end entry = record v { told = v.told ++ record { end = end; entry = entry } ∷ [] }

abbrev pub after : WorldEnds → ℕ → Entry → WorldEnds
after w end entry = record w { server = tells w.server end entry }

-- the record has the name, if it has one
abbrev pub noted_as : (RequestId → Option Routed) → Option RequestId → Routed → RequestId → Option Routed
noted_as sent None r = sent
noted_as sent (Some s) r = λ other. if is_same s other then Some r else sent other

-- a record was sent
abbrev pub taken : ServerEnds → Option RequestId → Routed → ServerEnds
taken v name r = record (tells v r.end (entries.Sent r.bytes)) { sent = noted_as v.sent name r }

abbrev pub after_send : WorldEnds → Option RequestId → Routed → WorldEnds
after_send w name r = record { server = taken w.server name r; waiting = w.waiting ++ r ∷ [] }

-- the reply at that place comes to its end
abbrev pub handed : WorldEnds → ℕ → Routed → WorldEnds
handed w place r = record w { server = record (tells w.server r.end (entries.Delivered r.bytes)) { ready = remove w.server.ready place } }

-- ---- each call

-- The reply at that place of those that are ready came.
pub record Hands (old new : WorldEnds) (place : ℕ) (rec : List ℕ) : Type 0 where
  pub reply : Routed
  pub is : slice_get old.server.ready place ≡ Some reply
  pub bytes : reply.bytes ≡ rec
  pub after : new ≡ handed old place reply

abbrev pub HandsAt : WorldEnds → WorldEnds → ℕ → List ℕ → Received → Type 0
HandsAt old new place rec received.Whole = Hands old new place rec
HandsAt old new place rec received.Silent = ⊥
HandsAt old new place rec received.Failed = ⊥
HandsAt old new place rec received.Memory = new ≡ old

abbrev pub Silences : WorldEnds → WorldEnds → ℕ → Received → Type 0
Silences old new end received.Whole = ⊥
Silences old new end received.Silent = new ≡ after old end entries.Failed
Silences old new end received.Failed = ⊥
Silences old new end received.Memory = new ≡ old

abbrev pub Dials : {T : Type 0} → WorldEnds → WorldEnds → ℕ → ℕ → Result T LinkFault → Type 0
Dials old new end port (Ok x) = new ≡ after old end (entries.Dialed port)
Dials old new end port (Err faults.Failed) = new ≡ after (after old end (entries.Dialed port)) end entries.Failed
Dials old new end port (Err faults.Memory) = new ≡ old

abbrev pub Sends : {T : Type 0} → WorldEnds → WorldEnds → Option RequestId → Routed → Result T LinkFault → Type 0
Sends old new name r (Ok x) = new ≡ after_send old name r
Sends old new name r (Err faults.Failed) = ⊥
Sends old new name r (Err faults.Memory) = new ≡ old

abbrev pub Notes : {T E : Type 0} → WorldEnds → WorldEnds → ℕ → Mark → Result T E → Type 0
Notes old new end mark (Ok x) = new ≡ after old end (entry_of mark)
Notes old new end mark (Err e) = new ≡ old
