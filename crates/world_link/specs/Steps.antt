-- What each call of the world as a link makes of it.
use Rattle.std.specs.Prelude.{◌≡◌, ℕ, List, [], ◌∷◌, ◌++◌, true, false, Some, Result, Ok, Err, slice_get}
use Rattle.std.specs.List.{remove}
use Rattle.outside.specs.declared.link.LinkFault.{LinkFault}
use Rattle.outside.specs.declared.link.LinkFault.TheVariants as faults
use Rattle.outside.specs.declared.link.Received.{Received}
use Rattle.outside.specs.declared.link.Received.TheVariants as received
use Rattle.outside.specs.Link.{entry_of}
use Rattle.world_model.specs.declared.entry.Entry.TheVariants.{Delivered}
use Rattle.world_model.specs.declared.entry.Mark.{Mark}
use Rattle.world_link.specs.declared.waiting.Waiting.{Waiting}
use Rattle.world_link.specs.View.{WorldView}
use Rattle.world_link.specs.Turning.{turned, silent, after_send, after_turns, Hands, fails_next, after_dial, after_failed_dial}
use Rattle.world_link.specs.Going.{GoesOn}

-- the first of those that wait had its turn; if none waits, nothing is changed
abbrev pub TurnsFirst : WorldView → WorldView → List Waiting → Type 0
TurnsFirst old new [] = new ≡ old
TurnsFirst old new (next ∷ more) = new ≡ turned old next more

-- waiting was silent
abbrev pub Silences : WorldView → WorldView → Received → Type 0
Silences old new received.Whole = ⊥
Silences old new received.Silent = new ≡ silent old
Silences old new received.Failed = ⊥
Silences old new received.Memory = Unit {0}

-- out of memory changes nothing
abbrev pub LeftByMemory : WorldView → WorldView → Received → Type 0
LeftByMemory old new received.Memory = new ≡ old
LeftByMemory old new result = Unit {0}

-- the reply at that place of those that are ready came
abbrev pub delivered_at : WorldView → ℕ → List ℕ → WorldView
delivered_at w place rec = record w { server = record w.server { entries = w.server.entries ++ Delivered rec ∷ []; ready = remove w.server.ready place } }

-- Out of memory changes nothing.
abbrev pub HandsAt : WorldView → WorldView → ℕ → List ℕ → Received → Type 0
HandsAt old new place rec received.Whole = (slice_get old.server.ready place ≡ Some rec) × (new ≡ delivered_at old place rec)
HandsAt old new place rec received.Silent = ⊥
HandsAt old new place rec received.Failed = ⊥
HandsAt old new place rec received.Memory = new ≡ old

-- A dial fails exactly if the plan says so; out of memory changes nothing.
abbrev pub Dials : {T : Type 0} → WorldView → WorldView → ℕ → Result T LinkFault → Type 0
Dials old new port (Ok x) = (fails_next old ≡ false) × (new ≡ after_dial old port)
Dials old new port (Err faults.Failed) = (fails_next old ≡ true) × (new ≡ after_failed_dial old port)
Dials old new port (Err faults.Memory) = new ≡ old

-- Sending never fails; out of memory changes nothing.
abbrev pub Sends : {T : Type 0} → WorldView → WorldView → List ℕ → Result T LinkFault → Type 0
Sends old new rec (Ok x) = new ≡ after_send old rec
Sends old new rec (Err faults.Failed) = ⊥
Sends old new rec (Err faults.Memory) = new ≡ old

-- Transmissions have their turns until a reply is ready, and the first one that is came. Waiting never fails, and is
-- silent exactly if no reply is ready then, so no sending is without its turn. Out of memory may come in the midst.
abbrev pub Receives : WorldView → WorldView → List ℕ → Received → Type 0
Receives old new rec received.Whole = Hands (after_turns old) new rec received.Whole
Receives old new rec received.Silent = Hands (after_turns old) new rec received.Silent × (new.waiting ≡ [])
Receives old new rec received.Failed = ⊥
Receives old new rec received.Memory = GoesOn old new

abbrev pub noted : WorldView → Mark → WorldView
noted w mark = record w { server = record w.server { entries = w.server.entries ++ entry_of mark ∷ [] } }

abbrev pub Notes : {T E : Type 0} → WorldView → WorldView → Mark → Result T E → Type 0
Notes old new mark (Ok x) = new ≡ noted old mark
Notes old new mark (Err e) = new ≡ old
