-- What the calls of the world add to what it tells.
use Rattle.std.proofs.Common.{◌≡◌, ℕ, List, [], ◌∷◌, ◌++◌, length, map, Some, slice_get, Result, Ok, Err, refl, sym, ap, ◌∙◌, append_assoc, arith}
use Rattle.std.specs.List.{remove}
use Rattle.std.proofs.lemmas.List.{append-nil}
use Rattle.outside.specs.declared.link.LinkFault.{LinkFault}
use Rattle.outside.specs.declared.link.LinkFault.TheVariants as faults
use Rattle.outside.specs.declared.link.Received.{Received}
use Rattle.outside.specs.declared.link.Received.TheVariants as received
use Rattle.outside.specs.Link.{Appends, dialed_as, sent_as, received_as, noted_as, entry_of}
use Rattle.outside.proofs.Notes.{mark_ours}
use Rattle.world_model.specs.declared.entry.Entry.{Entry}
use Rattle.world_model.specs.declared.entry.Entry.TheVariants.{Sent, Dialed, Delivered, Failed}
use Rattle.world_model.specs.declared.entry.Mark.{Mark}
use Rattle.world_model.specs.Entries.{ours}
use Rattle.world_model.specs.Told.{Adds}
use Rattle.world_model.proofs.Histories.{adds_then}
use Rattle.world_link.specs.Going.{GoesOn}
use Rattle.world_link.specs.declared.broken.Broken.{Broken}
use Rattle.world_link.specs.Replay.{part_at, told}
use Rattle.world_link.specs.declared.routed.Routed.{Routed}
use Rattle.world_link.specs.Steps.{Dials, Sends, Notes, LeftByMemory, HandsAt, Silences}
use Rattle.world_link.specs.Turning.{Hands, delivered}
use Rattle.world_link.specs.View.{WorldView, bytes_in}
use Rattle.world_link.proofs.ServerEntriesOnly.{adds, goes_adds, quiet_goes, on_goes}

same_adds : (old new : WorldView) → new ≡ old → Adds (told old) (told new) []
same_adds old new e = goes_adds old new (on_goes old new (quiet_goes _ _ (ap (λ (w : WorldView). w.server.entries) e) (ap (λ (w : WorldView). w.server.partials) e) (ap (λ (w : WorldView). w.server.export) e)) (ap (λ (w : WorldView). w.start) e) (ap (λ (w : WorldView). w.faults) e))

-- these entries, which are the client's
tells : (old new : WorldView) (es : List Entry) → ours es ≡ es → new.start ≡ old.start → new.server.entries ≡ old.server.entries ++ es → new.server.partials ≡ old.server.partials → Adds (told old) (told new) es
tells old new es quiet s e p = adds old new es es s e (λ n l. ap (λ (t : List Broken). part_at t n) p) quiet

pub dials_adds : {T : Type 0} (old new : WorldView) (port : ℕ) (result : Result T LinkFault) → Dials old new port result → Adds (told old) (told new) (dialed_as port result)
dials_adds old new port (Ok x) h = tells old new (Dialed port ∷ []) refl (ap (λ (w : WorldView). w.start) h.1) (ap (λ (w : WorldView). w.server.entries) h.1) (ap (λ (w : WorldView). w.server.partials) h.1)
dials_adds old new port (Err faults.Failed) h =
    tells old new (Dialed port ∷ Failed ∷ []) refl (ap (λ (w : WorldView). w.start) h.1) (ap (λ (w : WorldView). w.server.entries) h.1 ∙ append_assoc old.server.entries (Dialed port ∷ []) (Failed ∷ [])) (ap (λ (w : WorldView). w.server.partials) h.1)
dials_adds old new port (Err faults.Memory) h = same_adds old new h

pub sends_adds : {T : Type 0} (old new : WorldView) (rec : List ℕ) (result : Result T LinkFault) → Sends old new rec result → Adds (told old) (told new) (sent_as rec result)
sends_adds old new rec (Ok x) h = tells old new (Sent rec ∷ []) refl (ap (λ (w : WorldView). w.start) h) (ap (λ (w : WorldView). w.server.entries) h) (ap (λ (w : WorldView). w.server.partials) h)
sends_adds old new rec (Err faults.Failed) h = absurd h
sends_adds old new rec (Err faults.Memory) h = same_adds old new h

pub notes_append : {T E : Type 0} (old new : WorldView) (mark : Mark) (result : Result T E) → Notes old new mark result → Appends (told old) (told new) (noted_as mark result)
notes_append old new mark (Ok x) h = record {
  grown = ap (λ (w : WorldView). w.server.entries) h;
  earlier = (tells old new (entry_of mark ∷ []) (mark_ours mark) (ap (λ (w : WorldView). w.start) h) (ap (λ (w : WorldView). w.server.entries) h) (ap (λ (w : WorldView). w.server.partials) h)).earlier;
}
notes_append old new mark (Err e) h = record {
  grown = ap (λ (w : WorldView). w.server.entries) h ∙ sym (append-nil old.server.entries);
  earlier = (same_adds old new h).earlier;
}

hands_adds : (old new : WorldView) (rec : List ℕ) (result : Received) → Hands old new rec result → LeftByMemory old new result → Adds (told old) (told new) (received_as rec result)
hands_adds old new rec received.Whole h m = tells old new (Delivered rec ∷ []) refl (ap (λ (w : WorldView). w.start) h.2) (ap (λ (w : WorldView). w.server.entries) h.2) (ap (λ (w : WorldView). w.server.partials) h.2)
hands_adds old new rec received.Silent h m = tells old new (Failed ∷ []) refl (ap (λ (w : WorldView). w.start) h.1) (ap (λ (w : WorldView). w.server.entries) h.1) (ap (λ (w : WorldView). w.server.partials) h.1)
hands_adds old new rec received.Failed h m = absurd h
hands_adds old new rec received.Memory h m = same_adds old new m

-- turns, and then the first reply that is ready
pub receives_adds : (old mid new : WorldView) (rec : List ℕ) (result : Received) → GoesOn old mid → Hands mid new rec result → LeftByMemory mid new result → Adds (told old) (told new) (received_as rec result)
receives_adds old mid new rec result g h m = adds_then _ _ _ [] _ (goes_adds old mid g) (hands_adds mid new rec result h m)

-- ---- the first reply that is ready

first_of : (xs : List (List ℕ)) (x : List ℕ) → slice_get xs 0 ≡ Some x → (rest : List (List ℕ)) × (xs ≡ x ∷ rest) × (remove xs 0 ≡ rest)
first_of [] x is = absurd cc
first_of (y ∷ xs) x is = let same : y ≡ x = cc in (xs, ap (λ (z : List ℕ). z ∷ xs) same, refl)

-- the reply at the first place is the first one
pub hands_first : (old new : WorldView) (rec : List ℕ) (result : Received) → HandsAt old new 0 rec result → Hands old new rec result
hands_first old new rec received.Whole h =
    let f = first_of old.server.ready rec h.0 in
    (f.0, f.1, h.1 ∙ ap (λ (t : List (List ℕ)). delivered old rec t) f.2)
hands_first old new rec received.Silent h = absurd h
hands_first old new rec received.Failed h = absurd h
hands_first old new rec received.Memory h = tt

pub hands_left : (old new : WorldView) (rec : List ℕ) (place : ℕ) (result : Received) → HandsAt old new place rec result → LeftByMemory old new result
hands_left old new rec place received.Whole h = tt
hands_left old new rec place received.Silent h = tt
hands_left old new rec place received.Failed h = tt
hands_left old new rec place received.Memory h = h

-- none is ready
pub none_hands : (old new : WorldView) (rec : List ℕ) (result : Received) → old.server.ready ≡ [] → Silences old new result → Hands old new rec result
none_hands old new rec received.Whole none s = absurd s
none_hands old new rec received.Silent none s = (none, s)
none_hands old new rec received.Failed none s = absurd s
none_hands old new rec received.Memory none s = tt

pub none_ready : (items : List Routed) → length items ≡ 0 → map bytes_in items ≡ []
none_ready [] is = refl
none_ready (r ∷ items) is = absurd (omega (arith, is))
