-- Which entries a call adds to what the link tells.
use Rattle.std.proofs.Common.{◌≡◌, ℕ, true, false, Bool, List, [], ◌∷◌, ◌++◌, if◌then◌else◌, refl, sym, ◌∙◌}
use Rattle.world_model.specs.declared.entry.Entry.{Entry}
use Rattle.world_model.specs.declared.entry.Entry.TheVariants as entries
use Rattle.world_model.specs.declared.entry.Mark.{Mark}
use Rattle.world_model.specs.Entries.{ours}
use Rattle.world_model.specs.History.{History}
use Rattle.world_model.specs.Told.{Adds}
use Rattle.world_model.proofs.Histories.{ours-append, adds_then, adds_none}
use Rattle.outside.specs.declared.datagrams.DatagramEntry.{DatagramEntry}
use Rattle.outside.specs.declared.datagrams.DatagramEntry.TheVariants.{Aimed, Sent, Came, Noted, Missed}
use Rattle.outside.specs.Link.{Appends, entry_of}
use Rattle.outside.specs.Wire.{Step, entries_in}
use Rattle.outside.specs.Reading.{now_at, goes_on, adds, follows}
use Rattle.outside.specs.Datagrams.{DatagramCall, Heard, is_aimed, shown, hear_call}
use Rattle.outside.proofs.Notes.{mark_ours}
use Rattle.rpc_record.proofs.LawfulAlong.{at_old}
use Rattle.outside.specs.declared.places.DatagramAdds.{DatagramAdds as Added}
use Rattle.outside.specs.declared.places.DatagramAdds.TheVariants as added
use Rattle.udp_link.specs.Placing.{places, shown_as, placed_as}
use Rattle.udp_link.proofs.Deliveries.{first_nil, second_nil}

one_here : (h : History) (e : Entry) → ours (e ∷ []) ≡ e ∷ [] → Adds h (adds h e) (e ∷ [])
one_here h e own = record { more = e ∷ []; grown = refl; seen = own; earlier = λ n le. at_old h (now_at h) n le }

none_here : (h : History) → Adds h h []
none_here h = adds_none h h refl (λ n le. refl)

quiet_adds : (quiet : List Step) (h : History) → ours (entries_in quiet) ≡ [] → Adds h (follows quiet h) []
quiet_adds [] h unseen = none_here h
quiet_adds (s ∷ quiet) h unseen =
    let parted : ours (s.entry ∷ []) ++ ours (entries_in quiet) ≡ [] = sym (ours-append (s.entry ∷ []) (entries_in quiet)) ∙ unseen in
    let one : Adds h (goes_on h s.entry s.after) [] = record { more = s.entry ∷ []; grown = refl; seen = first_nil _ _ parted; earlier = λ n le. at_old h s.after n le } in
    adds_then h (goes_on h s.entry s.after) (follows quiet (goes_on h s.entry s.after)) [] [] one (quiet_adds quiet (goes_on h s.entry s.after) (second_nil _ _ parted))

came_adds : (b : Bool) (h : Heard) (bytes : List ℕ) → Adds h.history (if b then record h { history = adds h.history (entries.Delivered bytes) } else h).history (if b then entries.Delivered bytes ∷ [] else [])
came_adds true h bytes = one_here h.history (entries.Delivered bytes) refl
came_adds false h bytes = none_here h.history

shown_adds : (did : DatagramEntry) (h : Heard) → Adds h.history (shown did h).history (shown_as h.aimed did)
shown_adds (Aimed port) h = one_here h.history (entries.Dialed port) refl
shown_adds (Sent bytes) h = one_here h.history (entries.Sent bytes) refl
shown_adds (Came from bytes) h = came_adds (is_aimed h.aimed from) h bytes
shown_adds (Noted mark) h = one_here h.history (entry_of mark) (mark_ours mark)
shown_adds Missed h = none_here h.history

places_adds : (a : Added) (h : Heard) → Adds h.history (places a h).history (placed_as a)
places_adds added.Nothing h = none_here h.history
places_adds added.Failed h = one_here h.history entries.Failed refl
places_adds (added.Unsent bytes) h =
    adds_then h.history (adds h.history (entries.Sent bytes)) (adds (adds h.history (entries.Sent bytes)) entries.Failed) (entries.Sent bytes ∷ []) (entries.Failed ∷ [])
    (one_here h.history (entries.Sent bytes) refl) (one_here (adds h.history (entries.Sent bytes)) entries.Failed refl)

-- entries of the server, that of the call and those that were placed
pub call_adds : (c : DatagramCall) (a : Added) (h : Heard) → ours (entries_in c.quiet) ≡ [] → Adds h.history (places a (hear_call c h)).history (shown_as h.aimed c.did ++ placed_as a)
call_adds c a h unseen =
    let q : Heard = record h { history = follows c.quiet h.history } in
    adds_then h.history q.history (places a (shown c.did q)).history [] (shown_as h.aimed c.did ++ placed_as a) (quiet_adds c.quiet h.history unseen)
    (adds_then q.history (shown c.did q).history (places a (shown c.did q)).history (shown_as h.aimed c.did) (placed_as a) (shown_adds c.did q) (places_adds a (shown c.did q)))

-- a mark alone
pub note_appends : (mark : Mark) (h : Heard) → Appends h.history (hear_call (record { quiet = []; did = Noted mark }) h).history (entry_of mark ∷ [])
note_appends mark h = record { grown = refl; earlier = λ n le. at_old h.history (now_at h.history) n le }
