-- What a link is after a call of its datagrams and what was placed behind it.
use Rattle.std.proofs.Common.{◌≡◌, ℕ, List, [], ◌∷◌, ◌++◌, Option, Some, None, Result, refl, sym, ap, subst, ◌∙◌}
use Rattle.std.proofs.lemmas.List.{append-nil}
use Rattle.world_model.specs.declared.entry.Entry.{Entry}
use Rattle.world_model.specs.declared.entry.Mark.{Mark}
use Rattle.world_model.specs.Told.{Tells}
use Rattle.world_model.proofs.Histories.{adds_none}
use Rattle.outside.specs.declared.datagrams.DatagramEntry.{DatagramEntry}
use Rattle.outside.specs.declared.datagrams.DatagramEntry.TheVariants.{Noted}
use Rattle.outside.specs.declared.datagrams.Arrived.{Arrived}
use Rattle.outside.specs.declared.link.LinkFault.{LinkFault}
use Rattle.outside.specs.Causes.{HasCause}
use Rattle.outside.specs.Link.{NotesOnly, entry_of}
use Rattle.outside.specs.Datagrams.{DatagramCall, DatagramsTold, DatagramsTell, DatagramsNote, HasCauseArrived, hear_call, AreLawful}
use Rattle.outside.specs.declared.places.DatagramAdds.{DatagramAdds}
use Rattle.outside.specs.declared.places.DatagramAdds.TheVariants as added
use Rattle.udp_link.specs.Placing.{heard_by, now_of, told_of, aims, shown_as, placed_as, places, IsPlaced}
use Rattle.udp_link.specs.Honest.{HonestOver, IsFresh}
use Rattle.udp_link.specs.Shown.{Added}
use Rattle.udp_link.proofs.PlacesKept.{OneMore, Steps, Stops}
use Rattle.udp_link.proofs.Deliveries.{heard_more, placed_more}
use Rattle.udp_link.proofs.EntriesAdded.{call_adds, note_appends}
use Rattle.udp_link.proofs.StaysHonest.{call_accords, none_told, begins_accord}

abbrev pub AreLaw : {D : Type 0} → (D → Option DatagramsTold) → (D → Type 0) → Type 0
AreLaw {D = D} told honest = (x : D) → honest x → AreLawful (told x)

-- the datagrams x with the places ks before, and y with js after
pub record After {D : Type 0} (told : D → Option DatagramsTold) (honest : D → Type 0) (x y : D) (ks js : List DatagramAdds) (q : Option ℕ) (es : List Entry) : Type 0 where
  pub placed : IsPlaced (told y) js q
  pub tells : Tells (told_of (now_of (told x) ks)) (told_of (now_of (told y) js)) es
  pub stays : HonestOver told honest x ks → HonestOver told honest y js

call_placed : (old new : Option DatagramsTold) (ks js : List DatagramAdds) (p : Option ℕ) (did : DatagramEntry) (a : DatagramAdds) → IsPlaced old ks p → OneMore old ks a js → DatagramsTell old new (Some did) → IsPlaced new js (aims did p)
call_placed None None ks js p did a w more e = more
call_placed None (Some new) ks js p did a w more e = absurd cc
call_placed (Some t) None ks js p did a w more e = absurd e
call_placed (Some t) (Some new) ks js p did a w more e = rw more (placed_more t new ks p did a w e)

call_tells : (old new : Option DatagramsTold) (ks js : List DatagramAdds) (p : Option ℕ) (did : DatagramEntry) (a : DatagramAdds) → IsPlaced old ks p → OneMore old ks a js → DatagramsTell old new (Some did)
    → Tells (told_of (now_of old ks)) (told_of (now_of new js)) (shown_as p did ++ placed_as a)
call_tells None new ks js p did a w more e = tt
call_tells (Some t) None ks js p did a w more e = absurd e
call_tells (Some t) (Some new) ks js p did a w more e =
    let c : DatagramCall = record { quiet = e.quiet; did = did } in
    let is : heard_by new js ≡ places a (hear_call c (heard_by t ks)) = ap (heard_by new) more ∙ ap (λ (n : DatagramsTold). heard_by n (ks ++ a ∷ [])) e.grown ∙ heard_more t ks a c w.enough in
    rw (is, ← w.aimed) (call_adds c a (heard_by t ks) e.unseen)

pub after_call : {D : Type 0} (told : D → Option DatagramsTold) (honest : D → Type 0) (law : AreLaw told honest) (x y : D) (ks js : List DatagramAdds) (p : Option ℕ) (did : DatagramEntry) (a : DatagramAdds)
    → IsPlaced (told x) ks p → OneMore (told x) ks a js → DatagramsTell (told x) (told y) (Some did) → (honest x → honest y) → After told honest x y ks js (aims did p) (shown_as p did ++ placed_as a)
after_call told honest law x y ks js p did a w more e keeps = record {
  placed = call_placed (told x) (told y) ks js p did a w more e;
  tells = call_tells (told x) (told y) ks js p did a w more e;
  stays = λ h.
      let l = call_accords (told x) (told y) ks js p did a w more e (record { lawful = h.lawful; mirrored = h.mirrored }) (law y (keeps h.datagrams)) in
      record { datagrams = keeps h.datagrams; lawful = l.lawful; mirrored = l.mirrored };
}

tells_same : (told : Option DatagramsTold) (ks : List DatagramAdds) → Tells (told_of (now_of told ks)) (told_of (now_of told ks)) []
tells_same None ks = tt
tells_same (Some t) ks = adds_none (heard_by t ks).history (heard_by t ks).history refl (λ n le. refl)

-- a call that found no memory
pub after_none : {D : Type 0} (told : D → Option DatagramsTold) (honest : D → Type 0) (x y : D) (ks js : List DatagramAdds) (p : Option ℕ)
    → IsPlaced (told x) ks p → js ≡ ks → DatagramsTell (told x) (told y) None → (honest x → honest y) → After told honest x y ks js p []
after_none told honest x y ks js p w same e keeps =
    let is = none_told (told x) (told y) e in
    record {
      placed = rw (same, is) w;
      tells = rw (same, is) (tells_same (told x) ks);
      stays = λ h. record { datagrams = keeps h.datagrams; lawful = rw (same, is) (h.lawful); mirrored = rw (same, is) (h.mirrored) };
    }

-- no call was made
pub after_same : {D : Type 0} (told : D → Option DatagramsTold) (honest : D → Type 0) (x y : D) (ks js : List DatagramAdds) (p : Option ℕ)
    → IsPlaced (told x) ks p → told y ≡ told x → js ≡ ks → (honest x → honest y) → After told honest x y ks js p []
after_same told honest x y ks js p w same places keeps = record {
  placed = rw (places, same) w;
  tells = rw (places, same) (tells_same (told x) ks);
  stays = λ h. record { datagrams = keeps h.datagrams; lawful = rw (places, same) (h.lawful); mirrored = rw (places, same) (h.mirrored) };
}

pub note_tells : (old new : Option DatagramsTold) (did : Option DatagramEntry) → DatagramsNote old new did → DatagramsTell old new did
note_tells None new did n = n
note_tells (Some old) None did n = absurd n
note_tells (Some old) (Some new) None n = n
note_tells (Some old) (Some new) (Some did) n = record { quiet = []; grown = n; unseen = refl }

-- a mark is noted, and nothing else
pub note_only : (old new : Option DatagramsTold) (ks js : List DatagramAdds) (p : Option ℕ) (mark : Mark) → IsPlaced old ks p → OneMore old ks added.Nothing js → DatagramsNote old new (Some (Noted mark))
    → NotesOnly (told_of (now_of old ks)) (told_of (now_of new js)) (entry_of mark ∷ [])
note_only None new ks js p mark w more e = tt
note_only (Some t) None ks js p mark w more e = absurd e
note_only (Some t) (Some new) ks js p mark w more e =
    let c : DatagramCall = record { quiet = []; did = Noted mark } in
    let is : heard_by new js ≡ hear_call c (heard_by t ks) = ap (heard_by new) more ∙ ap (λ (n : DatagramsTold). heard_by n (ks ++ added.Nothing ∷ [])) e ∙ heard_more t ks added.Nothing c w.enough in
    rw is (note_appends mark (heard_by t ks))

none_appends : (told : Option DatagramsTold) (ks : List DatagramAdds) → NotesOnly (told_of (now_of told ks)) (told_of (now_of told ks)) []
none_appends None ks = tt
none_appends (Some t) ks = record { grown = sym (append-nil _); earlier = λ n le. refl }

pub note_none : (old new : Option DatagramsTold) (ks js : List DatagramAdds) → js ≡ ks → DatagramsNote old new None → NotesOnly (told_of (now_of old ks)) (told_of (now_of new js)) []
note_none old new ks js same e = rw (same, none_told old new (note_tells old new None e)) (none_appends old ks)

-- what was added to what the datagrams tell
pub added_one : (old new : Option DatagramsTold) (did : DatagramEntry) → DatagramsTell old new (Some did) → Added old new did
added_one None new did e = e
added_one (Some t) None did e = absurd e
added_one (Some t) (Some new) did e = record { quiet = e.quiet; grown = ap (λ (n : DatagramsTold). n.calls) e.grown }

pub begins_honest : {D : Type 0} (told : D → Option DatagramsTold) (honest : D → Type 0) (law : AreLaw told honest) (x y : D) (ks : List DatagramAdds)
    → told y ≡ told x → ks ≡ [] → (honest x → honest y) → IsFresh (told x) → honest x → HonestOver told honest y ks
begins_honest told honest law x y ks same none keeps fresh h =
    let l = begins_accord (told y) (rw same fresh) (law y (keeps h)) in
    rw none (record { datagrams = keeps h; lawful = l.lawful; mirrored = l.mirrored })

-- ---- a place that was kept before the call

pub after_steps : {D : Type 0} (told : D → Option DatagramsTold) (placed : D → List DatagramAdds) (honest : D → Type 0) (law : AreLaw told honest) (x y : D) (p : Option ℕ) (did : DatagramEntry) (a : DatagramAdds)
    → IsPlaced (told x) (placed x) p → Steps told placed honest x y did a → After told honest x y (placed x) (placed y) (aims did p) (shown_as p did ++ placed_as a)
after_steps told placed honest law x y p did a w s = after_call told honest law x y (placed x) (placed y) p did a w s.more s.tells s.stays

-- it was given back, since there was no memory
pub after_stop : {D : Type 0} (told : D → Option DatagramsTold) (placed : D → List DatagramAdds) (honest : D → Type 0) (x y : D) (p : Option ℕ)
    → IsPlaced (told x) (placed x) p → Stops told placed honest x y → After told honest x y (placed x) (placed y) p []
after_stop told placed honest x y p w s = after_none told honest x y (placed x) (placed y) p w s.places s.tells s.stays

-- ---- the faults, which rise by the call alone

pub caused : {T : Type 0} (a b c d : ℕ) (result : Result T LinkFault) → b ≡ a → HasCause b c result → d ≡ c → HasCause a d result
caused a b c d result first h last = subst (λ (n : ℕ). HasCause n d result) first (subst (λ (n : ℕ). HasCause b n result) (sym last) h)

pub caused_arrived : (a b c d : ℕ) (result : Arrived) → b ≡ a → HasCauseArrived b c result → d ≡ c → HasCauseArrived a d result
caused_arrived a b c d result first h last = subst (λ (n : ℕ). HasCauseArrived n d result) first (subst (λ (n : ℕ). HasCauseArrived b n result) (sym last) h)
