-- What a link tells goes along with what is read from its datagrams, call by call.
use Rattle.std.proofs.Common.{◌≡◌, ℕ, true, false, Bool, List, [], ◌∷◌, ◌++◌, Option, Some, None, if◌then◌else◌, refl, sym, ap, subst, ◌∙◌, arith}
use Rattle.world_model.specs.declared.entry.Entry.TheVariants as entries
use Rattle.world_model.specs.Server.{Server}
use Rattle.world_model.specs.Lawful.{Lawful}
use Rattle.world_model.specs.Told.{IsLawful}
use Rattle.outside.specs.declared.datagrams.DatagramEntry.{DatagramEntry}
use Rattle.outside.specs.declared.datagrams.DatagramEntry.TheVariants.{Aimed, Sent, Came, Noted, Missed}
use Rattle.outside.specs.Link.{entry_of}
use Rattle.outside.specs.Reading.{begins_at, now_at, adds, follows}
use Rattle.outside.specs.Datagrams.{DatagramCall, DatagramsTold, AddsDatagram, DatagramsTell, Heard, is_aimed, shown, hear_call, hear_calls, heard, AreLawful}
use Rattle.rpc_record.proofs.LawfulAlong.{Both, both_steps, both_add, both_failed, both_sent, lawful_front}
use Rattle.outside.specs.declared.places.DatagramAdds.{DatagramAdds}
use Rattle.outside.specs.declared.places.DatagramAdds.TheVariants as added
use Rattle.udp_link.specs.Placing.{places, begun, after_calls, heard_by, now_of, told_of, Placed, IsPlaced}
use Rattle.udp_link.specs.Honest.{Mirrors, Mirrored, IsFresh}
use Rattle.udp_link.proofs.PlacesKept.{OneMore}
use Rattle.udp_link.proofs.Deliveries.{heard_more}
use Rattle.udp_link.proofs.Begins.{begun_is}

pub record State (r s : Heard) : Type 0 where
  pub mirrors : Mirrors r s
  pub lawful : Lawful s.history

abbrev both_of : (r s : Heard) → State r s → Both r.history s.history
both_of r s w = record { goes = w.mirrors.goes; lawful = w.lawful }

abbrev state_of : (r s : Heard) → Both r.history s.history → s.aimed ≡ r.aimed → State r s
state_of r s b e = record { mirrors = record { goes = b.goes; aimed = e }; lawful = b.lawful }

came_state : (b : Bool) (bytes : List ℕ) (r s : Heard) → State r s → Lawful (if b then record r { history = adds r.history (entries.Delivered bytes) } else r).history
    → State (if b then record r { history = adds r.history (entries.Delivered bytes) } else r) (if b then record s { history = adds s.history (entries.Delivered bytes) } else s)
came_state true bytes r s w l =
    state_of (record r { history = adds r.history (entries.Delivered bytes) }) (record s { history = adds s.history (entries.Delivered bytes) }) (both_add r.history s.history (entries.Delivered bytes) (both_of r s w) l) w.mirrors.aimed
came_state false bytes r s w l = w

shown_state : (did : DatagramEntry) (r s : Heard) → State r s → Lawful (shown did r).history → State (shown did r) (shown did s)
shown_state (Aimed port) r s w l = state_of (shown (Aimed port) r) (shown (Aimed port) s) (both_add r.history s.history (entries.Dialed port) (both_of r s w) l) refl
shown_state (Sent bytes) r s w l = state_of (shown (Sent bytes) r) (shown (Sent bytes) s) (both_add r.history s.history (entries.Sent bytes) (both_of r s w) l) w.mirrors.aimed
shown_state (Came from bytes) r s w l =
    let same : is_aimed r.aimed from ≡ is_aimed s.aimed from = ap (λ (q : Option ℕ). is_aimed q from) (sym w.mirrors.aimed) in
    subst (λ (b : Bool). State (shown (Came from bytes) r) (if b then record s { history = adds s.history (entries.Delivered bytes) } else s)) same (came_state (is_aimed r.aimed from) bytes r s w l)
shown_state (Noted mark) r s w l = state_of (shown (Noted mark) r) (shown (Noted mark) s) (both_add r.history s.history (entry_of mark) (both_of r s w) l) w.mirrors.aimed
shown_state Missed r s w l = w

places_state : (a : DatagramAdds) (r s : Heard) → State r s → State r (places a s)
places_state added.Nothing r s w = w
places_state added.Failed r s w = state_of r (places added.Failed s) (both_failed r.history s.history (both_of r s w)) w.mirrors.aimed
places_state (added.Unsent bytes) r s w =
    state_of r (places (added.Unsent bytes) s) (both_failed r.history (adds s.history (entries.Sent bytes)) (both_sent r.history s.history bytes (both_of r s w))) w.mirrors.aimed

came_before : (b : Bool) (bytes : List ℕ) (r : Heard) → Lawful (if b then record r { history = adds r.history (entries.Delivered bytes) } else r).history → Lawful r.history
came_before true bytes r l = lawful_front r.history (entries.Delivered bytes) (now_at r.history) l
came_before false bytes r l = l

shown_before : (did : DatagramEntry) (r : Heard) → Lawful (shown did r).history → Lawful r.history
shown_before (Aimed port) r l = lawful_front r.history (entries.Dialed port) (now_at r.history) l
shown_before (Sent bytes) r l = lawful_front r.history (entries.Sent bytes) (now_at r.history) l
shown_before (Came from bytes) r l = came_before (is_aimed r.aimed from) bytes r l
shown_before (Noted mark) r l = lawful_front r.history (entry_of mark) (now_at r.history) l
shown_before Missed r l = l

call_state : (c : DatagramCall) (a : DatagramAdds) (r s : Heard) → State r s → Lawful (hear_call c r).history → State (hear_call c r) (places a (hear_call c s))
call_state c a r s w l =
    let q : Heard = record r { history = follows c.quiet r.history } in
    let z : Heard = record s { history = follows c.quiet s.history } in
    let b = both_steps c.quiet r.history s.history (both_of r s w) (shown_before c.did q l) in
    places_state a (shown c.did q) (shown c.did z) (shown_state c.did q z (state_of q z b w.mirrors.aimed) l)

-- ---- over datagrams that may tell

-- what a link tells, along with its datagrams
pub record Accords (t : Option DatagramsTold) (now : Option Heard) : Type 0 where
  pub lawful : IsLawful (told_of now)
  pub mirrored : Mirrored t now

hears_more : (cs : List DatagramCall) (c : DatagramCall) (r : Heard) → hear_calls (cs ++ c ∷ []) r ≡ hear_call c (hear_calls cs r)
hears_more [] c r = refl
hears_more (x ∷ cs) c r = hears_more cs c (hear_call x r)

heard_new : (t new : DatagramsTold) (did : DatagramEntry) (e : AddsDatagram t new did) → heard new ≡ hear_call (record { quiet = e.quiet; did = did }) (heard t)
heard_new t new did e = ap heard e.grown ∙ hears_more t.calls (record { quiet = e.quiet; did = did }) (record { history = begins_at t.start; aimed = None })

link_new : (t new : DatagramsTold) (ks js : List DatagramAdds) (p : Option ℕ) (did : DatagramEntry) (a : DatagramAdds) (w : Placed t ks p) (e : AddsDatagram t new did) → js ≡ ks ++ a ∷ []
    → heard_by new js ≡ places a (hear_call (record { quiet = e.quiet; did = did }) (heard_by t ks))
link_new t new ks js p did a w e is =
    ap (heard_by new) is ∙ ap (λ (n : DatagramsTold). heard_by n (ks ++ a ∷ [])) e.grown ∙ heard_more t ks a (record { quiet = e.quiet; did = did }) w.enough

pub call_accords : (old new : Option DatagramsTold) (ks js : List DatagramAdds) (p : Option ℕ) (did : DatagramEntry) (a : DatagramAdds) → IsPlaced old ks p → OneMore old ks a js → DatagramsTell old new (Some did) → Accords old (now_of old ks) → AreLawful new
    → Accords new (now_of new js)
call_accords None None ks js p did a w more e l n = record { lawful = tt; mirrored = tt }
call_accords None (Some new) ks js p did a w more e l n = absurd cc
call_accords (Some t) None ks js p did a w more e l n = absurd e
call_accords (Some t) (Some new) ks js p did a w more e l n =
    let c : DatagramCall = record { quiet = e.quiet; did = did } in
    let is = heard_new t new did e in
    let after = call_state c a (heard t) (heard_by t ks) (record { mirrors = l.mirrored; lawful = l.lawful }) (subst (λ (r : Heard). Lawful r.history) is n) in
    let mine = link_new t new ks js p did a w e more in
    let both : State (heard new) (heard_by new js) = rw (is, mine) after in
    record { lawful = both.lawful; mirrored = both.mirrors }

pub none_told : (old new : Option DatagramsTold) → DatagramsTell old new None → new ≡ old
none_told None new e = e
none_told (Some t) None e = absurd e
none_told (Some t) (Some new) e = ap (λ (x : DatagramsTold). Some x) e

-- ---- the beginning

begins_state : (start : Server) → Lawful (begins_at start) → State (record { history = begins_at start; aimed = None }) (begun start)
begins_state start l = record {
  mirrors = record {
    goes = record {
      covers = record {
        has = λ m e lt at cited. absurd (omega (arith, lt));
        verfs = λ i le. (0, omega arith, refl);
      };
      server = refl;
    };
    aimed = refl;
  };
  lawful = l;
}

fresh_state : (t : DatagramsTold) → t.calls ≡ [] → Lawful (heard t).history → State (heard t) (heard_by t [])
fresh_state t f l =
    let theirs : heard t ≡ record { history = begins_at t.start; aimed = None } = ap (λ (cs : List DatagramCall). hear_calls cs (record { history = begins_at t.start; aimed = None })) f in
    let mine : heard_by t [] ≡ begun t.start = begun_is t ∙ ap (λ (cs : List DatagramCall). begun (after_calls t.start cs)) f in
    rw (theirs, mine) (begins_state t.start (subst (λ (r : Heard). Lawful r.history) theirs l))

pub begins_accord : (told : Option DatagramsTold) → IsFresh told → AreLawful told → Accords told (now_of told [])
begins_accord None f l = record { lawful = tt; mirrored = tt }
begins_accord (Some t) f l = let s = fresh_state t f l in record { lawful = s.lawful; mirrored = s.mirrors }
