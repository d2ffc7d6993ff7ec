-- A line over an honest wire stays honest by each of its calls.
use Rattle.std.proofs.Common.{◌≡◌, ◌≤◌, ◌<◌, ◌^◌, ◌==◌, if◌then◌else◌, ℕ, true, false, List, [], ◌∷◌, ◌++◌, length, take, drop, Option, Some, None, refl, sym, ap, subst, ◌∙◌, arith}
use Rattle.std.proofs.lemmas.List.{length-drop, take-append-drop, take_all}
use Rattle.std.proofs.lemmas.Bool.{eqb-true, eqb-false}
use Rattle.world_model.specs.Lawful.{Lawful}
use Rattle.world_model.specs.Server.{Server}
use Rattle.world_model.specs.Told.{IsLawful}
use Rattle.outside.specs.declared.wire.WireEntry.{WireEntry}
use Rattle.outside.specs.declared.wire.WireEntry.TheVariants.{Connected, Wrote, Read, Noted, Missed}
use Rattle.outside.specs.Wire.{WireCall, WireTold, AddsCall, WireTells}
use Rattle.outside.specs.Records.{record_at}
use Rattle.outside.specs.Reading.{Reading, begins_at, read_call, read_calls, reading, IsLawfulWire}
use Rattle.outside.specs.declared.places.WirePlace.{WirePlace}
use Rattle.outside.specs.declared.places.WireAdds.{WireAdds}
use Rattle.outside.specs.declared.places.WireAdds.TheVariants as added
use Rattle.rpc_record.specs.Stream.{Stream, Along, begun, quietly, shows, places, after_calls, now_of, now_in, AllPlaced, told_of}
use Rattle.rpc_record.specs.Records.{one_fragment}
use Rattle.rpc_record.specs.Shown.{Waiting, Follows}
use Rattle.rpc_record.specs.Honest.{Queued, Mirrored, HonestOver, EndsRecord, IsOwn, IsFresh}
use Rattle.rpc_record.proofs.Replays.{OneMore, placed_at, called_at}
use Rattle.rpc_record.proofs.LineBegins.{begun_is}
use Rattle.rpc_record.proofs.RecordJoins.{fragment_record}
use Rattle.rpc_record.proofs.SplitRecords.{no_record, part_none}
use Rattle.rpc_record.proofs.LinkMirrorsWire.{State, Permits, place_state, call_state}

-- what a link tells, along with its wire
pub record Accords (t : Option WireTold) (now : Option Stream) : Type 0 where
  pub lawful : IsLawful (told_of now)
  pub mirrored : Mirrored t now

reads_more : (cs : List WireCall) (c : WireCall) (r : Reading) → read_calls (cs ++ c ∷ []) r ≡ read_call c (read_calls cs r)
reads_more [] c r = refl
reads_more (x ∷ cs) c r = reads_more cs c (read_call x r)

reading_more : (t new : WireTold) (own : WireEntry) (a : AddsCall t new own) → reading new ≡ read_call (record { quiet = a.quiet; did = own }) (reading t)
reading_more t new own a = ap reading a.grown ∙ reads_more t.calls (record { quiet = a.quiet; did = own }) (record { history = begins_at t.start; unread = []; unsent = [] })

state_at : (t : WireTold) (now : Option Stream) (s : Stream) → now ≡ Some s → Accords (Some t) now → State (reading t) s
state_at t None s e a = absurd cc
state_at t (Some u) s e a = let same : u ≡ s = cc in subst (State (reading t)) same (record { mirrors = a.mirrored; lawful = a.lawful })

along_at : (t : WireTold) (now : Option Stream) (s : Stream) → now ≡ Some s → State (reading t) s → Accords (Some t) now
along_at t None s e w = absurd cc
along_at t (Some u) s e w = let same : s ≡ u = cc in let v = subst (State (reading t)) same w in record { lawful = v.lawful; mirrored = v.mirrors }

-- what may be placed behind a call, where a history is told
abbrev pub MayPlace : WireEntry → WireAdds → Option Stream → Type 0
MayPlace did a None = Unit {0}
MayPlace did a (Some s) = Permits did a s

-- an entry of the link's own may be placed behind any call but a write
abbrev pub IsUnwritten : WireEntry → Type 0
IsUnwritten (Wrote bytes) = ⊥
IsUnwritten did = Unit {0}

own_may : (did : WireEntry) (a : WireAdds) (now : Option Stream) → IsUnwritten did → IsOwn a → MayPlace did a now
own_may did a None free own = tt
own_may (Connected port) a (Some s) free own = own
own_may (Wrote bytes) a (Some s) free own = absurd free
own_may (Read bytes) a (Some s) free own = own
own_may (Noted mark) a (Some s) free own = own
own_may Missed a (Some s) free own = own

may_at : (did : WireEntry) (a : WireAdds) (now : Option Stream) (s : Stream) → now ≡ Some s → MayPlace did a now → Permits did a s
may_at did a None s e p = absurd cc
may_at did a (Some u) s e p = let same : u ≡ s = cc in subst (Permits did a) same p

pub call_along : (old new : Option WireTold) (ks js : List WirePlace) (own : WireEntry) (a : WireAdds) → AllPlaced old ks → OneMore old ks (record { call = true; adds = a }) js → WireTells old new (Some own) → MayPlace own a (now_of old ks)
    → Accords old (now_of old ks) → IsLawfulWire new → Accords new (now_of new js)
call_along None None ks js own a w more e p l n = record { lawful = tt; mirrored = tt }
call_along None (Some new) ks js own a w more e p l n = absurd cc
call_along (Some t) None ks js own a w more e p l n = absurd e
call_along (Some t) (Some new) ks js own a w more e p l n =
    let c : WireCall = record { quiet = e.quiet; did = own } in
    let is = reading_more t new own e in
    let s = state_at t (now_of (Some t) ks) w.now w.is l in
    let after = call_state c a (reading t) w.now (may_at own a (now_of (Some t) ks) w.now w.is p) s (subst (λ (r : Reading). Lawful r.history) is n) in
    rw more (along_at new _ (places a (shows own (quietly e.quiet w.now))) (called_at t new ks own a w e) (subst (λ (r : Reading). State r (places a (shows own (quietly e.quiet w.now)))) (sym is) after))

pub place_along : (told : Option WireTold) (ks js : List WirePlace) (a : WireAdds) → AllPlaced told ks → OneMore told ks (record { call = false; adds = a }) js → IsOwn a → Accords told (now_of told ks) → IsLawfulWire told
    → Accords told (now_of told js)
place_along None ks js a w more own l n = record { lawful = tt; mirrored = tt }
place_along (Some t) ks js a w more own l n =
    rw more (along_at t _ (places a w.now) (placed_at t ks a w) (place_state a (reading t) w.now own (state_at t (now_of (Some t) ks) w.now w.is l) n))

none_told : (old new : Option WireTold) → WireTells old new None → new ≡ old
none_told None new e = e
none_told (Some t) None e = absurd e
none_told (Some t) (Some new) e = ap (λ (x : WireTold). Some x) e

-- ---- over a wire of any kind

along_of : {W : Type 0} (told : W → Option WireTold) (honest : W → Type 0) (a : Along W) → HonestOver told honest a → Accords (told a.over) (now_in told a)
along_of told honest a h = record { lawful = h.lawful; mirrored = h.mirrored }

over_of : {W : Type 0} (told : W → Option WireTold) (honest : W → Type 0) (a : Along W) → honest a.over → Accords (told a.over) (now_in told a) → HonestOver told honest a
over_of told honest a w l = record { wire = w; lawful = l.lawful; mirrored = l.mirrored }

abbrev pub at_wire : {W : Type 0} → W → List WirePlace → ℕ → Along W
at_wire wire ks faults = record { over = wire; kept = ks; faults = faults }

abbrev pub IsLaw : {W : Type 0} → (W → Option WireTold) → (W → Type 0) → Type 0
IsLaw {W = W} told honest = (x : W) → honest x → IsLawfulWire (told x)

pub call_honest : {W : Type 0} (told : W → Option WireTold) (honest : W → Type 0) (law : IsLaw told honest) (x y : W) (ks js : List WirePlace) (f g : ℕ) (own : WireEntry) (a : WireAdds)
    → AllPlaced (told x) ks → OneMore (told x) ks (record { call = true; adds = a }) js → WireTells (told x) (told y) (Some own) → (honest x → honest y) → MayPlace own a (now_of (told x) ks)
    → HonestOver told honest (at_wire x ks f) → HonestOver told honest (at_wire y js g)
call_honest told honest law x y ks js f g own a w more e keeps p h =
    over_of told honest (at_wire y js g) (keeps h.wire)
    (call_along (told x) (told y) ks js own a w more e p (along_of told honest (at_wire x ks f) h) (law y (keeps h.wire)))

-- the same where the call wrote no bytes
pub own_honest : {W : Type 0} (told : W → Option WireTold) (honest : W → Type 0) (law : IsLaw told honest) (x y : W) (ks js : List WirePlace) (f g : ℕ) (own : WireEntry) (a : WireAdds)
    → AllPlaced (told x) ks → OneMore (told x) ks (record { call = true; adds = a }) js → WireTells (told x) (told y) (Some own) → (honest x → honest y) → IsUnwritten own → IsOwn a
    → HonestOver told honest (at_wire x ks f) → HonestOver told honest (at_wire y js g)
own_honest told honest law x y ks js f g own a w more e keeps free is h = call_honest told honest law x y ks js f g own a w more e keeps (own_may own a (now_of (told x) ks) free is) h

-- an entry of the link's own was placed
pub place_stays : {W : Type 0} (told : W → Option WireTold) (honest : W → Type 0) (law : IsLaw told honest) (x y : W) (ks js : List WirePlace) (f g : ℕ) (a : WireAdds)
    → AllPlaced (told x) ks → OneMore (told x) ks (record { call = false; adds = a }) js → told y ≡ told x → (honest x → honest y) → IsOwn a
    → HonestOver told honest (at_wire x ks f) → HonestOver told honest (at_wire y js g)
place_stays told honest law x y ks js f g a w more e keeps own h =
    let l : Accords (told x) (now_of (told x) js) = place_along (told x) ks js a w more own (along_of told honest (at_wire x ks f) h) (law x h.wire) in
    over_of told honest (at_wire y js g) (keeps h.wire) (rw e l)

pub none_honest : {W : Type 0} (told : W → Option WireTold) (honest : W → Type 0) (law : IsLaw told honest) (x y : W) (ks js : List WirePlace) (f g : ℕ)
    → AllPlaced (told x) ks → OneMore (told x) ks (record { call = false; adds = added.Nothing }) js → WireTells (told x) (told y) None → (honest x → honest y)
    → HonestOver told honest (at_wire x ks f) → HonestOver told honest (at_wire y js g)
none_honest told honest law x y ks js f g w more e keeps h =
    let l : Accords (told x) (now_of (told x) js) = place_along (told x) ks js added.Nothing w more tt (along_of told honest (at_wire x ks f) h) (law x h.wire) in
    over_of told honest (at_wire y js g) (keeps h.wire) (rw (none_told (told x) (told y) e) l)

-- ---- bytes of a record

-- bytes that end a record may be placed as one, and fewer as none
pub may_write : (now : Option Stream) (bytes : List ℕ) (n : ℕ) → n ≤ length bytes → EndsRecord now bytes → MayPlace (Wrote (take n bytes)) (if n == length bytes then added.Whole else added.Nothing) now
may_write None bytes n le e = tt
may_write (Some s) bytes n le e =
    elim (n == length bytes) as (λ b. (n == length bytes) ≡ b → Permits (Wrote (take n bytes)) (if b then added.Whole else added.Nothing) s) [
      | true ↦ λ is. (e.0, e.1, e.2, rw (take_all n bytes (omega (arith, eqb-true _ _ is))) e.3)
      | false ↦ λ is. (e.0, e.2, part_none e.0 (take n bytes) (drop n bytes) e.1 (rw (take-append-drop n bytes) e.3) (omega (arith, length-drop n bytes, le, eqb-false _ _ is)))
    ] refl

-- what is left of a record that goes out as one fragment
pub ends_record : (now : Option Stream) (w : Waiting) (text rest rec : List ℕ) (at : ℕ) → Follows now w (Some (take at text)) → text ≡ one_fragment rec → length rec < 2 ^ 31 → rest ≡ drop at text → EndsRecord now rest
ends_record None w text rest rec at f is fits back = tt
ends_record (Some s) w text rest rec at f is fits back =
    (take at text, rec, f.went, rw back (ap record_at (take-append-drop at text ∙ is) ∙ fragment_record rec fits))

-- ---- the beginning

begins_state : (start : Server) → Lawful (begins_at start) → State (record { history = begins_at start; unread = []; unsent = [] }) (begun start [])
begins_state start l = record {
  mirrors = record {
    goes = record {
      covers = record {
        has = λ m e lt at cited. absurd (omega (arith, lt));
        verfs = λ i le. (0, omega arith, refl);
      };
      server = refl;
    };
    pending = [];
    came = refl;
    queue = Queued.none [] no_record;
    went = refl;
  };
  lawful = l;
}

begins_along : (told : Option WireTold) → IsFresh told → IsLawfulWire told → Accords told (now_of told [])
begins_along None f l = record { lawful = tt; mirrored = tt }
begins_along (Some t) f l = along_at t (now_of (Some t) []) (begun t.start []) (ap (λ (s : Stream). Some s) (begun_is t) ∙ ap (λ (cs : List WireCall). Some (begun (after_calls t.start cs) [])) f) (fresh_state t f l)
  where
    fresh_state : (t : WireTold) → t.calls ≡ [] → Lawful (reading t).history → State (reading t) (begun t.start [])
    fresh_state t f l =
        let is : reading t ≡ record { history = begins_at t.start; unread = []; unsent = [] } = ap (λ (cs : List WireCall). read_calls cs (record { history = begins_at t.start; unread = []; unsent = [] })) f in
        rw is (begins_state t.start (subst (λ (r : Reading). Lawful r.history) is l))

pub begins_honest : {W : Type 0} (told : W → Option WireTold) (honest : W → Type 0) (law : IsLaw told honest) (x y : W) (f : ℕ) (ks : List WirePlace)
    → told y ≡ told x → ks ≡ [] → (honest x → honest y) → IsFresh (told x) → honest x → HonestOver told honest (at_wire y ks f)
begins_honest told honest law x y f ks same none keeps fresh h =
    over_of told honest (at_wire y ks f) (keeps h) (rw none (begins_along (told y) (rw same fresh) (law y (keeps h))))
