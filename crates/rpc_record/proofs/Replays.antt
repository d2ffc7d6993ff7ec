-- How what a line tells grows.
use Rattle.std.proofs.Common.{◌≡◌, ◌≤◌, ◌+◌, ◌-◌, drop, take, arith, ℕ, length, Bool, true, false, List, [], ◌∷◌, ◌++◌, Option, Some, None, refl, sym, ap, ◌∙◌}
use Rattle.std.proofs.lemmas.List.{length-append, drop-append-le, take-append-le}
use Rattle.world_model.specs.declared.entry.Mark.{Mark}
use Rattle.outside.specs.declared.wire.WireEntry.{WireEntry}
use Rattle.outside.specs.declared.wire.WireEntry.TheVariants.{Connected, Wrote, Read, Noted, Missed}
use Rattle.outside.specs.declared.places.WirePlace.{WirePlace}
use Rattle.outside.specs.declared.places.WireAdds.{WireAdds}
use Rattle.outside.specs.declared.places.WireAdds.TheVariants as added
use Rattle.outside.specs.Wire.{WireCall, WireTold, AddsCall, WireTells, WireNotes}
use Rattle.outside.specs.Places.{KeepsPlace, PutsLast}
use Rattle.outside.specs.Records.{◌>>=◌, nth_record}
use Rattle.rpc_record.specs.Stream.{Stream, quietly, shows, delivers, sends, places, called_of, called, replays, calls_in, latest, earlier, begun_at, now_of, Placed, AllPlaced, Goes, Called}

abbrev with_more : List WireCall → Stream → Stream
with_more more s = record s { calls = s.calls ++ more }

delivers_more : (more : List WireCall) (r : Option (List ℕ)) (s : Stream) → delivers r (with_more more s) ≡ with_more more (delivers r s)
delivers_more more None s = refl
delivers_more more (Some rec) s = refl

sends_more : (more : List WireCall) (r : Option (List ℕ)) (s : Stream) → sends r (with_more more s) ≡ with_more more (sends r s)
sends_more more None s = refl
sends_more more (Some rec) s = refl

places_more : (more : List WireCall) (t : WireAdds) (s : Stream) → places t (with_more more s) ≡ with_more more (places t s)
places_more more added.Nothing s = refl
places_more more added.Failed s = refl
places_more more added.Whole s = sends_more more (nth_record s.sent s.went) s
places_more more (added.Part bytes) s = refl
places_more more added.Delivered s = delivers_more more (nth_record s.taken s.came) s

shows_more : (more : List WireCall) (own : WireEntry) (s : Stream) → shows own (with_more more s) ≡ with_more more (shows own s)
shows_more more (Connected port) s = refl
shows_more more (Wrote bytes) s = refl
shows_more more (Read bytes) s = refl
shows_more more (Noted mark) s = refl
shows_more more Missed s = refl

some_is : {A : Type 0} (x y : A) → Some x ≡ Some y → x ≡ y
some_is x y e = cc

called_of_more : (more cs : List WireCall) (s t : Stream) → s.calls ≡ cs → called_of cs s ≡ Some t → called_of (cs ++ more) (with_more more s) ≡ Some (with_more more t)
called_of_more more [] s t at e = absurd cc
called_of_more more (c ∷ cs) s t at e =
    let is : shows c.did (quietly c.quiet (record s { calls = cs })) ≡ t = some_is _ _ e in
    ap (λ (u : Stream). Some u) (shows_more more c.did (quietly c.quiet (record s { calls = cs })) ∙ ap (with_more more) is)

called_more : (more : List WireCall) (b : Bool) (s t : Stream) → called b s ≡ Some t → called b (with_more more s) ≡ Some (with_more more t)
called_more more false s t e = ap (λ (u : Stream). Some (with_more more u)) (some_is s t e)
called_more more true s t e = called_of_more more s.calls s t refl e

pub bind_some : {A B : Type 0} (r : Option A) (f : A → Option B) (y : B) → (r >>= f) ≡ Some y → (x : A) × (r ≡ Some x) × (f x ≡ Some y)
bind_some (Some x) f y e = (x, refl, e)
bind_some None f y e = absurd cc

-- what was placed stays so when calls are added
pub replays_more : (more : List WireCall) (ks : List WirePlace) (s t : Stream) → replays ks s ≡ Some t → replays ks (with_more more s) ≡ Some (with_more more t)
replays_more more [] s t e = ap (λ (u : Stream). Some (with_more more u)) (some_is s t e)
replays_more more (k ∷ ks) s t e =
    let o = bind_some (called k.call s) (λ u. replays ks (places k.adds u)) t e in
    rw (called_more more k.call s o.0 o.1, places_more more k.adds o.0) (replays_more more ks (places k.adds o.0) t o.2)

pub replays_append : (ks js : List WirePlace) (s t : Stream) → replays ks s ≡ Some t → replays (ks ++ js) s ≡ replays js t
replays_append [] js s t e = ap (replays js) (some_is s t e)
replays_append (k ∷ ks) js s t e =
    let o = bind_some (called k.call s) (λ u. replays ks (places k.adds u)) t e in
    rw (o.1) (replays_append ks js (places k.adds o.0) t o.2)

-- js is ks with one more place; where the wire doesn't tell its calls, it is empty
abbrev pub OneMore : Option WireTold → List WirePlace → WirePlace → List WirePlace → Type 0
OneMore None ks k js = js ≡ []
OneMore (Some t) ks k js = js ≡ ks ++ k ∷ []

-- after a place was kept
pub room_more : (told : Option WireTold) (ks js : List WirePlace) (k : WirePlace) → AllPlaced told ks → KeepsPlace told ks js k → OneMore told ks k js
room_more None ks js k w e = e ∙ w
room_more (Some t) ks js k w e = e

-- after it was filled
pub put_more : (told : Option WireTold) (ks mid js : List WirePlace) (j k : WirePlace) → AllPlaced told ks → KeepsPlace told ks mid j → PutsLast mid js k → OneMore told ks k js
put_more None ks mid js j k w e p = p.none (e ∙ w)
put_more (Some t) ks mid js j k w e p = p.last ks j e

-- what a line is after one more place
pub record Now (old new : Option WireTold) (ks js : List WirePlace) (R : Stream → Stream → Type 0) : Type 0 where
  pub placed : AllPlaced new js
  pub goes : Goes (now_of old ks) (now_of new js) R

goes_to : (r q : Option Stream) (s t : Stream) (R : Stream → Stream → Type 0) → r ≡ Some s → q ≡ Some t → R s t → Goes r q R
goes_to r q s t R a b h = rw (a, b) h

delivers_stay : (r : Option (List ℕ)) (s : Stream) → (delivers r s).calls ≡ s.calls
delivers_stay None s = refl
delivers_stay (Some rec) s = refl

sends_stay : (r : Option (List ℕ)) (s : Stream) → (sends r s).calls ≡ s.calls
sends_stay None s = refl
sends_stay (Some rec) s = refl

places_stay : (adds : WireAdds) (s : Stream) → (places adds s).calls ≡ s.calls
places_stay added.Nothing s = refl
places_stay added.Failed s = refl
places_stay added.Whole s = sends_stay (nth_record s.sent s.went) s
places_stay (added.Part bytes) s = refl
places_stay added.Delivered s = delivers_stay (nth_record s.taken s.came) s

shows_stay : (own : WireEntry) (s : Stream) → (shows own s).calls ≡ s.calls
shows_stay (Connected port) s = refl
shows_stay (Wrote bytes) s = refl
shows_stay (Read bytes) s = refl
shows_stay (Noted mark) s = refl
shows_stay Missed s = refl

calls_in-append : (ks js : List WirePlace) → calls_in (ks ++ js) ≡ calls_in ks + calls_in js
calls_in-append [] js = omega arith
calls_in-append (k ∷ ks) js = omega (arith, calls_in-append ks js)

-- a place without a call
no_more : (ks : List WirePlace) (adds : WireAdds) → calls_in (ks ++ record { call = false; adds = adds } ∷ []) ≡ calls_in ks
no_more ks adds = omega (arith, calls_in-append ks (record { call = false; adds = adds } ∷ []))

one_more : (ks : List WirePlace) (adds : WireAdds) → calls_in (ks ++ record { call = true; adds = adds } ∷ []) ≡ calls_in ks + 1
one_more ks adds = omega (arith, calls_in-append ks (record { call = true; adds = adds } ∷ []))

latest_more : (n : ℕ) (calls : List WireCall) (c : WireCall) → n ≤ length calls → latest (n + 1) (calls ++ c ∷ []) ≡ latest n calls ++ c ∷ []
latest_more n calls c le =
    let k : length (calls ++ c ∷ []) - (n + 1) ≡ length calls - n = omega (arith, length-append calls (c ∷ []), le) in
    ap (λ (i : ℕ). drop i (calls ++ c ∷ [])) k ∙ drop-append-le (length calls - n) calls (c ∷ []) (omega arith)

earlier_more : (n : ℕ) (calls : List WireCall) (c : WireCall) → n ≤ length calls → earlier (n + 1) (calls ++ c ∷ []) ≡ earlier n calls
earlier_more n calls c le =
    let k : length (calls ++ c ∷ []) - (n + 1) ≡ length calls - n = omega (arith, length-append calls (c ∷ []), le) in
    ap (λ (i : ℕ). take i (calls ++ c ∷ [])) k ∙ take-append-le (length calls - n) calls (c ∷ []) (omega arith)

begun_more : (n : ℕ) (t : WireTold) (c : WireCall) → n ≤ length t.calls → begun_at (n + 1) (record { start = t.start; calls = t.calls ++ c ∷ [] }) ≡ with_more (c ∷ []) (begun_at n t)
begun_more n t c le = rw (earlier_more n t.calls c le, latest_more n t.calls c le) refl

-- where a line is after a place without a call
pub placed_at : (t : WireTold) (ks : List WirePlace) (adds : WireAdds) (w : Placed t ks) → now_of (Some t) (ks ++ record { call = false; adds = adds } ∷ []) ≡ Some (places adds w.now)
placed_at t ks adds w =
    let k : WirePlace = record { call = false; adds = adds } in
    ap (λ (n : ℕ). replays (ks ++ k ∷ []) (begun_at n t)) (no_more ks adds) ∙ replays_append ks (k ∷ []) (begun_at (calls_in ks) t) w.now w.is

pub place_now : (old : Option WireTold) (ks js : List WirePlace) (adds : WireAdds) → AllPlaced old ks → OneMore old ks (record { call = false; adds = adds }) js
    → Now old old ks js (λ s t. t ≡ places adds s)
place_now None ks js adds w more = record { placed = more; goes = refl }
place_now (Some t) ks js adds w more = rw more (record {
  placed = record { enough = omega (arith, no_more ks adds, w.enough); now = places adds w.now; is = placed_at t ks adds w; all = places_stay adds w.now ∙ w.all };
  goes = goes_to _ _ w.now (places adds w.now) (λ s t. t ≡ places adds s) w.is (placed_at t ks adds w) refl;
})

-- the same over a wire that tells what it told before
pub place_same : (old new : Option WireTold) (ks js : List WirePlace) (adds : WireAdds) → AllPlaced old ks → OneMore old ks (record { call = false; adds = adds }) js → new ≡ old
    → Now old new ks js (λ s t. t ≡ places adds s)
place_same old new ks js adds w more e = rw e (place_now old ks js adds w more)

last_call : (cs : List WireCall) (c : WireCall) (adds : WireAdds) (u : Stream) → cs ≡ []
    → (called_of (cs ++ c ∷ []) u >>= λ t. Some (places adds t)) ≡ Some (places adds (shows c.did (quietly c.quiet (record u { calls = [] }))))
last_call [] c adds u e = refl
last_call (x ∷ xs) c adds u e = absurd cc

no_calls : (s : Stream) → s.calls ≡ [] → record s { calls = [] } ≡ s
no_calls s e = ap (λ (cs : List WireCall). record s { calls = cs }) (sym e)

-- where a line is after a call
pub called_at : (t new : WireTold) (ks : List WirePlace) (own : WireEntry) (adds : WireAdds) (w : Placed t ks) (a : AddsCall t new own)
    → now_of (Some new) (ks ++ record { call = true; adds = adds } ∷ []) ≡ Some (places adds (shows own (quietly a.quiet w.now)))
called_at t new ks own adds w a =
    let c : WireCall = record { quiet = a.quiet; did = own } in
    let k : WirePlace = record { call = true; adds = adds } in
    let n : ℕ = calls_in ks in
    let more : begun_at (calls_in (ks ++ k ∷ [])) new ≡ with_more (c ∷ []) (begun_at n t) =
    ap (λ (m : ℕ). begun_at m new) (one_more ks adds) ∙ ap (begun_at (n + 1)) a.grown ∙ begun_more n t c w.enough in
    ap (replays (ks ++ k ∷ [])) more
    ∙ replays_append ks (k ∷ []) (with_more (c ∷ []) (begun_at n t)) (with_more (c ∷ []) w.now) (replays_more (c ∷ []) ks (begun_at n t) w.now w.is)
    ∙ last_call w.now.calls c adds (with_more (c ∷ []) w.now) w.all
    ∙ ap (λ (u : Stream). Some (places adds (shows own (quietly a.quiet u)))) (no_calls w.now w.all)

pub call_now : (old new : Option WireTold) (ks js : List WirePlace) (own : WireEntry) (adds : WireAdds) → AllPlaced old ks → OneMore old ks (record { call = true; adds = adds }) js → WireTells old new (Some own)
    → Now old new ks js (Called own adds)
call_now None None ks js own adds w more e = record { placed = more; goes = refl }
call_now None (Some new) ks js own adds w more e = absurd cc
call_now (Some t) None ks js own adds w more e = absurd e
call_now (Some t) (Some new) ks js own adds w more a =
    let after : Stream = places adds (shows own (quietly a.quiet w.now)) in
    let is = called_at t new ks own adds w a in
    rw more (record {
      placed = record {
        enough = omega (arith, one_more ks adds, w.enough, ap (λ (u : WireTold). length u.calls) a.grown, length-append t.calls (record { quiet = a.quiet; did = own } ∷ []));
        now = after;
        is = is;
        all = places_stay adds (shows own (quietly a.quiet w.now)) ∙ shows_stay own (quietly a.quiet w.now) ∙ w.all;
      };
      goes = goes_to _ _ w.now after (Called own adds) w.is is (record { quiet = a.quiet; unseen = a.unseen; is = refl });
    })

pub none_now : (old new : Option WireTold) (ks js : List WirePlace) → AllPlaced old ks → OneMore old ks (record { call = false; adds = added.Nothing }) js → WireTells old new None
    → Now old new ks js (λ s t. t ≡ s)
none_now None None ks js w more e = record { placed = more; goes = refl }
none_now None (Some new) ks js w more e = absurd cc
none_now (Some t) None ks js w more e = absurd e
none_now (Some t) (Some new) ks js w more e = rw e (place_now (Some t) ks js added.Nothing w more)

-- a mark is noted, and nothing of the server's
pub note_now : (old new : Option WireTold) (ks js : List WirePlace) (mark : Mark) → AllPlaced old ks → OneMore old ks (record { call = true; adds = added.Nothing }) js → WireNotes old new (Some (Noted mark))
    → Now old new ks js (λ s t. t ≡ shows (Noted mark) s)
note_now None None ks js mark w more e = record { placed = more; goes = refl }
note_now None (Some new) ks js mark w more e = absurd cc
note_now (Some t) None ks js mark w more e = absurd e
note_now (Some t) (Some new) ks js mark w more e =
    let a : AddsCall t new (Noted mark) = record { quiet = []; grown = e; unseen = refl } in
    rw more (record {
      placed = (call_now (Some t) (Some new) ks (ks ++ record { call = true; adds = added.Nothing } ∷ []) (Noted mark) added.Nothing w refl a).placed;
      goes = goes_to _ _ w.now (shows (Noted mark) w.now) (λ s u. u ≡ shows (Noted mark) s) w.is (called_at t new ks (Noted mark) added.Nothing w a) refl;
    })
