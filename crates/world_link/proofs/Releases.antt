-- Replies that are released one at a time.
use Rattle.std.proofs.Common.{◌≡◌, ◌<◌, ◌≤◌, ◌+◌, ℕ, suc, List, [], ◌∷◌, ◌++◌, length, map, take, drop, get_or, Bool, true, false, not, cond, Option, Some, None, position, nat_lt, refl, sym, ap, ◌∙◌, arith}
use Rattle.std.specs.List.{remove, position_or_len}
use Rattle.std.proofs.lemmas.List.{map-append, length-map, get_or-map, take-map, drop-map}
use Rattle.world_link.specs.Holding.{HeldView, HeldReply, held_view, are_past, released_of}
use Rattle.world_link.specs.Turning.{released}
use Rattle.world_link.specs.View.{ServerView}

abbrev is_due : List ℕ → HeldView → Bool
is_due turns held = are_past turns held.waits

abbrev first : List ℕ → List HeldView → ℕ
first turns held = position_or_len (is_due turns) held

abbrev Released : List ℕ → List (List ℕ) → List HeldView → HeldView → Type 0
Released turns ready held d = released_of turns ready held ≡ released_of turns (ready ++ (get_or held (first turns held) d).bytes ∷ []) (remove held (first turns held))

one_more : (n : ℕ) → 1 + n ≡ suc n
one_more n = omega arith

step : (turns : List ℕ) (ready : List (List ℕ)) (h : HeldView) (more : List HeldView) (d : HeldView) (b : Bool) → is_due turns h ≡ b → (first turns more < length more → Released turns ready more d) → first turns (h ∷ more) < length (h ∷ more) → Released turns ready (h ∷ more) d
step turns ready h more d true e ih l = rw e refl
step turns ready h more d false e ih l =
    let k : first turns more < length more = omega (arith, rw e at l) in
    rw (e, one_more) (rw e (ap (λ (r : List (List ℕ) × List HeldView). (r.0, h ∷ r.1)) (ih k)))

first_released : (turns : List ℕ) (ready : List (List ℕ)) (held : List HeldView) (d : HeldView) → first turns held < length held → Released turns ready held d
first_released turns ready [] d l = absurd (omega (arith, l))
first_released turns ready (h ∷ more) d l = step turns ready h more d (is_due turns h) refl (first_released turns ready more d) l

none_step : (turns : List ℕ) (ready : List (List ℕ)) (h : HeldView) (more : List HeldView) (b : Bool) → is_due turns h ≡ b → (length more ≤ first turns more → released_of turns ready more ≡ (ready, more)) → length (h ∷ more) ≤ first turns (h ∷ more) → released_of turns ready (h ∷ more) ≡ (ready, h ∷ more)
none_step turns ready h more true e ih l = absurd (omega (arith, rw e at l))
none_step turns ready h more false e ih l =
    let k : length more ≤ first turns more = omega (arith, rw e at l) in
    rw e (ap (λ (r : List (List ℕ) × List HeldView). (r.0, h ∷ r.1)) (ih k))

none_released : (turns : List ℕ) (ready : List (List ℕ)) (held : List HeldView) → length held ≤ first turns held → released_of turns ready held ≡ (ready, held)
none_released turns ready [] l = refl
none_released turns ready (h ∷ more) l = none_step turns ready h more (is_due turns h) refl (none_released turns ready more) l

-- what `position` says
pub found : (n m place : ℕ) (b : Bool) → nat_lt n m ≡ b → cond b (Some n) None ≡ Some place → (n < m) × (n ≡ place)
found n m place true t e = (search (arith, t), cc)
found n m place false t e = absurd cc

none : (n m : ℕ) (b : Bool) → nat_lt n m ≡ b → cond b (Some n) None ≡ None → m ≤ n
none n m true t e = absurd cc
none n m false t e = search (arith, t)

-- the first reply that is due is ready, and what is released then is the rest
pub releases : (turns : List ℕ) (v w : ServerView) (place : ℕ) (h : HeldView) → position (λ (held : HeldView). are_past turns held.waits) v.held ≡ Some place → h ≡ get_or v.held place h
    → w ≡ record v { ready = v.ready ++ h.bytes ∷ []; held = remove v.held place } → released turns w ≡ released turns v
releases turns v w place h p is e =
    let f : (first turns v.held < length v.held) × (first turns v.held ≡ place) = found (first turns v.held) (length v.held) place (nat_lt (first turns v.held) (length v.held)) refl p in
    rw e (ap (λ (r : List (List ℕ) × List HeldView). record v { ready = r.0; held = r.1 }) (sym (at f.0 f.1)))
  where
    at : first turns v.held < length v.held → first turns v.held ≡ place → released_of turns v.ready v.held ≡ released_of turns (v.ready ++ h.bytes ∷ []) (remove v.held place)
    at l q = first_released turns v.ready v.held h l ∙ ap (λ (n : ℕ). released_of turns (v.ready ++ (get_or v.held n h).bytes ∷ []) (remove v.held n)) q ∙ ap (λ (g : HeldView). released_of turns (v.ready ++ g.bytes ∷ []) (remove v.held place)) (sym is)

pub is_released : (turns : List ℕ) (v : ServerView) → position (λ (held : HeldView). are_past turns held.waits) v.held ≡ None → v ≡ released turns v
is_released turns v p =
    ap (λ (r : List (List ℕ) × List HeldView). record v { ready = r.0; held = r.1 }) (sym (none_released turns v.ready v.held (none (first turns v.held) (length v.held) (nat_lt (first turns v.held) (length v.held)) refl p)))

-- the same by the parts that change
pub releases_parts : (turns : List ℕ) (v w : ServerView) (place : ℕ) (h : HeldView) (due : Option ℕ) → due ≡ position (λ (held : HeldView). are_past turns held.waits) v.held → due ≡ Some place → h ≡ get_or v.held place h
    → w.ready ≡ v.ready ++ h.bytes ∷ [] → w.held ≡ remove v.held place → w ≡ record v { ready = w.ready; held = w.held } → released turns w ≡ released turns v
releases_parts turns v w place h due p d is r k e =
    releases turns v w place h (sym p ∙ d) is (e ∙ ap (λ (t : List (List ℕ)). record v { ready = t; held = w.held }) r ∙ ap (λ (t : List HeldView). record v { ready = v.ready ++ h.bytes ∷ []; held = t }) k)

pub all_released : (turns : List ℕ) (v : ServerView) (due : Option ℕ) → due ≡ position (λ (held : HeldView). are_past turns held.waits) v.held → due ≡ None → v ≡ released turns v
all_released turns v due p d = is_released turns v (sym p ∙ d)

-- the reply that is due is one of those that are held
pub due_there : (turns : List ℕ) (held : List HeldView) (due : Option ℕ) (place : ℕ) → due ≡ position (λ (x : HeldView). are_past turns x.waits) held → due ≡ Some place → place < length held
due_there turns held due place p d =
    let f : (first turns held < length held) × (first turns held ≡ place) = found (first turns held) (length held) place (nat_lt (first turns held) (length held)) refl (sym p ∙ d) in
    omega (arith, f.0, f.1)

-- ---- the same of replies with their ends

seen_first : (turns : List ℕ) (held : List HeldReply) → position_or_len (λ (x : HeldView). are_past turns x.waits) (map held_view held) ≡ position_or_len (λ (x : HeldReply). are_past turns x.waits) held
seen_first turns [] = refl
seen_first turns (h ∷ held) = ap (λ (n : ℕ). cond (not (are_past turns h.waits)) (1 + n) 0) (seen_first turns held)

seen_due : (turns : List ℕ) (held : List HeldReply) → position (λ (x : HeldReply). are_past turns x.waits) held ≡ position (λ (x : HeldView). are_past turns x.waits) (map held_view held)
seen_due turns held =
    ap (λ (n : ℕ). cond (nat_lt n (length held)) (Some n) None) (sym (seen_first turns held))
    ∙ ap (λ (m : ℕ). cond (nat_lt (first turns (map held_view held)) m) (Some (first turns (map held_view held))) None) (sym (length-map held held_view))

pub seen_left : (held : List HeldReply) (place : ℕ) → map held_view (remove held place) ≡ remove (map held_view held) place
seen_left held place =
    map-append held_view (take place held) (drop (suc place) held) ∙ ap (λ (t : List HeldView). t ++ map held_view (drop (suc place) held)) (sym (take-map held_view place held))
    ∙ ap (λ (t : List HeldView). take place (map held_view held) ++ t) (sym (drop-map held_view (suc place) held))

-- the reply that is due is one of those that are held
pub due_reply : (turns : List ℕ) (held : List HeldReply) (due : Option ℕ) (place : ℕ) → due ≡ position (λ (x : HeldReply). are_past turns x.waits) held → due ≡ Some place → place < length held
due_reply turns held due place p d = let lt = due_there turns (map held_view held) due place (p ∙ seen_due turns held) d in omega (arith, lt, length-map held held_view)

pub releases_reply : (turns : List ℕ) (v w : ServerView) (held : List HeldReply) (place : ℕ) (h : HeldReply) (due : Option ℕ) → v.held ≡ map held_view held → due ≡ position (λ (x : HeldReply). are_past turns x.waits) held → due ≡ Some place
    → h ≡ get_or held place h → w.ready ≡ v.ready ++ h.reply.bytes ∷ [] → w.held ≡ map held_view (remove held place) → w ≡ record v { ready = w.ready; held = w.held } → released turns w ≡ released turns v
releases_reply turns v w held place h due seen p d is r k e =
    let lt = due_reply turns held due place p d in
    releases_parts turns v w place (held_view h) due (p ∙ seen_due turns held ∙ ap (λ (t : List HeldView). position (λ (x : HeldView). are_past turns x.waits) t) (sym seen)) d
    (ap held_view is ∙ sym (get_or-map held_view held place h (held_view h) lt) ∙ ap (λ (t : List HeldView). get_or t place (held_view h)) (sym seen)) r
    (k ∙ seen_left held place ∙ ap (λ (t : List HeldView). remove t place) (sym seen)) e

pub all_replies_released : (turns : List ℕ) (v : ServerView) (held : List HeldReply) (due : Option ℕ) → v.held ≡ map held_view held → due ≡ position (λ (x : HeldReply). are_past turns x.waits) held → due ≡ None → v ≡ released turns v
all_replies_released turns v held due seen p d =
    all_released turns v due (p ∙ seen_due turns held ∙ ap (λ (t : List HeldView). position (λ (x : HeldView). are_past turns x.waits) t) (sym seen)) d
