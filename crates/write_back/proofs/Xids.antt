-- The xids of a file's pieces: each is of one piece alone.
use Rattle.std.proofs.Common.{◌≡◌, ◌≢◌, ◌<◌, ◌≤◌, ℕ, ◌+◌, ◌-◌, ◌&&◌, Bool, true, false, List, [], ◌∷◌, ◌++◌, length, Option, Some, None, refl, sym, ap, ◌∙◌, subst, arith}
use Rattle.std.specs.Prelude.{nat_eq, nat_lt, nat_le, if◌then◌else◌}
use Rattle.std.specs.Option.{option_map}
use Rattle.std.proofs.lemmas.Bool.{eq-eqb, eqb-true, lt-ltb, ne_eqb}
use Rattle.write_back.specs.declared.sent.Part.{Part}
use Rattle.write_back.specs.Segments.{covers}
use Rattle.write_back.specs.Pieces.{Sent, FilePending, Flown, part_at, flown_in, fly_in, fly_at, rest_at, piece_under, without, renumbered, end_of_sent}
use Rattle.write_back.specs.Landing.{with_xid}
use Rattle.write_back.specs.Sound.{AreSent, AreDistinct, IsSound}
use Rattle.write_back.specs.Waits.{flown_as_of, Renumbers}
use Rattle.write_back.proofs.Keys.{low-of, high-of}
use Rattle.write_back.proofs.Flying.{under-apart, meets}

-- none of the others has an xid that none has
none-tail : (xid : ℕ) (p : Sent) (pieces : List Sent) → piece_under xid (p ∷ pieces) ≡ None → (nat_eq p.xid xid ≡ false) × (piece_under xid pieces ≡ None)
none-tail xid p pieces none = by (nat_eq p.xid xid) refl
  where
    by : (b : Bool) → nat_eq p.xid xid ≡ b → (nat_eq p.xid xid ≡ false) × (piece_under xid pieces ≡ None)
    by true h = let k : Some p ≡ None = (rw h at none) in absurd cc
    by false h = (h, (rw h at none))

none-without : (xid other : ℕ) (pieces : List Sent) → piece_under other pieces ≡ None → piece_under other (without xid pieces) ≡ None
none-without xid other [] none = refl
none-without xid other (p ∷ pieces) none = by (nat_eq p.xid xid) refl (none-tail other p pieces none) (none-without xid other pieces)
  where
    by : (b : Bool) → nat_eq p.xid xid ≡ b → (nat_eq p.xid other ≡ false) × (piece_under other pieces ≡ None) → (piece_under other pieces ≡ None → piece_under other (without xid pieces) ≡ None) → piece_under other (without xid (p ∷ pieces)) ≡ None
    by true h parts more = rw h parts.1
    by false h parts more = rw (h, parts.0) (more parts.1)

pub distinct-without : (xid : ℕ) (pieces : List Sent) → AreDistinct pieces → AreDistinct (without xid pieces)
distinct-without xid [] distinct = tt
distinct-without xid (p ∷ pieces) distinct = by (nat_eq p.xid xid) refl (distinct-without xid pieces distinct.1)
  where
    by : (b : Bool) → nat_eq p.xid xid ≡ b → AreDistinct (without xid pieces) → AreDistinct (without xid (p ∷ pieces))
    by true h more = rw h distinct.1
    by false h more = rw h (none-without xid p.xid pieces distinct.0, more)

none-append : (xid : ℕ) (pieces : List Sent) (piece : Sent) → piece_under xid pieces ≡ None → nat_eq piece.xid xid ≡ false → piece_under xid (pieces ++ piece ∷ []) ≡ None
none-append xid [] piece none other = rw other refl
none-append xid (p ∷ pieces) piece none other =
    let parts = none-tail xid p pieces none in
    rw parts.0 (none-append xid pieces piece parts.1 other)

eq-sym : (a b : ℕ) → nat_eq a b ≡ false → nat_eq b a ≡ false
eq-sym a b other = by (nat_eq b a) refl
  where
    by : (d : Bool) → nat_eq b a ≡ d → d ≡ false
    by true h = let k : true ≡ false = sym (eq-eqb a b (sym (eqb-true b a h))) ∙ other in absurd cc
    by false h = refl

pub distinct-append : (pieces : List Sent) (piece : Sent) → AreDistinct pieces → piece_under piece.xid pieces ≡ None → AreDistinct (pieces ++ piece ∷ [])
distinct-append [] piece distinct free = (refl, tt)
distinct-append (p ∷ pieces) piece distinct free =
    let parts = none-tail piece.xid p pieces free in
    (none-append p.xid pieces piece distinct.0 (eq-sym p.xid piece.xid parts.0), distinct-append pieces piece distinct.1 parts.1)

none-renumbered : (xid to other : ℕ) (pieces : List Sent) → piece_under other pieces ≡ None → nat_eq to other ≡ false → piece_under other (renumbered xid to pieces) ≡ None
none-renumbered xid to other [] none out = refl
none-renumbered xid to other (p ∷ pieces) none out = by (nat_eq p.xid xid) refl (none-tail other p pieces none) (none-renumbered xid to other pieces)
  where
    by : (b : Bool) → nat_eq p.xid xid ≡ b → (nat_eq p.xid other ≡ false) × (piece_under other pieces ≡ None) → (piece_under other pieces ≡ None → nat_eq to other ≡ false → piece_under other (renumbered xid to pieces) ≡ None)
        → piece_under other (renumbered xid to (p ∷ pieces)) ≡ None
    by true h parts more = rw (h, out) parts.1
    by false h parts more = rw (h, parts.0) (more parts.1 out)

pub distinct-renumbered : (xid to : ℕ) (pieces : List Sent) → AreDistinct pieces → piece_under to pieces ≡ None → AreDistinct (renumbered xid to pieces)
distinct-renumbered xid to [] distinct free = tt
distinct-renumbered xid to (p ∷ pieces) distinct free = by (nat_eq p.xid xid) refl (none-tail to p pieces free) (distinct-renumbered xid to pieces distinct.1)
  where
    by : (b : Bool) → nat_eq p.xid xid ≡ b → (nat_eq p.xid to ≡ false) × (piece_under to pieces ≡ None) → (piece_under to pieces ≡ None → AreDistinct (renumbered xid to pieces)) → AreDistinct (renumbered xid to (p ∷ pieces))
    by true h parts more = rw h (parts.1, distinct.1)
    by false h parts more = rw h (none-renumbered xid to p.xid pieces distinct.0 (eq-sym p.xid to parts.0), more parts.1)

-- ---- for callers

-- the piece under another xid stays
pub under-other : (xid other : ℕ) (pieces : List Sent) → other ≢ xid → piece_under other (without xid pieces) ≡ piece_under other pieces
under-other xid other [] differ = refl
under-other xid other (p ∷ pieces) differ = by (nat_eq p.xid xid) refl (under-other xid other pieces differ)
  where
    by : (b : Bool) → nat_eq p.xid xid ≡ b → piece_under other (without xid pieces) ≡ piece_under other pieces → piece_under other (without xid (p ∷ pieces)) ≡ piece_under other (p ∷ pieces)
    by true h more =
        let own : p.xid ≡ xid = eqb-true p.xid xid h in
        let out : nat_eq p.xid other ≡ false = ne_eqb p.xid other (λ is. differ (sym is ∙ own)) in
        rw (h, out) refl
    by false h more = rw h (ap (λ z. if nat_eq p.xid other then Some p else z) more)

-- and the xid of one that was taken out is free
pub under-gone : (xid : ℕ) (pieces : List Sent) → AreDistinct pieces → piece_under xid (without xid pieces) ≡ None
under-gone xid [] distinct = refl
under-gone xid (p ∷ pieces) distinct = by (nat_eq p.xid xid) refl (under-gone xid pieces distinct.1)
  where
    by : (b : Bool) → nat_eq p.xid xid ≡ b → piece_under xid (without xid pieces) ≡ None → piece_under xid (without xid (p ∷ pieces)) ≡ None
    by true h more = rw h (subst (λ n. piece_under n pieces ≡ None) (eqb-true p.xid xid h) distinct.0)
    by false h more = rw (h, h) more

-- what is in flight at a place of the piece under an xid is of that piece
pub fly-under : (xid : ℕ) (pieces : List Sent) (piece : Sent) (place : ℕ) → AreSent pieces → piece_under xid pieces ≡ Some piece → covers piece.offset (length piece.bytes) place ≡ true → fly_in pieces place ≡ flown_in piece place
fly-under xid [] piece place sent found inside = absurd cc
fly-under xid (p ∷ pieces) piece place sent found inside = by (nat_eq p.xid xid) (covers p.offset (length p.bytes) place) refl refl (λ k. fly-under xid pieces piece place sent.2 k inside)
  where
    by : (b d : Bool) → nat_eq p.xid xid ≡ b → covers p.offset (length p.bytes) place ≡ d → (piece_under xid pieces ≡ Some piece → fly_in pieces place ≡ flown_in piece place) → fly_in (p ∷ pieces) place ≡ flown_in piece place
    by true d h g more =
        let same : p ≡ piece = (let k : Some p ≡ Some piece = (rw h at found) in cc) in
        let here : covers p.offset (length p.bytes) place ≡ true = subst (λ (q : Sent). covers q.offset (length q.bytes) place ≡ true) (sym same) inside in
        rw here (ap (λ (q : Sent). flown_in q place) same)
    by false true h g more =
        let k : piece_under xid pieces ≡ Some piece = (rw h at found) in
        let apart : meets p.offset (end_of_sent p) piece ≡ false = under-apart xid pieces piece p.offset (end_of_sent p) sent.1 k in
        let begins : nat_lt piece.offset (end_of_sent p) ≡ true = lt-ltb piece.offset (end_of_sent p) (omega (arith, low-of piece.offset (end_of_sent piece) place inside, high-of p.offset (end_of_sent p) place g)) in
        let ends : nat_lt p.offset (end_of_sent piece) ≡ true = lt-ltb p.offset (end_of_sent piece) (omega (arith, high-of piece.offset (end_of_sent piece) place inside, low-of p.offset (end_of_sent p) place g)) in
        let wrong : true ≡ false = (rw (begins, ends) at apart) in absurd cc
    by false false h g more = rw g (more (rw h at found))

-- ---- another xid, by place

flown-xid : (xid to : ℕ) (p : Sent) (place : ℕ) (o : Option Part) → part_at p.parts (place - p.offset) ≡ o → nat_eq p.xid xid ≡ true
    → flown_in (record { xid = to; offset = p.offset; how = p.how; bytes = p.bytes; parts = p.parts }) place ≡ option_map (flown_as_of xid to) (flown_in p place)
flown-xid xid to p place None h own = rw h refl
flown-xid xid to p place (Some part) h own = rw (h, own) refl

flown-other : (xid to : ℕ) (p : Sent) (place : ℕ) (o : Option Part) → part_at p.parts (place - p.offset) ≡ o → nat_eq p.xid xid ≡ false → flown_in p place ≡ option_map (flown_as_of xid to) (flown_in p place)
flown-other xid to p place None h other = rw h refl
flown-other xid to p place (Some part) h other = rw (h, other) refl

fly-other : (xid to : ℕ) (pieces : List Sent) (place : ℕ) → piece_under xid pieces ≡ None → fly_in pieces place ≡ option_map (flown_as_of xid to) (fly_in pieces place)
fly-other xid to [] place none = refl
fly-other xid to (p ∷ pieces) place none = by (covers p.offset (length p.bytes) place) refl (none-tail xid p pieces none) (fly-other xid to pieces place)
  where
    by : (d : Bool) → covers p.offset (length p.bytes) place ≡ d → (nat_eq p.xid xid ≡ false) × (piece_under xid pieces ≡ None) → (piece_under xid pieces ≡ None → fly_in pieces place ≡ option_map (flown_as_of xid to) (fly_in pieces place))
        → fly_in (p ∷ pieces) place ≡ option_map (flown_as_of xid to) (fly_in (p ∷ pieces) place)
    by true h parts more = rw h (flown-other xid to p place (part_at p.parts (place - p.offset)) refl parts.0)
    by false h parts more = rw h (more parts.1)

fly-renumbered : (xid to : ℕ) (pieces : List Sent) (place : ℕ) → AreDistinct pieces → fly_in (renumbered xid to pieces) place ≡ option_map (flown_as_of xid to) (fly_in pieces place)
fly-renumbered xid to [] place distinct = refl
fly-renumbered xid to (p ∷ pieces) place distinct = by (nat_eq p.xid xid) (covers p.offset (length p.bytes) place) refl refl (fly-renumbered xid to pieces place distinct.1)
  where
    by : (b d : Bool) → nat_eq p.xid xid ≡ b → covers p.offset (length p.bytes) place ≡ d → fly_in (renumbered xid to pieces) place ≡ option_map (flown_as_of xid to) (fly_in pieces place)
        → fly_in (renumbered xid to (p ∷ pieces)) place ≡ option_map (flown_as_of xid to) (fly_in (p ∷ pieces) place)
    by true true h g more = rw (h, g) (flown-xid xid to p place (part_at p.parts (place - p.offset)) refl h)
    by true false h g more = rw (h, g) (fly-other xid to pieces place (subst (λ n. piece_under n pieces ≡ None) (eqb-true p.xid xid h) distinct.0))
    by false true h g more = rw (h, g) (flown-other xid to p place (part_at p.parts (place - p.offset)) refl h)
    by false false h g more = rw (h, g) more

-- under another xid a piece flies as before
pub renumbers-so : (xid to : ℕ) (of : FilePending) → IsSound of → Renumbers xid to of (with_xid xid to of)
renumbers-so xid to of sound = record { rest = λ place. refl; fly = λ place. fly-renumbered xid to of.pieces place sound.xids }
