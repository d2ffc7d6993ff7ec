-- What is in flight at a place, after a piece was added or taken out, or got another xid.
use Rattle.std.proofs.Common.{◌≡◌, ◌<◌, ◌≤◌, ℕ, ◌+◌, ◌-◌, ◌&&◌, Bool, true, false, List, [], ◌∷◌, ◌++◌, length, Option, Some, None, refl, sym, ap, ◌∙◌, ◌⊎◌, inl, inr, subst, arith}
use Rattle.std.specs.Prelude.{nat_lt, nat_eq, if◌then◌else◌}
use Rattle.std.specs.List.{sum_by}
use Rattle.std.proofs.lemmas.Bool.{lt-ltb, ltb-true, ltb-false, and_parts, or_parts, or_from, cases_lt}
use Rattle.std.proofs.lemmas.List.Sums.{sum_by-cons}
use Rattle.write_back.specs.declared.sent.Part.{Part}
use Rattle.write_back.specs.Segments.{Segments, Cell, covers}
use Rattle.write_back.specs.Pieces.{Sent, part_at, flown_in, fly_in, overlaps, piece_under, without, renumbered, end_of_sent, flying_of}
use Rattle.write_back.specs.States.{is_in_flight}
use Rattle.write_back.specs.Sound.{StopsAt, IsWhole, AreSent, AreWithin, IsOver}
use Rattle.write_back.proofs.Keys.{in-range, low-of, high-of}

-- whether a piece shares a place with those from one to another
abbrev pub meets : ℕ → ℕ → Sent → Bool
meets low high piece = nat_lt piece.offset high && nat_lt low (end_of_sent piece)

-- each byte of a piece is one of a part
part-some : (parts : List Part) (n : ℕ) → n < sum_by (λ (part : Part). part.size) parts → part_at parts n ≡ None → ⊥
part-some [] n less none = omega (arith, less)
part-some (part ∷ parts) n less none = by (nat_lt n part.size) refl (part-some parts (n - part.size))
  where
    by : (b : Bool) → nat_lt n part.size ≡ b → (n - part.size < sum_by (λ (part : Part). part.size) parts → part_at parts (n - part.size) ≡ None → ⊥) → ⊥
    by true h more = let k : Some part ≡ None = (rw h at none) in absurd cc
    by false h more =
        let k : part_at parts (n - part.size) ≡ None = (rw h at none) in
        let sums : sum_by (λ (part : Part). part.size) (part ∷ parts) ≡ part.size + sum_by (λ (part : Part). part.size) parts = sum_by-cons (λ (part : Part). part.size) part parts in
        more (omega (arith, less, sums, ltb-false n part.size h)) k

pub flown-some : (piece : Sent) (place : ℕ) → IsWhole piece → covers piece.offset (length piece.bytes) place ≡ true → flown_in piece place ≡ None → ⊥
flown-some piece place whole inside none = by (part_at piece.parts (place - piece.offset)) refl
  where
    by : (o : Option Part) → part_at piece.parts (place - piece.offset) ≡ o → ⊥
    by None h = part-some piece.parts (place - piece.offset) (omega (arith, whole.parts, low-of piece.offset (end_of_sent piece) place inside, high-of piece.offset (end_of_sent piece) place inside)) h
    by (Some part) h = let k : Some _ ≡ None = (rw h at none) in absurd cc

-- at a place that no piece shares nothing is in flight
pub fly-none : (pieces : List Sent) (low high place : ℕ) → overlaps pieces low high ≡ false → low ≤ place → place < high → fly_in pieces place ≡ None
fly-none [] low high place apart l h = refl
fly-none (piece ∷ pieces) low high place apart l h =
    let parts = or_parts (meets low high piece) (overlaps pieces low high) apart in
    let out : covers piece.offset (length piece.bytes) place ≡ false = by (covers piece.offset (length piece.bytes) place) refl parts.0 in
    rw out (fly-none pieces low high place parts.1 l h)
  where
    by : (b : Bool) → covers piece.offset (length piece.bytes) place ≡ b → meets low high piece ≡ false → b ≡ false
    by true k out =
        let begins : nat_lt piece.offset high ≡ true = lt-ltb piece.offset high (omega (arith, low-of piece.offset (end_of_sent piece) place k, h)) in
        let ends : nat_lt low (end_of_sent piece) ≡ true = lt-ltb low (end_of_sent piece) (omega (arith, high-of piece.offset (end_of_sent piece) place k, l)) in
        let wrong : true ≡ false = (rw (begins, ends) at out) in wrong
    by false k out = refl

-- the piece under an xid is one of all
pub under-whole : (xid : ℕ) (pieces : List Sent) (piece : Sent) → AreSent pieces → piece_under xid pieces ≡ Some piece → IsWhole piece
under-whole xid [] piece sent found = absurd cc
under-whole xid (p ∷ pieces) piece sent found = by (nat_eq p.xid xid) refl (under-whole xid pieces piece sent.2)
  where
    by : (b : Bool) → nat_eq p.xid xid ≡ b → (piece_under xid pieces ≡ Some piece → IsWhole piece) → IsWhole piece
    by true h more = let same : p ≡ piece = (let k : Some p ≡ Some piece = (rw h at found) in cc) in subst IsWhole same sent.0
    by false h more = let k : piece_under xid pieces ≡ Some piece = (rw h at found) in more k

pub under-within : (xid : ℕ) (pieces : List Sent) (piece : Sent) (es : Segments) → AreWithin pieces es → piece_under xid pieces ≡ Some piece → StopsAt is_in_flight piece.offset es × StopsAt is_in_flight (end_of_sent piece) es
under-within xid [] piece es within found = absurd cc
under-within xid (p ∷ pieces) piece es within found = by (nat_eq p.xid xid) refl (under-within xid pieces piece es within.2)
  where
    by : (b : Bool) → nat_eq p.xid xid ≡ b → (piece_under xid pieces ≡ Some piece → StopsAt is_in_flight piece.offset es × StopsAt is_in_flight (end_of_sent piece) es)
        → StopsAt is_in_flight piece.offset es × StopsAt is_in_flight (end_of_sent piece) es
    by true h more = let same : p ≡ piece = (let k : Some p ≡ Some piece = (rw h at found) in cc) in subst (λ q. StopsAt is_in_flight q.offset es × StopsAt is_in_flight (end_of_sent q) es) same (within.0, within.1)
    by false h more = let k : piece_under xid pieces ≡ Some piece = (rw h at found) in more k

pub under-apart : (xid : ℕ) (pieces : List Sent) (piece : Sent) (low high : ℕ) → overlaps pieces low high ≡ false → piece_under xid pieces ≡ Some piece → meets low high piece ≡ false
under-apart xid [] piece low high apart found = absurd cc
under-apart xid (p ∷ pieces) piece low high apart found = by (nat_eq p.xid xid) refl (or_parts (meets low high p) (overlaps pieces low high) apart) (under-apart xid pieces piece low high)
  where
    by : (b : Bool) → nat_eq p.xid xid ≡ b → (meets low high p ≡ false) × (overlaps pieces low high ≡ false) → (overlaps pieces low high ≡ false → piece_under xid pieces ≡ Some piece → meets low high piece ≡ false) → meets low high piece ≡ false
    by true h parts more = let same : p ≡ piece = (let k : Some p ≡ Some piece = (rw h at found) in cc) in subst (λ q. meets low high q ≡ false) same parts.0
    by false h parts more = let k : piece_under xid pieces ≡ Some piece = (rw h at found) in more parts.1 k

-- at each place of it something is in flight
pub fly-some : (xid : ℕ) (pieces : List Sent) (piece : Sent) (place : ℕ) → AreSent pieces → piece_under xid pieces ≡ Some piece → covers piece.offset (length piece.bytes) place ≡ true → fly_in pieces place ≡ None → ⊥
fly-some xid [] piece place sent found inside none = absurd cc
fly-some xid (p ∷ pieces) piece place sent found inside none = by (covers p.offset (length p.bytes) place) (nat_eq p.xid xid) refl refl (fly-some xid pieces piece place sent.2)
  where
    by : (b d : Bool) → covers p.offset (length p.bytes) place ≡ b → nat_eq p.xid xid ≡ d → (piece_under xid pieces ≡ Some piece → covers piece.offset (length piece.bytes) place ≡ true → fly_in pieces place ≡ None → ⊥) → ⊥
    by true d h g more = let k : flown_in p place ≡ None = (rw h at none) in flown-some p place sent.0 h k
    by false true h g more =
        let same : p ≡ piece = (let k : Some p ≡ Some piece = (rw g at found) in cc) in
        let out : covers piece.offset (length piece.bytes) place ≡ false = subst (λ q. covers q.offset (length q.bytes) place ≡ false) same h in
        let wrong : true ≡ false = sym inside ∙ out in absurd cc
    by false false h g more = more (rw g at found) inside (rw h at none)

-- without it nothing is in flight at its places, and the others stay
pub fly-without : (xid : ℕ) (pieces : List Sent) (piece : Sent) (place : ℕ) → AreSent pieces → piece_under xid pieces ≡ Some piece
    → fly_in (without xid pieces) place ≡ (if covers piece.offset (length piece.bytes) place then None else fly_in pieces place)
fly-without xid [] piece place sent found = absurd cc
fly-without xid (p ∷ pieces) piece place sent found = by (nat_eq p.xid xid) refl (fly-without xid pieces piece place sent.2)
  where
    here : (b : Bool) → covers p.offset (length p.bytes) place ≡ b → fly_in pieces place ≡ (if covers p.offset (length p.bytes) place then None else fly_in (p ∷ pieces) place)
    here true h = rw h (fly-none pieces p.offset (end_of_sent p) place sent.1 (low-of p.offset (end_of_sent p) place h) (high-of p.offset (end_of_sent p) place h))
    here false h = rw h refl

    out : piece_under xid pieces ≡ Some piece → covers p.offset (length p.bytes) place ≡ true → (d : Bool) → covers piece.offset (length piece.bytes) place ≡ d → d ≡ false
    out k h false g = refl
    out k h true g =
        let apart : meets p.offset (end_of_sent p) piece ≡ false = under-apart xid pieces piece p.offset (end_of_sent p) sent.1 k in
        let begins : nat_lt piece.offset (end_of_sent p) ≡ true = lt-ltb piece.offset (end_of_sent p) (omega (arith, low-of piece.offset (end_of_sent piece) place g, high-of p.offset (end_of_sent p) place h)) in
        let ends : nat_lt p.offset (end_of_sent piece) ≡ true = lt-ltb p.offset (end_of_sent piece) (omega (arith, high-of piece.offset (end_of_sent piece) place g, low-of p.offset (end_of_sent p) place h)) in
        let wrong : true ≡ false = (rw (begins, ends) at apart) in wrong

    past : (b : Bool) → covers p.offset (length p.bytes) place ≡ b → piece_under xid pieces ≡ Some piece → fly_in (without xid pieces) place ≡ (if covers piece.offset (length piece.bytes) place then None else fly_in pieces place)
        → fly_in (p ∷ without xid pieces) place ≡ (if covers piece.offset (length piece.bytes) place then None else fly_in (p ∷ pieces) place)
    past true h k more = let off : covers piece.offset (length piece.bytes) place ≡ false = out k h (covers piece.offset (length piece.bytes) place) refl in rw (h, off) refl
    past false h k more = rw h more

    by : (b : Bool) → nat_eq p.xid xid ≡ b → (piece_under xid pieces ≡ Some piece → fly_in (without xid pieces) place ≡ (if covers piece.offset (length piece.bytes) place then None else fly_in pieces place))
        → fly_in (without xid (p ∷ pieces)) place ≡ (if covers piece.offset (length piece.bytes) place then None else fly_in (p ∷ pieces) place)
    by true g more =
        let same : p ≡ piece = (let k : Some p ≡ Some piece = (rw g at found) in cc) in
        rw g (subst (λ q. fly_in pieces place ≡ (if covers q.offset (length q.bytes) place then None else fly_in (p ∷ pieces) place)) same (here (covers p.offset (length p.bytes) place) refl))
    by false g more = let k : piece_under xid pieces ≡ Some piece = (rw g at found) in rw g (past (covers p.offset (length p.bytes) place) refl k (more k))

overlaps-without : (xid : ℕ) (pieces : List Sent) (low high : ℕ) → overlaps pieces low high ≡ false → overlaps (without xid pieces) low high ≡ false
overlaps-without xid [] low high apart = refl
overlaps-without xid (p ∷ pieces) low high apart = by (nat_eq p.xid xid) refl (or_parts (meets low high p) (overlaps pieces low high) apart) (overlaps-without xid pieces low high)
  where
    by : (b : Bool) → nat_eq p.xid xid ≡ b → (meets low high p ≡ false) × (overlaps pieces low high ≡ false) → (overlaps pieces low high ≡ false → overlaps (without xid pieces) low high ≡ false) → overlaps (without xid (p ∷ pieces)) low high ≡ false
    by true h parts more = rw h parts.1
    by false h parts more = rw h (or_from (meets low high p) (overlaps (without xid pieces) low high) parts.0 (more parts.1))

pub sent-without : (xid : ℕ) (pieces : List Sent) → AreSent pieces → AreSent (without xid pieces)
sent-without xid [] sent = tt
sent-without xid (p ∷ pieces) sent = by (nat_eq p.xid xid) refl (sent-without xid pieces sent.2)
  where
    by : (b : Bool) → nat_eq p.xid xid ≡ b → AreSent (without xid pieces) → AreSent (without xid (p ∷ pieces))
    by true h more = rw h sent.2
    by false h more = rw h (sent.0, overlaps-without xid pieces p.offset (end_of_sent p) sent.1, more)

pub within-without : (xid : ℕ) (pieces : List Sent) (es : Segments) → AreWithin pieces es → AreWithin (without xid pieces) es
within-without xid [] es within = tt
within-without xid (p ∷ pieces) es within = by (nat_eq p.xid xid) refl (within-without xid pieces es within.2)
  where
    by : (b : Bool) → nat_eq p.xid xid ≡ b → AreWithin (without xid pieces) es → AreWithin (without xid (p ∷ pieces)) es
    by true h more = rw h within.2
    by false h more = rw h (within.0, within.1, more)

pub flying-without : (xid : ℕ) (pieces : List Sent) (piece : Sent) → piece_under xid pieces ≡ Some piece → flying_of (without xid pieces) + length piece.bytes ≡ flying_of pieces
flying-without xid [] piece found = absurd cc
flying-without xid (p ∷ pieces) piece found = by (nat_eq p.xid xid) refl (flying-without xid pieces piece)
  where
    by : (b : Bool) → nat_eq p.xid xid ≡ b → (piece_under xid pieces ≡ Some piece → flying_of (without xid pieces) + length piece.bytes ≡ flying_of pieces) → flying_of (without xid (p ∷ pieces)) + length piece.bytes ≡ flying_of (p ∷ pieces)
    by true h more =
        let same : p ≡ piece = (let k : Some p ≡ Some piece = (rw h at found) in cc) in
        let size : length p.bytes ≡ length piece.bytes = ap (λ (q : Sent). length q.bytes) same in
        rw h (omega (arith, size, sum_by-cons (λ (q : Sent). length q.bytes) p pieces))
    by false h more =
        let k : piece_under xid pieces ≡ Some piece = (rw h at found) in
        rw h (omega (arith, more k, sum_by-cons (λ (q : Sent). length q.bytes) p pieces, sum_by-cons (λ (q : Sent). length q.bytes) p (without xid pieces)))

-- another xid
overlaps-renumbered : (xid to : ℕ) (pieces : List Sent) (low high : ℕ) → overlaps pieces low high ≡ false → overlaps (renumbered xid to pieces) low high ≡ false
overlaps-renumbered xid to [] low high apart = refl
overlaps-renumbered xid to (p ∷ pieces) low high apart = by (nat_eq p.xid xid) refl (or_parts (meets low high p) (overlaps pieces low high) apart) (overlaps-renumbered xid to pieces low high)
  where
    by : (b : Bool) → nat_eq p.xid xid ≡ b → (meets low high p ≡ false) × (overlaps pieces low high ≡ false) → (overlaps pieces low high ≡ false → overlaps (renumbered xid to pieces) low high ≡ false)
        → overlaps (renumbered xid to (p ∷ pieces)) low high ≡ false
    by true h parts more = rw h (or_from (meets low high p) (overlaps pieces low high) parts.0 parts.1)
    by false h parts more = rw h (or_from (meets low high p) (overlaps (renumbered xid to pieces) low high) parts.0 (more parts.1))

pub sent-renumbered : (xid to : ℕ) (pieces : List Sent) → AreSent pieces → AreSent (renumbered xid to pieces)
sent-renumbered xid to [] sent = tt
sent-renumbered xid to (p ∷ pieces) sent = by (nat_eq p.xid xid) refl (sent-renumbered xid to pieces sent.2)
  where
    by : (b : Bool) → nat_eq p.xid xid ≡ b → AreSent (renumbered xid to pieces) → AreSent (renumbered xid to (p ∷ pieces))
    by true h more = rw h (record { some = sent.0.some; sizes = sent.0.sizes; parts = sent.0.parts; last = sent.0.last }, sent.1, sent.2)
    by false h more = rw h (sent.0, overlaps-renumbered xid to pieces p.offset (end_of_sent p) sent.1, more)

pub within-renumbered : (xid to : ℕ) (pieces : List Sent) (es : Segments) → AreWithin pieces es → AreWithin (renumbered xid to pieces) es
within-renumbered xid to [] es within = tt
within-renumbered xid to (p ∷ pieces) es within = by (nat_eq p.xid xid) refl (within-renumbered xid to pieces es within.2)
  where
    by : (b : Bool) → nat_eq p.xid xid ≡ b → AreWithin (renumbered xid to pieces) es → AreWithin (renumbered xid to (p ∷ pieces)) es
    by true h more = rw h (within.0, within.1, within.2)
    by false h more = rw h (within.0, within.1, more)

pub flying-renumbered : (xid to : ℕ) (pieces : List Sent) → flying_of (renumbered xid to pieces) ≡ flying_of pieces
flying-renumbered xid to [] = refl
flying-renumbered xid to (p ∷ pieces) = by (nat_eq p.xid xid) refl (flying-renumbered xid to pieces)
  where
    by : (b : Bool) → nat_eq p.xid xid ≡ b → flying_of (renumbered xid to pieces) ≡ flying_of pieces → flying_of (renumbered xid to (p ∷ pieces)) ≡ flying_of (p ∷ pieces)
    by true h more = rw h (sum_by-cons (λ (q : Sent). length q.bytes) (record { xid = to; offset = p.offset; how = p.how; bytes = p.bytes; parts = p.parts }) pieces ∙ sym (sum_by-cons (λ (q : Sent). length q.bytes) p pieces))
    by false h more = rw h (omega (arith, more, sum_by-cons (λ (q : Sent). length q.bytes) p pieces, sum_by-cons (λ (q : Sent). length q.bytes) p (renumbered xid to pieces)))

over-renumbered-in : (to : ℕ) (p : Sent) (place : ℕ) (o : Option Part) (cell : Option Cell) → part_at p.parts (place - p.offset) ≡ o → IsOver (flown_in p place) cell
    → IsOver (flown_in (record { xid = to; offset = p.offset; how = p.how; bytes = p.bytes; parts = p.parts }) place) cell
over-renumbered-in to p place None None h over = rw h tt
over-renumbered-in to p place None (Some cell) h over = rw h (rw h at over)
over-renumbered-in to p place (Some part) None h over = absurd (rw h at over)
over-renumbered-in to p place (Some part) (Some cell) h over = rw h (rw h at over)

pub over-renumbered : (xid to : ℕ) (pieces : List Sent) (place : ℕ) (cell : Option Cell) → IsOver (fly_in pieces place) cell → IsOver (fly_in (renumbered xid to pieces) place) cell
over-renumbered xid to [] place cell over = over
over-renumbered xid to (p ∷ pieces) place cell over = by (nat_eq p.xid xid) (covers p.offset (length p.bytes) place) refl refl (over-renumbered xid to pieces place cell)
  where
    by : (b d : Bool) → nat_eq p.xid xid ≡ b → covers p.offset (length p.bytes) place ≡ d → (IsOver (fly_in pieces place) cell → IsOver (fly_in (renumbered xid to pieces) place) cell) → IsOver (fly_in (renumbered xid to (p ∷ pieces)) place) cell
    by true true h g more = let k : IsOver (flown_in p place) cell = (rw g at over) in rw (h, g) (over-renumbered-in to p place (part_at p.parts (place - p.offset)) cell refl k)
    by true false h g more = let k : IsOver (fly_in pieces place) cell = (rw g at over) in rw (h, g) k
    by false true h g more = let k : IsOver (flown_in p place) cell = (rw g at over) in rw (h, g) k
    by false false h g more = let k : IsOver (fly_in pieces place) cell = (rw g at over) in rw (h, g) (more k)

-- one piece more
pub fly-append : (pieces : List Sent) (piece : Sent) (place : ℕ) → (covers piece.offset (length piece.bytes) place ≡ true → fly_in pieces place ≡ None) → AreSent pieces
    → fly_in (pieces ++ piece ∷ []) place ≡ (if covers piece.offset (length piece.bytes) place then flown_in piece place else fly_in pieces place)
fly-append [] piece place free sent = refl
fly-append (p ∷ pieces) piece place free sent = by (covers p.offset (length p.bytes) place) refl (λ f. fly-append pieces piece place f sent.2)
  where
    by : (b : Bool) → covers p.offset (length p.bytes) place ≡ b
        → ((covers piece.offset (length piece.bytes) place ≡ true → fly_in pieces place ≡ None) → fly_in (pieces ++ piece ∷ []) place ≡ (if covers piece.offset (length piece.bytes) place then flown_in piece place else fly_in pieces place))
        → fly_in (p ∷ (pieces ++ piece ∷ [])) place ≡ (if covers piece.offset (length piece.bytes) place then flown_in piece place else fly_in (p ∷ pieces) place)
    by true h more = rw (h, out (covers piece.offset (length piece.bytes) place) refl) refl
      where
        out : (d : Bool) → covers piece.offset (length piece.bytes) place ≡ d → d ≡ false
        out false g = refl
        out true g = let k : flown_in p place ≡ None = (rw h at (free g)) in absurd (flown-some p place sent.0 h k)
    by false h more = rw h (more (λ g. (rw h at (free g))))

overlaps-append : (pieces : List Sent) (piece : Sent) (low high : ℕ) → overlaps pieces low high ≡ false → meets low high piece ≡ false → overlaps (pieces ++ piece ∷ []) low high ≡ false
overlaps-append [] piece low high apart one = or_from (meets low high piece) false one refl
overlaps-append (p ∷ pieces) piece low high apart one =
    let parts = or_parts (meets low high p) (overlaps pieces low high) apart in
    or_from (meets low high p) (overlaps (pieces ++ piece ∷ []) low high) parts.0 (overlaps-append pieces piece low high parts.1 one)

meets-sym : (p q : Sent) → meets p.offset (end_of_sent p) q ≡ false → meets q.offset (end_of_sent q) p ≡ false
meets-sym p q apart = by (nat_lt q.offset (end_of_sent p)) (nat_lt p.offset (end_of_sent q)) apart
  where
    by : (b d : Bool) → (b && d) ≡ false → (d && b) ≡ false
    by true true h = h
    by true false h = refl
    by false true h = refl
    by false false h = refl

pub sent-append : (pieces : List Sent) (piece : Sent) → AreSent pieces → IsWhole piece → overlaps pieces piece.offset (end_of_sent piece) ≡ false → AreSent (pieces ++ piece ∷ [])
sent-append [] piece sent whole apart = (whole, refl, tt)
sent-append (p ∷ pieces) piece sent whole apart =
    let parts = or_parts (meets piece.offset (end_of_sent piece) p) (overlaps pieces piece.offset (end_of_sent piece)) apart in
    (sent.0, overlaps-append pieces piece p.offset (end_of_sent p) sent.1 (meets-sym piece p parts.0), sent-append pieces piece sent.2 whole parts.1)

pub within-append : (pieces : List Sent) (piece : Sent) (es : Segments) → AreWithin pieces es → StopsAt is_in_flight piece.offset es → StopsAt is_in_flight (end_of_sent piece) es → AreWithin (pieces ++ piece ∷ []) es
within-append [] piece es within low high = (low, high, tt)
within-append (p ∷ pieces) piece es within low high = (within.0, within.1, within-append pieces piece es within.2 low high)

pub flying-append : (pieces : List Sent) (piece : Sent) → flying_of (pieces ++ piece ∷ []) ≡ flying_of pieces + length piece.bytes
flying-append [] piece = refl
flying-append (p ∷ pieces) piece = omega (arith, flying-append pieces piece, sum_by-cons (λ (q : Sent). length q.bytes) p pieces, sum_by-cons (λ (q : Sent). length q.bytes) p (pieces ++ piece ∷ []))

-- no piece has a place of a range at whose places nothing is in flight
pub overlaps-free : (pieces : List Sent) (low high : ℕ) → AreSent pieces → low < high → ((place : ℕ) → low ≤ place → place < high → fly_in pieces place ≡ None) → overlaps pieces low high ≡ false
overlaps-free [] low high sent some free = refl
overlaps-free (p ∷ pieces) low high sent some free =
    or_from (meets low high p) (overlaps pieces low high) (by (meets low high p) refl) (overlaps-free pieces low high sent.2 some (λ place l h. rest place l h (covers p.offset (length p.bytes) place) refl))
  where
    inside : (place : ℕ) → low ≤ place → place < high → covers p.offset (length p.bytes) place ≡ true → ⊥
    inside place l h k = let none : flown_in p place ≡ None = (rw k at (free place l h)) in flown-some p place sent.0 k none

    rest : (place : ℕ) → low ≤ place → place < high → (b : Bool) → covers p.offset (length p.bytes) place ≡ b → fly_in pieces place ≡ None
    rest place l h true k = absurd (inside place l h k)
    rest place l h false k = (rw k at (free place l h))

    by : (b : Bool) → meets low high p ≡ b → b ≡ false
    by false k = refl
    by true k =
        let begins : p.offset < high = ltb-true p.offset high ((and_parts (nat_lt p.offset high) (nat_lt low (end_of_sent p)) k).0) in
        let ends : low < end_of_sent p = ltb-true low (end_of_sent p) ((and_parts (nat_lt p.offset high) (nat_lt low (end_of_sent p)) k).1) in
        absurd (where_is (cases_lt p.offset low) begins ends)
      where
        where_is : (p.offset < low) ⊎ (low ≤ p.offset) → p.offset < high → low < end_of_sent p → ⊥
        where_is (inl less) begins ends = inside low (omega arith) some (in-range p.offset (end_of_sent p) low (omega (arith, less)) ends)
        where_is (inr more) begins ends = inside p.offset more begins (in-range p.offset (end_of_sent p) p.offset (omega arith) (omega (arith, sent.0.some)))
