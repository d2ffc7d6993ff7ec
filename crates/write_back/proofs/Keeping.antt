-- What is kept beside the pending bytes of a file stays true.
use Rattle.std.proofs.Common.{◌≡◌, ◌<◌, ◌≤◌, ◌^◌, ℕ, ◌+◌, ◌-◌, ◌&&◌, Bool, true, false, List, [], ◌∷◌, length, min, Some, None, refl, sym, ap, ◌∙◌, subst, arith}
use Rattle.std.specs.Prelude.{nat_le, nat_lt, nat_eq, not, Ok}
use Rattle.std.proofs.lemmas.Bool.{le-leb, lt-ltb, eq-eqb, and_parts}
use Rattle.write_back.specs.declared.state.State.{State}
use Rattle.write_back.specs.declared.state.State.TheVariants.{Waiting, InFlight, Acked}
use Rattle.write_back.specs.declared.change.Change.{Change}
use Rattle.write_back.specs.declared.change.Change.TheVariants as by_change
use Rattle.write_back.specs.States.{is_ready, is_in_flight, sent}
use Rattle.write_back.specs.Segments.{Segment, Segments, AreApart, end_of, head_of, split}
use Rattle.write_back.specs.Changes.{changed}
use Rattle.write_back.specs.Pieces.{Sent, FilePending, nothing, piece_under, pending_of, end_of_sent, overlaps}
use Rattle.write_back.specs.Choice.{may_go, how_of_segment, how_in, how_at, run_from, chosen, gathered, piece_of, with_sent, IsPut}
use Rattle.write_back.specs.Landing.{landed, landed_part, with_change, with_cut, with_xid}
use Rattle.write_back.specs.Walk.{at_place, first_that, from_key}
use Rattle.write_back.specs.Effects.{IsAnswer, IsOfHeld}
use Rattle.write_back.specs.Sound.{IsSound, IsKept, IsAbove, NoneBefore, most_pending}
use Rattle.write_back.proofs.Keys.{at-same, at-above}
use Rattle.write_back.proofs.Searching.{chosen-first, chosen-none, from-at}
use Rattle.write_back.proofs.Stops.{none-lower, none-zero, none-later, none-added, none-split, none-cut, none-changed}
use Rattle.write_back.proofs.Flying.{flying-without, flying-renumbered, flying-append}
use Rattle.write_back.proofs.Adding.{with_added, sound-added, sound-cut}
use Rattle.write_back.proofs.Landings.{sound-one, sound-part}
use Rattle.write_back.proofs.Marking.{sound-held, sound-xid}
use Rattle.write_back.proofs.Sending.{IsNext, next-is, sound-sent}

pub sound-nothing : IsSound nothing
sound-nothing = record { apart = tt; sent = tt; xids = tt; within = tt; over = λ place. tt; room = omega arith }

pub kept-added : (offset : ℕ) (bytes : List ℕ) (number : ℕ) (of : FilePending) (flying resume : ℕ) → IsKept of flying resume → 0 < length bytes → offset + length bytes ≤ 2 ^ 63 - 1 → pending_of of + length bytes ≤ most_pending → IsAbove number of
    → IsKept (with_added offset bytes number of) flying (min resume offset)
kept-added offset bytes number of flying resume kept some last room above = record {
  sound = sound-added offset bytes number of kept.sound some last room above;
  flying = kept.flying;
  none = none-added (min resume offset) offset bytes number of.segments (omega arith) (none-lower (min resume offset) resume of.segments (omega arith) kept.none);
}

-- nothing waits before the first that does
none-first : (place from : ℕ) (es : Segments) (x : ℕ × Segment) → AreApart from es → NoneBefore place es → first_that (λ e. is_ready e.1.state) place es ≡ Some x → NoneBefore x.0 es
none-first place from [] x apart none found = tt
none-first place from (e ∷ es) x apart none found = by (nat_le place e.0) (is_ready e.1.state) refl refl (none-first place (end_of e) es x apart.3 none.1)
  where
    by : (b d : Bool) → nat_le place e.0 ≡ b → is_ready e.1.state ≡ d → (first_that (λ e. is_ready e.1.state) place es ≡ Some x → NoneBefore x.0 es) → NoneBefore x.0 (e ∷ es)
    by true true h g more =
        let same : e ≡ x = (let k : Some e ≡ Some x = (rw (h, g) at found) in cc) in
        let key : e.0 ≡ x.0 = ap (λ (z : ℕ × Segment). z.0) same in
        none-later x.0 e.0 (e ∷ es) (omega arith, apart.1, apart.2, apart.3) (omega (arith, key))
    by true false h g more =
        let k : first_that (λ e. is_ready e.1.state) place es ≡ Some x = (rw (h, g) at found) in
        ((λ t. absurd (let wrong : true ≡ false = sym t ∙ g in cc)), more k)
    by false d h g more =
        let k : first_that (λ e. is_ready e.1.state) place es ≡ Some x = (rw h at found) in
        ((λ t. absurd (let late : nat_le place e.0 ≡ true = le-leb place e.0 (none.0 t) in let wrong : true ≡ false = sym late ∙ h in cc)), more k)

pub kept-first : (of : FilePending) (flying resume : ℕ) (x : ℕ × Segment) → IsKept of flying resume → first_that (λ e. is_ready e.1.state) resume of.segments ≡ Some x → IsKept of flying x.0
kept-first of flying resume x kept found = record { sound = kept.sound; flying = kept.flying; none = none-first resume 0 of.segments x kept.sound.apart kept.none found }

-- what may go waits, so it doesn't begin before the place
pub first-go : (pieces : List Sent) (upto place : ℕ) (es : Segments) → NoneBefore place es → first_that (may_go pieces upto) 0 es ≡ first_that (may_go pieces upto) place es
first-go pieces upto place [] none = refl
first-go pieces upto place (e ∷ es) none = by (may_go pieces upto e) refl (first-go pieces upto place es none.1)
  where
    go-ready : may_go pieces upto e ≡ true → is_ready e.1.state ≡ true
    go-ready go = (and_parts (is_ready e.1.state) (nat_le e.1.number upto) ((and_parts (is_ready e.1.state && nat_le e.1.number upto) (not (overlaps pieces e.0 (end_of e))) go).0)).0

    zero-le : nat_le 0 e.0 ≡ true
    zero-le = le-leb 0 e.0 (omega arith)

    both : (b : Bool) → (b && false) ≡ false
    both true = refl
    both false = refl

    by : (b : Bool) → may_go pieces upto e ≡ b → first_that (may_go pieces upto) 0 es ≡ first_that (may_go pieces upto) place es → first_that (may_go pieces upto) 0 (e ∷ es) ≡ first_that (may_go pieces upto) place (e ∷ es)
    by true h more =
        let late : nat_le place e.0 ≡ true = le-leb place e.0 (none.0 (go-ready h)) in
        rw (h, zero-le, late) refl
    by false h more = rw (h, both (nat_le place e.0), zero-le) more

-- where nothing waits, nothing may go
pub none-go : (pieces : List Sent) (upto place : ℕ) (es : Segments) → AreApart 0 es → NoneBefore place es → first_that (λ e. is_ready e.1.state) place es ≡ None → first_that (may_go pieces upto) 0 es ≡ None
none-go pieces upto place [] apart none none-ready = refl
none-go pieces upto place (e ∷ es) apart none none-ready = first-go pieces upto place (e ∷ es) none ∙ none-from (e ∷ es) none-ready
  where
    go-ready : (f : ℕ × Segment) → may_go pieces upto f ≡ true → is_ready f.1.state ≡ true
    go-ready f go = (and_parts (is_ready f.1.state) (nat_le f.1.number upto) ((and_parts (is_ready f.1.state && nat_le f.1.number upto) (not (overlaps pieces f.0 (end_of f))) go).0)).0

    none-from : (fs : Segments) → first_that (λ e. is_ready e.1.state) place fs ≡ None → first_that (may_go pieces upto) place fs ≡ None
    none-from [] n = refl
    none-from (f ∷ fs) n = by (nat_le place f.0) (may_go pieces upto f) refl refl (none-from fs)
      where
        by : (b d : Bool) → nat_le place f.0 ≡ b → may_go pieces upto f ≡ d → (first_that (λ e. is_ready e.1.state) place fs ≡ None → first_that (may_go pieces upto) place fs ≡ None) → first_that (may_go pieces upto) place (f ∷ fs) ≡ None
        by true true h g more = let k : Some f ≡ None = (rw (h, go-ready f g) at n) in absurd cc
        by true false h g more = rw (h, g) (more (tail (is_ready f.1.state) refl))
          where
            tail : (r : Bool) → is_ready f.1.state ≡ r → first_that (λ e. is_ready e.1.state) place fs ≡ None
            tail true r = let k : Some f ≡ None = (rw (h, r) at n) in absurd cc
            tail false r = (rw (h, r) at n)
        by false d h g more = rw h (more (rw h at n))

-- it is at its place
that-at : (test : ℕ × Segment → Bool) (place from : ℕ) (es : Segments) (x : ℕ × Segment) → AreApart from es → first_that test place es ≡ Some x → (at_place x.0 es ≡ Some x.1) × (test x ≡ true) × (from ≤ x.0)
that-at test place from [] x apart found = absurd cc
that-at test place from (e ∷ es) x apart found = by (nat_le place e.0 && test e) refl (that-at test place (end_of e) es x apart.3)
  where
    by : (b : Bool) → (nat_le place e.0 && test e) ≡ b → (first_that test place es ≡ Some x → (at_place x.0 es ≡ Some x.1) × (test x ≡ true) × (end_of e ≤ x.0)) → (at_place x.0 (e ∷ es) ≡ Some x.1) × (test x ≡ true) × (from ≤ x.0)
    by true h more =
        let same : e ≡ x = (let k : Some e ≡ Some x = (rw h at found) in cc) in
        subst (λ (z : ℕ × Segment). (at_place z.0 (e ∷ es) ≡ Some z.1) × (test z ≡ true) × (from ≤ z.0)) same
        (rw (at-same e.0 e.0 refl) refl, (and_parts (nat_le place e.0) (test e) h).1, apart.0)
    by false h more =
        let k : first_that test place es ≡ Some x = (rw h at found) in
        let m = more k in
        (rw (at-above x.0 e.0 (omega (arith, m.2, apart.1))) m.0, m.1, omega (arith, m.2, apart.0))

-- the piece that is gathered
abbrev pub piece_at : ℕ → ℕ → ℕ → FilePending → ℕ → Sent
piece_at xid upto room of first = gathered xid first (run_from of.pieces upto (how_at first of.segments) first room (from_key first of.segments)) (how_at first of.segments)

-- what comes of a transmission: nothing, or the piece that was gathered
abbrev pub PutsFirst : ℕ → ℕ → ℕ → FilePending → ℕ → Type 0
PutsFirst xid upto room of first = (new : FilePending) → new ≡ with_sent (piece_at xid upto room of first) of → IsPut xid (chosen upto room of) of new (Ok true)

pub next-first : (xid upto room : ℕ) (of : FilePending) (x : ℕ × Segment) → AreApart 0 of.segments → 0 < room → first_that (may_go of.pieces upto) 0 of.segments ≡ Some x
    → IsNext (piece_at xid upto room of x.0) upto of × PutsFirst xid upto room of x.0
next-first xid upto room of x apart some found =
    let at = that-at (may_go of.pieces upto) 0 0 of.segments x apart found in
    let how-is : how_at x.0 of.segments ≡ how_of_segment x = ap how_in at.0 in
    let from-is : from_key x.0 of.segments ≡ (x.0, x.1) ∷ from_key (x.0 + length x.1.bytes) of.segments = from-at x.0 0 of.segments x.1 apart at.0 in
    let goes : (may_go of.pieces upto x && nat_eq (how_of_segment x) (how_of_segment x) && nat_eq x.0 x.0 && nat_lt 0 room) ≡ true = rw (at.1, eq-eqb (how_of_segment x) (how_of_segment x) refl, eq-eqb x.0 x.0 refl, lt-ltb 0 room some) refl in
    let run-is : run_from of.pieces upto (how_of_segment x) x.0 room (from_key x.0 of.segments) ≡ (x.0, head_of room x.1) ∷ run_from of.pieces upto (how_of_segment x) (end_of x) (room - length x.1.bytes) (from_key (x.0 + length x.1.bytes) of.segments) =
    ap (run_from of.pieces upto (how_of_segment x) x.0 room) from-is ∙ rw goes refl in
    let chosen-is : chosen upto room of ≡ (x.0, head_of room x.1) ∷ run_from of.pieces upto (how_of_segment x) (end_of x) (room - length x.1.bytes) (from_key (x.0 + length x.1.bytes) of.segments) =
    chosen-first of.pieces upto room 0 of.segments x apart found ∙ run-is in
    let piece-is : piece_at xid upto room of x.0 ≡ piece_of xid (x.0, head_of room x.1) ((x.0, head_of room x.1) ∷ run_from of.pieces upto (how_of_segment x) (end_of x) (room - length x.1.bytes) (from_key (x.0 + length x.1.bytes) of.segments)) =
    ap (λ h. gathered xid x.0 (run_from of.pieces upto h x.0 room (from_key x.0 of.segments)) h) how-is ∙ ap (λ r. gathered xid x.0 r (how_of_segment x)) run-is in (
      subst (λ p. IsNext p upto of) (sym piece-is) (next-is xid upto room of (x.0, head_of room x.1) (run_from of.pieces upto (how_of_segment x) (end_of x) (room - length x.1.bytes) (from_key (x.0 + length x.1.bytes) of.segments)) apart chosen-is),
      (λ new is. subst (λ c. IsPut xid c of new (Ok true)) (sym chosen-is) (refl, is ∙ ap (λ p. with_sent p of) piece-is)),
    )

pub put-none : (xid upto room : ℕ) (of new : FilePending) → first_that (may_go of.pieces upto) 0 of.segments ≡ None → new ≡ of → IsPut xid (chosen upto room of) of new (Ok false)
put-none xid upto room of new none same = subst (λ c. IsPut xid c of new (Ok false)) (sym (chosen-none of.pieces upto room of.segments none)) (refl, same)

-- a transmission makes nothing wait
none-sent : (place low high : ℕ) (es : Segments) → NoneBefore place es → NoneBefore place (changed by_change.Send low high es)
none-sent place low high [] none = tt
none-sent place low high (e ∷ es) none = by (nat_le low e.0 && nat_lt e.0 high) refl (none-sent place low high es none.1)
  where
    waits : (state : State) → is_ready (sent state) ≡ true → ⊥
    waits (Waiting ready) t = absurd cc
    waits (InFlight ready) t = absurd cc
    waits (Acked verf) t = absurd cc

    by : (b : Bool) → (nat_le low e.0 && nat_lt e.0 high) ≡ b → NoneBefore place (changed by_change.Send low high es) → NoneBefore place (changed by_change.Send low high (e ∷ es))
    by true h more = rw h ((λ t. absurd (waits e.1.state t)), more)
    by false h more = rw h (none.0, more)

pub kept-sent : (piece : Sent) (upto : ℕ) (of : FilePending) (flying resume : ℕ) → piece_under piece.xid of.pieces ≡ None → IsNext piece upto of → IsKept of flying resume → IsKept (with_sent piece of) (flying + length piece.bytes) resume
kept-sent piece upto of flying resume free next kept = record {
  sound = sound-sent piece upto of free kept.sound next;
  flying = ap (λ n. n + length piece.bytes) kept.flying ∙ sym (flying-append of.pieces piece);
  none = none-sent resume piece.offset (end_of_sent piece) (split (end_of_sent piece) of.segments) (none-split resume (end_of_sent piece) (λ _. true) of.segments kept.none);
}

-- a piece lands
pub kept-landed : (change : Change) (piece : Sent) (of : FilePending) (flying resume : ℕ) → IsAnswer change → piece_under piece.xid of.pieces ≡ Some piece → IsKept of flying resume
    → IsKept (landed change piece of) (flying - length piece.bytes) (min resume piece.offset)
kept-landed change piece of flying resume answer found kept = record {
  sound = sound-one change answer piece of kept.sound found;
  flying = omega (arith, kept.flying, flying-without piece.xid of.pieces piece found);
  none = none-changed change (min resume piece.offset) piece.offset (end_of_sent piece) of.segments (omega arith) (none-lower (min resume piece.offset) resume of.segments (omega arith) kept.none);
}

pub kept-part : (change : Change) (count : ℕ) (piece : Sent) (of : FilePending) (flying resume : ℕ) → IsAnswer change → piece_under piece.xid of.pieces ≡ Some piece → IsKept of flying resume
    → IsKept (landed_part change count piece of) (flying - length piece.bytes) (min resume piece.offset)
kept-part change count piece of flying resume answer found kept = by (nat_le (length piece.bytes) count) refl
  where
    lower : NoneBefore (min resume piece.offset) of.segments
    lower = none-lower (min resume piece.offset) resume of.segments (omega arith) kept.none

    by : (b : Bool) → nat_le (length piece.bytes) count ≡ b → IsKept (landed_part change count piece of) (flying - length piece.bytes) (min resume piece.offset)
    by true h = rw h (kept-landed change piece of flying resume answer found kept)
    by false h =
        let sound : IsSound (landed_part change count piece of) = sound-part change answer piece count of kept.sound found in
        rw h (record {
          sound = (rw h at sound);
          flying = omega (arith, kept.flying, flying-without piece.xid of.pieces piece found);
          none = none-changed by_change.Return (min resume piece.offset) (piece.offset + count) (end_of_sent piece) _ (omega arith)
              (none-changed change (min resume piece.offset) piece.offset (piece.offset + count) _ (omega arith) (none-split (min resume piece.offset) (piece.offset + count) (λ s. is_in_flight s.state) of.segments lower));
        })

pub kept-xid : (xid to : ℕ) (of : FilePending) (flying resume : ℕ) → piece_under to of.pieces ≡ None → IsKept of flying resume → IsKept (with_xid xid to of) flying resume
kept-xid xid to of flying resume free kept = record { sound = sound-xid xid to of free kept.sound; flying = kept.flying ∙ sym (flying-renumbered xid to of.pieces); none = kept.none }

pub kept-held : (change : Change) (of : FilePending) (flying resume : ℕ) → IsOfHeld change → IsKept of flying resume → IsKept (with_change change of) flying 0
kept-held change of flying resume held kept = record { sound = sound-held change held of kept.sound; flying = kept.flying; none = none-zero _ }

pub kept-cut : (size upto : ℕ) (of : FilePending) (flying resume : ℕ) → of.pieces ≡ [] → IsKept of flying resume → IsKept (with_cut size upto of) flying resume
kept-cut size upto of flying resume empty kept = record { sound = sound-cut size upto of kept.sound empty; flying = kept.flying; none = none-cut resume size upto of.segments kept.none }
