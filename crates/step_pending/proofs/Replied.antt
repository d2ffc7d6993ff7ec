-- The reply to a WRITE, by place.
use Rattle.std.proofs.Common.{◌≡◌, ◌≢◌, ◌<◌, ℕ, zero, suc, ◌+◌, ◌-◌, Bool, true, false, length, Option, Some, None, refl, sym, ap, subst, ◌∙◌, arith}
use Rattle.std.specs.Prelude.{nat_lt, if◌then◌else◌, IfSome}
use Rattle.std.specs.Option.{option_map}
use Rattle.std.proofs.lemmas.Bool.{lt-ltb, ltb-true}
use Rattle.nfs_types.specs.declared.verf.Verf.{Verf}
use Rattle.write_back.specs.declared.state.State.{State}
use Rattle.write_back.specs.declared.state.State.TheVariants.{Waiting, InFlight, Acked}
use Rattle.write_back.specs.declared.state.Ready.{Ready}
use Rattle.write_back.specs.declared.state.Ready.TheVariants.{Refused}
use Rattle.write_back.specs.declared.change.Change.{Change}
use Rattle.write_back.specs.declared.change.Change.TheVariants as by_change
use Rattle.write_back.specs.States.{is_in_flight}
use Rattle.write_back.specs.Changes.{fate}
use Rattle.write_back.specs.Effects.{IsAnswer}
use Rattle.write_back.specs.Files.{Pending, of_file, OnFile}
use Rattle.write_back.specs.Landing.{acked_by, at_xid, landed, landed_part}
use Rattle.write_back.specs.Pieces.{Sent, Flown, FilePending, flown_in, rest_at, fly_at, piece_under}
use Rattle.write_back.specs.Places.{Lands, cell_landed, newer_or}
use Rattle.write_back.specs.Segments as segments
use Rattle.write_back.proofs.Flying.{flown-some, under-whole}
use Rattle.write_back.proofs.Keys.{low-of}
use Rattle.write_back.proofs.Landings.{answer-ack, answer-store, answer-return, answer-acked}
use Rattle.write_back.proofs.Replying.{lands-part-at, lands-one-at, less-part, less-one}
use Rattle.write_back.proofs.Taking.{under-own}
use Rattle.write_back.proofs.Xids.{fly-under}
use Rattle.model_writes.specs.Machine.{Cell, Flight, View, again, acked, Came, stays, covered, acks, firms, returns, PlacesAfter}
use Rattle.model_writes.specs.Story.{File, Spot, Call, Reply, write, wrote}
use Rattle.step_pending.specs.Cells.{IsCell, IsRest, flight_of, EachSound, Shows, Leads}
use Rattle.step_pending.specs.Steps.{IsOf}
use Rattle.step_pending.proofs.Leading.{if-true, if-false, spot, Turned, leads, sound-on}
use Rattle.step_pending.proofs.Shown.{kept-none, flown-of, some-of, IsFrom, flown-from, not-under, not-there}

-- newer bytes stay, and else what is left is shown
newer-some : (kept left : Option segments.Cell) (cell : Cell) → IsRest kept (Some cell) → IsRest (newer_or kept left) (Some cell)
newer-some None left cell is = absurd is
newer-some (Some kept) left cell is = is

newer-none : (kept left : Option segments.Cell) → kept ≡ None → newer_or kept left ≡ left
newer-none None left is = refl
newer-none (Some kept) left is = absurd cc

-- the piece under an xid, whose reply comes
module _ (old : Pending) (file : File) (xid : ℕ) (piece : Sent) (sound : EachSound old) (alone : IsOf xid file old)
    (found : piece_under xid (of_file file old).pieces ≡ Some piece) (c : View) (shows : Shows old c) (how : ℕ) (reply : Reply) where
  abbrev within : ℕ → Bool
  within at = segments.covers piece.offset (length piece.bytes) at

  abbrev call : Call
  call = write file piece.offset piece.bytes how

  abbrev Comes : Spot → Option Cell → Option Flight → Type 0
  Comes i rest fly = Came xid call reply i (c.rest i) (c.fly i) rest fly

  flies : (at : ℕ) → within at ≡ true → (flown : Flown) × (fly_at (of_file file old) at ≡ Some flown) × (flown.xid ≡ xid)
  flies at h =
      let flown = some-of (flown_in piece at) (flown-some piece at (under-whole xid (of_file file old).pieces piece (sound file).sent found) h) in
      let from : IsFrom piece at flown.0 = flown-from piece at flown.0 flown.1 in
      (flown.0, fly-under xid (of_file file old).pieces piece at (sound file).sent found h ∙ flown.1, from.xid ∙ under-own xid (of_file file old).pieces piece found)

  elsewhere : (i : Spot) → i.file ≢ file → Comes i (c.rest i) (c.fly i)
  elsewhere i apart = stays xid call reply i (c.rest i) (c.fly i) (c.rest i) (c.fly i) other refl refl
    where
      other : (f : Flight) → c.fly i ≡ Some f → f.xid ≢ xid
      other f is =
          let flown = flown-of (fly_at (of_file i.file old) i.at) f (sym (shows.fly i) ∙ is) in
          subst (λ (z : Flight). z.xid ≢ xid) flown.2 (not-under (of_file i.file old).pieces xid i.at flown.0 (sound i.file).xids (alone i.file apart) flown.1)

  outside : (at : ℕ) → within at ≡ false → Comes (spot file at) (c.rest (spot file at)) (c.fly (spot file at))
  outside at h = stays xid call reply (spot file at) (c.rest (spot file at)) (c.fly (spot file at)) (c.rest (spot file at)) (c.fly (spot file at)) other refl refl
    where
      other : (f : Flight) → c.fly (spot file at) ≡ Some f → f.xid ≢ xid
      other f is =
          let flown = flown-of (fly_at (of_file file old) at) f (sym (shows.fly (spot file at)) ∙ is) in
          subst (λ (z : Flight). z.xid ≢ xid) flown.2 (not-there (of_file file old).pieces xid at piece flown.0 (sound file).xids found h flown.1)

  -- What a change makes of a byte that was in flight under no newer one: what is left of it shows what is pending, and it is so for the reply.
  pub record Leaves (Early : ℕ → Type 0) (change : Change) : Type 0 where
    pub left : Flight → Option Cell
    pub is_left : (flown : Flown) → IsRest (cell_landed change (Some flown)) (left (flight_of flown))
    pub came : (i : Spot) (f : Flight) → Early i.at → c.fly i ≡ Some f → f.xid ≡ xid → c.rest i ≡ None → Comes i (left f) None

  module _ (to : FilePending) (count : ℕ) (first others : Change) (lands : Lands piece count first others (of_file file old) to)
      (early : Leaves (λ at. at < piece.offset + count) first) (late : Leaves (λ at. at ≡ at) others) where
    -- where nothing newer lies over it
    bare : (at : ℕ) (flown : Flown) → within at ≡ true → fly_at (of_file file old) at ≡ Some flown → flown.xid ≡ xid → c.rest (spot file at) ≡ None
        → Turned (Comes (spot file at)) (rest_at to at) (fly_at to at)
    bare at flown h is own none = by (nat_lt (at - piece.offset) count) refl
      where
        flight : c.fly (spot file at) ≡ Some (flight_of flown)
        flight = shows.fly (spot file at) ∙ ap (option_map flight_of) is

        gone : fly_at to at ≡ None
        gone = lands.fly at ∙ if-true (within at) None (fly_at (of_file file old) at) h

        empty : rest_at (of_file file old) at ≡ None
        empty = kept-none (rest_at (of_file file old) at) (subst (λ o. IsRest (rest_at (of_file file old) at) o) none (shows.rest (spot file at)))

        change_at : Bool → Change
        change_at b = if b then first else others

        left : rest_at to at ≡ cell_landed (if nat_lt (at - piece.offset) count then first else others) (fly_at (of_file file old) at)
        left =
            lands.rest at
            ∙ if-true (within at) (newer_or (rest_at (of_file file old) at) (cell_landed (if nat_lt (at - piece.offset) count then first else others) (fly_at (of_file file old) at))) (rest_at (of_file file old) at) h
            ∙ newer-none (rest_at (of_file file old) at) (cell_landed (if nat_lt (at - piece.offset) count then first else others) (fly_at (of_file file old) at)) empty

        left-as : (change : Change) → (if nat_lt (at - piece.offset) count then first else others) ≡ change → rest_at to at ≡ cell_landed change (Some flown)
        left-as change same = left ∙ ap (λ z. cell_landed z (fly_at (of_file file old) at)) same ∙ ap (λ o. cell_landed change o) is

        by : (b : Bool) → nat_lt (at - piece.offset) count ≡ b → Turned (Comes (spot file at)) (rest_at to at) (fly_at to at)
        by true g = record {
          rest = early.left (flight_of flown);
          fly = None;
          is_rest = subst (λ o. IsRest o (early.left (flight_of flown))) (sym (left-as first (if-true (nat_lt (at - piece.offset) count) first others g))) (early.is_left flown);
          is_fly = sym (ap (option_map flight_of) gone);
          so = early.came (spot file at) (flight_of flown) (omega (arith, low-of piece.offset (piece.offset + length piece.bytes) at h, ltb-true (at - piece.offset) count g)) flight own none;
        }
        by false g = record {
          rest = late.left (flight_of flown);
          fly = None;
          is_rest = subst (λ o. IsRest o (late.left (flight_of flown))) (sym (left-as others (if-false (nat_lt (at - piece.offset) count) first others g))) (late.is_left flown);
          is_fly = sym (ap (option_map flight_of) gone);
          so = late.came (spot file at) (flight_of flown) refl flight own none;
        }

    -- under a newer one
    under : (at : ℕ) (flown : Flown) (cell : Cell) → within at ≡ true → fly_at (of_file file old) at ≡ Some flown → flown.xid ≡ xid → c.rest (spot file at) ≡ Some cell
        → Turned (Comes (spot file at)) (rest_at to at) (fly_at to at)
    under at flown cell h is own some =
        let flight : c.fly (spot file at) ≡ Some (flight_of flown) = shows.fly (spot file at) ∙ ap (option_map flight_of) is in
        let gone : fly_at to at ≡ None = lands.fly at ∙ if-true (within at) None (fly_at (of_file file old) at) h in
        let change : Change = if nat_lt (at - piece.offset) count then first else others in
        let newer : rest_at to at ≡ newer_or (rest_at (of_file file old) at) (cell_landed change (fly_at (of_file file old) at)) =
        lands.rest at ∙ if-true (within at) (newer_or (rest_at (of_file file old) at) (cell_landed change (fly_at (of_file file old) at))) (rest_at (of_file file old) at) h in
        let kept : IsRest (rest_at (of_file file old) at) (Some cell) = subst (λ o. IsRest (rest_at (of_file file old) at) o) some (shows.rest (spot file at)) in
        record {
          rest = Some cell;
          fly = None;
          is_rest = subst (λ o. IsRest o (Some cell)) (sym newer) (newer-some (rest_at (of_file file old) at) (cell_landed change (fly_at (of_file file old) at)) cell kept);
          is_fly = sym (ap (option_map flight_of) gone);
          so = covered xid call reply (spot file at) (c.rest (spot file at)) (c.fly (spot file at)) (Some cell) None (flight_of flown) cell flight own some (sym some) refl;
        }

    turned : (at : ℕ) → Turned (Comes (spot file at)) (rest_at to at) (fly_at to at)
    turned at = by (within at) refl
      where
        inside : within at ≡ true → (o : Option Cell) → c.rest (spot file at) ≡ o → Turned (Comes (spot file at)) (rest_at to at) (fly_at to at)
        inside h None is = let flown = flies at h in bare at flown.0 h flown.1 flown.2 is
        inside h (Some cell) is = let flown = flies at h in under at flown.0 cell h flown.1 flown.2 is

        by : (b : Bool) → within at ≡ b → Turned (Comes (spot file at)) (rest_at to at) (fly_at to at)
        by true h = inside h (c.rest (spot file at)) refl
        by false h = record {
          rest = c.rest (spot file at);
          fly = c.fly (spot file at);
          is_rest = subst (λ o. IsRest o (c.rest (spot file at)))
              (sym (lands.rest at ∙ if-false (within at) (newer_or (rest_at (of_file file old) at) (cell_landed (if nat_lt (at - piece.offset) count then first else others) (fly_at (of_file file old) at))) (rest_at (of_file file old) at) h))
              (shows.rest (spot file at));
          is_fly = shows.fly (spot file at) ∙ ap (option_map flight_of) (sym (lands.fly at ∙ if-false (within at) None (fly_at (of_file file old) at) h));
          so = outside at h;
        }

    pub lands-at : (new : Pending) → OnFile old new file to → Leads new (PlacesAfter xid call reply) c
    lands-at new on = leads old new file to on c shows Comes turned elsewhere (PlacesAfter xid call reply) (λ d each. each)

  -- what is sent again, by any reply
  abbrev back : Flight → Option Cell
  back f = Some (record { byte = f.byte; number = f.number; mark = again })

  comes-back : (i : Spot) (f : Flight) → c.fly i ≡ Some f → f.xid ≡ xid → c.rest i ≡ None → Comes i (back f) None
  comes-back i f flight own none = returns xid call reply i (c.rest i) (c.fly i) (back f) None f flight own none refl refl

  waits-again : (flown : Flown) (ready : Ready) → IsCell (record { byte = flown.byte; number = flown.number; state = Waiting ready }) (record { byte = flown.byte; number = flown.number; mark = again })
  waits-again flown ready = record { byte = refl; number = refl; fits = tt }

  pub leaves-return : (Early : ℕ → Type 0) → Leaves Early by_change.Return
  leaves-return Early = record { left = back; is_left = λ flown. waits-again flown flown.before; came = λ i f early flight own none. comes-back i f flight own none }

  pub leaves-refuse : (Early : ℕ → Type 0) (status : ℕ) → Leaves Early (by_change.Refuse status)
  leaves-refuse Early status = record { left = back; is_left = λ flown. waits-again flown (Refused status); came = λ i f early flight own none. comes-back i f flight own none }

-- ---- a reply of success

module _ (old : Pending) (file : File) (xid : ℕ) (piece : Sent) (sound : EachSound old) (alone : IsOf xid file old)
    (found : piece_under xid (of_file file old).pieces ≡ Some piece) (c : View) (shows : Shows old c) (how count : ℕ) (verf : Verf) where
  abbrev Early : ℕ → Type 0
  Early at = at < piece.offset + count

  abbrev held : Flight → Option Cell
  held f = Some (record { byte = f.byte; number = f.number; mark = acked verf.0 })

  has-it : (flown : Flown) → IsCell (record { byte = flown.byte; number = flown.number; state = Acked verf }) (record { byte = flown.byte; number = flown.number; mark = acked verf.0 })
  has-it flown = record { byte = refl; number = refl; fits = refl }

  pub leaves-ack : Leaves old file xid piece sound alone found c shows how (wrote 0 count 0 verf.0) Early (by_change.Ack verf)
  leaves-ack = record {
    left = held;
    is_left = has-it;
    came = λ i f early flight own none. acks xid (write file piece.offset piece.bytes how) (wrote 0 count 0 verf.0) i (c.rest i) (c.fly i) (held f) None f count verf.0 flight own none refl early refl refl;
  }

  pub leaves-store : (k : ℕ) → Leaves old file xid piece sound alone found c shows how (wrote 0 count (suc k) verf.0) Early by_change.Store
  leaves-store k = record {
    left = λ f. None;
    is_left = λ flown. tt;
    came = λ i f early flight own none. firms xid (write file piece.offset piece.bytes how) (wrote 0 count (suc k) verf.0) i (c.rest i) (c.fly i) None None f count k verf.0 flight own none refl early refl refl;
  }

-- what is known of a piece that is there
the-piece : (P : Sent → Type 0) (o : Option Sent) (piece : Sent) → o ≡ Some piece → IfSome o P → P piece
the-piece P None piece is so = absurd cc
the-piece P (Some other) piece is so = let same : other ≡ piece = (let k : Some other ≡ Some piece = is in cc) in subst P same so

stored-by : (k : ℕ) (verf : Verf) → acked_by (suc k) verf ≡ by_change.Store
stored-by k verf = if-true (nat_lt 0 (suc k)) by_change.Store (by_change.Ack verf) (lt-ltb 0 (suc k) (omega arith))

pub acked-leads : (old new : Pending) (file : File) (xid count committed : ℕ) (verf : Verf) (piece : Sent) (how : ℕ) → EachSound old → IsOf xid file old
    → piece_under xid (of_file file old).pieces ≡ Some piece → OnFile old new file (at_xid (landed_part (acked_by committed verf) count) xid (of_file file old))
    → (c : View) → Shows old c → Leads new (PlacesAfter xid (write file piece.offset piece.bytes how) (wrote 0 count committed verf.0)) c
acked-leads old new file xid count zero verf piece how sound alone found on c shows =
    let to : FilePending = at_xid (landed_part (by_change.Ack verf) count) xid (of_file file old) in
    let lands : Lands piece count (by_change.Ack verf) by_change.Return (of_file file old) to =
    the-piece (λ p. Lands p count (by_change.Ack verf) by_change.Return (of_file file old) to) (piece_under xid (of_file file old).pieces) piece found
    (lands-part-at (by_change.Ack verf) count xid (of_file file old) to (answer-ack verf) (sound file) refl) in
    lands-at old file xid piece sound alone found c shows how (wrote 0 count 0 verf.0) to count (by_change.Ack verf) by_change.Return lands
    (leaves-ack old file xid piece sound alone found c shows how count verf)
    (leaves-return old file xid piece sound alone found c shows how (wrote 0 count 0 verf.0) (λ at. at ≡ at)) new on
acked-leads old new file xid count (suc k) verf piece how sound alone found on c shows =
    let to : FilePending = at_xid (landed_part by_change.Store count) xid (of_file file old) in
    let lands : Lands piece count by_change.Store by_change.Return (of_file file old) to =
    the-piece (λ p. Lands p count by_change.Store by_change.Return (of_file file old) to) (piece_under xid (of_file file old).pieces) piece found
    (lands-part-at by_change.Store count xid (of_file file old) to answer-store (sound file) refl) in
    lands-at old file xid piece sound alone found c shows how (wrote 0 count (suc k) verf.0) to count by_change.Store by_change.Return lands
    (leaves-store old file xid piece sound alone found c shows how count verf k)
    (leaves-return old file xid piece sound alone found c shows how (wrote 0 count (suc k) verf.0) (λ at. at ≡ at)) new
    (subst (λ z. OnFile old new file (at_xid (landed_part z count) xid (of_file file old))) (stored-by k verf) on)

pub sound-acked : (old new : Pending) (file : File) (xid count committed : ℕ) (verf : Verf) → EachSound old
    → OnFile old new file (at_xid (landed_part (acked_by committed verf) count) xid (of_file file old)) → EachSound new
sound-acked old new file xid count committed verf sound on =
    sound-on old new file (at_xid (landed_part (acked_by committed verf) count) xid (of_file file old)) on sound
    (less-part (acked_by committed verf) count xid (of_file file old) (answer-acked committed verf) (sound file)).0

-- ---- a reply of any kind, or none

pub returned-leads : (old new : Pending) (file : File) (xid : ℕ) (piece : Sent) (how : ℕ) (reply : Reply) → EachSound old → IsOf xid file old
    → piece_under xid (of_file file old).pieces ≡ Some piece → OnFile old new file (at_xid (landed by_change.Return) xid (of_file file old))
    → (c : View) → Shows old c → Leads new (PlacesAfter xid (write file piece.offset piece.bytes how) reply) c
returned-leads old new file xid piece how reply sound alone found on c shows =
    let to : FilePending = at_xid (landed by_change.Return) xid (of_file file old) in
    let lands : Lands piece 0 by_change.Return by_change.Return (of_file file old) to =
    the-piece (λ p. Lands p 0 by_change.Return by_change.Return (of_file file old) to) (piece_under xid (of_file file old).pieces) piece found
    (lands-one-at by_change.Return xid (of_file file old) to answer-return (sound file) refl) in
    lands-at old file xid piece sound alone found c shows how reply to 0 by_change.Return by_change.Return lands
    (leaves-return old file xid piece sound alone found c shows how reply (λ at. at < piece.offset + 0))
    (leaves-return old file xid piece sound alone found c shows how reply (λ at. at ≡ at)) new on

pub sound-returned : (old new : Pending) (file : File) (xid : ℕ) → EachSound old → OnFile old new file (at_xid (landed by_change.Return) xid (of_file file old)) → EachSound new
sound-returned old new file xid sound on =
    sound-on old new file (at_xid (landed by_change.Return) xid (of_file file old)) on sound (less-one by_change.Return xid (of_file file old) answer-return (sound file)).0

answer-refuse : (status : ℕ) → IsAnswer (by_change.Refuse status)
answer-refuse status = record { leaves = λ number state out. kept number state out; lands = λ number ready left is. refused left is }
  where
    kept : (number : ℕ) (state : State) → is_in_flight state ≡ false → fate (by_change.Refuse status) number state ≡ Some state
    kept number (Waiting ready) out = refl
    kept number (InFlight ready) out = absurd cc
    kept number (Acked held) out = refl

    refused : (left : State) → Some (Waiting (Refused status)) ≡ Some left → is_in_flight left ≡ false
    refused left is = let same : Waiting (Refused status) ≡ left = cc in sym (ap is_in_flight same)

pub refused-leads : (old new : Pending) (file : File) (xid status : ℕ) (piece : Sent) (how : ℕ) (reply : Reply) → EachSound old → IsOf xid file old
    → piece_under xid (of_file file old).pieces ≡ Some piece → OnFile old new file (at_xid (landed (by_change.Refuse status)) xid (of_file file old))
    → (c : View) → Shows old c → Leads new (PlacesAfter xid (write file piece.offset piece.bytes how) reply) c
refused-leads old new file xid status piece how reply sound alone found on c shows =
    let to : FilePending = at_xid (landed (by_change.Refuse status)) xid (of_file file old) in
    let lands : Lands piece 0 (by_change.Refuse status) (by_change.Refuse status) (of_file file old) to =
    the-piece (λ p. Lands p 0 (by_change.Refuse status) (by_change.Refuse status) (of_file file old) to) (piece_under xid (of_file file old).pieces) piece found
    (lands-one-at (by_change.Refuse status) xid (of_file file old) to (answer-refuse status) (sound file) refl) in
    lands-at old file xid piece sound alone found c shows how reply to 0 (by_change.Refuse status) (by_change.Refuse status) lands
    (leaves-refuse old file xid piece sound alone found c shows how reply (λ at. at < piece.offset + 0) status)
    (leaves-refuse old file xid piece sound alone found c shows how reply (λ at. at ≡ at) status) new on

pub sound-refused : (old new : Pending) (file : File) (xid status : ℕ) → EachSound old → OnFile old new file (at_xid (landed (by_change.Refuse status)) xid (of_file file old)) → EachSound new
sound-refused old new file xid status sound on =
    sound-on old new file (at_xid (landed (by_change.Refuse status)) xid (of_file file old)) on sound
    (less-one (by_change.Refuse status) xid (of_file file old) (answer-refuse status) (sound file)).0
