-- What a view shows in flight is what the pieces have.
use Rattle.std.proofs.Common.{◌≡◌, ℕ, true, length, Some, refl, sym, ap, subst, ◌∙◌}
use Rattle.std.specs.Option.{option_map}
use Rattle.write_back.specs.Files.{Pending, of_file}
use Rattle.write_back.specs.Pieces.{Sent, flown_in, fly_at, piece_under}
use Rattle.write_back.specs.Segments as segments
use Rattle.write_back.proofs.Flying.{flown-some, under-whole}
use Rattle.write_back.proofs.Taking.{under-own}
use Rattle.write_back.proofs.Xids.{fly-under}
use Rattle.model_writes.specs.Machine.{Flight, View}
use Rattle.model_writes.specs.Story.{File, Spot, covers}
use Rattle.step_pending.specs.Cells.{flight_of, EachSound, Shows}
use Rattle.step_pending.specs.Steps.{IsPieceOf}
use Rattle.step_pending.proofs.Covered.{covers-file, covers-place, covers-byte, covers-within}
use Rattle.step_pending.proofs.Shown.{flown-of, some-of, IsFrom, flown-from, HasPiece, has-piece}

pub is-piece-of : (pending : Pending) → EachSound pending → (c : View) → Shows pending c → (i : Spot) (f : Flight) → c.fly i ≡ Some f → IsPieceOf pending i f
is-piece-of pending sound c shows i f is =
    let flown = flown-of (fly_at (of_file i.file pending) i.at) f (sym (shows.fly i) ∙ is) in
    let has : HasPiece (of_file i.file pending).pieces i.at flown.0 = has-piece (of_file i.file pending).pieces i.at flown.0 (sound i.file).xids flown.1 in
    subst (λ (z : Flight). IsPieceOf pending i z) flown.2
    (record { piece = has.piece; under = has.under; byte = covers-within i.file has.piece.offset has.piece.bytes i refl has.inside ∙ ap Some (sym has.from.byte) })

pub piece-flies : (pending : Pending) → EachSound pending → (c : View) → Shows pending c → (file : File) (xid : ℕ) (piece : Sent)
    → piece_under xid (of_file file pending).pieces ≡ Some piece → (i : Spot) (y : ℕ) → covers file piece.offset piece.bytes i ≡ Some y
    → (f : Flight) × (c.fly i ≡ Some f) × (f.byte ≡ y) × (f.xid ≡ xid)
piece-flies pending sound c shows file xid piece found i y e =
    let same : i.file ≡ file = covers-file file piece.offset piece.bytes i y e in
    let inside : segments.covers piece.offset (length piece.bytes) i.at ≡ true = covers-place file piece.offset piece.bytes i y e in
    let flown = some-of (flown_in piece i.at) (flown-some piece i.at (under-whole xid (of_file file pending).pieces piece (sound file).sent found) inside) in
    let from : IsFrom piece i.at flown.0 = flown-from piece i.at flown.0 flown.1 in
    let there : fly_at (of_file file pending) i.at ≡ Some flown.0 = fly-under xid (of_file file pending).pieces piece i.at (sound file).sent found inside ∙ flown.1 in (
      flight_of flown.0,
      shows.fly i ∙ ap (λ (z : File). option_map flight_of (fly_at (of_file z pending) i.at)) same ∙ ap (option_map flight_of) there,
      from.byte ∙ covers-byte file piece.offset piece.bytes i y e,
      from.xid ∙ under-own xid (of_file file pending).pieces piece found,
    )
