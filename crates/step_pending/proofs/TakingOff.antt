-- A piece that takes off, by place.
use Rattle.std.proofs.Common.{◌≡◌, ◌≢◌, ℕ, Bool, true, false, List, ◌∷◌, length, Option, Some, None, refl, sym, ap, subst, ◌∙◌}
use Rattle.std.specs.Option.{option_map}
use Rattle.write_back.specs.declared.state.State.TheVariants.{Waiting}
use Rattle.write_back.specs.Choice.{chosen, piece_of, with_sent}
use Rattle.write_back.specs.Files.{Pending, of_file, IsFree, OnFile, PutsPiece}
use Rattle.write_back.specs.Pieces.{Sent, Flown, FilePending, flown_in, rest_at, fly_at}
use Rattle.write_back.specs.Places.{PutsInFlight}
use Rattle.write_back.specs.Segments.{Segment, Segments}
use Rattle.write_back.specs.Segments as segments
use Rattle.write_back.specs.Sound.{IsWhole}
use Rattle.write_back.proofs.Flying.{flown-some}
use Rattle.write_back.proofs.Sending.{IsNext, next-is, puts-sent, sound-sent}
use Rattle.model_writes.specs.Machine.{Cell, Flight, View, PicksUp}
use Rattle.model_writes.specs.Story.{File, Spot, covers}
use Rattle.step_pending.specs.Cells.{IsRest, flight_of, EachSound, Shows, Leads}
use Rattle.step_pending.specs.Steps.{TakesOff}
use Rattle.step_pending.proofs.Covered.{covers-file, covers-place, covers-byte, covers-none}
use Rattle.step_pending.proofs.Leading.{if-true, if-false, spot, Turned, leads, sound-on}
use Rattle.step_pending.proofs.Shown.{rest-some, some-of, flight-is, IsFrom, flown-from}

record Picked (x : ℕ) (c : View) (i : Spot) (y : ℕ) (rest : Option Cell) (fly : Option Flight) : Type 0 where
  pub cell : Cell
  pub was : c.rest i ≡ Some cell
  pub byte_is : cell.byte ≡ y
  pub free : c.fly i ≡ None
  pub none : rest ≡ None
  pub flies : fly ≡ Some (record { byte = y; number = cell.number; xid = x })

record TakenAt (x : ℕ) (file : File) (offset : ℕ) (bytes : List ℕ) (c : View) (i : Spot) (rest : Option Cell) (fly : Option Flight) : Type 0 where
  pub picks : (y : ℕ) → covers file offset bytes i ≡ Some y → Picked x c i y rest fly
  pub others : covers file offset bytes i ≡ None → (rest ≡ c.rest i) × (fly ≡ c.fly i)

module _ (file : File) (piece : Sent) (upto : ℕ) (whole : IsWhole piece) (old : Pending) (to : FilePending) (puts : PutsInFlight piece upto (of_file file old) to)
    (c : View) (shows : Shows old c) where
  abbrev within : ℕ → Bool
  within at = segments.covers piece.offset (length piece.bytes) at

  abbrev Becomes : Spot → Option Cell → Option Flight → Type 0
  Becomes i rest fly = TakenAt piece.xid file piece.offset piece.bytes c i rest fly

  taken : (at : ℕ) (flown : Flown) → within at ≡ true → flown_in piece at ≡ Some flown → Turned (Becomes (spot file at)) (rest_at to at) (fly_at to at)
  taken at flown h is =
      let was : rest_at (of_file file old) at ≡ Some (record { byte = flown.byte; number = flown.number; state = Waiting flown.before }) = puts.was at flown h is in
      let cell = rest-some (record { byte = flown.byte; number = flown.number; state = Waiting flown.before }) (c.rest (spot file at)) (subst (λ o. IsRest o (c.rest (spot file at))) was (shows.rest (spot file at))) in
      let from : IsFrom piece at flown = flown-from piece at flown is in
      let nowhere : rest_at to at ≡ None = puts.rest at ∙ if-true (within at) None (rest_at (of_file file old) at) h in
      let there : fly_at to at ≡ Some flown = puts.fly at ∙ if-true (within at) (flown_in piece at) (fly_at (of_file file old) at) h ∙ is in
      record {
        rest = None;
        fly = Some (flight_of flown);
        is_rest = subst (λ o. IsRest o None) (sym nowhere) tt;
        is_fly = sym (ap (option_map flight_of) there);
        so = record {
          picks = λ y e. record {
            cell = cell.0;
            was = cell.1;
            byte_is = cell.2.byte ∙ from.byte ∙ covers-byte file piece.offset piece.bytes (spot file at) y e;
            free = shows.fly (spot file at) ∙ ap (option_map flight_of) (puts.free at h);
            none = refl;
            flies = flight-is (flight_of flown) y cell.0.number piece.xid (from.byte ∙ covers-byte file piece.offset piece.bytes (spot file at) y e) (sym cell.2.number) from.xid;
          };
          others = λ none. (let k : true ≡ false = sym h ∙ covers-none file piece.offset piece.bytes (spot file at) none refl in absurd cc);
        };
      }

  turned : (at : ℕ) → Turned (Becomes (spot file at)) (rest_at to at) (fly_at to at)
  turned at = by (within at) refl
    where
      by : (b : Bool) → within at ≡ b → Turned (Becomes (spot file at)) (rest_at to at) (fly_at to at)
      by true h =
          let flown = some-of (flown_in piece at) (flown-some piece at whole h) in
          taken at flown.0 h flown.1
      by false h = record {
        rest = c.rest (spot file at);
        fly = c.fly (spot file at);
        is_rest = subst (λ o. IsRest o (c.rest (spot file at))) (sym (puts.rest at ∙ if-false (within at) None (rest_at (of_file file old) at) h)) (shows.rest (spot file at));
        is_fly = shows.fly (spot file at) ∙ ap (option_map flight_of) (sym (puts.fly at ∙ if-false (within at) (flown_in piece at) (fly_at (of_file file old) at) h));
        so = record {
          picks = λ y e. (let k : true ≡ false = sym (covers-place file piece.offset piece.bytes (spot file at) y e) ∙ h in absurd cc);
          others = λ none. (refl, refl);
        };
      }

  elsewhere : (i : Spot) → i.file ≢ file → Becomes i (c.rest i) (c.fly i)
  elsewhere i apart = record { picks = λ y e. absurd (apart (covers-file file piece.offset piece.bytes i y e)); others = λ none. (refl, refl) }

  picks-up : (d : View) (i : Spot) (y : ℕ) → Picked piece.xid c i y (d.rest i) (d.fly i) → PicksUp c d piece.xid i y
  picks-up d i y p = record { cell = p.cell; was = p.was; byte_is = p.byte_is; free = p.free; rest = p.none; fly = p.flies }

  takes : (d : View) → ((i : Spot) → Becomes i (d.rest i) (d.fly i)) → TakesOff piece.xid file piece.offset piece.bytes c d
  takes d each = record { picks = λ i y e. picks-up d i y ((each i).picks y e); others = λ i none. (each i).others none }

  pub takes-off : (new : Pending) → OnFile old new file to → Leads new (TakesOff piece.xid file piece.offset piece.bytes) c
  takes-off new on = leads old new file to on c shows Becomes turned elsewhere (TakesOff piece.xid file piece.offset piece.bytes) takes

pub sent-leads : (old new : Pending) (file : File) (xid upto wsize : ℕ) (e : ℕ × Segment) (es : Segments) → EachSound old → chosen upto wsize (of_file file old) ≡ e ∷ es
    → PutsPiece xid upto (e ∷ es) old new file → (c : View) → Shows old c → Leads new (TakesOff xid file (piece_of xid e (e ∷ es)).offset (piece_of xid e (e ∷ es)).bytes) c
sent-leads old new file xid upto wsize e es sound is puts c shows =
    let next : IsNext (piece_of xid e (e ∷ es)) upto (of_file file old) = next-is xid upto wsize (of_file file old) e es (sound file).apart is in
    takes-off file (piece_of xid e (e ∷ es)) upto next.whole old (with_sent (piece_of xid e (e ∷ es)) (of_file file old))
    (puts-sent (piece_of xid e (e ∷ es)) upto (of_file file old) (sound file) next) c shows new puts.0

pub sound-sends : (old new : Pending) (file : File) (xid upto wsize : ℕ) (e : ℕ × Segment) (es : Segments) → EachSound old → IsFree xid file old
    → chosen upto wsize (of_file file old) ≡ e ∷ es → PutsPiece xid upto (e ∷ es) old new file → EachSound new
sound-sends old new file xid upto wsize e es sound free is puts =
    let next : IsNext (piece_of xid e (e ∷ es)) upto (of_file file old) = next-is xid upto wsize (of_file file old) e es (sound file).apart is in
    sound-on old new file (with_sent (piece_of xid e (e ∷ es)) (of_file file old)) puts.0 sound
    (sound-sent (piece_of xid e (e ∷ es)) upto (of_file file old) free (sound file) next)
