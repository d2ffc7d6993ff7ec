-- A change of all that the server has, by place, and another xid of a piece.
use Rattle.std.proofs.Common.{◌≡◌, ◌<◌, ◌≤◌, ◌^◌, ℕ, ◌-◌, ◌&&◌, Bool, true, false, [], ◌∷◌, length, Option, Some, None, refl, sym, ap, ◌∙◌, inl, inr, subst, arith}
use Rattle.std.specs.Prelude.{nat_le}
use Rattle.nfs_types.specs.declared.verf.Verf.{Verf}
use Rattle.write_back.specs.declared.state.State.{State}
use Rattle.write_back.specs.declared.state.State.TheVariants.{Waiting, InFlight, Acked}
use Rattle.write_back.specs.declared.state.Ready.TheVariants.{Again}
use Rattle.write_back.specs.declared.change.Change.{Change}
use Rattle.write_back.specs.declared.change.Change.TheVariants as by_change
use Rattle.write_back.specs.States.{is_in_flight, same_verf}
use Rattle.write_back.specs.Segments.{Segment, Segments, Cell, AreApart, end_of, cell_at}
use Rattle.write_back.specs.Changes.{fate, all_changed, left_of, cell_left, cell_changed}
use Rattle.write_back.specs.Pieces.{Flown, FilePending, rest_of, fly_at, pending_of, piece_under}
use Rattle.write_back.specs.Places.{ChangesAll, cell_flown}
use Rattle.write_back.specs.Landing.{with_change, with_xid}
use Rattle.write_back.specs.Effects.{IsOfHeld}
use Rattle.write_back.specs.Sound.{IsSound, IsOver}
use Rattle.write_back.proofs.Changing.{apart-lower}
use Rattle.write_back.proofs.Cells.{cells-changed}
use Rattle.write_back.proofs.Stops.{within-all}
use Rattle.write_back.proofs.OwnBytes.{own-all}
use Rattle.write_back.proofs.Flying.{sent-renumbered, within-renumbered, over-renumbered, flying-renumbered}
use Rattle.write_back.proofs.Xids.{distinct-renumbered}

pub held-settle : (verf : Verf) (upto : ℕ) → IsOfHeld (by_change.Settle verf upto)
held-settle verf upto = record { waits = λ number ready. refl; flies = λ number ready. refl; lands = λ number held left is. by (nat_le number upto && same_verf held verf) number held left refl is }
  where
    by : (b : Bool) (number : ℕ) (held : Verf) (left : State) → (nat_le number upto && same_verf held verf) ≡ b → fate (by_change.Settle verf upto) number (Acked held) ≡ Some left → is_in_flight left ≡ false
    by true number held left h is = let k : None ≡ Some left = (rw h at is) in absurd cc
    by false number held left h is = let k : Some (Acked held) ≡ Some left = (rw h at is) in let same : Acked held ≡ left = cc in sym (ap is_in_flight same)

pub held-mark : (upto : ℕ) → IsOfHeld (by_change.MarkAgain upto)
held-mark upto = record { waits = λ number ready. refl; flies = λ number ready. refl; lands = λ number held left is. by (nat_le number upto) number held left refl is }
  where
    by : (b : Bool) (number : ℕ) (held : Verf) (left : State) → nat_le number upto ≡ b → fate (by_change.MarkAgain upto) number (Acked held) ≡ Some left → is_in_flight left ≡ false
    by true number held left h is = let k : Some (Waiting Again) ≡ Some left = (rw h at is) in let same : Waiting Again ≡ left = cc in sym (ap is_in_flight same)
    by false number held left h is = let k : Some (Acked held) ≡ Some left = (rw h at is) in let same : Acked held ≡ left = cc in sym (ap is_in_flight same)

-- what is in flight afterwards was so before, and the other way round
held-keeps : (change : Change) → IsOfHeld change → (number : ℕ) (state left : State) → fate change number state ≡ Some left → is_in_flight left ≡ true → is_in_flight state ≡ true
held-keeps change held number (Waiting ready) left is t =
    let k : Some (Waiting ready) ≡ Some left = sym (held.waits number ready) ∙ is in let same : Waiting ready ≡ left = cc in ap is_in_flight same ∙ t
held-keeps change held number (InFlight ready) left is t = refl
held-keeps change held number (Acked verf) left is t = let no-flight : is_in_flight left ≡ false = held.lands number verf left is in let wrong : true ≡ false = sym t ∙ no-flight in absurd cc

held-flies : (change : Change) → IsOfHeld change → (number : ℕ) (state left : State) → fate change number state ≡ Some left → is_in_flight state ≡ true → is_in_flight left ≡ true
held-flies change held number (Waiting ready) left is t = absurd cc
held-flies change held number (InFlight ready) left is t =
    let k : Some (InFlight ready) ≡ Some left = sym (held.flies number ready) ∙ is in let same : InFlight ready ≡ left = cc in sym (ap is_in_flight same)
held-flies change held number (Acked verf) left is t = absurd cc

rest-none : (cell : Cell) (o : Option State) → ((left : State) → o ≡ Some left → is_in_flight left ≡ false) → rest_of (cell_left o cell) ≡ cell_left o cell
rest-none cell None lands = refl
rest-none cell (Some left) lands = rw (lands left refl) refl

rest-held : (change : Change) → IsOfHeld change → (c : Option Cell) → rest_of (cell_changed change c) ≡ cell_changed change (rest_of c)
rest-held change held None = refl
rest-held change held (Some cell) = by cell.state refl
  where
    by : (st : State) → cell.state ≡ st → rest_of (cell_changed change (Some cell)) ≡ cell_changed change (rest_of (Some cell))
    by (Waiting ready) h = rw (h, held.waits cell.number ready) refl
    by (InFlight ready) h = rw (h, held.flies cell.number ready) refl
    by (Acked verf) h = rw h (rest-none (record { byte = cell.byte; number = cell.number; state = Acked verf }) (fate change cell.number (Acked verf)) (held.lands cell.number verf))

pub changes-held : (change : Change) → IsOfHeld change → (of : FilePending) → AreApart 0 of.segments → ChangesAll change of (with_change change of)
changes-held change held of apart = record {
  rest = λ place. ap rest_of (cells-changed change 0 of.segments place apart) ∙ rest-held change held (cell_at of.segments place);
  fly = λ place. refl;
}

over-held : (change : Change) → IsOfHeld change → (o : Option Flown) (c : Option Cell) → IsOver o c → IsOver o (cell_changed change c)
over-held change held None None over = tt
over-held change held (Some flown) None over = over
over-held change held None (Some cell) over = by (fate change cell.number cell.state) refl
  where
    by : (l : Option State) → fate change cell.number cell.state ≡ l → IsOver None (cell_left (fate change cell.number cell.state) cell)
    by None h = rw h tt
    by (Some left) h = rw h (none (is_in_flight left) refl)
      where
        none : (b : Bool) → is_in_flight left ≡ b → is_in_flight left ≡ false
        none true t = let was : is_in_flight cell.state ≡ true = held-keeps change held cell.number cell.state left h t in let wrong : true ≡ false = sym was ∙ over in absurd cc
        none false t = t
over-held change held (Some flown) (Some cell) (inl is) =
    subst (λ (z : Cell). IsOver (Some flown) (cell_changed change (Some z))) (sym is)
    (subst (λ o. IsOver (Some flown) (cell_left o (cell_flown flown))) (sym (held.flies flown.number flown.before)) (inl refl))
over-held change held (Some flown) (Some cell) (inr waits) =
    let kept : fate change cell.number cell.state ≡ Some cell.state = ap (fate change cell.number) waits.0 ∙ held.waits cell.number _ ∙ ap Some (sym waits.0) in
    subst (λ o. IsOver (Some flown) (cell_left o cell)) (sym kept) (inr waits)

apart-left : (low : ℕ) (o : Option State) (e : ℕ × Segment) (es : Segments) → low ≤ e.0 → 0 < length e.1.bytes → end_of e ≤ 2 ^ 63 - 1 → AreApart (end_of e) es → AreApart low (left_of o e es)
apart-left low None e es le some ends apart = apart-lower low (end_of e) es (omega (arith, le)) apart
apart-left low (Some state) e es le some ends apart = (le, some, ends, apart)

apart-all : (change : Change) (low : ℕ) (es : Segments) → AreApart low es → AreApart low (all_changed change es)
apart-all change low [] apart = tt
apart-all change low (e ∷ es) apart = apart-left low (fate change e.1.number e.1.state) e (all_changed change es) apart.0 apart.1 apart.2 (apart-all change (end_of e) es apart.3)

pub room-held : (change : Change) → IsOfHeld change → (of : FilePending) → pending_of (with_change change of) ≤ pending_of of
room-held change held of = omega (arith, own-all change (held-flies change held) of.segments)

pub sound-held : (change : Change) → IsOfHeld change → (of : FilePending) → IsSound of → IsSound (with_change change of)
sound-held change held of sound = record {
  apart = apart-all change 0 of.segments sound.apart;
  sent = sound.sent;
  xids = sound.xids;
  within = within-all change (held-keeps change held) of.pieces of.segments sound.within;
  over = λ place. over place;
  room = omega (arith, room-held change held of, sound.room);
}
  where
    over : (place : ℕ) → IsOver (fly_at of place) (cell_at (all_changed change of.segments) place)
    over place = rw (cells-changed change 0 of.segments place sound.apart) (over-held change held (fly_at of place) (cell_at of.segments place) (sound.over place))

-- another xid
pub sound-xid : (xid to : ℕ) (of : FilePending) → piece_under to of.pieces ≡ None → IsSound of → IsSound (with_xid xid to of)
sound-xid xid to of free sound = record {
  apart = sound.apart;
  sent = sent-renumbered xid to of.pieces sound.sent;
  xids = distinct-renumbered xid to of.pieces sound.xids free;
  within = within-renumbered xid to of.pieces of.segments sound.within;
  over = λ place. over-renumbered xid to of.pieces place (cell_at of.segments place) (sound.over place);
  room = omega (arith, sound.room, flying-renumbered xid to of.pieces);
}

pub room-xid : (xid to : ℕ) (of : FilePending) → pending_of (with_xid xid to of) ≡ pending_of of
room-xid xid to of = omega (arith, flying-renumbered xid to of.pieces)
