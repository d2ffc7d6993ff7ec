-- What each step of a save makes of the bytes of its file, up to its number.
use Rattle.std.proofs.Common.{inl, inr, ◌⊎◌, ◌≡◌, ◌<◌, ◌≤◌, ◌-◌, ℕ, Bool, true, false, List, [], length, Option, Some, None, refl, sym, ap, subst, ◌∙◌, arith}
use Rattle.std.specs.Prelude.{nat_le, nat_lt, if◌then◌else◌}
use Rattle.std.proofs.lemmas.Bool.{le-leb, cases_lt}
use Rattle.nfs_types.specs.declared.verf.Verf.{Verf}
use Rattle.write_back.specs.declared.state.State.{State}
use Rattle.write_back.specs.declared.state.State.TheVariants.{Waiting, InFlight, Acked}
use Rattle.write_back.specs.declared.state.Ready.TheVariants.{Again}
use Rattle.write_back.specs.declared.change.Change.{Change}
use Rattle.write_back.specs.declared.change.Change.TheVariants.{Store, Return, Settle, MarkAgain}
use Rattle.write_back.specs.Changes.{cell_changed}
use Rattle.write_back.specs.Landing.{with_change}
use Rattle.write_back.specs.Sound.{IsSound}
use Rattle.write_back.specs.States.{is_in_flight, same_verf, how_of}
use Rattle.write_back.specs.Segments.{Cell, covers, cell_at}
use Rattle.write_back.specs.Pieces.{Sent, FilePending, Flown, rest_of, rest_at, fly_at, fly_in, flown_in}
use Rattle.write_back.specs.Places.{PutsBytes, PutsInFlight, Lands, newer_or, cell_landed}
use Rattle.write_back.specs.Choice.{chosen}
use Rattle.write_back.specs.Waits.{FitsCall}
use Rattle.write_back.proofs.Marking.{held-settle, held-mark, changes-held, sound-held}
use Rattle.write_back.proofs.NextPiece.{waits-later}
use Rattle.commit_verf.specs.Decisions.{decided, state_decided, cell_decided, cell_with, IsAllUnder}
use Rattle.commit_verf.proofs.Verdicts.{cells-decided}
use Rattle.step_pending.proofs.Leading.{if-true, if-false}
use Rattle.step_saves.specs.Saves.{IsClearUpTo, IsHeld, IsLost, EachUpTo, IsAgain, AreAgain}
use Rattle.step_saves.proofs.Pieces.{again-flown}

-- what isn't in flight isn't in flight
not-flying : (o : Option Cell) (cell : Cell) → rest_of o ≡ Some cell → is_in_flight cell.state ≡ false
not-flying None cell is = absurd cc
not-flying (Some other) cell is = by (is_in_flight other.state) refl
  where
    by : (b : Bool) → is_in_flight other.state ≡ b → is_in_flight cell.state ≡ false
    by true h = let k : None ≡ Some cell = (rw h at is) in absurd cc
    by false h = let same : other ≡ cell = (let k : Some other ≡ Some cell = (rw h at is) in cc) in sym (ap (λ (z : Cell). is_in_flight z.state) same) ∙ h

-- ---- once all was sent, and nothing is in flight

module _ (upto wsize : ℕ) (of : FilePending) (some : 1 ≤ wsize) (none : chosen upto wsize of ≡ []) (quiet : of.pieces ≡ []) where
  pub held-then : EachUpTo upto IsHeld of
  held-then place cell at old = by cell.state refl
    where
      by : (st : State) → cell.state ≡ st → IsHeld st
      by (Waiting ready) h = let later : upto < cell.number = waits-later upto wsize of place cell ready some none quiet at h in absurd (omega (arith, later, old))
      by (InFlight ready) h = let k : true ≡ false = ap is_in_flight (sym h) ∙ not-flying (cell_at of.segments place) cell at in absurd cc
      by (Acked verf) h = tt

  pub clear-then : EachUpTo upto IsLost of → IsClearUpTo upto of
  clear-then lost = record { rest = rest; fly = fly }
    where
      rest : (place : ℕ) (cell : Cell) → rest_at of place ≡ Some cell → upto < cell.number
      rest place cell at = by (cases_lt upto cell.number)
        where
          waits : cell.number ≤ upto → (st : State) → cell.state ≡ st → IsLost st → upto < cell.number
          waits old (Waiting ready) h is = waits-later upto wsize of place cell ready some none quiet at h
          waits old (InFlight ready) h is = absurd is
          waits old (Acked verf) h is = absurd is

          by : (upto < cell.number) ⊎ (cell.number ≤ upto) → upto < cell.number
          by (inl later) = later
          by (inr old) = waits old cell.state refl (lost place cell at old)

      fly : (place : ℕ) (flown : Flown) → fly_at of place ≡ Some flown → upto < flown.number
      fly place flown is = let k : None ≡ Some flown = sym (ap (λ (ps : List Sent). fly_in ps place) quiet) ∙ is in absurd cc

-- ---- a COMMIT's verifier

pub rests-decided : (upto : ℕ) (verf : Verf) (of : FilePending) → IsSound of → (place : ℕ) → rest_at (decided upto verf of) place ≡ cell_decided upto verf (rest_at of place)
rests-decided upto verf of sound place =
    let first = changes-held (Settle verf upto) (held-settle verf upto) of sound.apart in
    let next = changes-held (MarkAgain upto) (held-mark upto) (with_change (Settle verf upto) of) (sound-held (Settle verf upto) (held-settle verf upto) of sound).apart in
    next.rest place ∙ ap (cell_changed (MarkAgain upto)) (first.rest place) ∙ cells-decided verf upto (rest_at of place)

-- what is left up to the number is to be sent again, and was held under another verifier
record WasLost (upto : ℕ) (verf : Verf) (kept cell : Cell) : Type 0 where
  pub held : Verf
  pub was : kept.state ≡ Acked held
  pub number : kept.number ≡ cell.number
  pub other : same_verf held verf ≡ false
  pub is : cell.state ≡ Waiting Again

was-lost : (upto : ℕ) (verf : Verf) (kept cell : Cell) → cell_decided upto verf (Some kept) ≡ Some cell → cell.number ≤ upto → (kept.number ≤ upto → IsHeld kept.state) → WasLost upto verf kept cell
was-lost upto verf kept cell is old held = by-state (state_decided upto verf kept.number kept.state) refl
  where
    by-held : (st : State) → kept.number ≡ cell.number → (left : State) → state_decided upto verf kept.number kept.state ≡ Some left → cell.state ≡ left → kept.state ≡ st → IsHeld st → WasLost upto verf kept cell
    by-held (Waiting ready) number left to state h is = absurd is
    by-held (InFlight ready) number left to state h is = absurd is
    by-held (Acked verifier) number left to state h is = by-verf (same_verf verifier verf) refl
      where
        early : nat_le kept.number upto ≡ true
        early = le-leb kept.number upto (omega (arith, number, old))

        remains : (if same_verf verifier verf then None else Some (Waiting Again)) ≡ Some left
        remains = sym (if-true (nat_le kept.number upto) (if same_verf verifier verf then None else Some (Waiting Again)) (Some (Acked verifier)) early) ∙ sym (ap (state_decided upto verf kept.number) h) ∙ to

        by-verf : (b : Bool) → same_verf verifier verf ≡ b → WasLost upto verf kept cell
        by-verf true g = let k : None ≡ Some left = sym (if-true (same_verf verifier verf) None (Some (Waiting Again)) g) ∙ remains in absurd cc
        by-verf false g =
            let k : Some (Waiting Again) ≡ Some left = sym (if-false (same_verf verifier verf) None (Some (Waiting Again)) g) ∙ remains in
            let same : Waiting Again ≡ left = cc in
            record { held = verifier; was = h; number = number; other = g; is = state ∙ sym same }

    by-state : (o : Option State) → state_decided upto verf kept.number kept.state ≡ o → WasLost upto verf kept cell
    by-state None h = let k : None ≡ Some cell = sym (ap (cell_with kept) h) ∙ is in absurd cc
    by-state (Some left) h =
        let k : Some (record { byte = kept.byte; number = kept.number; state = left }) ≡ Some cell = sym (ap (cell_with kept) h) ∙ is in
        let same : record { byte = kept.byte; number = kept.number; state = left } ≡ cell = cc in
        let number : kept.number ≡ cell.number = ap (λ (z : Cell). z.number) same in
        by-held kept.state number left h (sym (ap (λ (z : Cell). z.state) same)) refl (held (omega (arith, number, old)))

module _ (upto : ℕ) (verf : Verf) (of new : FilePending) (rests : (place : ℕ) → rest_at new place ≡ cell_decided upto verf (rest_at of place)) (held : EachUpTo upto IsHeld of) where
  each-lost : (place : ℕ) (cell : Cell) → rest_at new place ≡ Some cell → cell.number ≤ upto → (kept : Cell) × (rest_at of place ≡ Some kept) × WasLost upto verf kept cell
  each-lost place cell at old = by (rest_at of place) refl
    where
      by : (o : Option Cell) → rest_at of place ≡ o → (kept : Cell) × (rest_at of place ≡ Some kept) × WasLost upto verf kept cell
      by None h = let k : None ≡ Some cell = sym (rests place ∙ ap (cell_decided upto verf) h) ∙ at in absurd cc
      by (Some kept) h = (kept, h, was-lost upto verf kept cell (sym (rests place ∙ ap (cell_decided upto verf) h) ∙ at) old (λ early. held place kept h early))

  pub lost-decided : EachUpTo upto IsLost new
  lost-decided place cell at old = let l = each-lost place cell at old in subst IsLost (sym l.2.is) refl

  -- where all was held under this verifier nothing is left
  pub clear-decided : IsAllUnder upto verf of → new.pieces ≡ [] → IsClearUpTo upto new
  clear-decided under quiet = record { rest = rest; fly = fly }
    where
      rest : (place : ℕ) (cell : Cell) → rest_at new place ≡ Some cell → upto < cell.number
      rest place cell at = by (cases_lt upto cell.number)
        where
          by : (upto < cell.number) ⊎ (cell.number ≤ upto) → upto < cell.number
          by (inl later) = later
          by (inr old) =
              let l = each-lost place cell at old in
              let early : l.0.number ≤ upto = omega (arith, l.2.number, old) in
              let k : true ≡ false = sym (under place l.0 l.2.held l.1 l.2.was early) ∙ l.2.other in
              absurd cc

      fly : (place : ℕ) (flown : Flown) → fly_at new place ≡ Some flown → upto < flown.number
      fly place flown is = let k : None ≡ Some flown = sym (ap (λ (ps : List Sent). fly_in ps place) quiet) ∙ is in absurd cc

-- ---- while lost bytes are sent again

-- a piece takes off
pub lost-sent : (piece : Sent) (upto last : ℕ) (of new : FilePending) → PutsInFlight piece last of new → EachUpTo upto IsLost of → EachUpTo upto IsLost new
lost-sent piece upto last of new puts lost place cell at old = by (covers piece.offset (length piece.bytes) place) refl
  where
    by : (b : Bool) → covers piece.offset (length piece.bytes) place ≡ b → IsLost cell.state
    by true h = let k : None ≡ Some cell = sym (puts.rest place ∙ if-true (covers piece.offset (length piece.bytes) place) None (rest_at of place) h) ∙ at in absurd cc
    by false h = lost place cell (sym (puts.rest place ∙ if-false (covers piece.offset (length piece.bytes) place) None (rest_at of place) h) ∙ at) old

flies-again : (piece : Sent) (upto : ℕ) (of new : FilePending) → PutsInFlight piece upto of new → EachUpTo upto IsLost of → (place : ℕ) (flown : Flown) → covers piece.offset (length piece.bytes) place ≡ true
    → flown_in piece place ≡ Some flown → flown.before ≡ Again
flies-again piece upto of new puts lost place flown inside is =
    lost place (record { byte = flown.byte; number = flown.number; state = Waiting flown.before }) (puts.was place flown inside is) (puts.old_enough place flown is)

pub sent-again : (wsize : ℕ) (piece : Sent) (upto : ℕ) (of new : FilePending) → FitsCall wsize piece → PutsInFlight piece upto of new → EachUpTo upto IsLost of
    → covers piece.offset (length piece.bytes) piece.offset ≡ true → (flown : Flown) → flown_in piece piece.offset ≡ Some flown → IsAgain piece
sent-again wsize piece upto of new fits puts lost first flown is = record {
  how = sym (fits.how piece.offset flown is) ∙ ap how_of (flies-again piece upto of new puts lost piece.offset flown first is);
  lost = flies-again piece upto of new puts lost;
}

-- a reply comes: what the server made stable goes, and what it didn't is to be sent again
pub lost-landed : (piece : Sent) (count upto : ℕ) (of new : FilePending) → Lands piece count Store Return of new → EachUpTo upto IsLost of → AreAgain of.pieces → EachUpTo upto IsLost new
lost-landed piece count upto of new lands lost all place cell at old = by (covers piece.offset (length piece.bytes) place) refl
  where
    change : Change
    change = if nat_lt (place - piece.offset) count then Store else Return

    flew : (flown : Flown) → fly_at of place ≡ Some flown → (b : Bool) → nat_lt (place - piece.offset) count ≡ b
        → cell_landed (if nat_lt (place - piece.offset) count then Store else Return) (Some flown) ≡ Some cell → IsLost cell.state
    flew flown is true h k =
        let gone : None ≡ Some cell = sym (ap (λ z. cell_landed z (Some flown)) (if-true (nat_lt (place - piece.offset) count) Store Return h)) ∙ k in absurd cc
    flew flown is false h k =
        let back : Some (record { byte = flown.byte; number = flown.number; state = Waiting flown.before }) ≡ Some cell =
        sym (ap (λ z. cell_landed z (Some flown)) (if-false (nat_lt (place - piece.offset) count) Store Return h)) ∙ k in
        let same : record { byte = flown.byte; number = flown.number; state = Waiting flown.before } ≡ cell = cc in
        subst (λ (z : Cell). IsLost z.state) same (again-flown of.pieces place flown all is)

    landed-as : (o : Option Flown) → fly_at of place ≡ o → cell_landed (if nat_lt (place - piece.offset) count then Store else Return) o ≡ Some cell → IsLost cell.state
    landed-as None h k = let none : None ≡ Some cell = k in absurd cc
    landed-as (Some flown) h k = flew flown h (nat_lt (place - piece.offset) count) refl k

    rested : (o : Option Cell) → rest_at of place ≡ o → newer_or o (cell_landed (if nat_lt (place - piece.offset) count then Store else Return) (fly_at of place)) ≡ Some cell → IsLost cell.state
    rested None h k = landed-as (fly_at of place) refl k
    rested (Some newer) h k = lost place cell (h ∙ k) old

    by : (b : Bool) → covers piece.offset (length piece.bytes) place ≡ b → IsLost cell.state
    by true h =
        rested (rest_at of place) refl
        (sym (lands.rest place ∙ if-true (covers piece.offset (length piece.bytes) place) (newer_or (rest_at of place) (cell_landed (if nat_lt (place - piece.offset) count then Store else Return) (fly_at of place))) (rest_at of place) h) ∙ at)
    by false h =
        lost place cell
        (sym (lands.rest place ∙ if-false (covers piece.offset (length piece.bytes) place) (newer_or (rest_at of place) (cell_landed (if nat_lt (place - piece.offset) count then Store else Return) (fly_at of place))) (rest_at of place) h) ∙ at)
        old

-- ---- bytes with a later number come in

pub later-each : (Is : State → Type 0) (offset : ℕ) (bytes : List ℕ) (number upto : ℕ) (of new : FilePending) → upto < number → PutsBytes offset bytes number of new → EachUpTo upto Is of → EachUpTo upto Is new
later-each Is offset bytes number upto of new later puts each place cell at old = by (covers offset (length bytes) place) refl
  where
    by : (b : Bool) → covers offset (length bytes) place ≡ b → Is cell.state
    by true h =
        let k : Some _ ≡ Some cell = sym (puts.rest place ∙ if-true (covers offset (length bytes) place) _ (rest_at of place) h) ∙ at in
        let same : number ≡ cell.number = some-number _ cell k in
        absurd (omega (arith, same, later, old))
      where
        some-number : (a c : Cell) → Some a ≡ Some c → a.number ≡ c.number
        some-number a c k = let same : a ≡ c = cc in ap (λ (z : Cell). z.number) same
    by false h = each place cell (sym (puts.rest place ∙ if-false (covers offset (length bytes) place) _ (rest_at of place) h) ∙ at) old

pub later-clear : (offset : ℕ) (bytes : List ℕ) (number upto : ℕ) (of new : FilePending) → upto < number → PutsBytes offset bytes number of new → IsClearUpTo upto of → IsClearUpTo upto new
later-clear offset bytes number upto of new later puts clear = record { rest = rest; fly = λ place flown is. clear.fly place flown (sym (puts.fly place) ∙ is) }
  where
    none : EachUpTo upto (λ state. ⊥) of
    none place cell at old = let above : upto < cell.number = clear.rest place cell at in omega (arith, above, old)

    rest : (place : ℕ) (cell : Cell) → rest_at new place ≡ Some cell → upto < cell.number
    rest place cell at = by (cases_lt upto cell.number)
      where
        by : (upto < cell.number) ⊎ (cell.number ≤ upto) → upto < cell.number
        by (inl above) = above
        by (inr old) = absurd (later-each (λ state. ⊥) offset bytes number upto of new later puts none place cell at old)
