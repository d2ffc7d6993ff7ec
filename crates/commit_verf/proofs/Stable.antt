-- Nothing is lost exactly where all that the server has, it has under one verifier.
use Rattle.std.proofs.Common.{◌≡◌, ◌≢◌, ◌<◌, ◌≤◌, ℕ, zero, suc, ◌+◌, Bool, true, false, [], ◌∷◌, length, Option, Some, None, refl, sym, ap, ◌∙◌, subst, arith}
use Rattle.std.specs.Prelude.{◌↔◌, ◌==◌, nat_eq, not, ◌&&◌, nat_le, nat_lt, if◌then◌else◌}
use Rattle.std.proofs.lemmas.Bool.{le-leb, leb-true, ltb-true, and_parts, ne_eqb}
use Rattle.nfs_types.specs.declared.verf.Verf.{Verf}
use Rattle.write_back.specs.declared.state.State.{State}
use Rattle.write_back.specs.declared.state.State.TheVariants.{Waiting, InFlight, Acked}
use Rattle.write_back.specs.States.{same_verf, is_in_flight}
use Rattle.write_back.specs.Segments.{Segment, Segments, Cell, AreApart, covers, cell_in, cell_at, end_of}
use Rattle.write_back.specs.Changes.{is_lost, lost}
use Rattle.write_back.specs.Pieces.{FilePending, rest_of, rest_at}
use Rattle.write_back.specs.Sound.{IsSound}
use Rattle.write_back.proofs.Cells.{later-none}
use Rattle.write_back.proofs.Keys.{in-range}
use Rattle.commit_verf.specs.declared.commit.Verdict.{Verdict}
use Rattle.commit_verf.specs.declared.commit.Verdict.TheVariants.{AllStable, SendAgain}
use Rattle.commit_verf.specs.Decisions.{IsAllUnder, verdict_of}

-- the same of segments
abbrev AreUnder : ℕ → Verf → Segments → Type 0
AreUnder upto verf es = (place : ℕ) (cell : Cell) (held : Verf) → cell_at es place ≡ Some cell → cell.state ≡ Acked held → cell.number ≤ upto → same_verf held verf ≡ true

held-under : (verf : Verf) (upto number : ℕ) (state : State) (held : Verf) → state ≡ Acked held → number ≤ upto → is_lost verf upto number state ≡ false → same_verf held verf ≡ true
held-under verf upto number state held is old kept =
    let le : nat_le number upto ≡ true = le-leb number upto old in
    let k : not (same_verf held verf) ≡ false = (rw (is, le) at kept) in
    un (same_verf held verf) k
  where
    un : (b : Bool) → not b ≡ false → b ≡ true
    un true h = refl
    un false h = absurd cc

not-lost : (b : Bool) (n : ℕ) → (if b then 1 else 0) + n ≡ 0 → (b ≡ false) × (n ≡ 0)
not-lost true n h = absurd (omega (arith, h))
not-lost false n h = (refl, omega (arith, h))

lost-under : (verf : Verf) (upto : ℕ) (es : Segments) → lost verf upto es ≡ 0 → AreUnder upto verf es
lost-under verf upto [] none place cell held at is old = absurd cc
lost-under verf upto (e ∷ es) none place cell held at is old = by (covers e.0 (length e.1.bytes) place) refl (λ none at. lost-under verf upto es none place cell held at is old)
  where
    parts : (is_lost verf upto e.1.number e.1.state ≡ false) × (lost verf upto es ≡ 0)
    parts = not-lost (is_lost verf upto e.1.number e.1.state) (lost verf upto es) none

    by : (b : Bool) → covers e.0 (length e.1.bytes) place ≡ b → (lost verf upto es ≡ 0 → cell_at es place ≡ Some cell → same_verf held verf ≡ true) → same_verf held verf ≡ true
    by true h more =
        let same : cell_in e place ≡ cell = (let k : Some (cell_in e place) ≡ Some cell = (rw h at at) in cc) in
        let number : e.1.number ≡ cell.number = ap (λ (c : Cell). c.number) same in
        held-under verf upto e.1.number e.1.state held (ap (λ (c : Cell). c.state) same ∙ is) (omega (arith, number, old)) parts.0
    by false h more = more parts.1 (rw h at at)

none-lost : (verf : Verf) (upto number : ℕ) (state : State) → ((held : Verf) → state ≡ Acked held → number ≤ upto → same_verf held verf ≡ true) → is_lost verf upto number state ≡ false
none-lost verf upto number (Waiting ready) under = refl
none-lost verf upto number (InFlight ready) under = refl
none-lost verf upto number (Acked held) under = by (nat_le number upto) refl
  where
    by : (b : Bool) → nat_le number upto ≡ b → (nat_le number upto && not (same_verf held verf)) ≡ false
    by false h = rw h refl
    by true h = rw (h, under held refl (leb-true number upto h)) refl

under-lost : (verf : Verf) (upto low : ℕ) (es : Segments) → AreApart low es → AreUnder upto verf es → lost verf upto es ≡ 0
under-lost verf upto low [] apart under = refl
under-lost verf upto low (e ∷ es) apart under = rw (none-lost verf upto e.1.number e.1.state own) (omega (arith, under-lost verf upto (end_of e) es apart.3 others))
  where
    own : (held : Verf) → e.1.state ≡ Acked held → e.1.number ≤ upto → same_verf held verf ≡ true
    own held is old =
        let some : 0 < length e.1.bytes = apart.1 in
        let here : covers e.0 (length e.1.bytes) e.0 ≡ true = in-range e.0 (end_of e) e.0 (omega arith) (omega (arith, some)) in
        let at : cell_at (e ∷ es) e.0 ≡ Some (cell_in e e.0) = rw here refl in
        under e.0 (cell_in e e.0) held at is old

    others : AreUnder upto verf es
    others place cell held at is old = by (covers e.0 (length e.1.bytes) place) refl
      where
        by : (b : Bool) → covers e.0 (length e.1.bytes) place ≡ b → same_verf held verf ≡ true
        by true h =
            let before : place < end_of e = ltb-true place (end_of e) ((and_parts (nat_le e.0 place) (nat_lt place (end_of e)) h).1) in
            let k : None ≡ Some cell = sym (later-none (end_of e) es place apart.3 before) ∙ at in
            absurd cc
        by false h =
            let whole : cell_at (e ∷ es) place ≡ Some cell = rw h at in
            under place cell held whole is old

rest-held : (cell : Option Cell) (found : Cell) (held : Verf) → found.state ≡ Acked held → cell ≡ Some found → rest_of cell ≡ Some found
rest-held cell found held is same =
    let stays : is_in_flight found.state ≡ false = ap is_in_flight is in
    ap rest_of same ∙ rw stays refl

cell-held : (cell : Option Cell) (found : Cell) → rest_of cell ≡ Some found → cell ≡ Some found
cell-held None found is = absurd cc
cell-held (Some cell) found is = by (is_in_flight cell.state) refl
  where
    by : (b : Bool) → is_in_flight cell.state ≡ b → Some cell ≡ Some found
    by true h = let k : None ≡ Some found = (rw h at is) in absurd cc
    by false h = (rw h at is)

-- no segment is lost exactly where all is under this verifier
pub none-is : (verf : Verf) (upto : ℕ) (of : FilePending) → IsSound of → (lost verf upto of.segments ≡ 0) ↔ IsAllUnder upto verf of
none-is verf upto of sound = (
  (λ none place cell held at is old. lost-under verf upto of.segments none place cell held (cell-held (cell_at of.segments place) cell at) is old),
  (λ under. under-lost verf upto 0 of.segments sound.apart (λ place cell held at is old. under place cell held (rest-held (cell_at of.segments place) cell held is at) is old)),
)

stable-zero : (n : ℕ) → (verdict_of n ≡ AllStable) ↔ (n ≡ 0)
stable-zero zero = ((λ is. refl), (λ is. refl))
stable-zero (suc n) =
    let some : (suc n == 0) ≡ false = ne_eqb (suc n) 0 (λ is. absurd (omega (arith, is))) in (
      (λ is. (let k : SendAgain (suc n) ≡ AllStable = (rw some at is) in absurd cc)),
      (λ is. absurd (omega (arith, is))),
    )

pub stable-is : (verf : Verf) (upto : ℕ) (of : FilePending) (told : Verdict) → IsSound of → told ≡ verdict_of (lost verf upto of.segments) → (told ≡ AllStable) ↔ IsAllUnder upto verf of
stable-is verf upto of told sound is = (
  (λ stable. (none-is verf upto of sound).0 ((stable-zero (lost verf upto of.segments)).0 (sym is ∙ stable))),
  (λ under. is ∙ (stable-zero (lost verf upto of.segments)).1 ((none-is verf upto of sound).1 under)),
)
