-- For callers: the byte that is shown at each place, and where the last pending byte ends.
use Rattle.std.proofs.Common.{◌≡◌, ◌<◌, ◌≤◌, ◌^◌, ℕ, zero, suc, ◌+◌, ◌-◌, ◌&&◌, Bool, true, false, List, [], ◌∷◌, length, Option, Some, None, refl, sym, ap, ◌∙◌, ◌⊎◌, inl, inr, subst, arith}
use Rattle.std.specs.Prelude.{IsSome, nat_le, nat_lt, slice_index, unwrap_or, if◌then◌else◌}
use Rattle.std.proofs.lemmas.Bool.{le-leb, lt-leb, lt-ltb, le-ltb, ltb-true, and_parts, cases_lt}
use Rattle.write_back.specs.declared.state.State.TheVariants.{Waiting, InFlight}
use Rattle.write_back.specs.declared.state.Ready.TheVariants.{Unsent}
use Rattle.write_back.specs.States.{is_in_flight}
use Rattle.write_back.specs.Segments.{Segment, Segments, Cell, AreApart, covers, cell_in, cell_at, end_of, byte_of, newest_at, shown, last_end}
use Rattle.write_back.specs.Pieces.{FilePending, Flown, fly_at, rest_of, rest_at}
use Rattle.write_back.specs.Places.{cell_flown}
use Rattle.write_back.specs.Sound.{IsSound, IsOver}
use Rattle.write_back.specs.Waits.{byte_pending, IsClear, EndsAt}
use Rattle.write_back.proofs.Cells.{later-none}
use Rattle.write_back.proofs.Keys.{past-range, in-range}

newest-of : (cell : Option Cell) (flown : Option Flown) → IsOver flown cell → byte_of cell ≡ byte_pending (rest_of cell) flown
newest-of None None over = refl
newest-of (Some cell) None over = rw over refl
newest-of None (Some flown) over = absurd over
newest-of (Some cell) (Some flown) (inl same) =
    let flies : is_in_flight cell.state ≡ true = ap (λ (c : Cell). is_in_flight c.state) same in
    rw flies (ap (λ (c : Cell). Some c.byte) same)
newest-of (Some cell) (Some flown) (inr newer) =
    let waits : is_in_flight cell.state ≡ false = ap is_in_flight newer.0 in
    rw waits refl

-- the newest byte of a place is the one that isn't in flight, else the one that is
pub newest-is : (of : FilePending) (place : ℕ) → IsSound of → newest_at of.segments place ≡ byte_pending (rest_at of place) (fly_at of place)
newest-is of place sound = newest-of (cell_at of.segments place) (fly_at of place) (sound.over place)

-- ---- bytes over which the pending ones are written

pub shown-length : (es : Segments) (offset : ℕ) (buf : List ℕ) → length (shown es offset buf) ≡ length buf
shown-length es offset [] = refl
shown-length es offset (b ∷ bs) = let more = shown-length es (offset + 1) bs in omega (arith, more)

-- each byte is the newest pending one of its place, or the one that was there
pub shown-at : (es : Segments) (offset : ℕ) (buf : List ℕ) (k : ℕ) → k < length buf → slice_index (shown es offset buf) k ≡ unwrap_or (newest_at es (offset + k)) (slice_index buf k)
shown-at es offset [] k lt = absurd (omega (arith, lt))
shown-at es offset (b ∷ bs) zero lt = let e : offset ≡ offset + 0 = omega arith in ap (λ n. unwrap_or (newest_at es n) b) e
shown-at es offset (b ∷ bs) (suc k) lt =
    let e : offset + 1 + k ≡ offset + suc k = omega arith in
    shown-at es (offset + 1) bs k (omega (arith, lt)) ∙ ap (λ n. unwrap_or (newest_at es n) (slice_index bs k)) e

-- ---- where the last one ends

clear-cell : (of : FilePending) (place : ℕ) → IsSound of → cell_at of.segments place ≡ None → IsClear of place
clear-cell of place sound none = record { rest = ap rest_of none; fly = by (fly_at of place) (subst (IsOver (fly_at of place)) none (sound.over place)) }
  where
    by : (flown : Option Flown) → IsOver flown None → flown ≡ None
    by None over = refl
    by (Some flown) over = absurd over

nothing-at : (es : Segments) (place : ℕ) → last_end es ≡ None → cell_at es place ≡ None
nothing-at [] place none = refl
nothing-at (e ∷ []) place none = absurd cc
nothing-at (e ∷ f ∷ es) place none = absurd (some f es none)
  where
    some : (f : ℕ × Segment) (es : Segments) → last_end (f ∷ es) ≡ None → ⊥
    some f [] is = absurd cc
    some f (g ∷ es) is = some g es is

-- the last segment of those that are apart
pub record LastIs (es : Segments) (q : ℕ) : Type 0 where
  pub some : 0 < q
  pub byte : IsSome (newest_at es (q - 1))
  pub past : (place : ℕ) → q ≤ place → cell_at es place ≡ None
  pub above : (low : ℕ) → AreApart low es → low < q

last-at : (low : ℕ) (es : Segments) (q : ℕ) → AreApart low es → last_end es ≡ Some q → LastIs es q
last-at low [] q apart is = absurd cc
last-at low (e ∷ []) q apart is =
    let ends : end_of e ≡ q = cc in
    let some : 0 < length e.1.bytes = apart.1 in
    let here : covers e.0 (length e.1.bytes) (q - 1) ≡ true = in-range e.0 (end_of e) (q - 1) (omega (arith, ends, some)) (omega (arith, ends, some)) in
    record {
      some = omega (arith, ends, some);
      byte = rw here refl;
      past = λ place later. (let out : covers e.0 (length e.1.bytes) place ≡ false = past-range e.0 (end_of e) place (omega (arith, ends, later)) in rw out refl);
      above = λ low begins. omega (arith, ends, begins.0, begins.1);
    }
last-at low (e ∷ f ∷ es) q apart is =
    let more = last-at (end_of e) (f ∷ es) q apart.3 is in
    let far : end_of e < q = more.above (end_of e) apart.3 in
    let out : covers e.0 (length e.1.bytes) (q - 1) ≡ false = past-range e.0 (end_of e) (q - 1) (omega (arith, far)) in
    record {
      some = more.some;
      byte = rw out more.byte;
      past = λ place later. (let away : covers e.0 (length e.1.bytes) place ≡ false = past-range e.0 (end_of e) place (omega (arith, far, later)) in rw away (more.past place later));
      above = λ low begins. omega (arith, far, begins.0);
    }

-- where no end is told, nothing is pending at any place
pub end-none : (of : FilePending) (place : ℕ) → IsSound of → last_end of.segments ≡ None → IsClear of place
end-none of place sound is = clear-cell of place sound (nothing-at of.segments place is)

-- the end that is told: the place before it has a byte, and none is pending from there on
pub end-some : (of : FilePending) (q : ℕ) → IsSound of → last_end of.segments ≡ Some q → EndsAt of q
end-some of q sound is =
    let last = last-at 0 of.segments q sound.apart is in
    record { some = last.some; last = last.byte; past = λ later le. clear-cell of later sound (last.past later le) }

not-some : (o : Option ℕ) → o ≡ None → IsSome o → ⊥
not-some None is some = absurd cc
not-some (Some x) is some = absurd cc

-- and none is told where nothing is pending
pub end-clear : (of : FilePending) → IsSound of → ((place : ℕ) → IsClear of place) → last_end of.segments ≡ None
end-clear of sound clear = by (last_end of.segments) refl
  where
    none : (place : ℕ) → newest_at of.segments place ≡ None
    none place = newest-is of place sound ∙ ap (λ c. byte_pending c (fly_at of place)) (clear place).rest ∙ ap (byte_pending None) (clear place).fly

    by : (told : Option ℕ) → last_end of.segments ≡ told → told ≡ None
    by None is = refl
    by (Some q) is = absurd (not-some (newest_at of.segments (q - 1)) (none (q - 1)) (end-some of q sound is).last)
