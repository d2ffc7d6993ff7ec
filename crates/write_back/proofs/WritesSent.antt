-- The bytes of each write that are sent next.
use Rattle.std.proofs.Common.{◌≡◌, ◌<◌, ◌≤◌, ℕ, ◌-◌, ◌&&◌, Bool, true, false, List, [], ◌∷◌, length, map, refl, arith, length-take}
use Rattle.std.specs.Prelude.{nat_lt, nat_eq}
use Rattle.std.proofs.lemmas.Bool.{ltb-true, and_parts}
use Rattle.write_back.specs.Segments.{Segment, Segments, AreApart, end_of}
use Rattle.write_back.specs.Choice.{may_go, how_of_segment, run_from, chosen_from, chosen, part_of}
use Rattle.write_back.specs.Pieces.{Sent, FilePending}
use Rattle.write_back.specs.Sound.{HaveSizes}
use Rattle.write_back.specs.Ages.{written_by, parts_by}
use Rattle.write_back.proofs.WritesLaid.{head-le}

-- whether a segment goes with those before it
abbrev goes : List Sent → ℕ → ℕ → ℕ → ℕ → ℕ × Segment → Bool
goes pieces upto how place room e = may_go pieces upto e && nat_eq (how_of_segment e) how && nat_eq e.0 place && nat_lt 0 room

parts-run : (n : ℕ) (pieces : List Sent) (upto how place room : ℕ) (es : Segments) → parts_by n (map part_of (run_from pieces upto how place room es)) ≤ written_by n es
parts-run n pieces upto how place room [] = omega arith
parts-run n pieces upto how place room (e ∷ es) = by (goes pieces upto how place room e) refl (parts-run n pieces upto how (end_of e) (room - length e.1.bytes) es)
  where
    by : (b : Bool) → goes pieces upto how place room e ≡ b → parts_by n (map part_of (run_from pieces upto how (end_of e) (room - length e.1.bytes) es)) ≤ written_by n es
        → parts_by n (map part_of (run_from pieces upto how place room (e ∷ es))) ≤ written_by n (e ∷ es)
    by true h more = rw h (omega (arith, more, head-le n room e))
    by false h more = rw h (omega arith)

parts-chosen : (n : ℕ) (pieces : List Sent) (upto room : ℕ) (es : Segments) → parts_by n (map part_of (chosen_from pieces upto room es)) ≤ written_by n es
parts-chosen n pieces upto room [] = omega arith
parts-chosen n pieces upto room (e ∷ es) = by (may_go pieces upto e) refl (parts-chosen n pieces upto room es) (parts-run n pieces upto (how_of_segment e) e.0 room (e ∷ es))
  where
    by : (b : Bool) → may_go pieces upto e ≡ b → parts_by n (map part_of (chosen_from pieces upto room es)) ≤ written_by n es → parts_by n (map part_of (run_from pieces upto (how_of_segment e) e.0 room (e ∷ es))) ≤ written_by n (e ∷ es)
        → parts_by n (map part_of (chosen_from pieces upto room (e ∷ es))) ≤ written_by n (e ∷ es)
    by true h more run = let is : chosen_from pieces upto room (e ∷ es) ≡ run_from pieces upto (how_of_segment e) e.0 room (e ∷ es) = rw h refl in rw is run
    by false h more run = rw h (omega (arith, more))

pub run-below : (n upto room : ℕ) (of : FilePending) → parts_by n (map part_of (chosen upto room of)) ≤ written_by n of.segments
run-below n upto room of = parts-chosen n of.pieces upto room of.segments

-- each part has bytes
sized-run : (pieces : List Sent) (upto how place room low : ℕ) (es : Segments) → AreApart low es → HaveSizes (map part_of (run_from pieces upto how place room es))
sized-run pieces upto how place room low [] apart = tt
sized-run pieces upto how place room low (e ∷ es) apart = by (goes pieces upto how place room e) refl (sized-run pieces upto how (end_of e) (room - length e.1.bytes) (end_of e) es apart.3)
  where
    by : (b : Bool) → goes pieces upto how place room e ≡ b → HaveSizes (map part_of (run_from pieces upto how (end_of e) (room - length e.1.bytes) es)) → HaveSizes (map part_of (run_from pieces upto how place room (e ∷ es)))
    by true h more =
        let some : 0 < room = ltb-true 0 room ((and_parts (may_go pieces upto e && nat_eq (how_of_segment e) how && nat_eq e.0 place) (nat_lt 0 room) h).1) in
        rw h (omega (arith, some, apart.1, length-take room e.1.bytes), more)
    by false h more = rw h tt

pub sized-chosen : (pieces : List Sent) (upto room low : ℕ) (es : Segments) → AreApart low es → HaveSizes (map part_of (chosen_from pieces upto room es))
sized-chosen pieces upto room low [] apart = tt
sized-chosen pieces upto room low (e ∷ es) apart = by (may_go pieces upto e) refl (sized-chosen pieces upto room (end_of e) es apart.3) (sized-run pieces upto (how_of_segment e) e.0 room low (e ∷ es) apart)
  where
    by : (b : Bool) → may_go pieces upto e ≡ b → HaveSizes (map part_of (chosen_from pieces upto room es)) → HaveSizes (map part_of (run_from pieces upto (how_of_segment e) e.0 room (e ∷ es)))
        → HaveSizes (map part_of (chosen_from pieces upto room (e ∷ es)))
    by true h more run = let is : chosen_from pieces upto room (e ∷ es) ≡ run_from pieces upto (how_of_segment e) e.0 room (e ∷ es) = rw h refl in rw is run
    by false h more run = rw h more
