-- Segments as a list, and by place.
use Rattle.std.proofs.Common.{◌≡◌, ◌<◌, ℕ, Bool, true, false, [], ◌∷◌, length, Option, Some, None, refl, ap, ◌∙◌, arith}
use Rattle.std.specs.Prelude.{nat_le, nat_lt, if◌then◌else◌}
use Rattle.std.proofs.lemmas.Bool.{lt-leb, and_parts, ltb-true}
use Rattle.write_back.specs.declared.state.State.{State}
use Rattle.write_back.specs.declared.change.Change.{Change}
use Rattle.write_back.specs.Segments.{Segment, Segments, AreApart, end_of, covers, cell_in, cell_at}
use Rattle.write_back.specs.Changes.{fate, left_of, all_changed, cell_left, cell_changed}

-- segments that begin later have nothing at a place
pub later-none : (low : ℕ) (es : Segments) (place : ℕ) → AreApart low es → place < low → cell_at es place ≡ None
later-none low [] place apart lt = refl
later-none low (e ∷ es) place apart lt =
    let begins : nat_le e.0 place ≡ false = lt-leb e.0 place (omega (arith, apart.0, lt)) in
    let some : 0 < length e.1.bytes = apart.1 in
    rw begins (later-none (end_of e) es place apart.3 (omega (arith, apart.0, some, lt)))

-- one segment with what became of it, before others
pub one : (e : ℕ × Segment) (st : Option State) (es : Segments) (place : ℕ) (b : Bool) → covers e.0 (length e.1.bytes) place ≡ b → (b ≡ true → cell_at es place ≡ None)
    → cell_at (left_of st e es) place ≡ (if b then cell_left st (cell_in e place) else cell_at es place)
one e None es place true h none = none refl
one e None es place false h none = refl
one e (Some state) es place true h none = rw h refl
one e (Some state) es place false h none = rw h refl

-- a change of all segments changes each place alike
pub cells-changed : (change : Change) (low : ℕ) (es : Segments) (place : ℕ) → AreApart low es → cell_at (all_changed change es) place ≡ cell_changed change (cell_at es place)
cells-changed change low [] place apart = refl
cells-changed change low (e ∷ es) place apart = by (covers e.0 (length e.1.bytes) place) refl (cells-changed change (end_of e) es place apart.3)
  where
    by : (b : Bool) → covers e.0 (length e.1.bytes) place ≡ b → cell_at (all_changed change es) place ≡ cell_changed change (cell_at es place)
        → cell_at (left_of (fate change e.1.number e.1.state) e (all_changed change es)) place ≡ cell_changed change (if covers e.0 (length e.1.bytes) place then Some (cell_in e place) else cell_at es place)
    by true h more =
        let inside : place < end_of e = ltb-true place (end_of e) ((and_parts (nat_le e.0 place) (nat_lt place (end_of e)) h).1) in
        one e (fate change e.1.number e.1.state) (all_changed change es) place true h (λ _. more ∙ ap (cell_changed change) (later-none (end_of e) es place apart.3 inside)) ∙ rw h refl
    by false h more = one e (fate change e.1.number e.1.state) (all_changed change es) place false h (λ (t : false ≡ true). absurd cc) ∙ more ∙ rw h refl
