-- The numbers of what a view shows are those of what is pending.
use Rattle.std.proofs.Common.{◌≡◌, ◌<◌, ℕ, Bool, true, false, [], ◌∷◌, length, map, Option, Some, None, refl, sym, ap, subst, ◌∙◌}
use Rattle.std.specs.Prelude.{Contains}
use Rattle.std.specs.List.{concat}
use Rattle.std.proofs.lemmas.List.Elements.{Contains-append_left, Contains-append_right, Contains-push}
use Rattle.write_back.specs.Files.{Pending, of_file, IsNewest}
use Rattle.write_back.specs.Pieces.{rest_of, rest_at, fly_at}
use Rattle.write_back.specs.Segments.{Segments, cell_at, cell_in}
use Rattle.write_back.specs.Segments as segments
use Rattle.write_back.specs.States.{is_in_flight}
use Rattle.write_back.proofs.Newest.{newest-above}
use Rattle.model_writes.specs.Machine.{Cell, Flight, View}
use Rattle.model_writes.specs.Story.{Spot}
use Rattle.step_pending.specs.Cells.{IsRest, Shows}
use Rattle.step_pending.proofs.Shown.{kept-some, flown-of}

-- the number of a segment is one of all
cell-in : (es : Segments) (place : ℕ) (cell : segments.Cell) → cell_at es place ≡ Some cell → Contains (map (λ e. e.1.number) es) cell.number
cell-in [] place cell is = absurd cc
cell-in (e ∷ es) place cell is = by (segments.covers e.0 (length e.1.bytes) place) refl (cell-in es place cell)
  where
    by : (b : Bool) → segments.covers e.0 (length e.1.bytes) place ≡ b → (cell_at es place ≡ Some cell → Contains (map (λ e. e.1.number) es) cell.number) → Contains (e.1.number ∷ map (λ e. e.1.number) es) cell.number
    by true h more =
        let same : cell_in e place ≡ cell = (let k : Some (cell_in e place) ≡ Some cell = (rw h at is) in cc) in
        subst (λ n. Contains (e.1.number ∷ map (λ e. e.1.number) es) n) (ap (λ (z : segments.Cell). z.number) same) (Contains-append_left (e.1.number ∷ []) (map (λ e. e.1.number) es) e.1.number (Contains-push [] e.1.number))
    by false h more = Contains-append_right (e.1.number ∷ []) (map (λ e. e.1.number) es) cell.number (more (rw h at is))

rest-in : (o : Option segments.Cell) (cell : segments.Cell) → rest_of o ≡ Some cell → o ≡ Some cell
rest-in None cell is = absurd cc
rest-in (Some other) cell is = by (is_in_flight other.state) refl
  where
    by : (b : Bool) → is_in_flight other.state ≡ b → Some other ≡ Some cell
    by true h = let k : None ≡ Some cell = (rw h at is) in absurd cc
    by false h = (rw h at is)

pub rest-below : (pending : Pending) (number : ℕ) → IsNewest number pending → (c : View) → Shows pending c → (i : Spot) (cell : Cell) → c.rest i ≡ Some cell → cell.number < number
rest-below pending number newest c shows i cell is =
    let kept = kept-some (rest_at (of_file i.file pending) i.at) cell (subst (λ o. IsRest (rest_at (of_file i.file pending) i.at) o) is (shows.rest i)) in
    let there : Contains (map (λ e. e.1.number) (of_file i.file pending).segments) kept.0.number =
    cell-in (of_file i.file pending).segments i.at kept.0 (rest-in (cell_at (of_file i.file pending).segments i.at) kept.0 kept.1) in
    let below : kept.0.number < number =
    newest i.file kept.0.number (Contains-append_left (map (λ e. e.1.number) (of_file i.file pending).segments)
    (concat (map (λ piece. map (λ part. part.number) piece.parts) (of_file i.file pending).pieces)) kept.0.number there) in
    subst (λ n. n < number) (sym kept.2.number) below

pub fly-below : (pending : Pending) (number : ℕ) → IsNewest number pending → (c : View) → Shows pending c → (i : Spot) (f : Flight) → c.fly i ≡ Some f → f.number < number
fly-below pending number newest c shows i f is =
    let flown = flown-of (fly_at (of_file i.file pending) i.at) f (sym (shows.fly i) ∙ is) in
    subst (λ (z : Flight). z.number < number) flown.2 (newest-above number i.file pending newest i.at flown.0 flown.1)
