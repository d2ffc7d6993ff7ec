-- Settling and marking one after the other.
use Rattle.std.proofs.Common.{◌≡◌, ℕ, ◌+◌, Bool, true, false, [], ◌∷◌, Option, Some, None, refl, ap, arith}
use Rattle.std.specs.Prelude.{nat_le, if◌then◌else◌}
use Rattle.nfs_types.specs.declared.verf.Verf.{Verf}
use Rattle.write_back.specs.declared.state.State.{State}
use Rattle.write_back.specs.declared.state.State.TheVariants.{Waiting, InFlight, Acked}
use Rattle.write_back.specs.declared.change.Change.TheVariants.{Settle, MarkAgain}
use Rattle.write_back.specs.States.{same_verf}
use Rattle.write_back.specs.Segments.{Segment, Segments, Cell}
use Rattle.write_back.specs.Changes.{fate, left_of, is_lost, lost, all_changed, count_all_changed, cell_changed}
use Rattle.commit_verf.specs.Decisions.{cell_decided}

-- one segment, where the others are known
step : (verf : Verf) (upto : ℕ) (e : ℕ × Segment) (state : State) (es : Segments) (k : ℕ) → count_all_changed (MarkAgain upto) es ≡ k
    → count_all_changed (MarkAgain upto) (left_of (fate (Settle verf upto) e.1.number state) e es) ≡ (if is_lost verf upto e.1.number state then 1 else 0) + k
step verf upto e (Waiting ready) es k h = ap (λ n. 0 + n) h
step verf upto e (InFlight ready) es k h = ap (λ n. 0 + n) h
step verf upto e (Acked held) es k h = by (nat_le e.1.number upto) (same_verf held verf) refl refl
  where
    by : (b d : Bool) → nat_le e.1.number upto ≡ b → same_verf held verf ≡ d
        → count_all_changed (MarkAgain upto) (left_of (fate (Settle verf upto) e.1.number (Acked held)) e es) ≡ (if is_lost verf upto e.1.number (Acked held) then 1 else 0) + k
    by true true hb hd = simp (hb, hd) (omega (arith, h))
    by true false hb hd = simp (hb, hd) (ap (λ n. 1 + n) h)
    by false true hb hd = simp hb (ap (λ n. 0 + n) h)
    by false false hb hd = simp hb (ap (λ n. 0 + n) h)

-- what is marked after settling is what the server has under other verifiers
pub again-lost : (verf : Verf) (upto : ℕ) (es : Segments) → count_all_changed (MarkAgain upto) (all_changed (Settle verf upto) es) ≡ lost verf upto es
again-lost verf upto [] = refl
again-lost verf upto (e ∷ es) = step verf upto e e.1.state (all_changed (Settle verf upto) es) (lost verf upto es) (again-lost verf upto es)

in_cell : (verf : Verf) (upto : ℕ) (cell : Cell) (state : State) → cell.state ≡ state → cell_changed (MarkAgain upto) (cell_changed (Settle verf upto) (Some cell)) ≡ cell_decided upto verf (Some cell)
in_cell verf upto cell (Waiting ready) h = rw h refl
in_cell verf upto cell (InFlight ready) h = rw h refl
in_cell verf upto cell (Acked held) h = by (nat_le cell.number upto) (same_verf held verf) refl refl
  where
    by : (b d : Bool) → nat_le cell.number upto ≡ b → same_verf held verf ≡ d → cell_changed (MarkAgain upto) (cell_changed (Settle verf upto) (Some cell)) ≡ cell_decided upto verf (Some cell)
    by true true hb hd = simp (h, hb, hd) refl
    by true false hb hd = simp (h, hb, hd) refl
    by false true hb hd = simp (h, hb) refl
    by false false hb hd = simp (h, hb) refl

pub cells-decided : (verf : Verf) (upto : ℕ) (cell : Option Cell) → cell_changed (MarkAgain upto) (cell_changed (Settle verf upto) cell) ≡ cell_decided upto verf cell
cells-decided verf upto None = refl
cells-decided verf upto (Some cell) = in_cell verf upto cell cell.state refl
