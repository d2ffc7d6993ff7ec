-- What a COMMIT's verifier tells: what the server has under it is stable, and what it has under another one may be lost
-- (RFC 1813, sections 3.3.21 and 4.8).
use Rattle.std.specs.Prelude.{◌≡◌, ◌≤◌, ℕ, ◌==◌, true, nat_le, if◌then◌else◌, Option, Some, None}
use Rattle.nfs_types.specs.declared.verf.Verf.{Verf}
use Rattle.write_back.specs.declared.state.State.{State}
use Rattle.write_back.specs.declared.state.State.TheVariants.{Waiting, InFlight, Acked}
use Rattle.write_back.specs.declared.state.Ready.TheVariants.{Again}
use Rattle.write_back.specs.declared.change.Change.TheVariants.{Settle, MarkAgain}
use Rattle.write_back.specs.States.{same_verf}
use Rattle.write_back.specs.Segments.{Cell}
use Rattle.write_back.specs.Pieces.{FilePending, rest_at, fly_at}
use Rattle.write_back.specs.Landing.{with_change}
use Rattle.commit_verf.specs.declared.commit.Verdict.{Verdict}
use Rattle.commit_verf.specs.declared.commit.Verdict.TheVariants.{AllStable, SendAgain}

-- what is pending of a file afterwards
abbrev pub decided : ℕ → Verf → FilePending → FilePending
decided upto verf of = with_change (MarkAgain upto) (with_change (Settle verf upto) of)

-- all is stable if nothing may be lost
abbrev pub verdict_of : ℕ → Verdict
verdict_of again = if again == 0 then AllStable else SendAgain again

-- Of what the server has, up to a number: it goes if it is under this verifier, and else is to be sent again, as stable.
abbrev pub state_decided : ℕ → Verf → ℕ → State → Option State
state_decided upto verf number (Waiting ready) = Some (Waiting ready)
state_decided upto verf number (InFlight ready) = Some (InFlight ready)
state_decided upto verf number (Acked held) = if nat_le number upto then (if same_verf held verf then None else Some (Waiting Again)) else Some (Acked held)

abbrev pub cell_with : Cell → Option State → Option Cell
cell_with cell None = None
cell_with cell (Some state) = Some (record { byte = cell.byte; number = cell.number; state = state })

abbrev pub cell_decided : ℕ → Verf → Option Cell → Option Cell
cell_decided upto verf None = None
cell_decided upto verf (Some cell) = cell_with cell (state_decided upto verf cell.number cell.state)

-- the same by place; what is in flight stays
pub record IsDecided (upto : ℕ) (verf : Verf) (old new : FilePending) : Type 0 where
  pub rest : (place : ℕ) → rest_at new place ≡ cell_decided upto verf (rest_at old place)
  pub fly : (place : ℕ) → fly_at new place ≡ fly_at old place

-- all that the server has of a file, of writes with a number up to another, it has under this verifier
abbrev pub IsAllUnder : ℕ → Verf → FilePending → Type 0
IsAllUnder upto verf of = (place : ℕ) (cell : Cell) (held : Verf) → rest_at of place ≡ Some cell → cell.state ≡ Acked held → cell.number ≤ upto
    → same_verf held verf ≡ true
