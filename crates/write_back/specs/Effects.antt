-- Two kinds of change (RFC 1813, sections 3.3.7 and 4.8): of what is in flight, by a reply; and of what the server has, by
-- the verifier of a COMMIT.
use Rattle.std.specs.Prelude.{◌≡◌, ℕ, Bool, false, Some}
use Rattle.nfs_types.specs.declared.verf.Verf.{Verf}
use Rattle.write_back.specs.declared.state.State.{State}
use Rattle.write_back.specs.declared.state.State.TheVariants.{Waiting, InFlight, Acked}
use Rattle.write_back.specs.declared.state.Ready.{Ready}
use Rattle.write_back.specs.declared.change.Change.{Change}
use Rattle.write_back.specs.States.{is_in_flight}
use Rattle.write_back.specs.Changes.{fate}

-- a change leaves states that fail a test
abbrev pub Leaves : Change → (State → Bool) → Type 0
Leaves change test = (number : ℕ) (state : State) → test state ≡ false → fate change number state ≡ Some state

-- it changes what is in flight alone, and after it that isn't in flight
pub record IsAnswer (change : Change) : Type 0 where
  pub leaves : Leaves change is_in_flight
  pub lands : (number : ℕ) (ready : Ready) (left : State) → fate change number (InFlight ready) ≡ Some left → is_in_flight left ≡ false

-- it changes what the server has alone, and puts nothing in flight
pub record IsOfHeld (change : Change) : Type 0 where
  pub waits : (number : ℕ) (ready : Ready) → fate change number (Waiting ready) ≡ Some (Waiting ready)
  pub flies : (number : ℕ) (ready : Ready) → fate change number (InFlight ready) ≡ Some (InFlight ready)
  pub lands : (number : ℕ) (verf : Verf) (left : State) → fate change number (Acked verf) ≡ Some left → is_in_flight left ≡ false
