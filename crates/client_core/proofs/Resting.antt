-- A lane whose operation rests waits at its next step.
use Rattle.std.proofs.Common.{◌≡◌, ℕ, Bool, true, false, Some, slice_get, sym, ap, subst, ◌∙◌}
use Rattle.std.specs.Bool.{OnTrue}
use Rattle.client_core.specs.declared.lane.Lane.{Lane}
use Rattle.client_core.specs.declared.lane.State.TheVariants.{Busy}
use Rattle.client_core.specs.Lanes.{LaneRests}
use Rattle.client_core.specs.Steps.{Rests}
use Rattle.client_core.specs.View.{View, turn_at}

pub rests-at : (v : View) (at : ℕ) (lane : Lane) (result : Bool) → slice_get v.lanes at ≡ Some lane → OnTrue result (LaneRests lane v.shelf) → OnTrue result (Rests v at)
rests-at v at lane false there rests = tt
rests-at v at lane true there rests = λ number machine busy.
    let same : lane ≡ record { number = number; state = Busy machine } = (let e = sym there ∙ busy in cc) in
    subst (λ (l : Lane). LaneRests l v.shelf) same rests v.wsize (turn_at v)
