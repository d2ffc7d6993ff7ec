use Rattle.std.proofs.Common.{◌≡◌, None, drop}
use Rattle.client_core.specs.Lanes.{least_answered}
use Rattle.client_core.proofs.lane.least_answered.Given as goal

abbrev pub invariant-loop-lane : goal.invariant-loop-lane
invariant-loop-lane l = least_answered l.least (drop l.lane-index l.lanes) ≡ least_answered None l.lanes
