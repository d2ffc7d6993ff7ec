use Rattle.std.proofs.Common.{◌<◌, ◌≡◌, ◌++◌, take, drop, map}
use Rattle.client_core.specs.Lanes.{lost_lane}
use Rattle.client_core.proofs.lane.lose_all.Given as goal

abbrev pub invariant-loop-lane : goal.invariant-loop-lane
invariant-loop-lane l = l.lanes ≡ map lost_lane (take l.lane-index l.fn.lanes) ++ drop l.lane-index l.fn.lanes
