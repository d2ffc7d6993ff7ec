use Rattle.std.proofs.Common.{◌<◌, ◌≡◌, length, arith}
use Rattle.std.proofs.lemmas.List.{get_or_default}
use Rattle.std.proofs.lemmas.List.Edits.{map_over_more}
use Rattle.client_core.specs.Lanes.{lost_lane}
use Rattle.client_core.proofs.lane.lose_all.Goals as goal

pub loop-lane-preserved : goal.loop-lane-preserved
loop-lane-preserved c =
    let same : length c.loop-lane.lanes ≡ length c.args.lanes.now = omega arith in
    let lt : c.loop-lane.lane-index < length c.args.lanes.now = omega arith in
    rw c.lose.ensures (map_over_more lost_lane c.args.lanes.now c.loop-lane.lanes c.loop-lane.lane-index _ lt c.loop-lane.invariant (get_or_default c.loop-lane.lanes c.loop-lane.lane-index _ _ (omega arith)))
