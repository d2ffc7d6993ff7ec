use Rattle.std.proofs.Common.{refl}
use Rattle.script_runs.proofs.LaneRuns.{lost_says, refused_says, unready_says, lane_ending}
use Rattle.script_runs.proofs.lanes.end_early.Goals as goal

pub returns-in-Lost-clause-shown : goal.returns-in-Lost-clause-shown
returns-in-Lost-clause-shown g c = rw c.in-Lost.is (lost_says _ _ _ _ _ _ _ _ _ _ c.session-status.ensures.shown c.session-status.ensures.core c.session-status.ensures.loses)

pub returns-in-Lost-clause-ending : goal.returns-in-Lost-clause-ending
returns-in-Lost-clause-ending g c = lane_ending _ c.session-status.ensures.ending

pub returns-in-Refused-clause-shown : goal.returns-in-Refused-clause-shown
returns-in-Refused-clause-shown g c = rw c.in-Refused.is (refused_says _ _ _ _ _ _ _ _ c.refuse_mount.ensures.said)

pub returns-in-Memory-clause-shown : goal.returns-in-Memory-clause-shown
returns-in-Memory-clause-shown g c = rw c.in-Memory.is (unready_says _ _ _ _ _ _ refl)
