use Rattle.std.proofs.Common.{◌≡◌, length}
use Rattle.write_back.specs.Walk.{without_between}
use Rattle.write_back.proofs.segment_map.SegmentMap.clear.Given as goal

abbrev pub invariant-loop-at : goal.invariant-loop-at
invariant-loop-at l = without_between l.low l.high l.self ≡ without_between l.low l.high l.fn.self

abbrev pub decreases-loop-at : goal.decreases-loop-at
decreases-loop-at l = length l.self
