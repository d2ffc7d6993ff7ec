use Rattle.std.proofs.Common.{◌≡◌, ◌+◌, ◌-◌, ◌≤◌}
use Rattle.write_back.specs.Segments.{AreApart}
use Rattle.write_back.specs.Changes.{changed, count_changed}
use Rattle.write_back.proofs.segment_map.SegmentMap.change.Given as goal

abbrev pub invariant-loop-at : goal.invariant-loop-at
invariant-loop-at l = record {
  apart : AreApart 0 l.self;
  from : l.low ≤ l.next;
  upto : l.next ≤ l.high;
  after : changed l.change l.next l.high l.self ≡ changed l.change l.low l.high l.fn.self;
  count : l.count + count_changed l.change l.next l.high l.self ≡ count_changed l.change l.low l.high l.fn.self;
  small : l.low + l.count ≤ l.next;
}

abbrev pub decreases-loop-at : goal.decreases-loop-at
decreases-loop-at l = l.high - l.next
