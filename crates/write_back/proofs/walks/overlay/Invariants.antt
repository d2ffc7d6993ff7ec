use Rattle.std.proofs.Common.{◌≡◌, ◌-◌, ◌≤◌}
use Rattle.write_back.specs.Segments.{shown}
use Rattle.write_back.specs.Walk.{starting}
use Rattle.write_back.proofs.walks.overlay.Given as goal

abbrev pub invariant-loop-at : goal.invariant-loop-at
invariant-loop-at l = record {
  within : l.next ≤ l.end;
  newest : shown (starting l.next l.end l.map) l.offset l.buf ≡ shown l.map l.offset l.fn.buf;
}

abbrev pub decreases-loop-at : goal.decreases-loop-at
decreases-loop-at l = l.end - l.next
