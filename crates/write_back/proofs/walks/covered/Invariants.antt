use Rattle.std.proofs.Common.{◌≡◌, ◌-◌, ◌≤◌, ◌++◌, map}
use Rattle.write_back.specs.Segments.{before, after}
use Rattle.write_back.specs.Choice.{part_of}
use Rattle.write_back.specs.Walk.{starting}
use Rattle.write_back.proofs.walks.covered.Given as goal

abbrev pub invariant-loop-at : goal.invariant-loop-at
invariant-loop-at l = record {
  within : l.next ≤ l.high;
  told : l.parts.items ++ map part_of (before l.high (after l.low (starting l.next l.high l.map))) ≡ map part_of (before l.high (after l.low l.map));
}

abbrev pub decreases-loop-at : goal.decreases-loop-at
decreases-loop-at l = l.high - l.next
