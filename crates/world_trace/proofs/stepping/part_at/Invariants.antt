-- None of those so far is at the place.
use Rattle.std.proofs.Common.{◌≡◌, drop}
use Rattle.world_link.specs.Replay.{part_at}
use Rattle.world_trace.proofs.stepping.part_at.Given as goal

abbrev pub invariant-loop-broken : goal.invariant-loop-broken
invariant-loop-broken l = part_at l.partials l.place ≡ part_at (drop l.broken-index l.partials) l.place
