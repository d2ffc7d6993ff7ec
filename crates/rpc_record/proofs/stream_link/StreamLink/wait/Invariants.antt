use Rattle.std.proofs.Common.{◌-◌}
use Rattle.rpc_record.specs.Honest.{HonestOver}
use Rattle.rpc_record.specs.Shown.{GoesOn, shown_by, line_of}
use Rattle.rpc_record.proofs.stream_link.StreamLink.wait.Given as goal

abbrev pub invariant-loop-turns : goal.invariant-loop-turns
invariant-loop-turns g l =
    GoesOn (shown_by g.W.Wire.told l.fn.self) (shown_by g.W.Wire.told l.self)
    × (HonestOver g.W.Wire.told g.W.Wire.honest (line_of l.fn.self) → HonestOver g.W.Wire.told g.W.Wire.honest (line_of l.self))

abbrev pub decreases-loop-turns : goal.decreases-loop-turns
decreases-loop-turns g l = 147461 - l.turns
