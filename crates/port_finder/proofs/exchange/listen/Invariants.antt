use Rattle.std.proofs.Common.{◌≤◌, ◌-◌}
use Rattle.port_finder.specs.Does.{Does}
use Rattle.port_finder.specs.Talk.{DropsMany}
use Rattle.port_finder.proofs.exchange.listen.Given as goal

abbrev pub invariant-loop-dropped : goal.invariant-loop-dropped
invariant-loop-dropped g l = record {
  few : l.dropped ≤ 65536;
  does : Does (g.L.Link.told l.fn.link) (g.L.Link.told l.link) (g.L.Link.faults l.fn.link) (g.L.Link.faults l.link) (DropsMany l.xid l.dropped);
  stays : (first : g.row.L.Denot) → g.L.Link.stays first l.fn.link → g.L.Link.stays first l.link;
  honest : g.L.Link.honest l.fn.link → g.L.Link.honest l.link;
}

abbrev pub decreases-loop-dropped : goal.decreases-loop-dropped
decreases-loop-dropped g l = 65536 - l.dropped
