use Rattle.std.proofs.Common.{◌≤◌, ◌-◌}
use Rattle.port_finder.specs.Does.{Does}
use Rattle.port_finder.specs.Talk.{Retried}
use Rattle.port_finder.proofs.exchange.exchange.Given as goal

abbrev pub invariant-loop-failed : goal.invariant-loop-failed
invariant-loop-failed g l = record {
  few : l.failed ≤ 3;
  does : Does (g.L.Link.told l.fn.link) (g.L.Link.told l.link) (g.L.Link.faults l.fn.link) (g.L.Link.faults l.link) (Retried l.port l.xid l.call l.failed);
  stays : (first : g.row.L.Denot) → g.L.Link.stays first l.fn.link → g.L.Link.stays first l.link;
  honest : g.L.Link.honest l.fn.link → g.L.Link.honest l.link;
}

abbrev pub decreases-loop-failed : goal.decreases-loop-failed
decreases-loop-failed g l = 3 - l.failed
