use Rattle.std.proofs.Common.{◌≤◌}
use Rattle.link_dials.specs.Dials.{DialsOnly}
use Rattle.session_setup.specs.Along.{Along}
use Rattle.session_setup.specs.Exchanges.{KeepsCalls}
use Rattle.session_setup.proofs.Turns.{DueAfter}
use Rattle.session_setup.proofs.exchange.exchange.Given as goal

abbrev pub invariant-loop : goal.invariant-loop
invariant-loop g l = record {
  few : l.dropped ≤ 65536;
  goes : Along (g.L.Link.told l.fn.link) (g.L.Link.told l.link) (DueAfter l.fn.calls l.calls l.counter l.dropped);
  dials : DialsOnly l.port (g.L.Link.told l.fn.link) (g.L.Link.told l.link);
  keeps : KeepsCalls l.fn.calls l.calls;
  stays : (first : g.row.L.Denot) → g.L.Link.stays first l.fn.link → g.L.Link.stays first l.link;
  honest : g.L.Link.honest l.fn.link → g.L.Link.honest l.link;
}
