use Rattle.std.proofs.Common.{◌≤◌, ◌-◌, ℕ}
use Rattle.link_dials.specs.Dials.{DialsOnly}
use Rattle.session_setup.specs.Along.{Along}
use Rattle.session_setup.specs.Exchanges.{KeepsCalls}
use Rattle.session_setup.proofs.Turns.{WaitsOn}
use Rattle.session_setup.proofs.exchange.await_reply.Given as goal

abbrev pub invariant-loop-dropped : goal.invariant-loop-dropped
invariant-loop-dropped g l = record {
  few : l.dropped ≤ 65536;
  goes : Along (g.L.Link.told l.fn.link) (g.L.Link.told l.link) (WaitsOn l.fn.calls l.calls l.fn.dropped l.dropped);
  dials : (port : ℕ) → DialsOnly port (g.L.Link.told l.fn.link) (g.L.Link.told l.link);
  keeps : KeepsCalls l.fn.calls l.calls;
  stays : (first : g.row.L.Denot) → g.L.Link.stays first l.fn.link → g.L.Link.stays first l.link;
  honest : g.L.Link.honest l.fn.link → g.L.Link.honest l.link;
}

abbrev pub decreases-loop-dropped : goal.decreases-loop-dropped
decreases-loop-dropped g l = 65536 - l.dropped
