use Rattle.link_dials.specs.Dials.{DialsOnly}
use Rattle.session_setup.specs.Along.{Along}
use Rattle.session_setup.proofs.Connecting.{Tries}
use Rattle.session_setup.proofs.connect.connect.Given as goal

abbrev pub invariant-loop : goal.invariant-loop
invariant-loop g l = record {
  goes : Along (g.L.Link.told l.fn.link) (g.L.Link.told l.link) (Tries l.counter);
  dials : DialsOnly l.port (g.L.Link.told l.fn.link) (g.L.Link.told l.link);
  stays : (first : g.row.L.Denot) → g.L.Link.stays first l.fn.link → g.L.Link.stays first l.link;
  honest : g.L.Link.honest l.fn.link → g.L.Link.honest l.link;
}
