use Rattle.world_model.specs.Told.{Relates}
use Rattle.lane_session.proofs.Redialing.{Dials}
use Rattle.link_dials.specs.Dials.{DialsOnly}
use Rattle.lane_session.proofs.running.redial.Given as goal

abbrev pub invariant-loop : goal.invariant-loop
invariant-loop g l = record {
  goes : Relates (g.L.Link.told l.fn.link) (g.L.Link.told l.link) (λ h k. Dials h l.counter k);
  dials : DialsOnly l.port (g.L.Link.told l.fn.link) (g.L.Link.told l.link);
  stays : (first : g.row.L.Denot) → g.L.Link.stays first l.fn.link → g.L.Link.stays first l.link;
  honest : g.L.Link.honest l.fn.link → g.L.Link.honest l.link;
}
